-- `issue_each`: what the call gives from here is what it gives from the start.
use Rattle.std.proofs.Common.{◌*◌}
use Rattle.device.proofs.Lists.{Listing}
use Rattle.device.proofs.listing.issue_each.Given as goal

abbrev pub invariant-loop-count : goal.invariant-loop-count
invariant-loop-count l = Listing l.fn.list l.initial.buf l.initial.state l.buf l.state (72 * l.count) l.count
