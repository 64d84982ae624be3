-- `certificates::canonical_at` meets its contract.
use Rattle.std.proofs.Common.{◌-◌, length}
use Rattle.exports.proofs.Quads.{Quads}
use Rattle.exports.proofs.certificates.canonical_at.Given as goal

abbrev pub invariant-loop-q : goal.invariant-loop-q
invariant-loop-q l = Quads l.text l.start l.at l.q

abbrev pub decreases-loop-q : goal.decreases-loop-q
decreases-loop-q l = length l.text - l.at
