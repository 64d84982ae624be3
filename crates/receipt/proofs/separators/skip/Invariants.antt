-- `separators::skip` meets its contract.
use Rattle.std.proofs.Common.{◌≡◌}
use Rattle.receipt.specs.Separated.{skip}
use Rattle.receipt.proofs.separators.skip.Given as goal

abbrev pub invariant-loop : goal.invariant-loop
invariant-loop l = l.rest ≡ skip l.counter l.text
