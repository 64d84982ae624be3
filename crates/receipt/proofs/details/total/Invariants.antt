-- `details::total` meets its contract.
use Rattle.receipt.proofs.Counting.{Summing}
use Rattle.receipt.proofs.details.total.Given as goal

abbrev pub invariant-loop-z : goal.invariant-loop-z
invariant-loop-z l = Summing l.z-items l.sum l.z-index
