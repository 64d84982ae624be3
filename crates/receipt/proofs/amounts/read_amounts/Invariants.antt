-- `amounts::read_amounts` meets its contract.
use Rattle.receipt.proofs.Joined.{Taking}
use Rattle.receipt.proofs.amounts.read_amounts.Given as goal

abbrev pub invariant-loop-amount : goal.invariant-loop-amount
invariant-loop-amount l = Taking l.text l.amount-items l.rest l.amount-index
