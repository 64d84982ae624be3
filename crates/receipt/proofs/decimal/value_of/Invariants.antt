-- `decimal::value_of` meets its contract.
use Rattle.receipt.proofs.Digits.{Reading}
use Rattle.receipt.proofs.decimal.value_of.Given as goal

abbrev pub invariant-loop-b : goal.invariant-loop-b
invariant-loop-b l = Reading l.text l.v l.b-index
