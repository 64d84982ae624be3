-- `decimal::put_fixed` meets its contract.
use Rattle.receipt.proofs.Digits.{Putting}
use Rattle.receipt.proofs.decimal.put_fixed.Given as goal

abbrev pub invariant-loop-i : goal.invariant-loop-i
invariant-loop-i l = Putting l.initial.out l.at l.w l.n l.out l.left l.i
