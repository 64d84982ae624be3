-- `put_digits` meets its contract. The loop's invariant: `i` digits are left to write, from the end (`Putting`).
use Rattle.primitives.proofs.Filling.{Putting}
use Rattle.primitives.proofs.Spelled.{spelled}
use Rattle.primitives.proofs.digits.put_digits.Given as goal

abbrev pub invariant-loop-i : goal.invariant-loop-i
invariant-loop-i g l = Putting (spelled ((g.D.Digits.base l.digits).letter) g.D.Digits.RADIX) l.initial.out l.at l.n l.x l.out l.v l.i
