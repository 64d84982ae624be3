-- `number_of` meets its contract. The loop's invariant: `v` is the number that the letters so far spell.
use Rattle.primitives.proofs.Spelled.{Counted}
use Rattle.primitives.proofs.digits.number_of.Given as goal

abbrev pub invariant-loop-c : goal.invariant-loop-c
invariant-loop-c g l = Counted ((g.D.Digits.base l.digits).digit) g.D.Digits.RADIX l.s l.v l.c-index
