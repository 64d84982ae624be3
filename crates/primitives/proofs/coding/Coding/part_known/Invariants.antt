-- `part_known` meets its contract. The loop's invariant: the numbers joined are below the radix where all letters so far are known.
use Rattle.std.proofs.Common.{◌≡◌, nat_lt, take}
use Rattle.primitives.specs.BaseRule.{letters_known}
use Rattle.primitives.proofs.coding.Coding.part_known.Given as goal

abbrev pub invariant-loop-c : goal.invariant-loop-c
invariant-loop-c g l = nat_lt l.joined g.D.Digits.RADIX ≡ letters_known (g.D.Digits.base l.self.digits) (take l.c-index l.s)
