-- `all_known` meets its contract. The loop's invariant: the parts so far are known, so what is left decides.
use Rattle.std.proofs.Common.{◌≡◌}
use Rattle.primitives.specs.BaseRule.{letters_known}
use Rattle.primitives.proofs.coding.Coding.all_known.Given as goal

abbrev pub invariant-loop-part : goal.invariant-loop-part
invariant-loop-part g l =
    let b = g.D.Digits.base l.self.digits in
    letters_known b l.s ≡ letters_known b l.part-iterator.rest.now
