-- `all_known` meets its contract: what is left decides, up to the first part that has a foreign letter.
use Rattle.std.proofs.Common.{◌∙◌, ap, not, sym}
use Rattle.primitives.specs.BaseRule.{letters_known}
use Rattle.primitives.proofs.Questions.{yes, no}
use Rattle.primitives.proofs.CodeSteps.{known_after, known_not, known_nothing}
use Rattle.primitives.proofs.coding.Coding.all_known.Goals as goal

pub returns-then-not-part_known : goal.returns-then-not-part_known
returns-then-not-part_known g c =
    let b = g.D.Digits.base c.args.self.now.digits in
    sym (c.loop-part.invariant ∙ ap (letters_known b) c.in-Some.ensures.steps.1.0 ∙ known_not b _ _ (no c.part_known.ensures (ap not c.if-not-part_known.true)))

pub loop-part-preserved : goal.loop-part-preserved
loop-part-preserved g c =
    let b = g.D.Digits.base c.args.self.now.digits in
    c.loop-part.invariant ∙ ap (letters_known b) c.in-Some.ensures.steps.1.0 ∙ known_after b _ _ (yes c.part_known.ensures (ap not c.if-not-part_known.false))

pub returns : goal.returns
returns g c =
    let b = g.D.Digits.base c.args.self.now.digits in
    sym (c.loop-part.invariant ∙ known_nothing b _ c.in-None.ensures.steps.1.0)
