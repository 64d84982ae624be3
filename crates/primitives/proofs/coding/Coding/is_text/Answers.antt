-- `is_text` meets its contract: the questions are those of the definition.
use Rattle.std.proofs.Common.{◌∙◌, ap, sym, eqb-true}
use Rattle.primitives.specs.BaseRule.{fill_for}
use Rattle.primitives.proofs.CodeSteps.{text_filled, text_not_ended, text_not_filled}
use Rattle.primitives.proofs.coding.Coding.is_text.Goals as goal
use Rattle.primitives.proofs.coding.Coding.is_text.Goals.{then-s-n, else-s-n}

pub returns-then-well_ended : goal.returns-then-well_ended
returns-then-well_ended g c =
    elim c.if-s-n.branch [
      | then-s-n w ↦ text_filled _ c.args.s.now c.requires.0 c.requires.1 (c.fill_for.ensures ∙ ap (λ k. fill_for k c.args.n) c.args.self.now.grouped) w.if-s-n.true (sym w.well_ended.ensures ∙ sym w.value-is ∙ c.if-well_ended.true) c.all_known.ensures
      | else-s-n w ↦ absurd (w.if-s-n.false (eqb-true _ _ (sym w.value-is ∙ c.if-well_ended.true)))
    ]

pub returns-else-well_ended : goal.returns-else-well_ended
returns-else-well_ended g c =
    elim c.if-s-n.branch [
      | then-s-n w ↦ c.if-well_ended.false ∙ text_not_ended _ c.args.s.now c.requires.0 c.requires.1 (c.fill_for.ensures ∙ ap (λ k. fill_for k c.args.n) c.args.self.now.grouped) (sym w.well_ended.ensures ∙ sym w.value-is ∙ c.if-well_ended.false)
      | else-s-n w ↦ c.if-well_ended.false ∙ text_not_filled _ c.args.s.now c.requires.0 c.requires.1 (c.fill_for.ensures ∙ ap (λ k. fill_for k c.args.n) c.args.self.now.grouped) w.if-s-n.false
    ]
