-- `survey::survey_element` meets its contract.
use Rattle.std.proofs.Common.{◌≡◌, refl, ◌∙◌, ap, length, rules}
use Rattle.receipt.specs.declared.settings.Settings.{Settings}
use Rattle.exports.specs.Output.{moved}
use Rattle.exports.specs.Running.{as_named}
use Rattle.exports.proofs.Surveying.{and_then, and_else, is_good, head_inside, element_asked}
use Rattle.exports.proofs.survey.survey_element.Goals as goal
use Rattle.exports.proofs.survey.survey_element.Goals.{then-certificates_good, else-certificates_good, then-s, else-s, then-s-2, else-s-2}

pub measure_receipts-m-requires-clause-place : goal.measure_receipts-m-requires-clause-place
measure_receipts-m-requires-clause-place c = head_inside _ _ _ c.moved-p.ensures

pub returns-then-s-3 : goal.returns-then-s-3
returns-then-s-3 c =
    let long : length (as_named c.first_named-named.result).settings.serial.bytes ≡ 32 = rw (← c.settings_or_empty.ensures) (search rules) in
    element_asked _ _ c.certificates_good.ensures c.some_string-some.ensures c.first_named-named.ensures long c.moved.ensures
    (c.moved-p.ensures ∙ ap (λ (s : Settings). moved c.args.room c.moved.result s.serial.len) c.settings_or_empty.ensures)
    c.measure_receipts-m.ensures
    (elim c.if-certificates_good.branch [ then-certificates_good w ↦ and_then w.if-certificates_good.true w.good-is | else-certificates_good w ↦ and_else _ w.if-certificates_good.false w.good-is ])
    (elim c.if-s.branch [ then-s w ↦ and_then w.if-s.true w.result-is | else-s w ↦ and_else _ w.if-s.false w.result-is ])
    (elim c.if-s-2.branch [ then-s-2 w ↦ and_then w.if-s-2.true w.result-is | else-s-2 w ↦ and_else _ w.if-s-2.false w.result-is ])
    (and_then c.if-s-3.true (c.is_some.ensures ∙ is_good _))

pub returns-else-s-3 : goal.returns-else-s-3
returns-else-s-3 c =
    let long : length (as_named c.first_named-named.result).settings.serial.bytes ≡ 32 = rw (← c.settings_or_empty.ensures) (search rules) in
    element_asked _ _ c.certificates_good.ensures c.some_string-some.ensures c.first_named-named.ensures long c.moved.ensures
    (c.moved-p.ensures ∙ ap (λ (s : Settings). moved c.args.room c.moved.result s.serial.len) c.settings_or_empty.ensures)
    c.measure_receipts-m.ensures
    (elim c.if-certificates_good.branch [ then-certificates_good w ↦ and_then w.if-certificates_good.true w.good-is | else-certificates_good w ↦ and_else _ w.if-certificates_good.false w.good-is ])
    (elim c.if-s.branch [ then-s w ↦ and_then w.if-s.true w.result-is | else-s w ↦ and_else _ w.if-s.false w.result-is ])
    (elim c.if-s-2.branch [ then-s-2 w ↦ and_then w.if-s-2.true w.result-is | else-s-2 w ↦ and_else _ w.if-s-2.false w.result-is ])
    (and_else _ c.if-s-3.false refl)
