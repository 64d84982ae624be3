-- `reading::read_export` meets its contract.
use Rattle.std.proofs.lemmas.Bool.{not-true, not-false}
use Rattle.std.proofs.Common.{◌<◌, ap, not, refl, length, arith}
use Rattle.std.proofs.lemmas.Result.{err_from_is_err_and}
use Rattle.primitives.proofs.Refusals.{numbers_are_not_zero}
use Rattle.exports.proofs.Restoring.{refusal_is, refused_with, read_none, read_survey, read_refused, read_all}
use Rattle.exports.proofs.reading.read_export.Goals as goal

pub returns-then-not-has_shape : goal.returns-then-not-has_shape
returns-then-not-has_shape c = read_none _ _ _ _ c.has_shape.ensures (refused_with c.refused.ensures) (not-true _ (ap not c.if-not-has_shape.true))

pub returns-in-Err : goal.returns-in-Err
returns-in-Err c =
    read_survey _ _ _ _ c.has_shape.ensures (not-false _ (ap not c.if-not-has_shape.false)) c.owner_settings-owner.ensures c.in-Err.ensures (refused_with c.refused-in-Err.ensures)
    (numbers_are_not_zero _)

pub returns-in_err-state : goal.returns-in_err-state
returns-in_err-state c =
    let small : length c.args.out.now < 18446744073709551616 = omega (arith, c.well_formed) in
    let p = err_from_is_err_and c.from_residual.result c.from_residual.ensures.1 in
    rw (p.1, p.2)
    (read_refused _ _ _ _ c.has_shape.ensures (not-false _ (ap not c.if-not-has_shape.false)) c.owner_settings-owner.ensures c.in-Ok.ensures refl small c.in_err-state.ensures (refusal_is _) (numbers_are_not_zero _))

pub returns : goal.returns
returns c =
    let small : length c.args.out.now < 18446744073709551616 = omega (arith, c.well_formed) in
    read_all _ _ _ _ c.has_shape.ensures (not-false _ (ap not c.if-not-has_shape.false)) c.owner_settings-owner.ensures c.in-Ok.ensures refl small c.in_ok-state.ensures refl refl c.put_journal.ensures
