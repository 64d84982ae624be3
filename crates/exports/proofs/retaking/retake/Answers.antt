-- `retaking::retake` meets its contract.
use Rattle.std.proofs.Common.{refl}
use Rattle.std.proofs.lemmas.Result.{err_from_is_err_and}
use Rattle.primitives.proofs.Refusals.{numbers_are_not_zero}
use Rattle.exports.proofs.RunsAlong.{journal_refused, journal_run}
use Rattle.exports.proofs.retaking.retake.Goals as goal

pub returns-in_err-first : goal.returns-in_err-first
returns-in_err-first c es s o =
    let p = err_from_is_err_and c.from_residual.result c.from_residual.ensures.1 in
    rw (p.1, p.2) (journal_refused _ _ es o c.in_err-first.ensures (numbers_are_not_zero _))

pub returns : goal.returns
returns c es s o =
    journal_run _ _ es o c.in_ok-first.ensures refl c.counter_key-schedule.ensures (c.run_pairs.ensures es s) c.answer_after.ensures
