-- `preparing::prepare` meets its contract.
use Rattle.std.proofs.Common.{refl}
use Rattle.std.proofs.lemmas.Result.{err_from_is_err_and}
use Rattle.primitives.proofs.Refusals.{numbers_are_not_zero}
use Rattle.journal.proofs.IssueCalls.{prepare_refused, prepare_full, prepare_done}
use Rattle.journal.proofs.preparing.prepare.Goals as goal

pub returns-in_err-ask_prepare : goal.returns-in_err-ask_prepare
returns-in_err-ask_prepare c =
    let p = err_from_is_err_and c.from_residual.result c.from_residual.ensures.1 in
    rw (p.1, p.2) (prepare_refused c.args.st c.args.d c.args.out.now c.in_err-ask_prepare.ensures (numbers_are_not_zero _))

pub returns-then-length-eq0 : goal.returns-then-length-eq0
returns-then-length-eq0 c =
    prepare_full c.args.st c.args.d c.args.out.now c.in_ok-ask_prepare.ensures refl c.settings_now-settings.ensures c.fields_of-fields.ensures c.put_signing_input-length.ensures c.if-length-eq0.true

pub returns : goal.returns
returns c =
    prepare_done c.args.st c.args.d c.args.out.now c.in_ok-ask_prepare.ensures refl c.settings_now-settings.ensures c.fields_of-fields.ensures c.put_signing_input-length.ensures c.if-length-eq0.false
