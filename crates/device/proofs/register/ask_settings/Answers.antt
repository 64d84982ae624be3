use Rattle.std.proofs.Common.{refl}
use Rattle.std.proofs.lemmas.Result.{err_from_is_err_and}
use Rattle.primitives.proofs.Refusals.{numbers_are_not_zero}
use Rattle.device.proofs.CallAnswers.{answer_stops, answer_no_room, answer_yes}
use Rattle.device.proofs.register.ask_settings.Goals as goal

pub returns-in_err-ask_settings : goal.returns-in_err-ask_settings
returns-in_err-ask_settings c =
    let p = err_from_is_err_and c.from_residual.result c.from_residual.ensures.1 in
    rw (p.1, p.2) (answer_stops c.args.s c.args.n c.args.room c.in_err-ask_settings.ensures (numbers_are_not_zero _))

pub returns-then-room-ne-SETTINGS : goal.returns-then-room-ne-SETTINGS
returns-then-room-ne-SETTINGS c = answer_no_room c.args.s c.args.n c.args.room c.in_ok-ask_settings.ensures refl c.if-room-ne-SETTINGS.true

pub returns : goal.returns
returns c = answer_yes c.args.s c.args.n c.args.room c.in_ok-ask_settings.ensures refl c.if-room-ne-SETTINGS.false
