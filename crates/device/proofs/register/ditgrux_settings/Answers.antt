use Rattle.std.proofs.Common.{refl}
use Rattle.primitives.proofs.Refusals.{numbers_are_not_zero}
use Rattle.device.proofs.Sizes.{from_typed}
use Rattle.device.proofs.CallAnswers.{settings_refused, settings_room, settings_done}
use Rattle.device.proofs.register.ditgrux_settings.Goals as goal

pub returns-in-Err : goal.returns-in-Err
returns-in-Err c =
    rw c.number.ensures
    (settings_refused _ c.args.key.now c.args.width c.args.settings.now c.settings_from-s.ensures c.width_with-n.ensures c.in-Err.ensures (numbers_are_not_zero _))

pub put_settings-requires : goal.put_settings-requires
put_settings-requires c =
    settings_room _ c.args.key.now c.args.width c.args.settings.now c.settings_from-s.ensures c.width_with-n.ensures c.in_default.ensures refl

pub returns : goal.returns
returns c =
    settings_done _ c.args.key.now c.args.width c.args.settings.now c.settings_from-s.ensures c.width_with-n.ensures c.in_default.ensures refl
    (from_typed c.args.csp.now c.args.id.now c.args.serial.now) c.array_of.ensures c.put_settings.ensures
