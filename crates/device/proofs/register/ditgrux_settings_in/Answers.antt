-- `register::ditgrux_settings_in` meets its contract.
use Rattle.std.proofs.Common.{◌≡◌, length, rules}
use Rattle.device.specs.Layout.{state_of}
use Rattle.device.proofs.Slots.{state_long}
use Rattle.device.proofs.CallAnswers.{settings_in_none, settings_in_done}
use Rattle.device.proofs.register.ditgrux_settings_in.Goals as goal

pub returns-then-settings-ne-SETTINGS : goal.returns-then-settings-ne-SETTINGS
returns-then-settings-ne-SETTINGS c = rw c.number.ensures (settings_in_none (state_of c.args.state.now) c.args.which c.args.settings.now c.if-settings-ne-SETTINGS.true)

pub returns : goal.returns
returns c =
    let l : length c.serial_in-serial.result.bytes ≡ 32 = search rules in
    settings_in_done (state_of c.args.state.now) c.args.which c.args.settings.now c.if-settings-ne-SETTINGS.false
    c.state_of-st.ensures c.serial_in-serial.ensures (state_long c.state_of-st.result _ c.state_of-st.type_inv) l c.put_settings.ensures
