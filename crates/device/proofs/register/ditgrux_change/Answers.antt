use Rattle.std.proofs.Common.{ap, ◌∙◌}
use Rattle.device.specs.Layout.{kept}
use Rattle.device.specs.Calls.{slices_with}
use Rattle.device.proofs.Told.{changed_number, changed_state}
use Rattle.device.proofs.CallAnswers.{change_is}
use Rattle.device.proofs.register.ditgrux_change.Goals as goal

pub returns : goal.returns
returns c =
    let g = slices_with c.args.state.now c.args.journal.now in
    let st = c.state_of-st.result in
    let r = c.change-changed.result in
    let p =
    change_is g c.args.serial.now c.state_of-st.ensures c.name_of.ensures c.change-changed.ensures
    (c.keep_after.ensures.1 ∙ ap (kept c.args.state.now) (changed_state st r)) in
    (c.keep_after.ensures.0 ∙ changed_number st r ∙ p.0, p.1, p.2)
