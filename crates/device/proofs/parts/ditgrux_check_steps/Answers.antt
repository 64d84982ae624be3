-- `parts::ditgrux_check_steps` meets its contract.
use Rattle.std.proofs.Common.{◌∙◌}
use Rattle.device.proofs.PartCalls.{steps_is}
use Rattle.device.proofs.Told.{from_part}
use Rattle.device.proofs.parts.ditgrux_check_steps.Goals as goal

pub returns : goal.returns
returns c =
    let t = from_part c.args.state.now c.state_of-st.result c.check_steps-checked.result c.tell_index.ensures c.keep_after.ensures in
    let p = steps_is c.args.state.now c.args.journal.now c.args.steps c.state_of-st.ensures c.check_steps-checked.ensures t.1 in
    (t.0 ∙ p.0, p.1, t.2 ∙ p.2)
