-- `parts::ditgrux_check_head` meets its contract.
use Rattle.std.proofs.Common.{◌∙◌}
use Rattle.device.proofs.PartCalls.{head_none, head_some}
use Rattle.device.proofs.Told.{from_unopened}
use Rattle.device.proofs.parts.ditgrux_check_head.Goals as goal

pub returns-then-state-ne-STATE : goal.returns-then-state-ne-STATE
returns-then-state-ne-STATE c =
    rw c.number.ensures
    (head_none c.args.journal.now c.args.key.now c.args.width c.args.state.now c.if-state-ne-STATE.true)

pub returns : goal.returns
returns c =
    let t = from_unopened c.args.state.now c.check_head-checked.result c.unopened.ensures c.tell_index.ensures c.keep_after.ensures in
    let p =
    head_some c.args.journal.now c.args.key.now c.args.width c.args.state.now c.if-state-ne-STATE.false c.array_of.ensures c.width_with.ensures c.check_head-checked.ensures
    t.1 in
    (t.0 ∙ p.0, p.1)
