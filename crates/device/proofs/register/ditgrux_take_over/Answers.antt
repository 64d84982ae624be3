-- `register::ditgrux_take_over` meets its contract.
use Rattle.std.proofs.Common.{◌∙◌}
use Rattle.device.proofs.CallAnswers.{take_none, take_some}
use Rattle.device.proofs.Told.{from_unopened}
use Rattle.device.proofs.register.ditgrux_take_over.Goals as goal

pub returns-then-state-ne-STATE : goal.returns-then-state-ne-STATE
returns-then-state-ne-STATE c =
    rw c.number.ensures
    (take_none c.args.journal.now c.args.key.now c.args.width c.args.state.now c.if-state-ne-STATE.true)

pub returns : goal.returns
returns c =
    let t = from_unopened c.args.state.now c.take_over-taken.result c.unopened.ensures c.tell_index.ensures c.keep_after.ensures in
    let p =
    take_some c.args.journal.now c.args.key.now c.args.width c.args.state.now c.if-state-ne-STATE.false c.array_of.ensures c.width_with.ensures c.take_over-taken.ensures
    t.1 in
    (t.0 ∙ p.0, p.1, t.2 ∙ p.2)
