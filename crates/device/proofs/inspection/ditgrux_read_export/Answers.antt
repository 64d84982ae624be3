use Rattle.std.proofs.Common.{ap, ◌∙◌}
use Rattle.device.specs.Layout.{kept}
use Rattle.device.proofs.ExportCalls.{read_none, read_some}
use Rattle.device.proofs.inspection.ditgrux_read_export.Goals as goal

pub returns-then-state-ne-STATE : goal.returns-then-state-ne-STATE
returns-then-state-ne-STATE c =
    rw c.number.ensures
    (read_none c.args.text.now c.args.key.now c.args.width c.args.output.now c.args.state.now c.if-state-ne-STATE.true)

pub returns-in-Ok : goal.returns-in-Ok
returns-in-Ok c =
    let a = c.args in
    read_some a.text.now a.key.now a.width a.output.now a.state.now c.if-state-ne-STATE.false c.array_of.ensures c.width_with.ensures c.in-Ok.ensures
    c.keep.ensures

pub returns-in-Err : goal.returns-in-Err
returns-in-Err c =
    let a = c.args in
    rw c.number-in-Err.ensures
    (read_some a.text.now a.key.now a.width a.output.now a.state.now c.if-state-ne-STATE.false c.array_of.ensures c.width_with.ensures c.in-Err.ensures
    (c.keep-in-Err.ensures ∙ ap (kept a.state.now) c.unopened.ensures))
