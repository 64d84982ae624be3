-- `register::open_with` meets its contract.
use Rattle.std.proofs.Common.{ap, ◌∙◌}
use Rattle.journal.specs.State.{as_issued}
use Rattle.journal.specs.declared.state.State.{State}
use Rattle.device.specs.Layout.{kept}
use Rattle.device.specs.Calls.{slices_with}
use Rattle.device.proofs.Told.{opened_number, opened_state}
use Rattle.device.proofs.CallAnswers.{open_none, open_some}
use Rattle.device.proofs.register.open_with.Goals as goal

pub returns-then-state-ne-STATE : goal.returns-then-state-ne-STATE
returns-then-state-ne-STATE c =
    rw c.number.ensures
    (open_none c.args.settings.now c.args.shared (slices_with c.args.state.now c.args.journal.now) c.if-state-ne-STATE.true)

pub returns : goal.returns
returns c =
    let g = slices_with c.args.state.now c.args.journal.now in
    let r = c.open-opened.result in
    let number = ap (λ (x : State). (as_issued x r).number) c.unopened.ensures ∙ opened_number r in
    let state = ap (λ (x : State). (as_issued x r).state) c.unopened.ensures ∙ opened_state r in
    let p =
    open_some c.args.settings.now c.args.shared g c.if-state-ne-STATE.false c.settings_of.ensures c.width_of.ensures c.key_of.ensures c.open-opened.ensures
    (c.keep_after.ensures.1 ∙ ap (kept c.args.state.now) state) in
    (c.keep_after.ensures.0 ∙ number ∙ p.0, p.1, p.2)
