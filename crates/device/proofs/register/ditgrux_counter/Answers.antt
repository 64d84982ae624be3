-- `register::ditgrux_counter` meets its contract.
use Rattle.std.proofs.lemmas.Int.{to_z-of_z}
use Rattle.std.proofs.Common.{ap, ◌∙◌, w64, SFits, rules}
use Rattle.journal.specs.declared.state.State.{State}
use Rattle.device.proofs.register.ditgrux_counter.Goals as goal

pub returns : goal.returns
returns c =
    let f : SFits w64 c.state_of.result.counter = search rules in
    to_z-of_z w64 c.state_of.result.counter f ∙ ap (λ (x : State). x.counter) c.state_of.ensures
