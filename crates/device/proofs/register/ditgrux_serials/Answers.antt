-- `register::ditgrux_serials` meets its contract.
use Rattle.std.proofs.Common.{ap, ◌∙◌, arith, length}
use Rattle.journal.specs.State.{used}
use Rattle.journal.specs.declared.state.State.{State}
use Rattle.journal.proofs.Serials.{used_length}
use Rattle.device.proofs.Slots.{state_long}
use Rattle.device.proofs.register.ditgrux_serials.Goals as goal

pub overflow_cast-result : goal.overflow_cast-result
overflow_cast-result c =
    record {
      fits = omega (arith, c.used_count.ensures, used_length c.state_of.result.serials, (state_long c.state_of.result _ c.state_of.type_inv).eight);
    }

pub returns : goal.returns
returns c = c.used_count.ensures ∙ ap (λ (x : State). length (used x.serials)) c.state_of.ensures
