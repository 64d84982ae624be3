-- `register::ditgrux_journal_length` meets its contract.
use Rattle.std.proofs.Common.{ap}
use Rattle.journal.specs.declared.state.State.{State}
use Rattle.device.proofs.register.ditgrux_journal_length.Goals as goal

pub returns : goal.returns
returns c = ap (λ (x : State). x.length) c.state_of.ensures
