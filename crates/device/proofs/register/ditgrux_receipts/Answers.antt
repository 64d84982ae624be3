-- `register::ditgrux_receipts` meets its contract.
use Rattle.std.proofs.Common.{ap}
use Rattle.journal.specs.declared.state.State.{State}
use Rattle.device.proofs.register.ditgrux_receipts.Goals as goal

pub returns : goal.returns
returns c = ap (λ (x : State). x.issued) c.state_of.ensures
