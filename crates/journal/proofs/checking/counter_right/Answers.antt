-- Nothing is decrypted of a cancellation or a training receipt.
use Rattle.journal.proofs.CheckCalls.{counter_other, other_kind}
use Rattle.journal.proofs.checking.counter_right.Goals as goal

pub returns-in-Cancellation : goal.returns-in-Cancellation
returns-in-Cancellation c = counter_other _ c.args.st c.args.f c.in-Some.ensures (other_kind _ c.in-Cancellation.is)
