-- The steps, and what they answer.
use Rattle.std.proofs.Common.{sym}
use Rattle.journal.proofs.PartCalls.{part_is, when_ready}
use Rattle.journal.proofs.parts.check_steps.Goals as goal

pub returns : goal.returns
returns c = when_ready c.args.st c.args.j.now c.args.count (sym c.if-not-ready.ensures) c.steps_from.ensures (part_is c.args.st _ _ c.answer_after.ensures)
