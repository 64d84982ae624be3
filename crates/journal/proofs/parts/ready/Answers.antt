-- The journal's count, after the state.
use Rattle.std.proofs.Common.{sym}
use Rattle.journal.proofs.PartCalls.{count_asked}
use Rattle.journal.proofs.parts.ready.Goals as goal

pub returns-then-sound : goal.returns-then-sound
returns-then-sound c = count_asked c.args.st c.args.j.now (sym c.if-sound.ensures) c.count_at.ensures.0
