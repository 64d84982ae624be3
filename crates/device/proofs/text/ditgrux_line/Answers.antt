use Rattle.device.proofs.TextAnswers.{parts_of}
use Rattle.device.proofs.text.ditgrux_line.Goals as goal

pub returns : goal.returns
returns c = parts_of (c.line.ensures) c.tell.ensures
