use Rattle.device.proofs.TextAnswers.{parts_of}
use Rattle.device.proofs.text.ditgrux_uncode.Goals as goal

pub returns : goal.returns
returns c = parts_of (c.uncode.ensures) c.tell.ensures
