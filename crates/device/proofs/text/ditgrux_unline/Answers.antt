use Rattle.device.proofs.TextAnswers.{parts_of}
use Rattle.device.proofs.text.ditgrux_unline.Goals as goal

pub returns : goal.returns
returns c = parts_of (c.unline.ensures) c.tell.ensures
