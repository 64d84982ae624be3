use Rattle.device.proofs.TextAnswers.{parts_of}
use Rattle.device.proofs.text.ditgrux_code.Goals as goal

pub returns : goal.returns
returns c = parts_of (c.code.ensures) c.tell.ensures
