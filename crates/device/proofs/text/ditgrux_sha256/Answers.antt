-- `text::ditgrux_sha256` meets its contract.
use Rattle.device.proofs.TextAnswers.{hash_short, hash_done}
use Rattle.device.proofs.text.ditgrux_sha256.Goals as goal

pub returns-then-output-lt32 : goal.returns-then-output-lt32
returns-then-output-lt32 c = rw c.number.ensures (hash_short c.args.«data».now c.args.output.now c.if-output-lt32.true)

pub returns : goal.returns
returns c = hash_done c.args.«data».now c.args.output.now c.if-output-lt32.false c.sha256.ensures c.put.ensures.1
