-- `text::ditgrux_fields` meets its contract.
use Rattle.device.proofs.TextAnswers.{field_none, field_some}
use Rattle.device.proofs.text.ditgrux_fields.Goals as goal

pub returns-then-place : goal.returns-then-place
returns-then-place c = rw c.number.ensures (field_none c.args.code.now c.id_place-place.ensures.0 c.if-place.true)

pub returns : goal.returns
returns c = field_some c.args.code.now c.id_place-place.ensures.0 c.if-place.false
