-- The part at the place of the ID field.
use Rattle.receipt.proofs.CodeCalls.{field_at}
use Rattle.receipt.proofs.machine_code.fields.Goals as goal

pub returns : goal.returns
returns c = field_at c.args.code.ref_ptr c.args.code.now c.id_place-place.ensures.0
