-- `shift_rows`: both sides compute to the same bytes.
use Rattle.std.proofs.Common.{refl}
use Rattle.primitives.proofs.aes.shift_rows.Goals as goal

pub returns : goal.returns
returns c = refl
