-- `base32::coding` makes a good base.
use Rattle.std.proofs.Common.{refl, arith}
use Rattle.primitives.proofs.Base32Laws.{base32_good}
use Rattle.primitives.proofs.base32.coding.Goals as goal

pub invariant_of-result : goal.invariant_of-result
invariant_of-result c = record { grouped = refl; close = omega arith; good = base32_good }
