use Rattle.std.proofs.Common.{refl}
use Rattle.primitives.specs.Sha256.{sums}
use Rattle.primitives.proofs.hash.sums.Goals as goal

pub returns : goal.returns
unfolding sums
returns c = refl
