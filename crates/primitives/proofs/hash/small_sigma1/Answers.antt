use Rattle.primitives.specs.Sha256.{σ₁}
use Rattle.primitives.proofs.hash.small_sigma1.Goals as goal

pub returns : goal.returns
unfolding σ₁
returns c = cc
