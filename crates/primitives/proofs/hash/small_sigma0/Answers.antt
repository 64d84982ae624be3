use Rattle.primitives.specs.Sha256.{σ₀}
use Rattle.primitives.proofs.hash.small_sigma0.Goals as goal

pub returns : goal.returns
unfolding σ₀
returns c = cc
