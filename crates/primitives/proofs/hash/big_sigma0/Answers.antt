use Rattle.primitives.specs.Sha256.{Σ₀}
use Rattle.primitives.proofs.hash.big_sigma0.Goals as goal

pub returns : goal.returns
unfolding Σ₀
returns c = cc
