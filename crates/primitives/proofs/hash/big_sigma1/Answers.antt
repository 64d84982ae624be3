use Rattle.primitives.specs.Sha256.{Σ₁}
use Rattle.primitives.proofs.hash.big_sigma1.Goals as goal

pub returns : goal.returns
unfolding Σ₁
returns c = cc
