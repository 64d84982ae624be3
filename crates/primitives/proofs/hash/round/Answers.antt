use Rattle.primitives.specs.Sha256.{round}
use Rattle.primitives.proofs.hash.round.Goals as goal

pub returns : goal.returns
unfolding round
returns c = cc
