-- `mix_byte`: two doublings and the sums.
use Rattle.primitives.specs.Aes.{mix_byte}
use Rattle.primitives.proofs.aes.mix_byte.Goals as goal

pub returns : goal.returns
unfolding mix_byte
returns c = cc
