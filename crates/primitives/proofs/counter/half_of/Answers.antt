-- `half_of` meets its contract: a shift is half of the power.
use Rattle.primitives.proofs.Twos.{half_shift}
use Rattle.primitives.proofs.counter.half_of.Goals as goal

pub returns : goal.returns
returns c = half_shift _ c.requires.0 c.requires.1
