use Rattle.device.specs.Layout.{key_at}
use Rattle.device.proofs.layout.key_at.Goals as goal

pub returns : goal.returns
unfolding key_at
returns c = c.array_at.ensures
