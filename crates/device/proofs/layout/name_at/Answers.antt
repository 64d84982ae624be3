use Rattle.device.specs.Layout.{name_at}
use Rattle.device.proofs.layout.name_at.Goals as goal

pub returns : goal.returns
unfolding name_at
returns c = rw (c.array_at.ensures, c.long_at.ensures)
