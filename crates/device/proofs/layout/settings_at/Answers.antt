use Rattle.device.specs.Layout.{settings_at}
use Rattle.device.proofs.layout.settings_at.Goals as goal

pub returns : goal.returns
unfolding settings_at
returns c = rw (c.array_at.ensures, c.name_at.ensures, c.name_at-2.ensures)
