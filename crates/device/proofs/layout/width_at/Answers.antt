-- `layout::width_at` meets its contract.
use Rattle.device.specs.Layout.{width_at}
use Rattle.device.proofs.layout.width_at.Goals as goal

pub returns : goal.returns
unfolding width_at
returns c = c.long_at.ensures
