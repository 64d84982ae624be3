-- `layout::width_of` meets its contract.
use Rattle.std.proofs.Common.{eq-eqb, ne_eqb}
use Rattle.device.specs.Layout.{width_of}
use Rattle.device.proofs.layout.width_of.Goals as goal

pub returns-then-b-ne-SETTINGS : goal.returns-then-b-ne-SETTINGS
unfolding width_of
returns-then-b-ne-SETTINGS c = rw (ne_eqb _ 123 c.if-b-ne-SETTINGS.true)

pub returns : goal.returns
unfolding width_of
returns c = rw (eq-eqb _ 123 c.if-b-ne-SETTINGS.false) c.width_at.ensures
