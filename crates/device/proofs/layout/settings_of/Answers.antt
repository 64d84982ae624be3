-- `layout::settings_of` meets its contract.
use Rattle.std.proofs.Common.{eq-eqb, ne_eqb}
use Rattle.device.specs.Layout.{settings_of}
use Rattle.device.proofs.layout.settings_of.Goals as goal

pub returns-then-b-ne-SETTINGS : goal.returns-then-b-ne-SETTINGS
unfolding settings_of
returns-then-b-ne-SETTINGS c = rw (ne_eqb _ 123 c.if-b-ne-SETTINGS.true)

pub returns : goal.returns
unfolding settings_of
returns c = rw (eq-eqb _ 123 c.if-b-ne-SETTINGS.false) c.settings_at.ensures
