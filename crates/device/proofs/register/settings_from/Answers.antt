use Rattle.device.specs.Calls.{settings_from}
use Rattle.device.proofs.register.settings_from.Goals as goal

pub returns : goal.returns
unfolding settings_from
returns c = rw (c.array_of.ensures, c.name_of.ensures, c.name_of-2.ensures)
