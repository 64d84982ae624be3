-- `survey::owner_settings` meets its contract.
use Rattle.exports.proofs.Surveying.{owner_none, owner_missing, owner_first}
use Rattle.exports.proofs.survey.owner_settings.Goals as goal

pub returns-in_default : goal.returns-in_default
returns-in_default c = owner_none c.begin_group.ensures c.settings_or_empty.ensures c.in_default.not-Item

pub returns-in-Some : goal.returns-in-Some
returns-in-Some c = owner_first c.begin_group.ensures c.in-Item.is c.in-Some.ensures c.first_named.ensures c.settings_or_empty-in-Some.ensures

pub returns-in-None : goal.returns-in-None
returns-in-None c = owner_missing c.begin_group.ensures c.in-Item.is c.in-None.ensures
