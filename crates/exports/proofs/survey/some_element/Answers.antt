-- `survey::some_element` meets its contract.
use Rattle.exports.proofs.Surveying.{some_spelled, none_spelled}
use Rattle.exports.proofs.survey.some_element.Goals as goal

pub returns-in-Item : goal.returns-in-Item
returns-in-Item c = some_spelled c.begin_group.ensures c.in-Item.is

pub returns-in_default : goal.returns-in_default
returns-in_default c = none_spelled c.begin_group.ensures c.in_default.not-Item
