-- `survey::some_string` meets its contract.
use Rattle.exports.specs.Shape.{string}
use Rattle.exports.proofs.Arrays.{string_opens}
use Rattle.exports.proofs.Passing.{some_yes, some_no}
use Rattle.exports.proofs.survey.some_string.Goals as goal

pub returns-in-Item : goal.returns-in-Item
returns-in-Item c = some_yes string c.args.text.now c.args.at _ string_opens c.begin.ensures c.in-Item.is

pub returns-in_default : goal.returns-in_default
returns-in_default c = some_no string c.args.text.now c.args.at _ string_opens c.begin.ensures c.in_default.not-Item
