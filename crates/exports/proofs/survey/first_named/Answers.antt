-- `survey::first_named` meets its contract.
use Rattle.std.proofs.Common.{refl}
use Rattle.exports.proofs.Surveying.{named_none, named_refused, named_first}
use Rattle.exports.proofs.survey.first_named.Goals as goal

pub returns-in_default : goal.returns-in_default
returns-in_default c = named_none _ _ _ c.begin.ensures c.in_default.not-Item refl

pub returns-in_err-s : goal.returns-in_err-s
returns-in_err-s c = named_refused c.args.text.now c.args.at _ c.begin.ensures c.in-Item.is c.in_err-s.ensures

pub returns : goal.returns
returns c = named_first c.args.text.now c.args.at _ c.begin.ensures c.in-Item.is c.in_ok-s.ensures c.names_of.ensures
