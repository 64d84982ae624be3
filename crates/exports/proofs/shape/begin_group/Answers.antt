-- `shape::begin_group` meets its contract.
use Rattle.exports.proofs.Documents.{group_begun, group_broken}
use Rattle.exports.proofs.shape.begin_group.Goals as goal

pub returns-in-Some : goal.returns-in-Some
returns-in-Some c = group_begun c.in-Some.ensures c.begin.ensures

pub returns-in-None : goal.returns-in-None
returns-in-None c = group_broken c.in-None.ensures
