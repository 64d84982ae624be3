-- `shape::has_shape` meets its contract.
use Rattle.exports.proofs.Documents.{shape_none, shape_more, shape_found}
use Rattle.exports.proofs.shape.has_shape.Goals as goal

pub returns-in-End : goal.returns-in-End
returns-in-End c = shape_found c.in-Some.ensures c.in-End.ensures

pub returns-in_default : goal.returns-in_default
returns-in_default c = shape_more c.in-Some.ensures _ c.next.ensures c.in_default.not-End

pub returns-in-None : goal.returns-in-None
returns-in-None c = shape_none c.in-None.ensures
