-- `shape::element_end` meets its contract.
use Rattle.exports.proofs.Closings.{end_start, end_more, end_found}
use Rattle.exports.proofs.shape.element_end.Goals as goal

pub loop-m-init : goal.loop-m-init
loop-m-init c = end_start c.requires

pub loop-m-preserved : goal.loop-m-preserved
loop-m-preserved c = end_more c.loop-m.invariant c.in-Some.ensures

pub returns : goal.returns
returns c = end_found c.loop-m.invariant c.in_default.ensures _ c.expect.ensures
