-- `rebuilding::copy_letters` meets its contract.
use Rattle.exports.proofs.Carrying.{copy_start, copy_more}
use Rattle.exports.proofs.rebuilding.copy_letters.Goals as goal

pub loop-l-init : goal.loop-l-init
loop-l-init c = copy_start c.requires.0 c.requires.1

pub loop-l-preserved : goal.loop-l-preserved
loop-l-preserved c = copy_more c.loop-l.invariant c.in-Some.ensures
