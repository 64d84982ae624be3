-- `certificates::groups_there` meets its contract.
use Rattle.exports.proofs.Sized.{passed_start, passed_more, groups_cut, groups_whole}
use Rattle.exports.proofs.certificates.groups_there.Goals as goal

pub loop-init : goal.loop-init
loop-init c = passed_start _ _

pub returns-in_default : goal.returns-in_default
returns-in_default c = groups_cut _ _ c.loop.invariant c.loop-test.true c.in_default.ensures

pub loop-preserved : goal.loop-preserved
loop-preserved c = passed_more _ _ c.loop.invariant c.loop-test.true c.in-Some.ensures

pub returns : goal.returns
returns c = groups_whole _ _ c.loop.invariant c.loop-test.false
