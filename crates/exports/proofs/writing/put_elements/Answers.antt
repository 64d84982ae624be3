-- `writing::put_elements` meets its contract.
use Rattle.exports.proofs.Exporting.{elements_start, elements_ungrouped, elements_unpaired, elements_more, elements_end}
use Rattle.exports.proofs.writing.put_elements.Goals as goal

pub loop-i-init : goal.loop-i-init
loop-i-init g c = elements_start _ _ _ _ _ _

pub returns-in_err-group : goal.returns-in_err-group
returns-in_err-group g c = rw c.from_residual.ensures (elements_ungrouped c.loop-i.invariant c.loop-i-test.true c.in_err-group.ensures)

pub returns-in_err-pair : goal.returns-in_err-pair
returns-in_err-pair g c = rw c.from_residual-in_err-pair.ensures (elements_unpaired c.loop-i.invariant c.loop-i-test.true c.in_ok-group.ensures c.in_err-pair.ensures)

pub loop-i-preserved : goal.loop-i-preserved
loop-i-preserved g c = elements_more c.loop-i.invariant c.loop-i-test.true c.in_ok-group.ensures c.in_ok-pair.ensures

pub returns : goal.returns
returns g c = elements_end c.loop-i.invariant c.loop-i-test.false _
