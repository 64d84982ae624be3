-- `writing::put_strings` meets its contract.
use Rattle.exports.proofs.Copying.{copies_start, copies_cut, copies_more, copies_whole}
use Rattle.exports.proofs.writing.put_strings.Goals as goal

pub loop-i-init : goal.loop-i-init
loop-i-init g c = copies_start _ _ _ _ _ _

pub returns-in_err-end : goal.returns-in_err-end
returns-in_err-end g c = rw c.from_residual.ensures (copies_cut _ c.loop-i.invariant c.loop-i-test.true c.in_err-end.ensures)

pub loop-i-preserved : goal.loop-i-preserved
loop-i-preserved g c = copies_more _ c.loop-i.invariant c.loop-i-test.true c.in_ok-end.ensures c.put_string.ensures

pub returns : goal.returns
returns g c = copies_whole _ c.loop-i.invariant c.loop-i-test.false
