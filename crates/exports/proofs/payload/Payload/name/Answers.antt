-- `Payload::name` meets its contract.
use Rattle.exports.proofs.PayloadMarks.{filling_more, filling_end}
use Rattle.exports.proofs.payload.Payload.name.Goals as goal

pub loop-i-preserved : goal.loop-i-preserved
loop-i-preserved c = filling_more c.loop-i.invariant c.loop-i-test.true c.byte.ensures

pub returns : goal.returns
returns c = filling_end c.loop-i.invariant c.loop-i-test.false
