-- `Payload::count_marks` meets its contract.
use Rattle.std.proofs.Common.{inl, inr}
use Rattle.exports.proofs.PayloadMarks.{counting_more, counting_end}
use Rattle.exports.proofs.payload.Payload.count_marks.Goals as goal
use Rattle.exports.proofs.payload.Payload.count_marks.Goals.{then-byte-eq95, else-byte-eq95}

pub loop-i-preserved : goal.loop-i-preserved
loop-i-preserved c =
    counting_more c.loop-i.invariant c.loop-i-test.true c.byte.ensures
    (elim c.if-byte-eq95.branch [ then-byte-eq95 w ↦ inl (w.if-byte-eq95.true, w.count-is) | else-byte-eq95 w ↦ inr (w.if-byte-eq95.false, w.count-is) ])

pub returns : goal.returns
returns c = counting_end c.loop-i.invariant c.loop-i-test.false
