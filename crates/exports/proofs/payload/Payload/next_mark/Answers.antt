-- `Payload::next_mark` meets its contract.
use Rattle.exports.proofs.PayloadMarks.{seeking_found, seeking_more, seeking_end}
use Rattle.exports.proofs.payload.Payload.next_mark.Goals as goal

pub returns-then-byte-eq95 : goal.returns-then-byte-eq95
returns-then-byte-eq95 c =
    let h = seeking_found c.loop-i.invariant c.loop-i-test.true c.byte.ensures c.if-byte-eq95.true in record { at = h.0; inside = h.1 }

pub loop-i-preserved : goal.loop-i-preserved
loop-i-preserved c = seeking_more c.loop-i.invariant c.loop-i-test.true c.byte.ensures c.if-byte-eq95.false

pub returns : goal.returns
returns c = let h = seeking_end c.loop-i.invariant c.loop-i-test.false in record { at = h.0; inside = h.1 }
