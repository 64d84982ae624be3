-- `Payload::skip_marks` meets its contract.
use Rattle.std.proofs.Common.{inl, inr}
use Rattle.exports.proofs.PayloadMarks.{place_start, place_next}
use Rattle.exports.proofs.payload.Payload.skip_marks.Goals as goal
use Rattle.exports.proofs.payload.Payload.skip_marks.Goals.{then-p-n, else-p-n}

pub loop-init : goal.loop-init
loop-init c = place_start _

pub loop-preserved : goal.loop-preserved
loop-preserved c =
    place_next _ _ _ c.loop.invariant c.len-n.ensures (c.next_mark-p.ensures.at, c.next_mark-p.ensures.inside)
    (elim c.if-p-n.branch [ then-p-n w ↦ inl (w.if-p-n.true, w.p-is) | else-p-n w ↦ inr (w.if-p-n.false, w.p-is) ])
