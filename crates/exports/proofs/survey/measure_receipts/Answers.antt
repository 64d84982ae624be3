-- `survey::measure_receipts` meets its contract.
use Rattle.exports.proofs.Surveying.{and_then, and_else, measure_start, measure_more, measure_end}
use Rattle.exports.proofs.survey.measure_receipts.Goals as goal
use Rattle.exports.proofs.survey.measure_receipts.Goals.{then-short, else-short}

pub loop-c-init : goal.loop-c-init
loop-c-init c = measure_start _ _ _ _ c.requires.place c.begin-c.ensures

pub loop-c-preserved : goal.loop-c-preserved
loop-c-preserved c =
    measure_more c.loop-c.invariant c.in-Item.is c.in-Some.ensures _
    (elim c.if-short.branch [ then-short w ↦ and_then w.if-short.true w.short-is | else-short w ↦ and_else _ w.if-short.false w.short-is ])
    c.moved.ensures c.moved-end.ensures c.follow-c.ensures

pub returns-then-short-2 : goal.returns-then-short-2
returns-then-short-2 c = measure_end c.loop-c.invariant c.in_default.not-Item (rw c.if-short-2.true)

pub returns-else-short-2 : goal.returns-else-short-2
returns-else-short-2 c = measure_end c.loop-c.invariant c.in_default.not-Item (rw c.if-short-2.false)
