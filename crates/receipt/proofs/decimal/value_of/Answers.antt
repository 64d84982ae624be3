-- `decimal::value_of` meets its contract.
use Rattle.receipt.proofs.Digits.{reading_start, reading_mark, reading_more, reading_end}
use Rattle.receipt.proofs.decimal.value_of.Goals as goal

pub loop-b-init : goal.loop-b-init
loop-b-init c = reading_start _

pub loop-b-preserved : goal.loop-b-preserved
loop-b-preserved c = reading_more c.loop-b.invariant c.loop-b-test.true c.if-b-eq95.false c.more-v.ensures

pub returns-after-loop-b : goal.returns-after-loop-b
returns-after-loop-b c =
    (reading_end c.loop-b.invariant c.loop-b-test.false, c.loop-b.invariant.below)

pub returns-then-b-eq95 : goal.returns-then-b-eq95
returns-then-b-eq95 c =
    (reading_mark c.loop-b.invariant c.loop-b-test.true c.if-b-eq95.true, c.loop-b.invariant.below)
