-- `listing::issue_list` meets its contract.
use Rattle.primitives.proofs.Refusals.{numbers_are_not_zero}
use Rattle.std.proofs.Common.{refl}
use Rattle.journal.proofs.ListTurns.{goes_on, stops, done_all}
use Rattle.journal.proofs.listing.issue_list.Goals as goal

pub returns-in-Err : goal.returns-in-Err
returns-in-Err c =
    stops c.loop-count.invariant _ c.loop-count-test.true _ _ c.in-Err.ensures.0 c.in-Err.ensures.1 (numbers_are_not_zero _)

pub loop-count-preserved : goal.loop-count-preserved
loop-count-preserved c =
    goes_on c.loop-count.invariant _ c.loop-count-test.true _ _ c.in-Ok.ensures.0 c.in-Ok.ensures.1 refl

pub returns : goal.returns
returns c = done_all c.loop-count.invariant c.loop-count-test.false
