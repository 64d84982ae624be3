-- `details::total` meets its contract.
use Rattle.std.proofs.Common.{◌≡◌, length, rules}
use Rattle.receipt.proofs.Counting.{adding_fits, summing_more, summing_end}
use Rattle.receipt.proofs.details.total.Goals as goal

pub overflow_add-sum : goal.overflow_add-sum
overflow_add-sum c =
    let five : length c.args.a ≡ 5 = search rules in
    adding_fits c.loop-z.invariant five c.loop-z-test.true

pub loop-z-preserved : goal.loop-z-preserved
loop-z-preserved c =
    let five : length c.args.a ≡ 5 = search rules in
    summing_more c.loop-z.invariant five c.loop-z-test.true

pub returns : goal.returns
returns c =
    let five : length c.args.a ≡ 5 = search rules in
    summing_end c.loop-z.invariant five c.loop-z-test.false
