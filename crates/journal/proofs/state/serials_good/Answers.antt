-- `state::serials_good` meets its contract.
use Rattle.std.proofs.Common.{length, ap, arith}
use Rattle.journal.proofs.Serials.{used_length}
use Rattle.journal.proofs.state.serials_good.Goals as goal
use Rattle.journal.proofs.state.serials_good.Goals.{then-not-is_empty, else-not-is_empty}

pub slice_bounds-all_empty-count : goal.slice_bounds-all_empty-count
slice_bounds-all_empty-count c = omega (arith, ap length c.used-some.ensures, used_length c.args.slots.now, c.told-slots)

pub slice_bounds-all_empty-start : goal.slice_bounds-all_empty-start
slice_bounds-all_empty-start c = omega (arith, ap length c.used-some.ensures, used_length c.args.slots.now, c.told-slots)
