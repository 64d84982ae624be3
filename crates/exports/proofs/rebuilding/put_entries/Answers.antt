-- `rebuilding::put_entries` meets its contract.
use Rattle.exports.proofs.Carrying.{entries_start, entries_next}
use Rattle.exports.proofs.rebuilding.put_entries.Goals as goal

pub loop-c-init : goal.loop-c-init
loop-c-init c = entries_start _ _ _ c.begin-c.ensures

pub loop-c-preserved : goal.loop-c-preserved
loop-c-preserved c = entries_next c.loop-c.invariant c.in-Item.is c.in_ok-s.ensures _ c.follow-c.ensures c.put_entry.ensures
