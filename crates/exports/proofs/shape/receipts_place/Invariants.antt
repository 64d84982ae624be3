-- `shape::receipts_place` meets its contract.
use Rattle.std.proofs.Common.{◌-◌, length}
use Rattle.exports.proofs.Closings.{Seeking}
use Rattle.exports.proofs.shape.receipts_place.Given as goal

abbrev pub invariant-loop-key : goal.invariant-loop-key
invariant-loop-key l = Seeking l.text l.at l.key

abbrev pub decreases-loop-key : goal.decreases-loop-key
decreases-loop-key l = length l.text - l.key.next
