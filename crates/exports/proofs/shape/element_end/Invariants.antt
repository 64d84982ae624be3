-- `shape::element_end` meets its contract.
use Rattle.std.proofs.Common.{◌-◌, length}
use Rattle.exports.proofs.Closings.{Ending}
use Rattle.exports.proofs.shape.element_end.Given as goal

abbrev pub invariant-loop-m : goal.invariant-loop-m
invariant-loop-m l = Ending l.text l.at l.p

abbrev pub decreases-loop-m : goal.decreases-loop-m
decreases-loop-m l = length l.text - l.p
