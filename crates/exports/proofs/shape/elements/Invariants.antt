-- `shape::elements` meets its contract.
use Rattle.exports.proofs.Arrays.{Walk, remains}
use Rattle.exports.specs.Shape.{written}
use Rattle.exports.proofs.shape.elements.Given as goal

abbrev pub invariant-loop-c : goal.invariant-loop-c
invariant-loop-c l = Walk written l.text l.at l.c

abbrev pub decreases-loop-c : goal.decreases-loop-c
decreases-loop-c l = remains l.text l.c
