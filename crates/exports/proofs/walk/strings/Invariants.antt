-- `walk::strings` meets its contract.
use Rattle.exports.proofs.Arrays.{Walk, remains}
use Rattle.exports.specs.Shape.{string}
use Rattle.exports.proofs.walk.strings.Given as goal

abbrev pub invariant-loop-c : goal.invariant-loop-c
invariant-loop-c l = Walk string l.text l.at l.c

abbrev pub decreases-loop-c : goal.decreases-loop-c
decreases-loop-c l = remains l.text l.c
