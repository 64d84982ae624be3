-- `retaking::run_texts` meets its contract.
use Rattle.exports.specs.Shape.{string}
use Rattle.exports.specs.Running.{run_texts}
use Rattle.exports.proofs.Arrays.{remains}
use Rattle.exports.proofs.Passing.{Passing}
use Rattle.exports.proofs.retaking.run_texts.Given as goal

abbrev pub invariant-loop-c : goal.invariant-loop-c
invariant-loop-c l = Passing string (run_texts l.schedule l.initial.state) (run_texts l.schedule l.state) l.text l.at l.c

abbrev pub decreases-loop-c : goal.decreases-loop-c
decreases-loop-c l = remains l.text l.c
