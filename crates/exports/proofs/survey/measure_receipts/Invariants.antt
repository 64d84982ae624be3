-- `survey::measure_receipts` meets its contract.
use Rattle.exports.proofs.Arrays.{remains}
use Rattle.exports.proofs.Surveying.{Measures}
use Rattle.exports.proofs.survey.measure_receipts.Given as goal

abbrev pub invariant-loop-c : goal.invariant-loop-c
invariant-loop-c l = Measures l.room l.text l.at l.initial.end l.short l.count l.end l.c

abbrev pub decreases-loop-c : goal.decreases-loop-c
decreases-loop-c l = remains l.text l.c
