-- `survey::survey_elements` meets its contract.
use Rattle.exports.proofs.Arrays.{remains}
use Rattle.exports.proofs.Surveying.{SurveyPass}
use Rattle.exports.proofs.survey.survey_elements.Given as goal

abbrev pub invariant-loop-c : goal.invariant-loop-c
invariant-loop-c l = SurveyPass l.room l.text l.initial.s l.s l.c

abbrev pub decreases-loop-c : goal.decreases-loop-c
decreases-loop-c l = remains l.text l.c
