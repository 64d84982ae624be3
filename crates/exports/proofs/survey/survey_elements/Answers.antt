-- `survey::survey_elements` meets its contract.
use Rattle.exports.proofs.Surveying.{survey_start, survey_end, survey_refused, survey_more}
use Rattle.exports.proofs.survey.survey_elements.Goals as goal

pub loop-c-init : goal.loop-c-init
loop-c-init c = survey_start _ _ c.begin_group-c.ensures

pub returns-in_default-element : goal.returns-in_default-element
returns-in_default-element c = survey_refused _ _ c.loop-c.invariant c.in-Item.is c.in_default-element.ensures

pub loop-c-preserved : goal.loop-c-preserved
loop-c-preserved c = survey_more _ _ c.loop-c.invariant c.in-Item.is c.in-Some.ensures _ c.survey_element-s.ensures c.follow-c.ensures

pub returns : goal.returns
returns c = survey_end _ _ c.loop-c.invariant c.in_default.not-Item
