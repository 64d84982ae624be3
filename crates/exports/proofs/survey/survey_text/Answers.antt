-- `survey::survey_text` meets its contract.
use Rattle.std.proofs.Common.{rules}
use Rattle.exports.proofs.Surveying.{TypedOwner, head_inside, all_asked_lem, number_given}
use Rattle.exports.proofs.survey.survey_text.Goals as goal

pub survey_elements-requires : goal.survey_elements-requires
survey_elements-requires c = head_inside _ _ _ c.moved-p.ensures

pub returns : goal.returns
returns c =
    let typed : TypedOwner c.args.owner = record { csp = search rules; id = search rules } in
    number_given (all_asked_lem typed c.moved.ensures c.moved-p.ensures c.survey_elements.ensures c.some_element.ensures) _ c.survey_answer.ensures.number c.survey_answer.ensures.end
