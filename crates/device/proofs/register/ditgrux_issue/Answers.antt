use Rattle.std.proofs.Common.{◌∙◌}
use Rattle.device.specs.Calls.{slices_with, call_with}
use Rattle.device.proofs.CallAnswers.{details_plain, issue_is}
use Rattle.device.proofs.register.ditgrux_issue.Goals as goal

pub returns : goal.returns
returns c =
    let a = c.args in
    let r = c.ranges in
    let k = call_with a.number a.year a.month a.day a.hour a.minute a.second a.standard a.reduced_1 a.reduced_2 a.zero a.special a.kind a.signature.now in
    let d = details_plain a.number a.year a.month a.day a.hour a.minute a.second a.kind r.standard r.reduced_1 r.reduced_2 r.zero r.special c.details_of-d.ensures in
    let p = issue_is (slices_with a.state.now a.journal.now) k c.state_of-st.ensures d c.issue.ensures c.keep_after.ensures.1 in
    (c.keep_after.ensures.0 ∙ p.0, p.1, p.2)
