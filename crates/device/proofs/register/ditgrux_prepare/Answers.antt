use Rattle.std.proofs.Common.{◌∙◌}
use Rattle.device.proofs.CallAnswers.{details_plain, prepare_is}
use Rattle.device.proofs.register.ditgrux_prepare.Goals as goal

pub returns : goal.returns
returns c =
    let a = c.args in
    let r = c.ranges in
    let d = details_plain a.number a.year a.month a.day a.hour a.minute a.second a.kind r.standard r.reduced_1 r.reduced_2 r.zero r.special c.details_of-d.ensures in
    let p = prepare_is a.state.now a.output.now c.state_of.ensures d c.prepare.ensures in
    (c.tell.ensures.0 ∙ p.0, p.1, c.tell.ensures.1 ∙ p.2)
