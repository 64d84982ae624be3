use Rattle.std.proofs.Common.{ap, ◌∙◌}
use Rattle.device.specs.Layout.{kept}
use Rattle.device.proofs.Told.{issued_is, state_is}
use Rattle.device.proofs.answers.keep_after.Goals as goal

pub returns : goal.returns
returns c =
    let r = c.args.answer in
    let st = c.args.before in
    (c.answer_number.ensures ∙ issued_is st r, c.keep.ensures ∙ ap (kept c.args.state.now) (c.unwrap_or.ensures ∙ state_is st r))
