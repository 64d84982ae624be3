use Rattle.std.proofs.Common.{◌∙◌}
use Rattle.device.proofs.Told.{number_is, length_is}
use Rattle.device.proofs.answers.tell.Goals as goal

pub returns : goal.returns
returns c =
    let r = c.args.answer in
    (c.answer_number.ensures ∙ number_is r, c.unwrap_or.ensures ∙ length_is r)
