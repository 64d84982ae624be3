use Rattle.std.proofs.Common.{ℕ, ap, ◌∙◌}
use Rattle.journal.specs.State.{number_refused}
use Rattle.device.proofs.Told.{refused_number}
use Rattle.device.proofs.Lists.{answer_with, none_issued}
use Rattle.device.proofs.listing.issue_none.Goals as goal

pub returns : goal.returns
returns c =
    let st = c.state_of-state.result in
    let number = ap number_refused c.err.ensures.value ∙ refused_number st c.issue_failed.result in
    let p = none_issued _ c.args.buf.now c.state_of-state.ensures c.no_details.ensures c.issue_failed.ensures in
    (ap (λ (n : ℕ). answer_with n 0 st) number ∙ p.0, p.1)
