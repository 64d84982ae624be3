-- `details::counted` meets its contract.
use Rattle.std.proofs.Common.{◌≡◌, inl, inr, rules, w64, FitsSigned, to_z-of_z, ◌∙◌}
use Rattle.receipt.specs.Details.{total, counted}
use Rattle.receipt.proofs.Counting.{counted_of_lem}
use Rattle.receipt.proofs.details.counted.Goals as goal

pub returns-in-Standard : goal.returns-in-Standard
returns-in-Standard c =
    let plain : FitsSigned w64 c.total.result = search rules in
    let adds : total c.args.d.amounts ≡ counted c.args.d = elim c.in-Standard.is [ inl e ↦ counted_of_lem c.args.d e | inr e ↦ counted_of_lem c.args.d e ] in
    to_z-of_z plain ∙ c.total.ensures ∙ adds
