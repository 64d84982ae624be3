use Rattle.std.proofs.Common.{true, false, refl, inl, inr}
use Rattle.std.proofs.lemmas.Result.{err_from_is_err_and}
use Rattle.primitives.proofs.Refusals.{numbers_are_not_zero}
use Rattle.receipt.specs.Compact.{no_entry}
use Rattle.device.proofs.ReadBackCalls.{read_stops, read_misspelled, read_details_lem, read_signature, read_passes}
use Rattle.device.proofs.read_back.ask_read.Goals as goal

pub returns-in_err-ask_settings-clause-number : goal.returns-in_err-ask_settings-clause-number
returns-in_err-ask_settings-clause-number c =
    let p = err_from_is_err_and c.from_residual.result c.from_residual.ensures.1 in
    rw (p.1, p.2) (read_stops c.args.s c.args.n _ c.args.details c.args.signature c.in_err-ask_settings.ensures (numbers_are_not_zero _))

pub returns-in_default-clause-number : goal.returns-in_default-clause-number
unfolding no_entry
returns-in_default-clause-number c = rw c.in_default.is (read_misspelled c.args.s c.args.n false _ _ c.in_ok-ask_settings.ensures refl refl)

pub returns-then-details-ne-DETAILS-clause-number : goal.returns-then-details-ne-DETAILS-clause-number
returns-then-details-ne-DETAILS-clause-number c =
    let p = c.in_ok-ask_settings.ensures in
    rw c.in-Some.is
    (elim c.then-details-ne-DETAILS.either [
      | inl w ↦ read_details_lem _ _ true _ _ p refl refl w
      | inr w ↦ read_signature _ _ true _ _ p refl refl w.0 w.1
    ])

pub returns-clause-number : goal.returns-clause-number
returns-clause-number c =
    rw c.in-Some.is
    (read_passes c.args.s c.args.n true _ _ c.in_ok-ask_settings.ensures refl refl c.if-details-ne-DETAILS.false c.if-signature-ne-SIGNATURE.false)
