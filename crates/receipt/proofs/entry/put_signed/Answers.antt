-- The signature's text, by whether the device has failed.
use Rattle.std.proofs.Common.{◌≡◌, ap, ◌∙◌}
use Rattle.receipt.specs.Compact.{signature_text}
use Rattle.receipt.proofs.EntryCalls.{text_whole, text_failed, signed_as}
use Rattle.receipt.proofs.entry.put_signed.Goals as goal
use Rattle.receipt.proofs.entry.put_signed.Goals.{then-g, else-g}

pub returns : goal.returns
returns c =
    let text : c.if-g.signature.now ≡ signature_text c.args.g =
    elim c.if-g.branch [
      | then-g w ↦ ap (λ s. s.now) w.signature-is ∙ c.failure_text-text.ensures ∙ text_failed c.args.g w.if-g.true
      | else-g w ↦ ap (λ s. s.now) w.signature-is ∙ text_whole c.args.g w.if-g.false
    ] in
    signed_as c.args.payload.now c.args.out.now c.args.at text c.put_form.ensures
