-- 64 bytes, or else the text of a failed device.
use Rattle.std.proofs.Common.{eq-eqb, ◌∙◌}
use Rattle.receipt.proofs.CodeTexts.{signature_whole, signature_text_lem}
use Rattle.receipt.proofs.form.signature_good.Goals as goal

pub returns-then-signature-eq64 : goal.returns-then-signature-eq64
returns-then-signature-eq64 c = eq-eqb _ _ c.if-signature-eq64.true ∙ signature_whole _ c.if-signature-eq64.true

pub returns-else-signature-eq64 : goal.returns-else-signature-eq64
returns-else-signature-eq64 c =
    signature_text_lem _ c.if-signature-eq64.false (c.as_slice.ensures ∙ c.failure_text.ensures) c.eq.ensures
