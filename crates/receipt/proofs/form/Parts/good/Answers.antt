-- Both are asked.
use Rattle.std.proofs.Common.{sym, ◌∙◌}
use Rattle.receipt.specs.Form.{good_parts}
use Rattle.receipt.proofs.form.Parts.good.Goals as goal
use Rattle.receipt.proofs.form.Parts.good.Goals.{else-payload_good-via-then-payload_good+else-signature_good, else-payload_good-via-else-payload_good}

pub returns-then-signature_good : goal.returns-then-signature_good
unfolding good_parts
returns-then-signature_good c =
    rw (sym c.payload_good.ensures ∙ c.if-payload_good.true, sym c.signature_good.ensures ∙ c.if-signature_good.true)

pub returns-else-payload_good : goal.returns-else-payload_good
unfolding good_parts
returns-else-payload_good c =
    elim c.else-payload_good.branch [
      | else-payload_good-via-then-payload_good+else-signature_good w ↦ rw (sym c.payload_good.ensures ∙ w.if-payload_good.true, sym w.signature_good.ensures ∙ w.if-signature_good.false)
      | else-payload_good-via-else-payload_good w ↦ rw (sym c.payload_good.ensures ∙ w.if-payload_good.false)
    ]
