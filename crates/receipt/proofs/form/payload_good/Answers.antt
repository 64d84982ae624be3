-- The length is asked, then the first four bytes.
use Rattle.std.proofs.lemmas.Bool.{lt-leb}
use Rattle.std.proofs.Common.{◌∙◌}
use Rattle.receipt.proofs.CodeTexts.{payload_long, payload_begins}
use Rattle.receipt.proofs.form.payload_good.Goals as goal

pub returns-then-payload-le-LONGEST_PAYLOAD : goal.returns-then-payload-le-LONGEST_PAYLOAD
returns-then-payload-le-LONGEST_PAYLOAD c = payload_begins _ c.if-payload-le-LONGEST_PAYLOAD.true c.beginning.ensures c.starts_with.ensures.value

pub returns-else-payload-le-LONGEST_PAYLOAD : goal.returns-else-payload-le-LONGEST_PAYLOAD
returns-else-payload-le-LONGEST_PAYLOAD c =
    lt-leb _ _ c.if-payload-le-LONGEST_PAYLOAD.false ∙ payload_long _ c.if-payload-le-LONGEST_PAYLOAD.false
