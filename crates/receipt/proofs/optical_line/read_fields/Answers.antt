-- The text is split, and its spelled fields are read one after the other.
use Rattle.std.proofs.Common.{◌≡◌, length, sym, ◌∙◌, rules}
use Rattle.receipt.specs.LineReading.{longest_fields, as_fields}
use Rattle.receipt.proofs.LineCalls.{no_marks, no_counter, no_chain, no_signature, three_read}
use Rattle.receipt.proofs.optical_line.read_fields.Goals as goal

pub returns-in_err-spelled : goal.returns-in_err-spelled
returns-in_err-spelled c = rw c.from_residual.ensures (no_marks c.args.spelling c.args.text.now c.in_err-spelled.ensures)

pub returns-in_err-counter : goal.returns-in_err-counter
returns-in_err-counter c =
    let whole : length c.args.buffer.now ≡ longest_fields = search rules in
    rw c.from_residual-in_err-counter.ensures
    (no_counter c.args.spelling c.args.text.now (as_fields c.in_ok-spelled.spelled) c.in_ok-spelled.ensures whole c.in_err-counter.ensures)

pub returns-in_err-chain : goal.returns-in_err-chain
returns-in_err-chain c =
    let whole : length c.args.buffer.now ≡ longest_fields = search rules in
    rw c.from_residual-in_err-chain.ensures
    (no_chain c.args.spelling c.args.text.now (as_fields c.in_ok-spelled.spelled) c.in_ok-spelled.ensures whole _ c.in_ok-counter.ensures.0 c.in_ok-counter.ensures.1 c.in_err-chain.ensures)

pub returns-in_err-signature : goal.returns-in_err-signature
returns-in_err-signature c =
    let whole : length c.args.buffer.now ≡ longest_fields = search rules in
    rw c.from_residual-in_err-signature.ensures
    (no_signature c.args.spelling c.args.text.now (as_fields c.in_ok-spelled.spelled) c.in_ok-spelled.ensures whole _ c.in_ok-counter.ensures.0 c.in_ok-counter.ensures.1
    _ c.in_ok-chain.ensures.0 c.in_ok-chain.ensures.1 c.in_err-signature.ensures)

pub returns-then-fields_good : goal.returns-then-fields_good
returns-then-fields_good c =
    let whole : length c.args.buffer.now ≡ longest_fields = search rules in
    rw (sym c.fields_good.ensures ∙ c.if-fields_good.true)
    at (three_read c.args.spelling c.args.text.now (as_fields c.in_ok-spelled.spelled) c.in_ok-spelled.ensures whole _ c.in_ok-counter.ensures.0 c.in_ok-counter.ensures.1
    _ c.in_ok-chain.ensures.0 c.in_ok-chain.ensures.1 c.in_ok-signature.ensures.0)

pub returns-else-fields_good : goal.returns-else-fields_good
returns-else-fields_good c =
    let whole : length c.args.buffer.now ≡ longest_fields = search rules in
    rw (sym c.fields_good.ensures ∙ c.if-fields_good.false)
    at (three_read c.args.spelling c.args.text.now (as_fields c.in_ok-spelled.spelled) c.in_ok-spelled.ensures whole _ c.in_ok-counter.ensures.0 c.in_ok-counter.ensures.1
    _ c.in_ok-chain.ensures.0 c.in_ok-chain.ensures.1 c.in_ok-signature.ensures.0)
