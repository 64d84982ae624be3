-- The questions in their row.
use Rattle.std.proofs.lemmas.Bool.{lt-leb}
use Rattle.std.proofs.Common.{◌≡◌, ◌+◌, length, true, sym, ap, ◌∙◌, not, arith}
use Rattle.primitives.proofs.Questions.{yes, no}
use Rattle.receipt.specs.Form.{payload_good}
use Rattle.receipt.specs.Line.{count_of, payload_in}
use Rattle.receipt.specs.LineReading.{as_fields}
use Rattle.receipt.specs.declared.optical_line.Spelling.TheVariants.{Base64}
use Rattle.receipt.proofs.CodeTexts.{payload_most}
use Rattle.receipt.proofs.Lines.{payload_length}
use Rattle.receipt.proofs.LineCalls.{not_nine, not_whole, not_started, too_long, then_signature}
use Rattle.receipt.proofs.Worded.{count_is}
use Rattle.receipt.proofs.optical_line.fields_good.Goals as goal
use Rattle.receipt.proofs.optical_line.fields_good.Goals.{then-count_of-ne-START_MARKS-via-then-count_of-ne-START_MARKS, then-count_of-ne-START_MARKS-via-else-count_of-ne-START_MARKS+then-count_of-ne0, then-count_of-ne-START_MARKS-via-else-count_of-ne-START_MARKS+else-count_of-ne0+then-not-payload_good}

pub returns-then-count_of-ne-START_MARKS : goal.returns-then-count_of-ne-START_MARKS
returns-then-count_of-ne-START_MARKS c =
    let nine : c.count_of.result ≡ count_of 95 c.args.f.start.now = c.count_of.ensures ∙ count_is 95 c.args.f.start.now in
    elim c.then-count_of-ne-START_MARKS.branch [
      | then-count_of-ne-START_MARKS-via-then-count_of-ne-START_MARKS w ↦ not_nine (as_fields c.args.f) (λ e. w.if-count_of-ne-START_MARKS.true (nine ∙ e))
      | then-count_of-ne-START_MARKS-via-else-count_of-ne-START_MARKS+then-count_of-ne0 w ↦
          not_whole (as_fields c.args.f) (λ e. w.if-count_of-ne0.true (w.count_of-else-count_of-ne-START_MARKS.ensures ∙ count_is 95 c.args.f.serial.now ∙ e))
      | then-count_of-ne-START_MARKS-via-else-count_of-ne-START_MARKS+else-count_of-ne0+then-not-payload_good w ↦
          not_started (as_fields c.args.f) (sym nine ∙ w.if-count_of-ne-START_MARKS.false)
          (sym (count_is 95 c.args.f.serial.now) ∙ sym w.count_of-else-count_of-ne-START_MARKS.ensures ∙ w.if-count_of-ne0.false)
          (no w.payload_good.ensures (ap not w.if-not-payload_good.true))
    ]

pub overflow_add-f-4 : goal.overflow_add-f-4
overflow_add-f-4 c =
    let started : payload_good c.args.f.start.now ≡ true = yes c.payload_good.ensures (ap not c.if-not-payload_good.false) in
    omega (arith, payload_most c.args.f.start.now started, c.base64_length-tenth.ensures, c.base64_length-twelfth.ensures, c.requires.0, c.requires.1)

pub returns-then-f-tenth-le-LONGEST_PAYLOAD : goal.returns-then-f-tenth-le-LONGEST_PAYLOAD
returns-then-f-tenth-le-LONGEST_PAYLOAD c =
    let nine : count_of 95 c.args.f.start.now ≡ 9 = sym (count_is 95 c.args.f.start.now) ∙ sym c.count_of.ensures ∙ c.if-count_of-ne-START_MARKS.false in
    let none : count_of 95 c.args.f.serial.now ≡ 0 = sym (count_is 95 c.args.f.serial.now) ∙ sym c.count_of-else-count_of-ne-START_MARKS.ensures ∙ c.if-count_of-ne0.false in
    let started : payload_good c.args.f.start.now ≡ true = yes c.payload_good.ensures (ap not c.if-not-payload_good.false) in
    let long : length c.args.f.start.now + c.base64_length-tenth.result + c.base64_length-twelfth.result + 3 + length c.args.f.serial.now ≡ length (payload_in Base64 (as_fields c.args.f)) =
    omega (arith, payload_length (as_fields c.args.f), c.base64_length-tenth.ensures, c.base64_length-twelfth.ensures) in
    c.signature_good.ensures ∙ then_signature (as_fields c.args.f) nine none started long c.if-f-tenth-le-LONGEST_PAYLOAD.true

pub returns-else-f-tenth-le-LONGEST_PAYLOAD : goal.returns-else-f-tenth-le-LONGEST_PAYLOAD
returns-else-f-tenth-le-LONGEST_PAYLOAD c =
    let nine : count_of 95 c.args.f.start.now ≡ 9 = sym (count_is 95 c.args.f.start.now) ∙ sym c.count_of.ensures ∙ c.if-count_of-ne-START_MARKS.false in
    let none : count_of 95 c.args.f.serial.now ≡ 0 = sym (count_is 95 c.args.f.serial.now) ∙ sym c.count_of-else-count_of-ne-START_MARKS.ensures ∙ c.if-count_of-ne0.false in
    let started : payload_good c.args.f.start.now ≡ true = yes c.payload_good.ensures (ap not c.if-not-payload_good.false) in
    let long : length c.args.f.start.now + c.base64_length-tenth.result + c.base64_length-twelfth.result + 3 + length c.args.f.serial.now ≡ length (payload_in Base64 (as_fields c.args.f)) =
    omega (arith, payload_length (as_fields c.args.f), c.base64_length-tenth.ensures, c.base64_length-twelfth.ensures) in
    lt-leb _ _ c.if-f-tenth-le-LONGEST_PAYLOAD.false ∙ too_long (as_fields c.args.f) nine none started long c.if-f-tenth-le-LONGEST_PAYLOAD.false
