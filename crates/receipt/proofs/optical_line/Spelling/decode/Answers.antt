-- What each answer of the reader leaves at the start of the buffer.
use Rattle.std.proofs.Common.{◌≡◌, ◌≤◌, length, sym, ap, ◌∙◌, arith}
use Rattle.std.proofs.Math.Option.{some}
use Rattle.primitives.specs.Base64.{answer_of, buffer_of}
use Rattle.receipt.specs.Line.{unspell}
use Rattle.receipt.proofs.FormCalls.{decoded_upto, decoded_not}
use Rattle.receipt.proofs.optical_line.Spelling.decode.Goals as goal
use Rattle.receipt.proofs.optical_line.Spelling.decode.Goals.{in-Base64, in-Base32}

pub returns-in_err-ok : goal.returns-in_err-ok
returns-in_err-ok c =
    let read : c.match-self.read ≡ answer_of (unspell c.args.self c.args.text.now) c.args.buffer.now 0 =
    elim c.match-self.branch [
      | in-Base64 w ↦ rw w.in-Base64.is (w.read-is ∙ w.base64_decode-read.ensures.0)
      | in-Base32 w ↦ rw w.in-Base32.is (w.read-is ∙ w.base32_decode-read.ensures.0)
    ] in
    rw c.from_residual.ensures (sym (decoded_not (unspell c.args.self c.args.text.now) c.args.buffer.now read c.ok.ensures.value c.in_err-ok.was))

pub split_at_mut-bytes-requires : goal.split_at_mut-bytes-requires
split_at_mut-bytes-requires c =
    let read : c.match-self.read ≡ answer_of (unspell c.args.self c.args.text.now) c.args.buffer.now 0 =
    elim c.match-self.branch [
      | in-Base64 w ↦ rw w.in-Base64.is (w.read-is ∙ w.base64_decode-read.ensures.0)
      | in-Base32 w ↦ rw w.in-Base32.is (w.read-is ∙ w.base32_decode-read.ensures.0)
    ] in
    let after : c.match-self.buffer ≡ buffer_of (unspell c.args.self c.args.text.now) c.args.buffer.now 0 =
    elim c.match-self.branch [
      | in-Base64 w ↦ rw w.in-Base64.is (w.buffer-is ∙ w.base64_decode-read.ensures.1)
      | in-Base32 w ↦ rw w.in-Base32.is (w.buffer-is ∙ w.base32_decode-read.ensures.1)
    ] in
    let h : c.in_ok-ok.field-0 ≤ length c.args.buffer.now = (decoded_upto (unspell c.args.self c.args.text.now) c.args.buffer.now read c.ok.ensures.value c.in_ok-ok.was after).0 in
    omega (arith, c.match-self.auto.buffer)

pub returns : goal.returns
returns c =
    let read : c.match-self.read ≡ answer_of (unspell c.args.self c.args.text.now) c.args.buffer.now 0 =
    elim c.match-self.branch [
      | in-Base64 w ↦ rw w.in-Base64.is (w.read-is ∙ w.base64_decode-read.ensures.0)
      | in-Base32 w ↦ rw w.in-Base32.is (w.read-is ∙ w.base32_decode-read.ensures.0)
    ] in
    let after : c.match-self.buffer ≡ buffer_of (unspell c.args.self c.args.text.now) c.args.buffer.now 0 =
    elim c.match-self.branch [
      | in-Base64 w ↦ rw w.in-Base64.is (w.buffer-is ∙ w.base64_decode-read.ensures.1)
      | in-Base32 w ↦ rw w.in-Base32.is (w.buffer-is ∙ w.base32_decode-read.ensures.1)
    ] in
    let h = decoded_upto (unspell c.args.self c.args.text.now) c.args.buffer.now read c.ok.ensures.value c.in_ok-ok.was after in (
      sym h.1 ∙ ap some (sym c.split_at_mut-bytes.ensures.front),
      omega (arith, c.split_at_mut-bytes.ensures.front_len, c.split_at_mut-bytes.ensures.back_len, c.match-self.auto.buffer),
    )
