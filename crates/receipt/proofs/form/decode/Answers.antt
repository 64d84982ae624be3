-- What each answer of the reader leaves at the start of the buffer.
use Rattle.std.proofs.Common.{◌≤◌, length, sym, arith}
use Rattle.std.proofs.Math.Seq.{length-take-le}
use Rattle.primitives.specs.Base64.{decoding}
use Rattle.receipt.proofs.FormCalls.{decoded_upto, decoded_not}
use Rattle.receipt.proofs.form.decode.Goals as goal

pub returns-in_err-n : goal.returns-in_err-n
returns-in_err-n c =
    rw c.from_residual.ensures
    (decoded_not (decoding c.args.alphabet c.args.text.now) c.args.buffer.now c.base64_decode.ensures.0 c.ok.ensures.value c.in_err-n.was)

pub slice_bounds-result-end : goal.slice_bounds-result-end
slice_bounds-result-end c =
    let h : c.in_ok-n.n ≤ length c.args.buffer.now = (decoded_upto (decoding c.args.alphabet c.args.text.now) c.args.buffer.now c.base64_decode.ensures.0 c.ok.ensures.value c.in_ok-n.was c.base64_decode.ensures.1).0 in
    sym (length-take-le c.in_ok-n.n c.base64_decode.new.out (omega (arith, c.base64_decode.auto.out)))

pub returns : goal.returns
returns c =
    (decoded_upto (decoding c.args.alphabet c.args.text.now) c.args.buffer.now c.base64_decode.ensures.0 c.ok.ensures.value c.in_ok-n.was c.base64_decode.ensures.1).1
