-- Three writes in a row, where there is room for all.
use Rattle.std.proofs.Common.{◌≡◌, ◌+◌, length, arith}
use Rattle.receipt.specs.Code.{code_text}
use Rattle.receipt.specs.FormReading.{as_parts}
use Rattle.receipt.proofs.Codes.{length_code}
use Rattle.receipt.proofs.CodeCalls.{no_room, has_room, put_code}
use Rattle.receipt.proofs.machine_code.put_code.Goals as goal

pub returns-then-out-length : goal.returns-then-out-length
returns-then-out-length c =
    let long : length (code_text (as_parts c.args.parts)) ≡ length c.args.parts.payload.now + 1 + c.base64_length.result = omega (arith, length_code (as_parts c.args.parts), c.base64_length.ensures) in
    no_room c.args.out.now (code_text (as_parts c.args.parts)) _ long c.if-out-length.true

pub returns : goal.returns
returns c =
    let long : length (code_text (as_parts c.args.parts)) ≡ length c.args.parts.payload.now + 1 + c.base64_length.result = omega (arith, length_code (as_parts c.args.parts), c.base64_length.ensures) in
    has_room c.args.out.now (code_text (as_parts c.args.parts)) _ long c.if-out-length.false
    (put_code c.args.parts.payload.now c.args.parts.signature.now c.args.out.now (omega (arith, long, c.if-out-length.false))
    c.put.ensures.1 c.put-2.ensures.1 c.base64_encode.ensures.1)
