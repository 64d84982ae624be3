-- Two writes in a row, where there is room for both.
use Rattle.std.proofs.Common.{◌≡◌, ◌+◌, ◌*◌, ◌/◌, ◌≤◌, length, not, ap, arith}
use Rattle.primitives.proofs.Filling.{wrote_nothing}
use Rattle.primitives.proofs.Questions.{at_most, above}
use Rattle.receipt.specs.Form.{signed_input}
use Rattle.receipt.proofs.FormCalls.{length_input, put_signed_input}
use Rattle.receipt.proofs.form.put_signed_input.Goals as goal

pub overflow_add-second : goal.overflow_add-second
overflow_add-second c = omega (arith, c.base64_length-second.ensures, c.well_formed)

pub returns-then-not-has_room : goal.returns-then-not-has_room
returns-then-not-has_room c =
    let long : length (signed_input c.args.payload.now) ≡ 21 + c.base64_length-second.result = omega (arith, length_input c.args.payload.now, c.base64_length-second.ensures) in
    wrote_nothing c.args.out.now c.args.at _ long (above _ _ c.has_room.ensures (ap not c.if-not-has_room.true))

pub overflow_add-at : goal.overflow_add-at
overflow_add-at c =
    let fits : c.args.at + (21 + c.base64_length-second.result) ≤ length c.args.out.now = at_most _ _ c.has_room.ensures (ap not c.if-not-has_room.false) in
    omega (arith, c.well_formed)

pub returns : goal.returns
returns c =
    let h : c.args.at + (21 + c.base64_length-second.result) ≤ length c.args.out.now = at_most _ _ c.has_room.ensures (ap not c.if-not-has_room.false) in
    let fits : c.args.at + (21 + (length c.args.payload.now * 4 + 2) / 3) ≤ length c.args.out.now = omega (arith, c.base64_length-second.ensures) in
    put_signed_input c.args.payload.now c.args.out.now c.args.at fits c.first_element.ensures c.put.ensures.1 c.base64_encode.ensures.0 c.base64_encode.ensures.1
