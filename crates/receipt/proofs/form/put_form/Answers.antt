-- Two writes in a row, where there is room for both.
use Rattle.std.proofs.Common.{◌≡◌, ◌+◌, ◌*◌, ◌/◌, ◌≤◌, length, not, ap, arith}
use Rattle.primitives.proofs.Filling.{wrote_nothing}
use Rattle.primitives.proofs.Questions.{at_most, above}
use Rattle.receipt.specs.Form.{signed_form}
use Rattle.receipt.specs.FormReading.{as_parts}
use Rattle.receipt.proofs.Forms.{length_form}
use Rattle.receipt.proofs.FormCalls.{room_third, put_form}
use Rattle.receipt.proofs.form.put_form.Goals as goal

pub overflow_add-second : goal.overflow_add-second
overflow_add-second c = omega (arith, c.base64_length-second.ensures, c.well_formed)

pub overflow_add-second-2 : goal.overflow_add-second-2
overflow_add-second-2 c = omega (arith, c.base64_length-second.ensures, c.base64_length-third.ensures, c.requires, c.well_formed)

pub returns-then-not-has_room : goal.returns-then-not-has_room
returns-then-not-has_room c =
    let long : length (signed_form (as_parts c.args.parts)) ≡ 22 + c.base64_length-second.result + c.base64_length-third.result =
    omega (arith, length_form (as_parts c.args.parts), c.base64_length-second.ensures, c.base64_length-third.ensures) in
    wrote_nothing c.args.out.now c.args.at _ long (above _ _ c.has_room.ensures (ap not c.if-not-has_room.true))

pub put_element-requires : goal.put_element-requires
put_element-requires c =
    let h : c.args.at + (22 + c.base64_length-second.result + c.base64_length-third.result) ≤ length c.args.out.now = at_most _ _ c.has_room.ensures (ap not c.if-not-has_room.false) in
    let fits : c.args.at + (22 + (length c.args.parts.payload.now * 4 + 2) / 3 + (length c.args.parts.signature.now * 4 + 2) / 3) ≤ length c.args.out.now =
    omega (arith, c.base64_length-second.ensures, c.base64_length-third.ensures) in
    room_third c.args.parts.payload.now c.args.parts.signature.now c.args.out.now c.args.at fits c.put_signed_input-p.ensures

pub returns : goal.returns
returns c =
    let h : c.args.at + (22 + c.base64_length-second.result + c.base64_length-third.result) ≤ length c.args.out.now = at_most _ _ c.has_room.ensures (ap not c.if-not-has_room.false) in
    let fits : c.args.at + (22 + (length c.args.parts.payload.now * 4 + 2) / 3 + (length c.args.parts.signature.now * 4 + 2) / 3) ≤ length c.args.out.now =
    omega (arith, c.base64_length-second.ensures, c.base64_length-third.ensures) in
    put_form c.args.parts.payload.now c.args.parts.signature.now c.args.out.now c.args.at fits c.put_signed_input-p.ensures c.put_element.ensures
