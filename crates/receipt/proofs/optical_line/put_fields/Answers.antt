-- A text and four fields in a row, where there is room for all.
use Rattle.std.proofs.Common.{arith}
use Rattle.receipt.specs.LineReading.{as_fields}
use Rattle.receipt.proofs.CodeCalls.{no_room}
use Rattle.receipt.proofs.LineCalls.{good_sizes, total_is, small, after_start, put_fields}
use Rattle.receipt.proofs.optical_line.put_fields.Goals as goal

pub overflow_add-spelled : goal.overflow_add-spelled
overflow_add-spelled c =
    let k = good_sizes (as_fields c.args.f) c.requires in
    omega (arith, k.spelled, c.length.ensures.1, c.length-2.ensures.1)

pub overflow_add-spelled-2 : goal.overflow_add-spelled-2
overflow_add-spelled-2 c = omega (arith, small c.args.spelling (as_fields c.args.f) c.length.ensures c.length-2.ensures c.length-3.ensures c.requires)

pub overflow_add-length-2 : goal.overflow_add-length-2
overflow_add-length-2 c = omega (arith, small c.args.spelling (as_fields c.args.f) c.length.ensures c.length-2.ensures c.length-3.ensures c.requires)

pub overflow_add-length-3 : goal.overflow_add-length-3
overflow_add-length-3 c = omega (arith, small c.args.spelling (as_fields c.args.f) c.length.ensures c.length-2.ensures c.length-3.ensures c.requires)

pub returns-then-out-length : goal.returns-then-out-length
returns-then-out-length c = no_room c.args.out.now _ _ (total_is c.args.spelling (as_fields c.args.f) c.length.ensures c.length-2.ensures c.length-3.ensures) c.if-out-length.true

pub put_spelled_field-at-requires : goal.put_spelled_field-at-requires
put_spelled_field-at-requires c =
    let k = after_start c.args.spelling (as_fields c.args.f) c.length.ensures c.length-2.ensures c.length-3.ensures c.requires c.args.out.now c.if-out-length.false c.put-at.ensures in
    omega (arith, k.0, k.1, c.length.ensures.0, c.if-out-length.false)

pub put_field-at-requires : goal.put_field-at-requires
put_field-at-requires c =
    let k = after_start c.args.spelling (as_fields c.args.f) c.length.ensures c.length-2.ensures c.length-3.ensures c.requires c.args.out.now c.if-out-length.false c.put-at.ensures in
    omega (arith, k.0, k.1, c.length.ensures.0, c.if-out-length.false, c.put_spelled_field-at.ensures.0, c.put_spelled_field-at.auto.out)

pub put_spelled_field-at-requires-2 : goal.put_spelled_field-at-requires-2
put_spelled_field-at-requires-2 c =
    let k = after_start c.args.spelling (as_fields c.args.f) c.length.ensures c.length-2.ensures c.length-3.ensures c.requires c.args.out.now c.if-out-length.false c.put-at.ensures in
    omega (arith, k.0, k.1, c.length.ensures.0, c.length-2.ensures.0, c.if-out-length.false, c.put_spelled_field-at.ensures.0, c.put_spelled_field-at.auto.out, c.put_field-at.ensures.0, c.put_field-at.auto.out)

pub put_spelled_field-requires : goal.put_spelled_field-requires
put_spelled_field-requires c =
    let k = after_start c.args.spelling (as_fields c.args.f) c.length.ensures c.length-2.ensures c.length-3.ensures c.requires c.args.out.now c.if-out-length.false c.put-at.ensures in
    omega (
      arith,
      k.0,
      k.1,
      c.length.ensures.0,
      c.length-2.ensures.0,
      c.length-3.ensures.0,
      c.if-out-length.false,
      c.put_spelled_field-at.ensures.0,
      c.put_spelled_field-at.auto.out,
      c.put_field-at.ensures.0,
      c.put_field-at.auto.out,
      c.put_spelled_field-at-2.ensures.0,
      c.put_spelled_field-at-2.auto.out,
    )

pub returns : goal.returns
returns c =
    put_fields c.args.spelling (as_fields c.args.f) c.length.ensures c.length-2.ensures c.length-3.ensures c.requires c.args.out.now c.if-out-length.false c.put-at.ensures c.put_spelled_field-at.ensures c.put_field-at.ensures c.put_spelled_field-at-2.ensures
    c.put_spelled_field.ensures.1
