-- Three writes in a row.
use Rattle.std.proofs.Common.{length, ap, arith}
use Rattle.receipt.proofs.Written.{closing_long, put_closing}
use Rattle.receipt.proofs.payload.put_closing.Goals as goal

pub put_counter-p-requires : goal.put_counter-p-requires
put_counter-p-requires c = omega (arith, c.requires, closing_long c.args.s c.args.n c.args.f)

pub put_field-requires : goal.put_field-requires
put_field-requires c =
    omega (arith, c.requires, closing_long c.args.s c.args.n c.args.f, ap length c.text-serial.ensures, c.put_counter-p.ensures.0)

pub overflow_add-p : goal.overflow_add-p
overflow_add-p c =
    omega (arith, c.requires, closing_long c.args.s c.args.n c.args.f, ap length c.text-serial.ensures, c.put_counter-p.ensures.0, c.well_formed)

pub overflow_add-p-2 : goal.overflow_add-p-2
overflow_add-p-2 c =
    omega (arith, c.requires, closing_long c.args.s c.args.n c.args.f, ap length c.text-serial.ensures, c.put_counter-p.ensures.0, c.well_formed)

pub put_base64-requires : goal.put_base64-requires
put_base64-requires c =
    omega (arith, c.requires, closing_long c.args.s c.args.n c.args.f, ap length c.text-serial.ensures, c.put_counter-p.ensures.0)

pub returns : goal.returns
returns c = (
  omega (arith, closing_long c.args.s c.args.n c.args.f, ap length c.text-serial.ensures, c.put_counter-p.ensures.0, c.put_base64.ensures.0),
  put_closing c.args.s c.args.n c.args.f _ _ _ c.text-serial.ensures c.put_counter-p.ensures.0 c.requires c.put_counter-p.ensures.1 c.put_field.ensures
      c.put_base64.ensures.1,
)
