-- `payload::put_moment` meets its contract.
use Rattle.std.proofs.Common.{arith}
use Rattle.receipt.proofs.Written.{length_moment, put_moment}
use Rattle.receipt.proofs.payload.put_moment.Goals as goal

pub put_decimal-p-requires : goal.put_decimal-p-requires
put_decimal-p-requires c = omega (arith, length_moment c.args.number c.args.date, c.requires)

pub put8-requires : goal.put8-requires
put8-requires c =
    omega (arith, length_moment c.args.number c.args.date, c.requires, c.put_decimal-p.ensures.0)

pub overflow_add-p : goal.overflow_add-p
overflow_add-p c =
    omega (arith, length_moment c.args.number c.args.date, c.requires, c.put_decimal-p.ensures.0, c.well_formed)

pub put_date-requires : goal.put_date-requires
put_date-requires c =
    omega (arith, length_moment c.args.number c.args.date, c.requires, c.put_decimal-p.ensures.0)

pub overflow_add-p-2 : goal.overflow_add-p-2
overflow_add-p-2 c =
    omega (arith, length_moment c.args.number c.args.date, c.requires, c.put_decimal-p.ensures.0, c.well_formed)

pub put8-requires-2 : goal.put8-requires-2
put8-requires-2 c =
    omega (arith, length_moment c.args.number c.args.date, c.requires, c.put_decimal-p.ensures.0)

pub overflow_add-result : goal.overflow_add-result
overflow_add-result c =
    omega (arith, length_moment c.args.number c.args.date, c.requires, c.put_decimal-p.ensures.0, c.well_formed)

pub returns : goal.returns
returns c = (
  omega (arith, length_moment c.args.number c.args.date, c.requires, c.put_decimal-p.ensures.0),
  put_moment c.args.number c.args.date _ _ _ c.put_decimal-p.ensures.0 c.requires c.put_decimal-p.ensures.1
      c.put8.ensures c.put_date.ensures c.put8-2.ensures,
)
