-- `amount::put_cents` meets its contract.
use Rattle.std.proofs.Common.{arith}
use Rattle.receipt.proofs.Cents.{length_cents, put_cents}
use Rattle.receipt.proofs.amount.put_cents.Goals as goal

pub put_decimal-p-requires : goal.put_decimal-p-requires
put_decimal-p-requires c = omega (arith, length_cents c.args.m, c.requires)

pub put8-requires : goal.put8-requires
put8-requires c =
    omega (arith, length_cents c.args.m, c.requires, c.put_decimal-p.ensures.0)

pub overflow_add-p : goal.overflow_add-p
overflow_add-p c =
    omega (arith, length_cents c.args.m, c.requires, c.put_decimal-p.ensures.0, c.well_formed)

pub put_fixed-requires : goal.put_fixed-requires
put_fixed-requires c =
    omega (arith, length_cents c.args.m, c.requires, c.put_decimal-p.ensures.0)

pub overflow_add-result : goal.overflow_add-result
overflow_add-result c =
    omega (arith, length_cents c.args.m, c.requires, c.put_decimal-p.ensures.0, c.well_formed)

pub returns : goal.returns
returns c =
    (omega (arith, length_cents c.args.m, c.requires, c.put_decimal-p.ensures.0), put_cents c.args.m _ _ _ c.put_decimal-p.ensures.0 c.requires c.put_decimal-p.ensures.1 c.put8.ensures c.put_fixed.ensures)
