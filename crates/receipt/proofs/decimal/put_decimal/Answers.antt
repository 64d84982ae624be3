-- `decimal::put_decimal` meets its contract.
use Rattle.std.proofs.Common.{ℕ, ◌+◌, ap, arith}
use Rattle.receipt.proofs.Digits.{counted, put_digits}
use Rattle.receipt.proofs.decimal.put_decimal.Goals as goal

pub put_fixed-requires : goal.put_fixed-requires
put_fixed-requires c =
    omega (arith, counted c.args.n c.width-w.result c.width-w.ensures, c.requires)

pub overflow_add-result : goal.overflow_add-result
overflow_add-result c =
    omega (arith, counted c.args.n c.width-w.result c.width-w.ensures, c.requires, c.well_formed)

pub returns : goal.returns
returns c = (ap (λ (k : ℕ). c.args.at + k) (counted _ _ c.width-w.ensures), put_digits _ _ c.width-w.ensures _ _ c.put_fixed.ensures)
