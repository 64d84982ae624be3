-- Three writes in a row.
use Rattle.std.proofs.Common.{◌≡◌, length, ap, arith, rules}
use Rattle.receipt.proofs.Texts.{beginning_long}
use Rattle.receipt.proofs.Written.{register_long, put_register}
use Rattle.receipt.proofs.payload.put_register.Goals as goal

pub put-requires : goal.put-requires
put-requires c =
    let three : length c.args.s.csp ≡ 3 = search rules in
    omega (arith, c.requires, register_long c.args.s three, ap length c.beginning.ensures, beginning_long)

pub put_field-requires : goal.put_field-requires
put_field-requires c =
    let three : length c.args.s.csp ≡ 3 = search rules in
    omega (arith, c.requires, register_long c.args.s three, three)

pub put_field-requires-2 : goal.put_field-requires-2
put_field-requires-2 c =
    let three : length c.args.s.csp ≡ 3 = search rules in
    omega (arith, c.requires, register_long c.args.s three, ap length c.text-id.ensures)

pub overflow_add-result-2 : goal.overflow_add-result-2
overflow_add-result-2 c =
    let three : length c.args.s.csp ≡ 3 = search rules in
    omega (arith, c.requires, register_long c.args.s three, ap length c.text-id.ensures, c.well_formed)

pub returns : goal.returns
returns c =
    let three : length c.args.s.csp ≡ 3 = search rules in (
      omega (arith, register_long c.args.s three, ap length c.text-id.ensures),
      put_register c.args.s three _ _ c.text-id.ensures c.requires c.beginning.ensures c.put.ensures c.put_field.ensures c.put_field-2.ensures,
    )
