-- `amounts::put_amounts` meets its contract.
use Rattle.std.proofs.Common.{◌≡◌, rules, arith, length, get_or, pos, w64, FitsSigned, to_z-of_z}
use Rattle.primitives.proofs.Writing.{writing_start, writing_long}
use Rattle.receipt.proofs.Joined.{amounts_fit, amounts_more, amounts_end}
use Rattle.receipt.proofs.amounts.put_amounts.Goals as goal

pub loop-z-init : goal.loop-z-init
loop-z-init c = writing_start _ _ _ c.requires

pub put_amount-end-requires : goal.put_amount-end-requires
put_amount-end-requires c =
    let five : length c.args.a ≡ 5 = search rules in
    let f : FitsSigned w64 (get_or c.args.a c.loop-z.z-index (pos 0)) = search rules in
    let fit = amounts_fit c.args.a c.loop-z.z-index c.loop-z.invariant (omega (arith, c.loop-z-test.true)) in
    rw (to_z-of_z f) (omega arith)

pub put8-requires : goal.put8-requires
put8-requires c =
    let five : length c.args.a ≡ 5 = search rules in
    let f : FitsSigned w64 (get_or c.args.a c.loop-z.z-index (pos 0)) = search rules in
    let fit = amounts_fit c.args.a c.loop-z.z-index c.loop-z.invariant (omega (arith, c.loop-z-test.true)) in
    let e = rw (to_z-of_z f) at c.put_amount-end.ensures.0 in
    omega arith

pub overflow_add-p : goal.overflow_add-p
overflow_add-p c =
    let five : length c.args.a ≡ 5 = search rules in
    let f : FitsSigned w64 (get_or c.args.a c.loop-z.z-index (pos 0)) = search rules in
    let fit = amounts_fit c.args.a c.loop-z.z-index c.loop-z.invariant (omega (arith, c.loop-z-test.true)) in
    let e = rw (to_z-of_z f) at c.put_amount-end.ensures.0 in
    let l = writing_long c.loop-z.invariant in
    omega arith

pub loop-z-preserved : goal.loop-z-preserved
loop-z-preserved c =
    let five : length c.args.a ≡ 5 = search rules in
    let f : FitsSigned w64 (get_or c.args.a c.loop-z.z-index (pos 0)) = search rules in
    amounts_more c.args.a c.loop-z.z-index c.loop-z.invariant (omega (arith, c.loop-z-test.true)) (rw (to_z-of_z f) at c.put_amount-end.ensures.0) (rw (to_z-of_z f) at c.put_amount-end.ensures.1) c.put8.ensures

pub returns : goal.returns
returns c =
    let five : length c.args.a ≡ 5 = search rules in
    amounts_end c.args.a c.loop-z.z-index c.loop-z.invariant (omega (arith, c.loop-z-test.false))
