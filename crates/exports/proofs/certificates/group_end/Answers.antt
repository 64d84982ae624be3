-- `certificates::group_end` meets its contract.
use Rattle.std.proofs.Common.{◌≡◌, ◌≤◌, ◌<◌, length, get_or, sym, ◌∙◌, arith, rules}
use Rattle.exports.proofs.Sized.{texts_start, texts_more, group_none, group_zero, group_cut, group_whole}
use Rattle.exports.proofs.certificates.group_end.Goals as goal

pub returns-in_err-count : goal.returns-in_err-count
returns-in_err-count c = let h : length c.args.s.now ≤ c.args.at = search rules in rw c.from_residual.ensures (group_none _ _ h)

pub returns-then-count-eq0 : goal.returns-then-count-eq0
returns-then-count-eq0 c =
    let e : c.in_ok-count.field-0.now ≡ get_or c.args.s.now c.args.at 0 = search rules in
    let h : c.args.at < length c.args.s.now = search rules in
    group_zero _ _ h (sym e ∙ c.if-count-eq0.true)

pub loop-init : goal.loop-init
loop-init c = texts_start _ _ _ (search rules)

pub returns-in_err-p : goal.returns-in_err-p
returns-in_err-p c =
    let e : c.in_ok-count.field-0.now ≡ get_or c.args.s.now c.args.at 0 = search rules in
    let h : c.args.at < length c.args.s.now = search rules in
    rw c.from_residual-in_err-p.ensures (group_cut _ _ h e c.loop.invariant c.loop-test.true c.in_err-p.ensures)

pub loop-preserved : goal.loop-preserved
loop-preserved c = texts_more _ _ _ c.loop.invariant c.loop-test.true c.in_ok-p.ensures

pub returns : goal.returns
returns c =
    let e : c.in_ok-count.field-0.now ≡ get_or c.args.s.now c.args.at 0 = search rules in
    let h : c.args.at < length c.args.s.now = search rules in
    group_whole _ _ h e c.loop.invariant (omega arith) (let b = (c.type_inv.s c.args.at).fits in omega (arith, b, e)) c.loop-test.false
