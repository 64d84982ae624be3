-- `retaking::run_pairs` meets its contract.
use Rattle.std.proofs.Common.{refl, sym, ap, ◌∙◌, not, inl, inr, arith}
use Rattle.std.proofs.lemmas.Result.{err_from_is_err_and}
use Rattle.exports.specs.Shape.{written}
use Rattle.exports.proofs.Objects.{written_opens}
use Rattle.exports.proofs.Passing.{pass_start, pass_end, pass_out, pass_stop, pass_on}
use Rattle.exports.proofs.RunsAlong.{pair_refused, pair_ran, run_written, pairs_end, pairs_refused, pairs_more, pairs_after, pairs_stuck, pairs_unended, pairs_finish}
use Rattle.exports.proofs.retaking.run_pairs.Goals as goal
use Rattle.exports.proofs.retaking.run_pairs.Goals.{then-later+in-Ok, else-later}

pub loop-c-init : goal.loop-c-init
loop-c-init c =
    let g = c.begin_group-c.ensures in
    (g.place, g.group, pass_start written (run_written _ _ _) c.args.text.now g.place _ written_opens g.begun)

pub returns-in_default-receipts_place : goal.returns-in_default-receipts_place
returns-in_default-receipts_place c =
    pairs_finish _ _ _ _ c.loop-c.invariant.1 (λ ws r q. absurd (pass_stop written c.loop-c.invariant.2 c.in-Item.is c.in_default-receipts_place.ensures.none ws r q))

pub returns-in-Err : goal.returns-in-Err
returns-in-Err c =
    pairs_finish _ _ _ _ c.loop-c.invariant.1
    (pass_out written c.loop-c.invariant.2 c.in-Item.is _
    (pairs_refused _ _ _ c.in-Some.ensures (pair_refused _ _ _ _ (ap not c.if-later.true) c.in-Err.ensures _ refl)))

pub returns-in_err-ran : goal.returns-in_err-ran
returns-in_err-ran c es s =
    let p = err_from_is_err_and c.from_residual.result c.from_residual.ensures.1 in
    rw (p.1, p.2)
    (pairs_finish _ _ _ _ c.loop-c.invariant.1
    (pass_out written c.loop-c.invariant.2 c.in-Item.is _ (pairs_refused _ _ _ c.in-Some.ensures (pair_ran _ (elim c.if-later.branch [ then-later+in-Ok w ↦ inl (ap not w.if-later.true, _, w.in-Ok.ensures, refl, w.state-is) | else-later w ↦ inr (ap not w.if-later.false, w.state-is) ]) c.in_err-ran.ensures))) es s)

pub returns-in_default-next : goal.returns-in_default-next
returns-in_default-next c =
    let stuck = pairs_stuck _ _ _ c.in-Some.ensures (pair_ran _ (elim c.if-later.branch [ then-later+in-Ok w ↦ inl (ap not w.if-later.true, _, w.in-Ok.ensures, refl, w.state-is) | else-later w ↦ inr (ap not w.if-later.false, w.state-is) ]) c.in_ok-ran.ensures) c.in_default-next.is in
    pairs_finish _ _ _ _ c.loop-c.invariant.1 (λ ws r q. absurd (pass_stop written c.loop-c.invariant.2 c.in-Item.is stuck ws r q))

pub returns-in_default-element_end : goal.returns-in_default-element_end
returns-in_default-element_end c =
    let stuck = pairs_unended _ _ _ c.in-Some.ensures (pair_ran _ (elim c.if-later.branch [ then-later+in-Ok w ↦ inl (ap not w.if-later.true, _, w.in-Ok.ensures, refl, w.state-is) | else-later w ↦ inr (ap not w.if-later.false, w.state-is) ]) c.in_ok-ran.ensures) c.in-Some-next.is c.in_default-element_end.ensures in
    pairs_finish _ _ _ _ c.loop-c.invariant.1 (λ ws r q. absurd (pass_stop written c.loop-c.invariant.2 c.in-Item.is stuck ws r q))

pub loop-c-preserved : goal.loop-c-preserved
loop-c-preserved c =
    let ran = (pair_ran _ (elim c.if-later.branch [ then-later+in-Ok w ↦ inl (ap not w.if-later.true, _, w.in-Ok.ensures, refl, w.state-is) | else-later w ↦ inr (ap not w.if-later.false, w.state-is) ]) c.in_ok-ran.ensures) in
    let i = rw c.in-Some-next.is at c.in_ok-ran.ensures.inside in (
      c.loop-c.invariant.0,
      c.loop-c.invariant.1,
      pass_on written c.loop-c.invariant.2 c.in-Item.is (omega (arith, c.in-Some.ensures.onward, i.0, c.in-Some-element_end.ensures.onward)) _ c.follow-c.ensures
          (run_written _ _ _) (pairs_more _ _ _ c.in-Some.ensures ran) (pairs_after _ _ _ c.in-Some.ensures ran c.in-Some-next.is c.in-Some-element_end.ensures),
    )

pub returns : goal.returns
returns c = pairs_finish _ _ _ _ c.loop-c.invariant.1 (λ ws r q. sym (pairs_end _ _ _) ∙ (pass_end written c.loop-c.invariant.2 c.in_default.not-Item ws r q).0)
