-- `amount::put_amount` meets its contract.
use Rattle.std.proofs.Common.{ℕ, List, ◌+◌, length, refl, ap, ◌∙◌, arith}
use Rattle.primitives.specs.Place.{overwrite}
use Rattle.primitives.proofs.Over.{then}
use Rattle.receipt.proofs.Cents.{tested, same_absolute, amount_below, amount_from}
use Rattle.receipt.proofs.amount.put_amount.Goals as goal

pub put8-requires : goal.put8-requires
put8-requires c = omega (arith, ap length (amount_below c.args.z (tested c.ranges.z c.if-z-lt0.true) refl), c.requires)

pub put_cents-requires : goal.put_cents-requires
put_cents-requires c =
    let e = amount_below c.args.z (tested c.ranges.z c.if-z-lt0.true) (same_absolute c.ranges.z c.unsigned_abs.ensures.value) in
    omega (arith, ap length e, c.requires)

pub returns-then-z-lt0 : goal.returns-then-z-lt0
returns-then-z-lt0 c =
    let e = amount_below c.args.z (tested c.ranges.z c.if-z-lt0.true) (same_absolute c.ranges.z c.unsigned_abs.ensures.value) in (
      omega (arith, ap length e, c.put_cents.ensures.0),
      then _ _ _ _ _ c.put8.ensures c.put_cents.ensures.1 refl (omega (arith, ap length e, c.requires)) ∙ ap (overwrite _ c.args.at) e,
    )

pub put_cents-requires-else-z-lt0 : goal.put_cents-requires-else-z-lt0
put_cents-requires-else-z-lt0 c =
    let e = amount_from c.args.z (tested c.ranges.z c.if-z-lt0.false) (same_absolute c.ranges.z c.unsigned_abs-else-z-lt0.ensures.value) in
    omega (arith, ap length e, c.requires)

pub returns-else-z-lt0 : goal.returns-else-z-lt0
returns-else-z-lt0 c =
    let e = amount_from c.args.z (tested c.ranges.z c.if-z-lt0.false) (same_absolute c.ranges.z c.unsigned_abs-else-z-lt0.ensures.value) in
    (c.put_cents-else-z-lt0.ensures.0 ∙ ap (λ (l : List ℕ). c.args.at + length l) e, c.put_cents-else-z-lt0.ensures.1 ∙ ap (overwrite _ c.args.at) e)
