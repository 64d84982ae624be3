-- `details::counter_after` meets its contract.
use Rattle.std.proofs.Common.{◌≡◌, ◌∙◌, true, sym, ap, not, rules, w64, FitsSigned}
use Rattle.primitives.proofs.Questions.{yes, no}
use Rattle.receipt.specs.Details.{amounts_good}
use Rattle.receipt.proofs.Counting.{refused_beyond, refused_over, refused_fit, accepted_fit}
use Rattle.receipt.proofs.details.counter_after.Goals as goal

pub returns-then-not-amounts_good : goal.returns-then-not-amounts_good
returns-then-not-amounts_good c = refused_beyond _ _ _ (no c.amounts_good.ensures (ap not c.if-not-amounts_good.true))

pub returns-in-Some : goal.returns-in-Some
returns-in-Some c =
    let good : amounts_good c.args.d.amounts ≡ true = yes c.amounts_good.ensures (ap not c.if-not-amounts_good.false) in
    let f : FitsSigned w64 c.counted.result = search rules in
    accepted_fit _ _ _ c.ranges.counter good f c.counted.ensures c.in-Some.ensures (sym c.counter_fits.ensures ∙ c.if-counter_fits.true)

pub returns-in_default : goal.returns-in_default
returns-in_default c =
    let good : amounts_good c.args.d.amounts ≡ true = yes c.amounts_good.ensures (ap not c.if-not-amounts_good.false) in
    let f : FitsSigned w64 c.counted.result = search rules in
    refused_fit _ _ _ c.ranges.counter good f c.counted.ensures c.in-Some.ensures (sym c.counter_fits.ensures ∙ c.if-counter_fits.false)

pub returns-in_default-2 : goal.returns-in_default-2
returns-in_default-2 c =
    let good : amounts_good c.args.d.amounts ≡ true = yes c.amounts_good.ensures (ap not c.if-not-amounts_good.false) in
    let f : FitsSigned w64 c.counted.result = search rules in
    refused_over _ _ _ c.ranges.counter good f c.counted.ensures c.in_default.ensures
