-- The sign and the absolute value, or the absolute value alone.
use Rattle.std.proofs.Common.{◌≡◌, true, false, [], ◌∷◌, refl, sym, ap, ◌∙◌, subst, arith}
use Rattle.std.specs.Prelude.{ℤ, pos, negsuc, decimal}
use Rattle.std.specs.Fmt.{signed_decimal}
use Rattle.std.specs.Io.KnownBytes.{Appends}
use Rattle.std.proofs.lemmas.Int.{to_z-of_z}
use lib.IntN.{nat_abs}
use lib.Signed.{lt_z}
use mir.Syntax.{w64}
use Rattle.printing.specs.Line.{AppendsPart}
use Rattle.printing.proofs.Parts.{part_of_second, on_err_also}
use Rattle.printing.proofs.cents.Goals.{then-z-lt0+in_ok-text, else-z-lt0}
use Rattle.printing.proofs.cents.Goals as goal

with_sign : (z : ℤ) → lt_z z (pos 0) ≡ true → 45 ∷ decimal (nat_abs z) ≡ signed_decimal z
with_sign (pos n) h = absurd (grind arith)
with_sign (negsuc n) h = refl

without_sign : (z : ℤ) → lt_z z (pos 0) ≡ false → decimal (nat_abs z) ≡ signed_decimal z
without_sign (pos n) h = refl
without_sign (negsuc n) h = absurd (grind arith)

pub returns-clause-err : goal.returns-clause-err
returns-clause-err g c =
    let old = g.W.Write.contents c.args.out.now in
    let new = g.W.Write.contents c.number.new.out in
    let value = c.unsigned_abs.ensures.value in
    let same = ap signed_decimal (to_z-of_z w64 c.args.z c.ranges.z) in
    elim c.if-z-lt0.branch [
      | then-z-lt0+in_ok-text w ↦
          (let sign = subst (λ x. Appends old (g.W.Write.contents x) (45 ∷ [])) (sym w.out-is) w.in_ok-text.ensures.ok in
          let whole = ap (λ k. 45 ∷ decimal k) value ∙ with_sign _ w.if-z-lt0.true ∙ same in
          on_err_also _ (λ p. subst (AppendsPart old new) whole (part_of_second (45 ∷ []) sign p)) c.number.ensures.err)
      | else-z-lt0 w ↦
          (let whole = ap decimal value ∙ without_sign _ w.if-z-lt0.false ∙ same in
          on_err_also _ (λ p. subst (AppendsPart old new) whole (subst (λ x. AppendsPart (g.W.Write.contents x) new (decimal c.unsigned_abs.result)) w.out-is p)) c.number.ensures.err)
    ]
