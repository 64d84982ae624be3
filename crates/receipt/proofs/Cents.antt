-- Amounts: writing them, and reading what was written.
use Rattle.std.proofs.Common.{◌≡◌, refl, sym, ap, ◌∙◌, Bool, true, false, cond, ◌&&◌, List, [], ◌∷◌, ◌++◌, append_assoc, ℕ, zero, suc, ◌+◌, ◌-◌, ◌*◌, ◌/◌, ◌%◌, ◌^◌, ◌<◌, ◌≤◌, arith, leb-true, ltb-true, ltb-false, eq-eqb, ne_eqb, eqb-true, ltb, eqb, ℤ, pos, negsuc, nat_abs, neg_ℤ, ◌-ℤ◌, length, get_or, length-append, w64, SFits, to_z, of_z, to_z-of_z}
use Rattle.std.proofs.lemmas.Bool.{eqb-false}
use Rattle.std.specs.List.{starts_with}
use lib.Signed.{lt_z}
use mir.Facts.{to_z_pos}
use Rattle.primitives.specs.Place.{overwrite}
use Rattle.receipt.specs.Decimal.{fixed_onto, fixed, digits, read_limit, value_from, value_of}
use Rattle.receipt.specs.Exact.{AmountIsShort}
use Rattle.receipt.specs.Amount.{cents, amount, amount_limit, longest_amount, within_limit, within, read_amount}
use Rattle.primitives.proofs.Rows.{true-is-not-false}
use Rattle.primitives.proofs.Over.{then}
use Rattle.receipt.proofs.Digits.{length_fixed, length_digits, width_short, from_digits_lem, from_digit, from_mark, from_other, more_low, first_digits}

-- ---- the sign of a parameter, as a branch tells it

module _ {z : ℤ} (f : SFits w64 z) where
  plain : (z : ℤ) → SFits w64 z → to_z w64 (of_z w64 z) ≡ z
  plain z f = to_z-of_z f

  pub tested : {t : Bool} → lt_z (to_z w64 (of_z w64 z)) (pos 0) ≡ t → lt_z z (pos 0) ≡ t
  tested e = rw (plain z f) at e

  pub same_absolute : {m : ℕ} → m ≡ nat_abs (to_z w64 (of_z w64 z)) → m ≡ nat_abs z
  same_absolute e = rw (plain z f) at e

-- ---- writing

pub length_cents : (m : ℕ) → length (cents m) ≡ length (digits (m / 100)) + 3
unfolding cents
length_cents m = simp (length-append, length_fixed) (omega arith)

pub put_cents : (m : ℕ) (b : List ℕ) (at p : ℕ) {b₁ b₂ b₃ : List ℕ} → p ≡ at + length (digits (m / 100)) → at + length (cents m) ≤ length b
    → b₁ ≡ overwrite b at (digits (m / 100)) → b₂ ≡ overwrite b₁ p (44 ∷ []) → b₃ ≡ overwrite b₂ (p + 1) (fixed 2 m)
    → b₃ ≡ overwrite b at (cents m)
unfolding cents
put_cents m b at p q room e₁ e₂ e₃ =
    let l = length_cents m in
    then _ _ _ _ _ (then _ _ _ _ _ e₁ e₂ q (omega arith)) e₃ (simp length-append (omega arith)) (simp length-append (omega arith))

pub amount_below : (z : ℤ) {m : ℕ} → lt_z z (pos 0) ≡ true → m ≡ nat_abs z → (45 ∷ []) ++ cents m ≡ amount z
unfolding amount
amount_below (pos n) t e = absurd (omega (arith, ltb-true n 0 t))
amount_below (negsuc n) t e = ap (λ (k : ℕ). (45 ∷ []) ++ cents k) e

pub amount_from : (z : ℤ) {m : ℕ} → lt_z z (pos 0) ≡ false → m ≡ nat_abs z → cents m ≡ amount z
unfolding amount
amount_from (pos n) t e = ap cents e
amount_from (negsuc n) t e = true-is-not-false (sym t)

-- ---- lengths

pub within_most : (z : ℤ) → within_limit z ≡ true → nat_abs z ≤ amount_limit
unfolding within
within_most z e = leb-true (nat_abs z) amount_limit e

cents_short : (m : ℕ) → m ≤ amount_limit → suc (length (cents m)) ≤ longest_amount
cents_short m h = omega (arith, length_cents m, length_digits (m / 100), width_short 8 (m / 100) (omega arith))

pub amount_short : AmountIsShort
unfolding amount
amount_short (pos n) e = omega (arith, cents_short n (within_most (pos n) e))
amount_short (negsuc n) e = omega (arith, cents_short (suc n) (within_most (negsuc n) e))

-- ---- reading

from_cents : (m : ℕ) (rest : List ℕ) → m ≤ amount_limit → value_from 0 (cents m ++ (95 ∷ rest)) ≡ m
unfolding cents fixed fixed_onto
from_cents m rest h =
    ap (value_from 0) (append_assoc (digits (m / 100) ++ (44 ∷ [])) (fixed 2 m) (95 ∷ rest) ∙ append_assoc (digits (m / 100)) (44 ∷ []) (fixed 2 m ++ (95 ∷ rest)))
    ∙ from_digits_lem (m / 100) ((44 ∷ []) ++ (fixed 2 m ++ (95 ∷ rest))) (omega arith)
    ∙ from_other (m / 100) 44 (fixed 2 m ++ (95 ∷ rest)) (λ e. omega arith)
    ∙ ap (λ (k : ℕ). value_from k (fixed 2 m ++ (95 ∷ rest))) (sym (more_low (m / 100) 44 (omega arith)))
    ∙ from_digit (m / 100) (m / 10 % 10) ((48 + m % 10) ∷ 95 ∷ rest) (omega arith) (omega arith)
    ∙ from_digit (m / 100 * 10 + m / 10 % 10) (m % 10) (95 ∷ rest) (omega arith) (omega arith)
    ∙ from_mark _ rest
    ∙ omega arith

first_cents : (m : ℕ) (rest : List ℕ) → get_or (cents m ++ (95 ∷ rest)) 0 0 ≡ 45 → ⊥
unfolding cents
first_cents m rest q =
    first_digits (m / 100) ((44 ∷ []) ++ (fixed 2 m ++ (95 ∷ rest)))
    (ap (λ (l : List ℕ). get_or l 0 0) (sym (append_assoc (digits (m / 100)) (44 ∷ []) (fixed 2 m ++ (95 ∷ rest))) ∙ sym (append_assoc (digits (m / 100) ++ (44 ∷ [])) (fixed 2 m) (95 ∷ rest))) ∙ q)

-- what is spelled is read back, whatever follows its '_'
pub read_amount_lem : (z : ℤ) (rest : List ℕ) → within_limit z ≡ true → read_amount (amount z ++ (95 ∷ rest)) ≡ z
unfolding read_amount amount value_of
read_amount_lem (pos m) rest e =
    rw (ne_eqb (get_or (cents m ++ (95 ∷ rest)) 0 0) 45 (first_cents m rest)) (ap pos (from_cents m rest (within_most (pos m) e)))
read_amount_lem (negsuc n) rest e =
    ap (λ (k : ℕ). neg_ℤ (pos k))
    (from_other 0 45 (cents (suc n) ++ (95 ∷ rest)) (λ q. omega arith)
    ∙ ap (λ (k : ℕ). value_from k (cents (suc n) ++ (95 ∷ rest))) (sym (more_low 0 45 (omega arith)))
    ∙ from_cents (suc n) rest (within_most (negsuc n) e))

-- ---- the contract of the reader

below_zero : (m : ℕ) → pos 0 -ℤ pos m ≡ neg_ℤ (pos m)
below_zero zero = refl
below_zero (suc m) = go (ltb 0 (suc m)) refl
  where
    go : (t : Bool) → ltb 0 (suc m) ≡ t → cond t (negsuc (suc m - 1)) (pos (0 - suc m)) ≡ negsuc m
    go true e = ap negsuc (omega arith)
    go false e = absurd (omega (arith, ltb-false 0 (suc m) e))

negative_fits : (m : ℕ) → m < read_limit → SFits w64 (neg_ℤ (pos m))
negative_fits zero h = record { sfits = omega arith }
negative_fits (suc m) h = record { sfits = omega arith }

begins : (bs : List ℕ) → starts_with eqb bs (45 ∷ []) ≡ eqb (get_or bs 0 0) 45
begins [] = refl
begins (b ∷ bs) = go (eqb 45 b) refl
  where
    go : (t : Bool) → eqb 45 b ≡ t → t && true ≡ eqb b 45
    go true e = sym (eq-eqb b 45 (sym (eqb-true 45 b e)))
    go false e = sym (ne_eqb b 45 (λ q. eqb-false 45 b e (sym q)))

module _ {m : ℕ} (h : m < read_limit) where
  positive : to_z w64 m ≡ pos m
  positive = let l : m < 2 ^ 63 = omega arith in to_z_pos w64 l

  machine : pos 0 -ℤ to_z w64 m ≡ neg_ℤ (pos m)
  machine = ap (λ (z : ℤ). pos 0 -ℤ z) positive ∙ below_zero m

  pub below_fits : SFits w64 (pos 0 -ℤ to_z w64 m)
  below_fits = rw machine (negative_fits m h)

  -- a text of this value that begins with '-', and one that does not
  module _ (bs : List ℕ) (e : m ≡ value_of bs) where
    pub read_below : starts_with eqb bs (45 ∷ []) ≡ true → to_z w64 (of_z w64 (pos 0 -ℤ to_z w64 m)) ≡ read_amount bs
    unfolding read_amount
    read_below q = rw (machine, sym (begins bs) ∙ q, ← e) (to_z-of_z (negative_fits m h))

    pub read_from : starts_with eqb bs (45 ∷ []) ≡ false → to_z w64 m ≡ read_amount bs
    unfolding read_amount
    read_from q = rw (sym (begins bs) ∙ q, ← e) positive
