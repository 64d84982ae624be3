-- Laws of signed numbers of 64 bits, in a form that omega reads.
use Rattle.std.proofs.Common.{◌≡◌, ℕ, suc, ◌-◌, ◌^◌, ◌<◌, Bool, true, false, T, ℤ, pos, negsuc, nat_abs, sym, refl, ap, ◌∙◌, subst, arith, to_z-of_z, w64, Fits, SFits, to_z, of_z, ltb-true}
use lib.Signed.{mag, lt_z, non_neg}
use Rattle.std.proofs.Math.Facts.{to_z_pos, to_z-neg}

-- ---- the machine reads a number back from its 64 bits

abbrev back : ℤ → ℤ
back z = to_z w64 (of_z w64 z)

-- the same bits, the same number
pub same_bits : (x y : ℤ) → SFits w64 x → SFits w64 y → of_z w64 x ≡ of_z w64 y → x ≡ y
same_bits x y f g e = sym (to_z-of_z f) ∙ ap (to_z w64) e ∙ to_z-of_z g

-- ---- a branch's test of two numbers

-- the test  x < 0
pub tested_neg : {x : ℤ} {t : Bool} → SFits w64 x → lt_z (to_z w64 (of_z w64 x)) (pos 0) ≡ t → lt_z x (pos 0) ≡ t
tested_neg f e = sym (λ i. lt_z (to_z-of_z f i) (pos 0)) ∙ e

-- ---- the magnitude, and the bits

-- -1 - z: every bit the other way round
abbrev pub comp_z : ℤ → ℤ
comp_z (pos n) = negsuc n
comp_z (negsuc n) = pos n

pub not_is : (z : ℤ) → SFits w64 z → to_z w64 ((2 ^ 64 - 1) - of_z w64 z) ≡ comp_z z
not_is (pos n) f =
    let h : n < 2 ^ 63 = f.sfits in
    let e : (2 ^ 64 - 1) - n ≡ 2 ^ 64 - suc n = omega arith in
    ap (to_z w64) e ∙ to_z-neg w64 n h
not_is (negsuc n) f =
    let h : n < 2 ^ 63 = f.sfits in
    let e : (2 ^ 64 - 1) - (2 ^ 64 - suc n) ≡ n = omega arith in
    ap (to_z w64) e ∙ to_z_pos w64 h

-- a number may be cast to u64
abbrev Cast : ℤ → Type 0
Cast z = T (non_neg z) × Fits w64 (nat_abs z)

neg_castable : (z : ℤ) → SFits w64 z → lt_z z (pos 0) ≡ true → Cast (comp_z z)
neg_castable (pos n) f e = absurd (omega (arith, ltb-true n 0 e))
neg_castable (negsuc n) f e = let h : n < 2 ^ 63 = f.sfits in (tt, record { fits = omega arith })

neg_nat_abs : (z : ℤ) → lt_z z (pos 0) ≡ true → nat_abs (comp_z z) ≡ mag z
neg_nat_abs (pos n) e = absurd (omega (arith, ltb-true n 0 e))
neg_nat_abs (negsuc n) e = refl

pos_castable : (z : ℤ) → SFits w64 z → lt_z z (pos 0) ≡ false → Cast z
pos_castable (pos n) f e = let h : n < 2 ^ 63 = f.sfits in (tt, record { fits = omega arith })
pos_castable (negsuc n) f e = absurd (subst T e tt)

pub abs_pos : (z : ℤ) → lt_z z (pos 0) ≡ false → mag z ≡ nat_abs z
abs_pos (pos n) e = refl
abs_pos (negsuc n) e = absurd (subst T e tt)

module _ {z : ℤ} (f : SFits w64 z) where
  -- what a call of `folded` gives
  pub same_mag : {m : ℕ} → m ≡ mag (to_z w64 (of_z w64 z)) → m ≡ mag z
  same_mag e = e ∙ ap mag (to_z-of_z f)

  -- of a negative number: its complement is cast to u64, and the magnitude's complement is its bits
  module _ (e : lt_z (to_z w64 (of_z w64 z)) (pos 0) ≡ true) where
    pub neg_cast : T (non_neg (to_z w64 ((2 ^ 64 - 1) - of_z w64 z))) × Fits w64 (nat_abs (to_z w64 ((2 ^ 64 - 1) - of_z w64 z)))
    neg_cast = subst Cast (sym (not_is z f)) (neg_castable z f (tested_neg f e))

    pub neg_mag : nat_abs (to_z w64 ((2 ^ 64 - 1) - of_z w64 z)) ≡ mag z
    neg_mag = ap nat_abs (not_is z f) ∙ neg_nat_abs z (tested_neg f e)

  module _ (e : lt_z (to_z w64 (of_z w64 z)) (pos 0) ≡ false) where
    pub pos_cast : T (non_neg (to_z w64 (of_z w64 z))) × Fits w64 (nat_abs (to_z w64 (of_z w64 z)))
    pos_cast = subst Cast (sym (to_z-of_z f)) (pos_castable z f (tested_neg f e))

    pub pos_mag : nat_abs (to_z w64 (of_z w64 z)) ≡ mag z
    pos_mag = ap nat_abs (to_z-of_z f) ∙ sym (abs_pos z (tested_neg f e))
