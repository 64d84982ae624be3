-- The checked sum: what it says of a number that is its result, and of one that is in range.
use Rattle.std.proofs.Common.{◌≡◌, ℕ, ◌^◌, Bool, true, false, ltb, ℤ, ◌+ℤ◌, sym, refl, ap, ◌∙◌, subst, arith, ltb-true, lt-ltb}
use Rattle.std.specs.Prelude.{Option, Some, None, SomeIff, FitsSigned}
use Rattle.std.specs.Int.{w64}
use Rattle.std.specs.Int.Signed.{mag}
use Rattle.primitives.specs.Counter.{checked_sum}
use Rattle.primitives.proofs.Twos.{fits_64}

module _ (a b : ℤ) where
  pub sum_fits : FitsSigned w64 (a +ℤ b) → checked_sum a b ≡ Some (a +ℤ b)
  unfolding checked_sum
  sum_fits s = rw (fits_64 (a +ℤ b) ∙ lt-ltb (mag (a +ℤ b)) (2 ^ 63) s.sfits)

  sum_over : ltb (mag (a +ℤ b)) (2 ^ 63) ≡ false → checked_sum a b ≡ None
  unfolding checked_sum
  sum_over e = rw (fits_64 (a +ℤ b) ∙ e)

  -- the sum that the standard method gives
  pub sum_is : (r : Option ℤ) → SomeIff r (FitsSigned w64 (a +ℤ b)) (a +ℤ b) → r ≡ checked_sum a b
  sum_is None h = go (ltb (mag (a +ℤ b)) (2 ^ 63)) refl
    where
      go : (t : Bool) → ltb (mag (a +ℤ b)) (2 ^ 63) ≡ t → None ≡ checked_sum a b
      go true q = absurd (h (record { sfits = ltb-true (mag (a +ℤ b)) (2 ^ 63) q }))
      go false q = sym (sum_over q)
  sum_is (Some v) h = ap Some h.1 ∙ sym (sum_fits h.0)

  -- a sum that was returned is the right one, and fits
  pub summed : {v : ℤ} → checked_sum a b ≡ Some v → (v ≡ a +ℤ b) × FitsSigned w64 v
  summed {v} e = go (ltb (mag (a +ℤ b)) (2 ^ 63)) refl
    where
      go : (t : Bool) → ltb (mag (a +ℤ b)) (2 ^ 63) ≡ t → (v ≡ a +ℤ b) × FitsSigned w64 v
      go true q =
          let f : FitsSigned w64 (a +ℤ b) = record { sfits = ltb-true (mag (a +ℤ b)) (2 ^ 63) q } in
          let s = sum_fits f in
          let i : v ≡ a +ℤ b = cc in
          (i, subst (FitsSigned w64) (sym i) f)
      go false q = let s = sum_over q in let z : ◌≡◌ {A = ℕ} 0 1 = cc in absurd (omega arith)
