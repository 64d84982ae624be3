-- What the counter's code computes is what its definitions say: laws for the code's own steps.
use Rattle.std.proofs.Common.{◌≡◌, ℕ, zero, suc, ◌+◌, ◌-◌, ◌^◌, ◌<◌, ◌≤◌, Bool, true, false, refl, ltb, List, ◌++◌, length, drop, replicate, ℤ, pos, negsuc, sym, ap, ◌∙◌, arith, w64, SFits, to_z, of_z}
use Rattle.std.proofs.Math.Nat.{sub-zero, zero-sub, suc-sub-suc}
use lib.Signed.{mag}
use Rattle.std.proofs.Math.Facts.{to_z_pos}
use Rattle.primitives.specs.Place.{overwrite, placed}
use Rattle.primitives.specs.Number.{bytes_of, number_at}
use Rattle.primitives.specs.Counter.{width_good, half, counter_fits, of_twos, counter_bytes, counter_value}
use Rattle.std.specs.Prelude.{None}
use Rattle.primitives.proofs.Over.{placed_room}
use Rattle.primitives.proofs.Numbers.{length_bytes_of, number_there}
use Rattle.primitives.proofs.Zlaws.{not_is}
use Rattle.primitives.proofs.Twos.{width_true, half_twice, half_small, fits_mag, of_lower, of_upper, twos_bits, counted, fits_wide, counter_bytes_is, value_no_width}

-- the test of the magnitude against the half
pub fits_test : (n : ℕ) (z : ℤ) {m h : ℕ} → width_good n ≡ true → m ≡ mag z → h ≡ half n → ltb m h ≡ counter_fits n z
fits_test n z w e k = (λ i. ltb (e i) (k i)) ∙ sym (fits_wide n z w ∙ fits_mag n z)

-- ---- the bytes

drop_replicate : (n m a : ℕ) → drop n (replicate m a) ≡ replicate (m - n) a
drop_replicate zero m a = ap (λ (k : ℕ). replicate k a) (sym (sub-zero m))
drop_replicate (suc n) zero a = ap (λ (k : ℕ). replicate k a) (sym (zero-sub (suc n)))
drop_replicate (suc n) (suc m) a = drop_replicate n m a ∙ ap (λ (k : ℕ). replicate k a) (sym (suc-sub-suc m n))

pub put_counter : (n : ℕ) (z : ℤ) {v : ℕ} {b : List ℕ} → counter_fits n z ≡ true → v ≡ of_z w64 z → b ≡ placed (replicate 8 0) 0 (bytes_of n v) → b ≡ counter_bytes n z
unfolding overwrite
put_counter n z {v} {b} f e q =
    let c = counted n z f in
    let w = width_true n c.width in
    let l : length (bytes_of n v) ≡ n = length_bytes_of n v in
    let k : 0 + length (bytes_of n v) ≡ n = omega arith in
    q
    ∙ placed_room (replicate 8 0) 0 (bytes_of n v) (omega (arith, w.most))
    ∙ ap (λ (m : ℕ). bytes_of n v ++ drop m (replicate 8 0)) k
    ∙ (λ i. (ap (bytes_of n) e ∙ twos_bits n z (omega (arith, w.least)) w.most c.fits) i ++ drop_replicate n 8 0 i)
    ∙ sym (counter_bytes_is n z f)

-- ---- the value

module _ (n v : ℕ) {h : ℕ} (e : h ≡ half n) (w : n ≤ 8) where
  module _ (g : v < h) where
    small : v < 2 ^ 63
    small = omega (arith, half_small n w)

    pub lower_fits : SFits w64 (pos v)
    lower_fits = record { sfits = small }

    pub lower_is : to_z w64 v ≡ of_twos n v
    lower_is = to_z_pos w64 small ∙ sym (of_lower n v (omega arith))

  module _ (p : 0 < n) (g : h ≤ v) (l : v < 256 ^ n) where
    pub upper_some : 1 ≤ h
    upper_some = omega (arith, half_twice n p)

    pub upper_within : v - h ≤ h - 1
    upper_within = omega (arith, half_twice n p)

    pub upper_fits : SFits w64 (pos (h - 1 - (v - h)))
    upper_fits = record { sfits = omega (arith, half_twice n p, half_small n w) }

    pub upper_is : to_z w64 ((2 ^ 64 - 1) - (h - 1 - (v - h))) ≡ of_twos n v
    upper_is =
        let m : h - 1 - (v - h) ≡ 256 ^ n - suc v = omega (arith, half_twice n p) in
        not_is (pos (h - 1 - (v - h))) upper_fits ∙ ap negsuc m ∙ sym (of_upper n v (omega arith) l)

-- under a valid width no byte is missing
pub never_missing : {X : Type 0} (n : ℕ) (b : List ℕ) → width_good n ≡ true → length b ≡ 8 → number_at b 0 n ≡ None → X
never_missing n b e l q =
    let w = width_true n e in
    let t = number_there b 0 n w.most (omega (arith, w.most)) in
    let z : ◌≡◌ {A = ℕ} 0 1 = cc in
    absurd (omega arith)

-- without a number the width is not valid
pub value_none : (n : ℕ) (b : List ℕ) → length b ≡ 8 → number_at b 0 n ≡ None → pos 0 ≡ counter_value n b
value_none n b l q = go (width_good n) refl
  where
    go : (t : Bool) → width_good n ≡ t → pos 0 ≡ counter_value n b
    go true e = never_missing n b e l q
    go false e = sym (value_no_width n b e)
