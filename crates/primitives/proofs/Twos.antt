-- Laws of the counter's bytes: two's complement in n bytes, over every n.
use Rattle.std.proofs.lemmas.Bool.{lt-leb}
use Rattle.std.proofs.Common.{◌≡◌, ℕ, zero, suc, ◌+◌, ◌-◌, ◌*◌, ◌%◌, ◌^◌, ◌<◌, ◌≤◌, Bool, true, false, cond, ◌&&◌, T, ltb, leb, List, ◌++◌, length, take, drop, replicate, ℤ, pos, negsuc, ◌-ℤ◌, neg_ℤ, sym, refl, ap, ◌∙◌, subst, mod-eq_of_lt, suc-mul, pow-suc, zero-mul, arith, lit<, length-append, take-append-drop, length-take-le, take_at, pow-add, w64, SFits, of_z, ltb-false, ltb-true, le-ltb, lt-ltb, le-leb, leb-false, leb-true}
use Rattle.std.proofs.Math.Bool.{and-true}
use Rattle.std.proofs.Math.Nat.{pow-le-pow_right}
use Rattle.std.proofs.Math.ListN.{length-replicate}
use lib.Signed.{mag, le_z, lt_z}
use Rattle.primitives.specs.Bytes.{AllBytes}
use Rattle.primitives.specs.Number.{bytes_of, value_of}
use Rattle.primitives.specs.Counter.{width_good, half, fits_in, counter_fits, twos, of_twos, counter_bytes, counter_value}
use Rattle.primitives.proofs.ByteLists.{bytes_append, bytes_take, bytes_replicate}
use Rattle.primitives.proofs.Numbers.{length_bytes_of, bytes_bytes_of, bytes_of_low, value_lt, value_bytes_of, bytes_of_value}

-- ---- widths

pub record Width (n : ℕ) : Type 0 where
  pub least : 5 ≤ n
  pub most : n ≤ 8

pub width_true : (n : ℕ) → width_good n ≡ true → Width n
unfolding width_good
width_true n e = go (leb 5 n) refl e
  where
    go : (t : Bool) → leb 5 n ≡ t → t && leb n 8 ≡ true → Width n
    go true p q = record { least = leb-true 5 n p; most = leb-true n 8 q }
    go false p q = absurd (subst T (sym q) tt)

pub width_low : (n : ℕ) → n < 5 → width_good n ≡ false
unfolding width_good
width_low n h = rw (lt-leb 5 n h)

pub width_test : (n : ℕ) → 5 ≤ n → leb n 8 ≡ width_good n
unfolding width_good
width_test n h = rw (le-leb 5 n h)

-- ---- halves

pub half_twice : (n : ℕ) → 0 < n → half n * 2 ≡ 256 ^ n
unfolding half
half_twice zero h = absurd (omega arith)
half_twice (suc n) h = omega (arith, pow-suc 256 n)

pub half_small : (n : ℕ) → n ≤ 8 → half n ≤ 2 ^ 63
unfolding half
half_small n h = omega (arith, pow-le-pow_right {n = 256} (lit< tt) h)

two_eight : (m : ℕ) → 2 ^ (8 * m) ≡ 256 ^ m
two_eight zero = refl
two_eight (suc m) =
    let e : 8 * suc m ≡ 8 * m + 8 = omega arith in
    ap (λ (k : ℕ). 2 ^ k) e ∙ pow-add 2 (8 * m) 8 ∙ ap (λ (k : ℕ). k * 256) (two_eight m) ∙ sym (pow-suc 256 m)

-- a shift of 1, as the code makes it
pub half_shift : (n : ℕ) → 0 < n → n ≤ 8 → 1 * 2 ^ (8 * n - 1) % 2 ^ 64 ≡ half n
unfolding half
half_shift zero p h = absurd (omega arith)
half_shift (suc m) p h =
    let e : 8 * suc m - 1 ≡ 8 * m + 7 = omega arith in
    let l : m ≤ 7 = omega arith in
    let q : 2 ^ (8 * suc m - 1) ≡ 256 ^ m * 128 = ap (λ (k : ℕ). 2 ^ k) e ∙ pow-add 2 (8 * m) 7 ∙ ap (λ (k : ℕ). k * 128) (two_eight m) in
    ap (λ (k : ℕ). 1 * k % 2 ^ 64) q
    ∙ mod-eq_of_lt {n = 1 * (256 ^ m * 128)} {m = 2 ^ 64} (omega (arith, pow-le-pow_right {n = 256} (lit< tt) l))
    ∙ omega (arith, pow-suc 256 m)

-- ---- the range of n bytes, by the magnitude

range : (h : ℕ) (z : ℤ) → le_z (neg_ℤ (pos h)) z && lt_z z (pos h) ≡ ltb (mag z) h
range zero (pos k) = rw (le-leb 0 k (omega arith))
range zero (negsuc k) = sym (le-ltb k 0 (omega arith))
range (suc h) (pos k) = refl
range (suc h) (negsuc k) = and-true (leb k h) ∙ go (leb k h) refl
  where
    go : (t : Bool) → leb k h ≡ t → t ≡ ltb k (suc h)
    go true e = sym (lt-ltb k (suc h) (omega (arith, leb-true k h e)))
    go false e = sym (le-ltb k (suc h) (omega (arith, leb-false k h e)))

pub fits_mag : (n : ℕ) (z : ℤ) → fits_in n z ≡ ltb (mag z) (half n)
unfolding fits_in
fits_mag n z = range (half n) z

pub fits_below : (n : ℕ) (z : ℤ) → fits_in n z ≡ true → mag z < half n
fits_below n z f = ltb-true (mag z) (half n) (sym (fits_mag n z) ∙ f)

pub below_fits : (n : ℕ) (z : ℤ) → mag z < half n → fits_in n z ≡ true
below_fits n z h = fits_mag n z ∙ lt-ltb (mag z) (half n) h

-- eight bytes are the range of the code's numbers
pub fits_64 : (z : ℤ) → fits_in 8 z ≡ ltb (mag z) (2 ^ 63)
unfolding half
fits_64 z = fits_mag 8 z

-- ---- two's complement and back

minus : (v m : ℕ) → v < m → pos v -ℤ pos m ≡ negsuc (m - suc v)
minus v zero h = absurd (omega arith)
minus v (suc m) h = go (ltb v (suc m)) refl
  where
    go : (t : Bool) → ltb v (suc m) ≡ t → cond t (negsuc (suc m - suc v)) (pos (v - suc m)) ≡ negsuc (suc m - suc v)
    go true e = refl
    go false e = absurd (omega (arith, ltb-false v (suc m) e))

pub of_lower : (n v : ℕ) → v < half n → of_twos n v ≡ pos v
unfolding of_twos
of_lower n v h = rw (lt-ltb v (half n) h)

pub of_upper : (n v : ℕ) → half n ≤ v → v < 256 ^ n → of_twos n v ≡ negsuc (256 ^ n - suc v)
unfolding of_twos
of_upper n v h l = rw (le-ltb v (half n) h) (minus v (256 ^ n) l)

module _ (n : ℕ) (p : 0 < n) where
  pub twos_lt : (z : ℤ) → fits_in n z ≡ true → twos n z < 256 ^ n
  unfolding twos
  twos_lt (pos k) f = omega (arith, fits_below n (pos k) f, half_twice n p)
  twos_lt (negsuc k) f = omega (arith, fits_below n (negsuc k) f, half_twice n p)

  pub of_twos_lem : (z : ℤ) → fits_in n z ≡ true → of_twos n (twos n z) ≡ z
  unfolding twos
  of_twos_lem (pos k) f = of_lower n k (fits_below n (pos k) f)
  of_twos_lem (negsuc k) f =
      let h = fits_below n (negsuc k) f in
      of_upper n (256 ^ n - suc k) (omega (arith, half_twice n p)) (omega (arith, half_twice n p))
      ∙ ap negsuc (omega (arith, half_twice n p))

  module _ (v : ℕ) (l : v < 256 ^ n) where
    both : (fits_in n (of_twos n v) ≡ true) × (twos n (of_twos n v) ≡ v)
    unfolding twos
    both = go (ltb v (half n)) refl
      where
        go : (t : Bool) → ltb v (half n) ≡ t → (fits_in n (of_twos n v) ≡ true) × (twos n (of_twos n v) ≡ v)
        go true e =
            let h = ltb-true v (half n) e in
            rw (of_lower n v h) (below_fits n (pos v) h, refl)
        go false e =
            let h = ltb-false v (half n) e in
            rw (of_upper n v h l) (below_fits n (negsuc (256 ^ n - suc v)) (omega (arith, half_twice n p)), omega arith)

    pub fits_of : fits_in n (of_twos n v) ≡ true
    fits_of = both.0

    pub twos_of : twos n (of_twos n v) ≡ v
    twos_of = both.1

-- the n low bytes of a number's 64 bits are its n bytes
neg_low : (n k : ℕ) → n ≤ 8 → k < 256 ^ n → bytes_of n (2 ^ 64 - suc k) ≡ bytes_of n (256 ^ n - suc k)
neg_low n k h l =
    let e : 8 - n + n ≡ 8 = omega arith in
    go (256 ^ (8 - n)) (sym (pow-add 256 (8 - n) n) ∙ ap (λ (m : ℕ). 256 ^ m) e)
  where
    go : (q : ℕ) → q * 256 ^ n ≡ 2 ^ 64 → bytes_of n (2 ^ 64 - suc k) ≡ bytes_of n (256 ^ n - suc k)
    go zero e = absurd (omega (arith, e, zero-mul (256 ^ n)))
    go (suc q) e =
        let s : 2 ^ 64 - suc k ≡ q * 256 ^ n + (256 ^ n - suc k) = omega (arith, e, suc-mul q (256 ^ n)) in
        ap (bytes_of n) s ∙ bytes_of_low n q (256 ^ n - suc k)

pub twos_bits : (n : ℕ) (z : ℤ) → 0 < n → n ≤ 8 → fits_in n z ≡ true → bytes_of n (of_z w64 z) ≡ bytes_of n (twos n z)
unfolding twos
twos_bits n (pos k) p h f = refl
twos_bits n (negsuc k) p h f = neg_low n k h (omega (arith, fits_below n (negsuc k) f, half_twice n p))

-- ---- the counter's bytes

pub record Counted (n : ℕ) (z : ℤ) : Type 0 where
  pub width : width_good n ≡ true
  pub fits : fits_in n z ≡ true

pub counted : (n : ℕ) (z : ℤ) → counter_fits n z ≡ true → Counted n z
unfolding counter_fits
counted n z e = go (width_good n) refl e
  where
    go : (t : Bool) → width_good n ≡ t → t && fits_in n z ≡ true → Counted n z
    go true p q = record { width = p; fits = q }
    go false p q = absurd (subst T (sym q) tt)

-- a counter is a number of 64 bits
pub counted_64 : (n : ℕ) (z : ℤ) → counter_fits n z ≡ true → SFits w64 z
counted_64 n z e =
    let c = counted n z e in
    record { sfits = omega (arith, fits_below n z c.fits, half_small n (width_true n c.width).most) }

module _ (n : ℕ) (z : ℤ) where
  pub fits_wide : width_good n ≡ true → counter_fits n z ≡ fits_in n z
  unfolding counter_fits
  fits_wide e = rw e

  pub no_width : width_good n ≡ false → counter_fits n z ≡ false
  unfolding counter_fits
  no_width e = rw e

  pub counter_bytes_none : counter_fits n z ≡ false → counter_bytes n z ≡ replicate 8 0
  unfolding counter_bytes
  counter_bytes_none e = rw e

  pub counter_bytes_is : counter_fits n z ≡ true → counter_bytes n z ≡ bytes_of n (twos n z) ++ replicate (8 - n) 0
  unfolding counter_bytes
  counter_bytes_is e = rw e

  pub take_counter : counter_fits n z ≡ true → take n (counter_bytes n z) ≡ bytes_of n (twos n z)
  take_counter e = ap (take n) (counter_bytes_is e) ∙ take_at (bytes_of n (twos n z)) (replicate (8 - n) 0) n (length_bytes_of n (twos n z))

  pub length_counter_bytes : length (counter_bytes n z) ≡ 8
  length_counter_bytes = go (counter_fits n z) refl
    where
      go : (t : Bool) → counter_fits n z ≡ t → length (counter_bytes n z) ≡ 8
      go true e =
          let w = width_true n (counted n z e).width in
          ap length (counter_bytes_is e) ∙ length-append (bytes_of n (twos n z)) (replicate (8 - n) 0)
          ∙ omega (arith, length_bytes_of n (twos n z), length-replicate {A = ℕ} (8 - n) 0, w.most)
      go false e = ap length (counter_bytes_none e)

  pub bytes_counter_bytes : AllBytes (counter_bytes n z)
  bytes_counter_bytes = go (counter_fits n z) refl
    where
      go : (t : Bool) → counter_fits n z ≡ t → AllBytes (counter_bytes n z)
      go true e = subst AllBytes (sym (counter_bytes_is e)) (bytes_append (bytes_bytes_of n (twos n z)) (bytes_replicate (8 - n) (lit< tt)))
      go false e = subst AllBytes (sym (counter_bytes_none e)) (bytes_replicate 8 (lit< tt))

pub value_wide : (n : ℕ) (b : List ℕ) → width_good n ≡ true → counter_value n b ≡ of_twos n (value_of (take n b))
unfolding counter_value
value_wide n b e = rw e

pub value_no_width : (n : ℕ) (b : List ℕ) → width_good n ≡ false → counter_value n b ≡ pos 0
unfolding counter_value
value_no_width n b e = rw e

-- there and back
pub counter_back : (n : ℕ) (z : ℤ) → counter_fits n z ≡ true → counter_value n (counter_bytes n z) ≡ z
counter_back n z e =
    let c = counted n z e in
    let p : 0 < n = omega (arith, (width_true n c.width).least) in
    value_wide n (counter_bytes n z) c.width
    ∙ ap (λ (l : List ℕ). of_twos n (value_of l)) (take_counter n z e)
    ∙ ap (of_twos n) (value_bytes_of n (twos n z) (twos_lt n p z c.fits))
    ∙ of_twos_lem n p z c.fits

-- back and there
module _ (n : ℕ) {b : List ℕ} (e : width_good n ≡ true) (p : AllBytes b) (l : length b ≡ 8) where
  some : 0 < n
  some = omega (arith, (width_true n e).least)

  pub length_first : length (take n b) ≡ n
  length_first = length-take-le n b (omega (arith, (width_true n e).most))

  pub first_lt : value_of (take n b) < 256 ^ n
  first_lt = rw length_first at (value_lt (take n b) (bytes_take n p))

  pub fits_value : counter_fits n (counter_value n b) ≡ true
  fits_value = fits_wide n (counter_value n b) e ∙ ap (fits_in n) (value_wide n b e) ∙ fits_of n some (value_of (take n b)) first_lt

  pub counter_again : take n (counter_bytes n (counter_value n b)) ≡ take n b
  counter_again =
      take_counter n (counter_value n b) fits_value
      ∙ ap (bytes_of n) (ap (twos n) (value_wide n b e) ∙ twos_of n some (value_of (take n b)) first_lt)
      ∙ rw length_first at (bytes_of_value (take n b) (bytes_take n p))

  -- all of the bytes, if zeros follow the first n
  pub counter_whole : drop n b ≡ replicate (8 - n) 0 → counter_bytes n (counter_value n b) ≡ b
  counter_whole d =
      counter_bytes_is n (counter_value n b) fits_value
      ∙ (λ i. (sym (take_counter n (counter_value n b) fits_value) ∙ counter_again) i ++ sym d i)
      ∙ take-append-drop n b
