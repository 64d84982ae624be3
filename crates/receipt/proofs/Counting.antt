-- The counter after a receipt: the sum of its amounts, and what fits.
use Rattle.std.proofs.Common.{ℕ, suc, ◌+◌, ◌-◌, ◌*◌, ◌<◌, ◌≤◌, ◌≡◌, refl, sym, ap, ◌∙◌, Bool, true, false, cond, ◌&&◌, List, [], ◌∷◌, arith, ltb-true, eqb-true, ne_eqb, ltb, eqb, ℤ, pos, negsuc, nat_abs, ◌+ℤ◌, length, get_or, drop, replicate, drop_of_length-le, w64, SFits, to_z, of_z, to_z-of_z, Some, None, rules, tests}
use lib.IntN.{sub_ℕ, +ℤ_assoc, +ℤ_idr}
use lib.Signed.{mag}
use lib.Pointwise.{pointwise}
use Rattle.std.specs.Ordering.{int_eq}
use Rattle.primitives.specs.Counter.{counter_fits}
use Rattle.receipt.specs.Amount.{amount_limit, within_limit}
use Rattle.primitives.proofs.Twos.{counted_64}
use Rattle.receipt.specs.Details.{amounts_good, all_zero, standard, start_good, total, counted_of, counted, After, counter_after, as_after, AfterDeterminesAnswer}
use Rattle.receipt.specs.declared.details.Kind.{Kind}
use Rattle.receipt.specs.declared.details.Kind.TheVariants.{Standard, Cancellation, Training}
use Rattle.receipt.specs.declared.details.Details.{Details}
use Rattle.primitives.proofs.Rows.{both, true-is-not-false}
use Rattle.receipt.proofs.Cents.{within_most}
use Rattle.receipt.proofs.Joined.{drop_here, ok_here}

-- ---- sums of amounts

-- a sum is no larger than its parts
diff_abs : (a b : ℕ) → nat_abs (sub_ℕ a b) ≤ a + b
diff_abs a b = go (ltb a b) refl
  where
    go : (t : Bool) → ltb a b ≡ t → nat_abs (cond t (negsuc (b - suc a)) (pos (a - b))) ≤ a + b
    go true e = omega (arith, ltb-true a b e)
    go false e = omega arith

sum_abs : (a b : ℤ) → nat_abs (a +ℤ b) ≤ nat_abs a + nat_abs b
sum_abs (pos a) (pos b) = omega arith
sum_abs (pos a) (negsuc b) = diff_abs a (suc b)
sum_abs (negsuc a) (pos b) = omega (arith, diff_abs b (suc a))
sum_abs (negsuc a) (negsuc b) = omega arith

mag_abs : (z : ℤ) → mag z ≤ nat_abs z
mag_abs (pos n) = omega arith
mag_abs (negsuc n) = omega arith

-- the loop that adds: `sum` has the bits of what was added of the first i amounts
pub record Summing (zs : List ℤ) (sum : ℤ) (i : ℕ) : Type 0 where
  pub small : nat_abs sum ≤ i * amount_limit
  pub within : i ≤ 5
  pub good : amounts_good (drop i zs) ≡ true
  pub left : sum +ℤ total (drop i zs) ≡ total zs

module _ {zs : List ℤ} {sum : ℤ} {i : ℕ} (s : Summing zs sum i) where
  module _ (l : length zs ≡ 5) (h : i < 5) where
    abbrev z : ℤ
    z = get_or zs i (pos 0)

    here : (within_limit z ≡ true) × (amounts_good (drop (i + 1) zs) ≡ true)
    here = both (within_limit z) (amounts_good (drop (i + 1) zs)) (sym (ok_here zs i (omega arith)) ∙ s.good)

    limited : nat_abs z ≤ amount_limit
    limited = within_most z here.0

    added_small : nat_abs (sum +ℤ z) ≤ (i + 1) * amount_limit
    added_small = omega (arith, sum_abs sum z, s.small, limited)

    next_fits : SFits w64 (sum +ℤ z)
    next_fits = record { sfits = omega (arith, mag_abs (sum +ℤ z), added_small) }

    plain : to_z w64 (of_z w64 z) ≡ z
    plain = let f : SFits w64 z = record { sfits = omega (arith, mag_abs z, limited) } in to_z-of_z f

    pub adding_fits : SFits w64 (sum +ℤ to_z w64 (of_z w64 z))
    adding_fits = rw plain next_fits

    added : Summing zs (sum +ℤ z) (i + 1)
    unfolding total
    added =
        record {
          small = added_small;
          within = omega arith;
          good = here.1;
          left = +ℤ_assoc sum z (total (drop (i + 1) zs)) ∙ ap (λ (l : List ℤ). sum +ℤ total l) (sym (drop_here zs i (omega arith))) ∙ s.left;
        }

    pub summing_more : Summing zs (to_z w64 (of_z w64 (sum +ℤ to_z w64 (of_z w64 z)))) (i + 1)
    summing_more = rw (plain, to_z-of_z next_fits) added

  pub summing_end : length zs ≡ 5 → 5 ≤ i → sum ≡ total zs
  unfolding total
  summing_end l h =
      let k : length zs ≤ i = omega arith in
      sym (+ℤ_idr sum) ∙ ap (λ (l : List ℤ). sum +ℤ total l) (sym (drop_of_length-le zs k)) ∙ s.left

-- ---- zeros

zero_is : (z : ℤ) → int_eq z (pos 0) ≡ eqb (nat_abs z) 0
zero_is (pos n) = search (rules, tests)
zero_is (negsuc n) = sym (ne_eqb (suc n) 0 (λ e. omega arith))

-- a list that is equal to as many zeros
zeros_many : (zs : List ℤ) → pointwise int_eq zs (replicate (length zs) (pos 0)) ≡ all_zero zs
unfolding all_zero
zeros_many [] = refl
zeros_many (z ∷ zs) = λ i. zero_is z i && zeros_many zs i

pub zeros_are : (zs : List ℤ) → length zs ≡ 5 → pointwise int_eq zs (replicate 5 (pos 0)) ≡ all_zero zs
zeros_are zs e = ap (λ (n : ℕ). pointwise int_eq zs (replicate n (pos 0))) (sym e) ∙ zeros_many zs

-- ---- the counter after a receipt

pub counted_of_lem : (d : Details) {k : Kind} → d.kind ≡ k → counted_of k d.amounts ≡ counted d
unfolding counted
counted_of_lem d e = ap (λ (k : Kind). counted_of k d.amounts) (sym e)

zero_abs : (z : ℤ) → nat_abs z ≡ 0 → z ≡ pos 0
zero_abs (pos n) e = ap pos e
zero_abs (negsuc n) e = absurd (omega arith)

pub total_zero : (zs : List ℤ) → all_zero zs ≡ true → total zs ≡ pos 0
unfolding all_zero total
total_zero [] e = refl
total_zero (z ∷ zs) e =
    let p = both (eqb (nat_abs z) 0) (all_zero zs) e in
    (λ i. zero_abs z (eqb-true (nat_abs z) 0 p.0) i +ℤ total_zero zs p.1 i)

pub start_both : (d : Details) → start_good d ≡ true → (d.kind ≡ Standard) × (all_zero d.amounts ≡ true)
unfolding start_good
start_both d e = go d.kind refl e
  where
    go : (k : Kind) → d.kind ≡ k → standard k && all_zero d.amounts ≡ true → (d.kind ≡ Standard) × (all_zero d.amounts ≡ true)
    go Standard p q = (p, q)
    go Cancellation p q = true-is-not-false q
    go Training p q = true-is-not-false q

pub record Added (n : ℕ) (z : ℤ) (d : Details) : Type 0 where
  pub good : amounts_good d.amounts ≡ true
  pub fits : counter_fits n (z +ℤ counted d) ≡ true
  pub is : counter_after n z d ≡ record { fits = true; counter = z +ℤ counted d }

module _ (n : ℕ) (z : ℤ) (d : Details) where
  pub after_beyond : amounts_good d.amounts ≡ false → counter_after n z d ≡ record { fits = false; counter = z }
  unfolding counter_after
  after_beyond e = rw e

  module _ (g : amounts_good d.amounts ≡ true) where
    pub after_no : counter_fits n (z +ℤ counted d) ≡ false → counter_after n z d ≡ record { fits = false; counter = z }
    unfolding counter_after
    after_no e = rw (g, e)

    pub after_yes : counter_fits n (z +ℤ counted d) ≡ true → counter_after n z d ≡ record { fits = true; counter = z +ℤ counted d }
    unfolding counter_after
    after_yes e = rw (g, e)

  -- a counter that was taken is the sum, and fits
  pub after_fits : (counter_after n z d).fits ≡ true → Added n z d
  unfolding counter_after
  after_fits e = go (amounts_good d.amounts) (counter_fits n (z +ℤ counted d)) refl refl e
    where
      go : (g f : Bool) → amounts_good d.amounts ≡ g → counter_fits n (z +ℤ counted d) ≡ f
          → (cond {A = After} (g && f) (record { fits = true; counter = z +ℤ counted d }) (as_after z None)).fits ≡ true → Added n z d
      go true true p q e = record { good = p; fits = q; is = after_yes p q }
      go true false p q e = true-is-not-false e
      go false f p q e = true-is-not-false e

  -- the code's steps, whose signed numbers stand as their bits
  pub refused_beyond : amounts_good d.amounts ≡ false → as_after z None ≡ counter_after n z d
  refused_beyond e = sym (after_beyond e)

  module _ (fz : SFits w64 z) (g : amounts_good d.amounts ≡ true) {x : ℤ} (fx : SFits w64 x) (e : x ≡ counted d) where
    sum : to_z w64 (of_z w64 z) +ℤ to_z w64 (of_z w64 x) ≡ z +ℤ counted d
    sum = λ i. to_z-of_z fz i +ℤ (to_z-of_z fx ∙ e) i

    -- a sum beyond 64 bits fits no width
    pub refused_over : (SFits w64 (to_z w64 (of_z w64 z) +ℤ to_z w64 (of_z w64 x)) → ⊥) → as_after z None ≡ counter_after n z d
    refused_over o = go (counter_fits n (z +ℤ counted d)) refl
      where
        go : (t : Bool) → counter_fits n (z +ℤ counted d) ≡ t → as_after z None ≡ counter_after n z d
        go true p = absurd (o (rw sum (counted_64 n (z +ℤ counted d) p)))
        go false p = sym (after_no g p)

    module _ {v : ℤ} (s : SFits w64 (to_z w64 (of_z w64 z) +ℤ to_z w64 (of_z w64 x)) × (v ≡ to_z w64 (of_z w64 z) +ℤ to_z w64 (of_z w64 x))) where
      plain_sum : to_z w64 (of_z w64 v) ≡ z +ℤ counted d
      plain_sum = ap (λ (u : ℤ). to_z w64 (of_z w64 u)) s.1 ∙ to_z-of_z s.0 ∙ sum

      pub refused_fit : counter_fits n (to_z w64 (of_z w64 v)) ≡ false → as_after z None ≡ counter_after n z d
      refused_fit f = sym (after_no g (ap (counter_fits n) (sym plain_sum) ∙ f))

      pub accepted_fit : counter_fits n (to_z w64 (of_z w64 v)) ≡ true → as_after z (Some (to_z w64 (of_z w64 v))) ≡ counter_after n z d
      accepted_fit f = ap (λ (u : ℤ). as_after z (Some u)) plain_sum ∙ sym (after_yes g (ap (counter_fits n) (sym plain_sum) ∙ f))

-- the view tells every two answers apart
pub as_after_same : AfterDeterminesAnswer
as_after_same z None None e = refl
as_after_same z None (Some b) e = let x = ap (λ (a : After). a.fits) e in cc
as_after_same z (Some a) None e = let x = ap (λ (a : After). a.fits) e in cc
as_after_same z (Some a) (Some b) e = ap (λ (a : After). Some a.counter) e
