-- Good details in the paper's words, what a receipt adds to the counter, and its counter field.
use Rattle.std.proofs.Common.{ℕ, zero, suc, ◌%◌, ◌<◌, ◌≤◌, ◌≡◌, refl, sym, ap, ◌∙◌, Bool, true, false, cond, ◌&&◌, List, [], ◌∷◌, inl, inr, arith, le-leb, leb-true, eqb-true, eq-eqb, ne_eqb, leb, eqb, ℤ, pos, negsuc, nat_abs, ◌+ℤ◌, length, get_or}
use Rattle.std.proofs.lemmas.Bool.{eqb-false}
use lib.IntN.{+ℤ_assoc, +ℤ_idr}
use Rattle.primitives.proofs.Rows.{both, true-is-not-false}
use Rattle.receipt.specs.Amount.{amount_limit, within}
use Rattle.receipt.specs.DateTime.{leap, days_in, day_good, time_good, date_good}
use Rattle.receipt.specs.Details.{amounts_within, amounts_good, all_zero, start_good, total, counted_of, counted, counter_after}
use Rattle.receipt.specs.Payload.{counter_content, counter_field}
use Rattle.receipt.specs.DetailsWords.{LeapYear, GoodDate, DateGoodMeans, AmountsGoodMeans, GoodStart, StartGoodMeans, CountedIsTheAmounts, amounts_taken, added_up, CountedIsAddedUp, CounterAfterAdds, CounterFieldsAre}
use Rattle.receipt.specs.declared.datetime.DateTime.{DateTime}
use Rattle.receipt.specs.declared.details.Kind.{Kind}
use Rattle.receipt.specs.declared.details.Kind.TheVariants.{Standard, Cancellation, Training}
use Rattle.receipt.specs.declared.details.Details.{Details}
use Rattle.receipt.proofs.Counting.{start_both, after_beyond, after_no, after_yes}
use Rattle.receipt.proofs.Dates.{days_few}
use Rattle.receipt.proofs.PaperCases.{cancellation_letters, training_letters}

-- ---- the days of a month

leap_year : (y : ℕ) → leap y ≡ true → LeapYear y
unfolding leap
leap_year y e = go (eqb (y % 400) 0) (eqb (y % 100) 0) refl refl e
  where
    go : (a b : Bool) → eqb (y % 400) 0 ≡ a → eqb (y % 100) 0 ≡ b → cond a true (cond b false (eqb (y % 4) 0)) ≡ true → LeapYear y
    go true b p q r = inr (eqb-true (y % 400) 0 p)
    go false true p q r = true-is-not-false r
    go false false p q r = inl (eqb-true (y % 4) 0 r, eqb-false (y % 100) 0 q)

no_leap_year : (y : ℕ) → leap y ≡ false → LeapYear y → ⊥
unfolding leap
no_leap_year y e (inl h) =
    let f : (y % 400 ≡ 0) → ⊥ = λ q. h.1 (omega arith) in
    true-is-not-false (sym (rw (ne_eqb (y % 400) 0 f, ne_eqb (y % 100) 0 h.1, eq-eqb (y % 4) 0 h.0) at e))
no_leap_year y e (inr h) = true-is-not-false (sym (rw (eq-eqb (y % 400) 0 h) at e))

-- as many days as the words allow are in the table of the months
days_of : (y m d : ℕ) → 1 ≤ m → m ≤ 12 → d ≤ 31 → (m ≡ 4 → d ≤ 30) → (m ≡ 6 → d ≤ 30) → (m ≡ 9 → d ≤ 30) → (m ≡ 11 → d ≤ 30)
    → (m ≡ 2 → d ≤ 29) → (m ≡ 2 → (LeapYear y → ⊥) → d ≤ 28) → d ≤ days_in y m
unfolding days_in
days_of y zero d some most l april june september november february none = absurd (omega arith)
days_of y (suc zero) d some most l april june september november february none = l
days_of y (suc (suc zero)) d some most l april june september november february none = go (leap y) refl
  where
    go : (t : Bool) → leap y ≡ t → d ≤ cond t 29 28
    go true e = february refl
    go false e = none refl (no_leap_year y e)
days_of y (suc (suc (suc zero))) d some most l april june september november february none = l
days_of y (suc (suc (suc (suc zero)))) d some most l april june september november february none = april refl
days_of y (suc (suc (suc (suc (suc zero))))) d some most l april june september november february none = l
days_of y (suc (suc (suc (suc (suc (suc zero)))))) d some most l april june september november february none = june refl
days_of y (suc (suc (suc (suc (suc (suc (suc zero))))))) d some most l april june september november february none = l
days_of y (suc (suc (suc (suc (suc (suc (suc (suc zero)))))))) d some most l april june september november february none = l
days_of y (suc (suc (suc (suc (suc (suc (suc (suc (suc zero))))))))) d some most l april june september november february none = september refl
days_of y (suc (suc (suc (suc (suc (suc (suc (suc (suc (suc zero)))))))))) d some most l april june september november february none = l
days_of y (suc (suc (suc (suc (suc (suc (suc (suc (suc (suc (suc zero))))))))))) d some most l april june september november february none = november refl
days_of y (suc (suc (suc (suc (suc (suc (suc (suc (suc (suc (suc (suc zero)))))))))))) d some most l april june september november february none = l
days_of y (suc (suc (suc (suc (suc (suc (suc (suc (suc (suc (suc (suc (suc m))))))))))))) d some most l april june september november february none = absurd (omega arith)

days_at : (y m k d : ℕ) → m ≡ k → days_in y k ≡ d → days_in y m ≡ d
days_at y m k d h e = ap (days_in y) h ∙ e

in_february_lem : (y : ℕ) → days_in y 2 ≤ 29
unfolding days_in
in_february_lem y = go (leap y)
  where
    go : (t : Bool) → cond t 29 28 ≤ 29
    go true = omega arith
    go false = omega arith

no_leap_day_lem : (y : ℕ) → (LeapYear y → ⊥) → days_in y 2 ≡ 28
unfolding days_in
no_leap_day_lem y n = go (leap y) refl
  where
    go : (t : Bool) → leap y ≡ t → ◌≡◌ {A = ℕ} (cond t 29 28) 28
    go true e = absurd (n (leap_year y e))
    go false e = refl

thirty : (y : ℕ) → (days_in y 4 ≡ 30) × (days_in y 6 ≡ 30) × (days_in y 9 ≡ 30) × (days_in y 11 ≡ 30)
unfolding days_in
thirty y = (refl, refl, refl, refl)

date_only : (t : DateTime) → date_good t ≡ true → GoodDate t
unfolding date_good day_good time_good
date_only t e =
    let p = both (day_good t) (time_good t) e in
    let a = both _ _ p.0 in
    let b = both _ _ a.1 in
    let c = both _ _ b.1 in
    let d = both _ _ c.1 in
    let f = both _ _ d.1 in
    let h = both (leb t.hour 23) (leb t.minute 59 && leb t.second 59) p.1 in
    let k = both (leb t.minute 59) (leb t.second 59) h.1 in
    let l : t.day ≤ days_in t.year t.month = leb-true t.day (days_in t.year t.month) f.1 in
    record {
      from2000 = leb-true 2000 t.year a.0;
      to2099 = leb-true t.year 2099 b.0;
      january = leb-true 1 t.month c.0;
      december = leb-true t.month 12 d.0;
      first = leb-true 1 t.day f.0;
      most = omega (arith, l, days_few t.year t.month);
      in_april = λ m. omega (arith, l, days_at t.year t.month 4 30 m (thirty t.year).0);
      in_june = λ m. omega (arith, l, days_at t.year t.month 6 30 m (thirty t.year).1);
      in_september = λ m. omega (arith, l, days_at t.year t.month 9 30 m (thirty t.year).2);
      in_november = λ m. omega (arith, l, days_at t.year t.month 11 30 m (thirty t.year).3);
      in_february = λ m. omega (arith, l, ap (days_in t.year) m, in_february_lem t.year);
      no_leap_day = λ m n. omega (arith, l, ap (days_in t.year) m, no_leap_day_lem t.year n);
      hour = leb-true t.hour 23 h.0;
      minute = leb-true t.minute 59 k.0;
      second = leb-true t.second 59 k.1;
    }

date_always : (t : DateTime) → GoodDate t → date_good t ≡ true
unfolding date_good day_good time_good
date_always t g =
    let l : t.day ≤ days_in t.year t.month = days_of t.year t.month t.day g.january g.december g.most g.in_april g.in_june g.in_september g.in_november g.in_february g.no_leap_day in
    rw (le-leb 2000 t.year g.from2000, le-leb t.year 2099 g.to2099, le-leb 1 t.month g.january, le-leb t.month 12 g.december, le-leb 1 t.day g.first, le-leb t.day (days_in t.year t.month) l, le-leb t.hour 23 g.hour, le-leb t.minute 59 g.minute, le-leb t.second 59 g.second)

pub date_means : DateGoodMeans
date_means t = record { only = date_only t; always = date_always t }

-- ---- amounts, by their places

amounts_only : (zs : List ℤ) → amounts_within amount_limit zs ≡ true → (i : ℕ) → i < length zs → nat_abs (get_or zs i (pos 0)) ≤ 99999999999
unfolding amounts_within within
amounts_only [] e i h = absurd (omega arith)
amounts_only (z ∷ zs) e zero h = leb-true (nat_abs z) 99999999999 (both (within amount_limit z) (amounts_within amount_limit zs) e).0
amounts_only (z ∷ zs) e (suc i) h = amounts_only zs (both (within amount_limit z) (amounts_within amount_limit zs) e).1 i (omega arith)

amounts_always : (zs : List ℤ) → ((i : ℕ) → i < length zs → nat_abs (get_or zs i (pos 0)) ≤ 99999999999) → amounts_within amount_limit zs ≡ true
unfolding amounts_within within
amounts_always [] h = refl
amounts_always (z ∷ zs) h = rw (le-leb (nat_abs z) 99999999999 (h 0 (omega arith)), amounts_always zs (λ i k. h (suc i) (omega arith)))

pub amounts_mean : AmountsGoodMeans
amounts_mean zs = record { only = λ e. record { reach = amounts_only zs e }; always = λ g. amounts_always zs g.reach }

-- ---- five zeros

nothing : (z : ℤ) → nat_abs z ≡ 0 → z ≡ pos 0
nothing (pos n) e = ap pos e
nothing (negsuc n) e = absurd (omega arith)

zeros_only : (zs : List ℤ) → all_zero zs ≡ true → (i : ℕ) → i < length zs → get_or zs i (pos 0) ≡ pos 0
unfolding all_zero
zeros_only [] e i h = absurd (omega arith)
zeros_only (z ∷ zs) e zero h = nothing z (eqb-true (nat_abs z) 0 (both (eqb (nat_abs z) 0) (all_zero zs) e).0)
zeros_only (z ∷ zs) e (suc i) h = zeros_only zs (both (eqb (nat_abs z) 0) (all_zero zs) e).1 i (omega arith)

zeros_always : (zs : List ℤ) → ((i : ℕ) → i < length zs → get_or zs i (pos 0) ≡ pos 0) → all_zero zs ≡ true
unfolding all_zero
zeros_always [] h = refl
zeros_always (z ∷ zs) h = rw (eq-eqb (nat_abs z) 0 (ap nat_abs (h 0 (omega arith))), zeros_always zs (λ i k. h (suc i) (omega arith)))

start_always : (d : Details) → GoodStart d → start_good d ≡ true
unfolding start_good
start_always d g = rw g.standard (zeros_always d.amounts g.zeros)

pub start_means : StartGoodMeans
start_means d =
    record {
      only = λ e. record { standard = (start_both d e).0; zeros = zeros_only d.amounts (start_both d e).1 };
      always = start_always d;
    }

-- ---- what a receipt adds

-- a sum from the right is the sum as it is written
five : (a b c e f : ℤ) → a +ℤ (b +ℤ (c +ℤ (e +ℤ (f +ℤ pos 0)))) ≡ a +ℤ b +ℤ c +ℤ e +ℤ f
five a b c e f =
    ap (λ (z : ℤ). a +ℤ (b +ℤ (c +ℤ (e +ℤ z)))) (+ℤ_idr f) ∙ sym (+ℤ_assoc a b (c +ℤ (e +ℤ f))) ∙ sym (+ℤ_assoc (a +ℤ b) c (e +ℤ f))
    ∙ sym (+ℤ_assoc (a +ℤ b +ℤ c) e f)

added_total : (zs : List ℤ) → added_up zs ≡ total zs
unfolding added_up total
added_total [] = refl
added_total (z ∷ zs) = ap (λ (x : ℤ). z +ℤ x) (added_total zs)

pub counted_is_added_up : CountedIsAddedUp
unfolding counted added_up
counted_is_added_up d = go d.kind d.amounts
  where
    go : (k : Kind) (zs : List ℤ) → counted_of k zs ≡ added_up (amounts_taken k zs)
    go Standard zs = sym (added_total zs)
    go Cancellation zs = sym (added_total zs)
    go Training zs = refl

pub counted_is_the_amounts : CountedIsTheAmounts
unfolding counted total
counted_is_the_amounts d =
    record {
      standard = λ k a b c e f q. (λ i. counted_of (k i) (q i)) ∙ five a b c e f;
      cancellation = λ k a b c e f q. (λ i. counted_of (k i) (q i)) ∙ five a b c e f;
      training = λ k. ap (λ (kind : Kind). counted_of kind d.amounts) k;
    }

pub counter_after_adds : CounterAfterAdds
counter_after_adds n z d =
    record {
      fits = λ g f. after_yes n z d ((amounts_mean d.amounts).always g) f;
      over = λ f. go (amounts_good d.amounts) refl (λ g. after_no n z d g f);
      beyond = λ b. go (amounts_good d.amounts) refl (λ g. absurd (b ((amounts_mean d.amounts).only g)));
    }
  where
    go : (t : Bool) → amounts_good d.amounts ≡ t → (amounts_good d.amounts ≡ true → counter_after n z d ≡ record { fits = false; counter = z })
        → counter_after n z d ≡ record { fits = false; counter = z }
    go true e h = h e
    go false e h = after_beyond n z d e

-- ---- the counter field

pub counter_fields_are : CounterFieldsAre
unfolding counter_field counter_content
counter_fields_are n counter = record { standard = refl; cancellation = cancellation_letters; training = training_letters }
