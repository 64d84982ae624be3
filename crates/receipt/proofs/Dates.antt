-- Date and time: writing them, and reading what was written.
use Rattle.std.proofs.Common.{◌≡◌, refl, ap, Bool, true, false, cond, List, [], ◌∷◌, ◌++◌, ℕ, zero, suc, ◌+◌, ◌*◌, ◌/◌, ◌%◌, ◌<◌, ◌≤◌, arith, leb-true, leb, eqb, length, get_or, length-append}
use Rattle.primitives.specs.Place.{overwrite}
use Rattle.receipt.specs.Decimal.{fixed_onto, fixed}
use Rattle.receipt.specs.DateTime.{leap, days_in, pair, date_text, two_at, read_date}
use Rattle.receipt.specs.declared.datetime.DateTime.{DateTime}
use Rattle.primitives.proofs.Rows.{true-is-not-false}
use Rattle.primitives.proofs.Over.{then}
use Rattle.receipt.proofs.Digits.{length_fixed}

pub length_pair : (letter n : ℕ) → length (pair letter n) ≡ 3
unfolding pair
length_pair letter n = ap suc (length_fixed 2 n)

pub length_date : (t : DateTime) → length (date_text t) ≡ 19
unfolding date_text
length_date t = simp (length-append, length_fixed, length_pair)

pub put_date : (t : DateTime) (b : List ℕ) (at : ℕ) {b₁ b₂ b₃ b₄ b₅ b₆ : List ℕ} → at + 19 ≤ length b
    → b₁ ≡ overwrite b at (fixed 4 t.year) → b₂ ≡ overwrite b₁ (at + 4) (pair 45 t.month) → b₃ ≡ overwrite b₂ (at + 7) (pair 45 t.day)
    → b₄ ≡ overwrite b₃ (at + 10) (pair 84 t.hour) → b₅ ≡ overwrite b₄ (at + 13) (pair 58 t.minute) → b₆ ≡ overwrite b₅ (at + 16) (pair 58 t.second)
    → b₆ ≡ overwrite b at (date_text t)
unfolding date_text
put_date t b at room e₁ e₂ e₃ e₄ e₅ e₆ =
    let q₂ = then _ _ _ _ _ e₁ e₂ (simp length_fixed) (simp length_fixed (omega arith)) in
    let q₃ = then _ _ _ _ _ q₂ e₃ (simp (length-append, length_fixed, length_pair)) (simp (length-append, length_fixed, length_pair) (omega arith)) in
    let q₄ = then _ _ _ _ _ q₃ e₄ (simp (length-append, length_fixed, length_pair)) (simp (length-append, length_fixed, length_pair) (omega arith)) in
    let q₅ = then _ _ _ _ _ q₄ e₅ (simp (length-append, length_fixed, length_pair)) (simp (length-append, length_fixed, length_pair) (omega arith)) in
    then _ _ _ _ _ q₅ e₆ (simp (length-append, length_fixed, length_pair)) (simp (length-append, length_fixed, length_pair) (omega arith))

-- ---- reading, whatever follows

pub record Small (t : DateTime) : Type 0 where
  pub year : t.year < 10000
  pub month : t.month < 100
  pub day : t.day < 100
  pub hour : t.hour < 100
  pub minute : t.minute < 100
  pub second : t.second < 100

digit : (d : ℕ) → (48 + d % 10) % 16 ≡ d % 10
digit d = omega arith

two_digits : (n : ℕ) → n < 100 → (48 + n / 10 % 10) % 16 * 10 + (48 + n % 10) % 16 ≡ n
two_digits n h = omega (arith, digit (n / 10), digit n)

four_digits : (n : ℕ) → n < 10000
    → ((48 + n / 10 / 10 / 10 % 10) % 16 * 10 + (48 + n / 10 / 10 % 10) % 16) * 100 + ((48 + n / 10 % 10) % 16 * 10 + (48 + n % 10) % 16) ≡ n
four_digits n h = rw (digit (n / 10 / 10 / 10), digit (n / 10 / 10), digit (n / 10), digit n) (omega arith)

pub read_date_lem : (t : DateTime) (rest : List ℕ) → Small t → read_date (date_text t ++ rest) ≡ t
unfolding read_date date_text pair fixed fixed_onto two_at
read_date_lem t rest s =
    λ i. record {
      year = four_digits t.year s.year i;
      month = two_digits t.month s.month i;
      day = two_digits t.day s.day i;
      hour = two_digits t.hour s.hour i;
      minute = two_digits t.minute s.minute i;
      second = two_digits t.second s.second i;
    }

-- a month has at most 31 days
few : List ℕ → Bool
few [] = true
few (d ∷ ds) = cond (leb d 31) (few ds) false

all_few : (ds : List ℕ) → few ds ≡ true → (m : ℕ) → get_or ds m 0 ≤ 31
unfolding few
all_few [] e m = omega arith
all_few (d ∷ ds) e zero = go (leb d 31) refl e
  where
    go : (b : Bool) → leb d 31 ≡ b → cond b (few ds) false ≡ true → d ≤ 31
    go true q t = leb-true d 31 q
    go false q t = true-is-not-false t
all_few (d ∷ ds) e (suc m) = all_few ds (go (leb d 31) e) m
  where
    go : (b : Bool) → cond b (few ds) false ≡ true → few ds ≡ true
    go true t = t
    go false t = true-is-not-false t

pub days_few : (y m : ℕ) → days_in y m ≤ 31
unfolding days_in few
days_few y m = go (eqb m 2) (leap y) (all_few (0 ∷ 31 ∷ 28 ∷ 31 ∷ 30 ∷ 31 ∷ 30 ∷ 31 ∷ 31 ∷ 30 ∷ 31 ∷ 30 ∷ 31 ∷ []) refl m)
  where
    go : (two leaps : Bool) {d : ℕ} → d ≤ 31 → cond two (cond leaps 29 28) d ≤ 31
    go true true h = omega arith
    go true false h = omega arith
    go false leaps h = h
