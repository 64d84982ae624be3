-- What is read from bytes, over plain variables.
use Rattle.std.proofs.lemmas.Int.{to_z-of_z}
use Rattle.std.proofs.Common.{ℕ, ◌+◌, ◌≤◌, ◌≡◌, sym, ap, ◌∙◌, List, [], ◌∷◌, arith, ℤ, length, take, drop, take_all, SFits, to_z, of_z}
use Rattle.std.specs.Int.{from_be_bytes, w32, w64}
use Rattle.primitives.specs.Place.{overwrite}
use Rattle.primitives.specs.Number.{number_of, number_after, value_of, value_after, count_at}
use Rattle.primitives.specs.Counter.{counter_value}
use Rattle.primitives.proofs.Over.{length_over, read_over}
use Rattle.receipt.specs.declared.settings.Name.{Name}
use Rattle.receipt.specs.declared.datetime.DateTime.{DateTime}
use Rattle.receipt.specs.declared.details.Details.{Details}
use Rattle.device.specs.Layout.{name_at, names_at, state_at}
use Rattle.device.specs.Details.{date_of, of_kind, details_of, number_in, amount_in, details_in}
use Rattle.primitives.proofs.Counts.{count_is}

-- ---- arrays

-- a write over all of a list
pub over_all : (xs ys : List ℕ) → length ys ≡ length xs → overwrite xs 0 ys ≡ ys
over_all xs ys e =
    let r : 0 + length ys ≤ length xs = omega arith in
    sym (take_all (length ys) (overwrite xs 0 ys) (omega (arith, length_over xs 0 ys r))) ∙ read_over xs 0 ys r

-- ---- numbers

value_4 : (bs : List ℕ) → length bs ≡ 4 → from_be_bytes w32 bs ≡ value_of bs
unfolding value_of value_after number_of number_after
value_4 [] l = absurd (omega (arith, l))
value_4 (_ ∷ []) l = absurd (omega (arith, l))
value_4 (_ ∷ _ ∷ []) l = absurd (omega (arith, l))
value_4 (_ ∷ _ ∷ _ ∷ []) l = absurd (omega (arith, l))
value_4 (a ∷ b ∷ c ∷ d ∷ []) l = omega arith
value_4 (_ ∷ _ ∷ _ ∷ _ ∷ _ ∷ _) l = absurd (omega (arith, l))

value_8 : (bs : List ℕ) → length bs ≡ 8 → from_be_bytes w64 bs ≡ value_of bs
unfolding value_of value_after number_of number_after
value_8 [] l = absurd (omega (arith, l))
value_8 (_ ∷ []) l = absurd (omega (arith, l))
value_8 (_ ∷ _ ∷ []) l = absurd (omega (arith, l))
value_8 (_ ∷ _ ∷ _ ∷ []) l = absurd (omega (arith, l))
value_8 (_ ∷ _ ∷ _ ∷ _ ∷ []) l = absurd (omega (arith, l))
value_8 (_ ∷ _ ∷ _ ∷ _ ∷ _ ∷ []) l = absurd (omega (arith, l))
value_8 (_ ∷ _ ∷ _ ∷ _ ∷ _ ∷ _ ∷ []) l = absurd (omega (arith, l))
value_8 (_ ∷ _ ∷ _ ∷ _ ∷ _ ∷ _ ∷ _ ∷ []) l = absurd (omega (arith, l))
value_8 (a ∷ b ∷ c ∷ d ∷ e ∷ f ∷ g ∷ h ∷ []) l = omega arith
value_8 (_ ∷ _ ∷ _ ∷ _ ∷ _ ∷ _ ∷ _ ∷ _ ∷ _ ∷ _) l = absurd (omega (arith, l))

-- a number that was made of the bytes of an array
module _ (b : List ℕ) (at : ℕ) {bs : List ℕ} {v : ℕ} where
  pub word_found : length bs ≡ 4 → bs ≡ take 4 (drop at b) → v ≡ from_be_bytes w32 bs → v ≡ count_at b at 4
  word_found l e q = q ∙ value_4 bs l ∙ ap value_of e ∙ sym (count_is b at 4)

  pub long_found : length bs ≡ 8 → bs ≡ take 8 (drop at b) → v ≡ from_be_bytes w64 bs → v ≡ count_at b at 8
  long_found l e q = q ∙ value_8 bs l ∙ ap value_of e ∙ sym (count_is b at 8)

-- ---- the state

pub serials_found : (b : List ℕ) {s₀ s₁ s₂ s₃ s₄ s₅ s₆ s₇ : Name} → s₀ ≡ name_at b 43 → s₁ ≡ name_at b 83 → s₂ ≡ name_at b 123 → s₃ ≡ name_at b 163 → s₄ ≡ name_at b 203
    → s₅ ≡ name_at b 243 → s₆ ≡ name_at b 283 → s₇ ≡ name_at b 323 → s₀ ∷ s₁ ∷ s₂ ∷ s₃ ∷ s₄ ∷ s₅ ∷ s₆ ∷ s₇ ∷ [] ≡ names_at b 43 8
unfolding names_at
serials_found b e₀ e₁ e₂ e₃ e₄ e₅ e₆ e₇ = λ i. e₀ i ∷ e₁ i ∷ e₂ i ∷ e₃ i ∷ e₄ i ∷ e₅ i ∷ e₆ i ∷ e₇ i ∷ []

pub state_found : (b : List ℕ) {csp : List ℕ} {id : Name} {serials : List Name} {n : ℕ} {key : List ℕ} {z : ℤ} {last issued : ℕ} {chain : List ℕ} {len since place : ℕ}
    → csp ≡ take 3 (drop 0 b) → id ≡ name_at b 3 → serials ≡ names_at b 43 8 → n ≡ count_at b 363 8 → key ≡ take 32 (drop 371 b)
    → z ≡ counter_value 8 (take 8 (drop 403 b)) → last ≡ count_at b 411 4 → issued ≡ count_at b 415 4 → chain ≡ take 8 (drop 419 b) → len ≡ count_at b 427 8
    → since ≡ count_at b 435 4 → place ≡ count_at b 439 8
    → record {
      csp = csp;
      id = id;
      serials = serials;
      width = n;
      key = key;
      counter = z;
      last = last;
      issued = issued;
      chain = chain;
      length = len;
      since = since;
      place = place;
    }
    ≡ state_at b
unfolding state_at
state_found b e₁ e₂ e₃ e₄ e₅ e₆ e₇ e₈ e₉ e₁₀ e₁₁ e₁₂ =
    λ i. record {
      csp = e₁ i;
      id = e₂ i;
      serials = e₃ i;
      width = e₄ i;
      key = e₅ i;
      counter = e₆ i;
      last = e₇ i;
      issued = e₈ i;
      chain = e₉ i;
      length = e₁₀ i;
      since = e₁₁ i;
      place = e₁₂ i;
    }

-- ---- the details of a receipt

module _ (b : List ℕ) where
  pub amounts_found : {z₀ z₁ z₂ z₃ z₄ : ℤ} → SFits w64 z₀ → SFits w64 z₁ → SFits w64 z₂ → SFits w64 z₃ → SFits w64 z₄
      → z₀ ≡ counter_value 8 (take 8 (drop 32 b)) → z₁ ≡ counter_value 8 (take 8 (drop 40 b)) → z₂ ≡ counter_value 8 (take 8 (drop 48 b))
      → z₃ ≡ counter_value 8 (take 8 (drop 56 b)) → z₄ ≡ counter_value 8 (take 8 (drop 64 b))
      → to_z w64 (of_z w64 z₀) ∷ to_z w64 (of_z w64 z₁) ∷ to_z w64 (of_z w64 z₂) ∷ to_z w64 (of_z w64 z₃) ∷ to_z w64 (of_z w64 z₄) ∷ []
      ≡ amount_in b 0 ∷ amount_in b 1 ∷ amount_in b 2 ∷ amount_in b 3 ∷ amount_in b 4 ∷ []
  unfolding amount_in
  amounts_found {z₀} {z₁} {z₂} {z₃} {z₄} f₀ f₁ f₂ f₃ f₄ e₀ e₁ e₂ e₃ e₄ =
      λ i. (to_z-of_z w64 z₀ f₀ ∙ e₀) i ∷ (to_z-of_z w64 z₁ f₁ ∙ e₁) i ∷ (to_z-of_z w64 z₂ f₂ ∙ e₂) i ∷ (to_z-of_z w64 z₃ f₃ ∙ e₃) i ∷ (to_z-of_z w64 z₄ f₄ ∙ e₄) i ∷ []

  pub details_found : {number kind : ℕ} {date : DateTime} {amounts : List ℤ} {r : Details} → number ≡ count_at b 0 4
      → date ≡ date_of (number_in b 1) (number_in b 2) (number_in b 3) (number_in b 4) (number_in b 5) (number_in b 6) → kind ≡ count_at b 28 4
      → amounts ≡ amount_in b 0 ∷ amount_in b 1 ∷ amount_in b 2 ∷ amount_in b 3 ∷ amount_in b 4 ∷ [] → r ≡ of_kind number date amounts kind → r ≡ details_in b
  unfolding details_in details_of number_in
  details_found n d k a q = q ∙ (λ i. of_kind (n i) (d i) (a i) (k i))
