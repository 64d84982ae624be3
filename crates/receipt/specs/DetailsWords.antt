-- What good details are, what a receipt adds to the counter and what its counter field is, in the paper's words and apart from the definitions that
-- code follows; the proofs are in proofs/DetailsMeaning.antt.
use Rattle.std.specs.Prelude.{ℕ, ◌%◌, ◌≤◌, ◌<◌, true, false, List, [], ◌∷◌, ◌⊎◌, ◌≡◌, ℤ, pos, nat_abs, ◌+ℤ◌, length, get_or, take}
use Rattle.primitives.specs.Counter.{counter_fits}
use Rattle.primitives.specs.Text.{ascii}
use Rattle.primitives.specs.Base64.{encoding}
use Rattle.primitives.specs.declared.base64.Alphabet.TheVariants as alphabet
use Rattle.receipt.specs.Amount.{amount_limit}
use Rattle.receipt.specs.DateTime.{date_good}
use Rattle.receipt.specs.Details.{amounts_within, start_good, counted, counter_after}
use Rattle.receipt.specs.Payload.{counter_field}
use Rattle.receipt.specs.SettingsWords.{Means}
use Rattle.receipt.specs.declared.datetime.DateTime.{DateTime}
use Rattle.receipt.specs.declared.details.Kind.{Kind}
use Rattle.receipt.specs.declared.details.Kind.TheVariants.{Standard, Cancellation, Training}
use Rattle.receipt.specs.declared.details.Details.{Details}

-- ---- question 8: "Year 2000 to 2099, date in the Gregorian calendar, hour 0 to 23, minute and second 0 to 59?"

-- a multiple of 4 that is no multiple of 100, or a multiple of 400
abbrev pub LeapYear : ℕ → Type 0
LeapYear y = ((y % 4 ≡ 0) × (y % 100 ≡ 0 → ⊥)) ⊎ (y % 400 ≡ 0)

pub record GoodDate (t : DateTime) : Type 0 where
  pub from2000 : 2000 ≤ t.year
  pub to2099 : t.year ≤ 2099
  pub january : 1 ≤ t.month
  pub december : t.month ≤ 12
  pub first : 1 ≤ t.day
  pub most : t.day ≤ 31
  -- the months of 30 days
  pub in_april : t.month ≡ 4 → t.day ≤ 30
  pub in_june : t.month ≡ 6 → t.day ≤ 30
  pub in_september : t.month ≡ 9 → t.day ≤ 30
  pub in_november : t.month ≡ 11 → t.day ≤ 30
  -- February
  pub in_february : t.month ≡ 2 → t.day ≤ 29
  pub no_leap_day : t.month ≡ 2 → (LeapYear t.year → ⊥) → t.day ≤ 28
  pub hour : t.hour ≤ 23
  pub minute : t.minute ≤ 59
  pub second : t.second ≤ 59

abbrev pub DateGoodMeans : Type 0
DateGoodMeans = (t : DateTime) → Means (date_good t) (GoodDate t)

-- ---- question 9: "Each amount may now reach 99,999,999,999 cents either way"

pub record GoodAmounts (amounts : List ℤ) : Type 0 where
  pub reach : (i : ℕ) → i < length amounts → nat_abs (get_or amounts i (pos 0)) ≤ 99999999999

abbrev pub AmountsGoodMeans : Type 0
AmountsGoodMeans = (amounts : List ℤ) → Means (amounts_within amount_limit amounts) (GoodAmounts amounts)

-- ---- questions 10 and 18: "standard with five zeros?"

pub record GoodStart (d : Details) : Type 0 where
  pub standard : d.kind ≡ Standard
  pub zeros : (i : ℕ) → i < length d.amounts → get_or d.amounts i (pos 0) ≡ pos 0

abbrev pub StartGoodMeans : Type 0
StartGoodMeans = (d : Details) → Means (start_good d) (GoodStart d)

-- ---- "a standard or cancellation receipt adds its five amounts; training adds nothing"

pub record CountedAs (d : Details) : Type 0 where
  pub standard : d.kind ≡ Standard → (a b c e f : ℤ) → d.amounts ≡ a ∷ b ∷ c ∷ e ∷ f ∷ [] → counted d ≡ a +ℤ b +ℤ c +ℤ e +ℤ f
  pub cancellation : d.kind ≡ Cancellation → (a b c e f : ℤ) → d.amounts ≡ a ∷ b ∷ c ∷ e ∷ f ∷ [] → counted d ≡ a +ℤ b +ℤ c +ℤ e +ℤ f
  pub training : d.kind ≡ Training → counted d ≡ pos 0

abbrev pub CountedIsTheAmounts : Type 0
CountedIsTheAmounts = (d : Details) → CountedAs d

-- the same for a list of any length: the amounts of a receipt other than training, and none of a training receipt
abbrev pub amounts_taken : Kind → List ℤ → List ℤ
amounts_taken Standard zs = zs
amounts_taken Cancellation zs = zs
amounts_taken Training zs = []

-- added with their signs; 0 if there are none
unfoldable pub added_up : List ℤ → ℤ
added_up [] = pos 0
added_up (z ∷ zs) = z +ℤ added_up zs

abbrev pub CountedIsAddedUp : Type 0
CountedIsAddedUp = (d : Details) → counted d ≡ added_up (amounts_taken d.kind d.amounts)

-- question 11: "New counter fits N bytes?"; the counter after the receipt is the sum, and a refused receipt leaves it as it was
pub record CounterAfterOf (n : ℕ) (z : ℤ) (d : Details) : Type 0 where
  pub fits : GoodAmounts d.amounts → counter_fits n (z +ℤ counted d) ≡ true → counter_after n z d ≡ record { fits = true; counter = z +ℤ counted d }
  pub over : counter_fits n (z +ℤ counted d) ≡ false → counter_after n z d ≡ record { fits = false; counter = z }
  pub beyond : (GoodAmounts d.amounts → ⊥) → counter_after n z d ≡ record { fits = false; counter = z }

abbrev pub CounterAfterAdds : Type 0
CounterAfterAdds = (n : ℕ) (z : ℤ) (d : Details) → CounterAfterOf n z d

-- ---- "Counter field: standard, BASE64 of the encrypted counter after this receipt; cancellation, BASE64 of 'STO'; training, BASE64 of 'TRA'";
-- "TRA gives VFJB, STO gives U1RP"

pub record CounterFieldsOf (n : ℕ) (counter : List ℕ) : Type 0 where
  pub standard : counter_field n Standard counter ≡ encoding alphabet.Standard (take n counter)
  pub cancellation : counter_field n Cancellation counter ≡ ascii "U1RP"
  pub training : counter_field n Training counter ≡ ascii "VFJB"

abbrev pub CounterFieldsAre : Type 0
CounterFieldsAre = (n : ℕ) (counter : List ℕ) → CounterFieldsOf n counter
