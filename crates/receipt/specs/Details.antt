-- The details of a receipt: what the questions ask of them, and the counter after it.
use Rattle.std.specs.Prelude.{◌≡◌, ℕ, Bool, true, false, ◌&&◌, cond, List, [], ◌∷◌, Option, Some, None, eqb, ℤ, pos, nat_abs, ◌+ℤ◌}
use Rattle.primitives.specs.Counter.{counter_fits}
use Rattle.receipt.specs.Amount.{amount_limit, within}
use Rattle.receipt.specs.declared.details.Kind.{Kind}
use Rattle.receipt.specs.declared.details.Kind.TheVariants.{Standard, Cancellation, Training}
use Rattle.receipt.specs.declared.details.Details.{Details}

-- question 9: "Amounts within limits?", of a limit
unfoldable pub amounts_within : ℕ → List ℤ → Bool
amounts_within limit [] = true
amounts_within limit (z ∷ zs) = within limit z && amounts_within limit zs

-- and of the limit that the calls have
abbrev pub amounts_good : List ℤ → Bool
amounts_good zs = amounts_within amount_limit zs

-- ---- questions 10 and 18: "standard with five zeros?"

unfoldable pub all_zero : List ℤ → Bool
all_zero [] = true
all_zero (z ∷ zs) = eqb (nat_abs z) 0 && all_zero zs

abbrev pub standard : Kind → Bool
standard Standard = true
standard Cancellation = false
standard Training = false

unfoldable pub start_good : Details → Bool
start_good d = standard d.kind && all_zero d.amounts

-- ---- "a standard or cancellation receipt adds its five amounts; training adds nothing"

unfoldable pub total : List ℤ → ℤ
total [] = pos 0
total (z ∷ zs) = z +ℤ total zs

abbrev pub counted_of : Kind → List ℤ → ℤ
counted_of Standard zs = total zs
counted_of Cancellation zs = total zs
counted_of Training zs = pos 0

unfoldable pub counted : Details → ℤ
counted d = counted_of d.kind d.amounts

-- the counter after a receipt, and whether it fits; if it does not, the counter before the receipt
pub record After : Type 0 where
  pub fits : Bool
  pub counter : ℤ

-- question 11: "New counter fits N bytes?", asked of the counter after all five amounts.
-- If it does not fit, or an amount is beyond its limit, the counter stays as it was. Question 9 is asked first, so no call gets this far
-- with such an amount; refusing it here keeps the sum within the code's numbers
unfoldable pub counter_after : ℕ → ℤ → Details → After
counter_after n z d =
    cond (amounts_good d.amounts && counter_fits n (z +ℤ counted d)) (record { fits = true; counter = z +ℤ counted d })
    (record { fits = false; counter = z })

-- what the call answers after the counter z, as that record
abbrev pub as_after : ℤ → Option ℤ → After
as_after z (Some after) = record { fits = true; counter = after }
as_after z None = record { fits = false; counter = z }

-- it determines the answer
abbrev pub AfterDeterminesAnswer : Type 0
AfterDeterminesAnswer = (z : ℤ) (a b : Option ℤ) → as_after z a ≡ as_after z b → a ≡ b
