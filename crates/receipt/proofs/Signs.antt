-- The bytes that numbers, amounts and dates are made of: digits, ',', '-', ':' and 'T'.
use Rattle.std.proofs.Common.{List, [], ◌∷◌, ℕ, zero, suc, ◌+◌, ◌/◌, ◌%◌, ◌<◌, arith, ℤ, pos, negsuc}
use Rattle.primitives.proofs.Each.{Each, none_left, one_more, each_append}
use Rattle.receipt.specs.Decimal.{fixed_onto, fixed, digits, width}
use Rattle.receipt.specs.Amount.{cents, amount}
use Rattle.receipt.specs.DateTime.{pair, date_text}
use Rattle.receipt.specs.declared.datetime.DateTime.{DateTime}

-- ---- a rule that every digit obeys

module _ {P : ℕ → Type 0} (digit : (d : ℕ) → d < 10 → P (48 + d)) where
  each_onto : (w n : ℕ) {acc : List ℕ} → Each P acc → Each P (fixed_onto w n acc)
  unfolding fixed_onto
  each_onto zero n p = p
  each_onto (suc w) n p = each_onto w (n / 10) (one_more (digit (n % 10) (omega arith)) p)

  each_fixed : (w n : ℕ) → Each P (fixed w n)
  unfolding fixed
  each_fixed w n = each_onto w n none_left

  pub each_digits : (n : ℕ) → Each P (digits n)
  unfolding digits
  each_digits n = each_fixed (width n) n

-- ---- a rule that all of them obey

pub record Signs (P : ℕ → Type 0) : Type 0 where
  pub digit : (d : ℕ) → d < 10 → P (48 + d)
  pub comma : P 44
  pub minus : P 45
  pub colon : P 58
  pub letter : P 84

module _ {P : ℕ → Type 0} (s : Signs P) where
  one : {b : ℕ} → P b → Each P (b ∷ [])
  one h = one_more h none_left

  each_cents : (m : ℕ) → Each P (cents m)
  unfolding cents
  each_cents m = each_append (each_append (each_digits s.digit (m / 100)) (one s.comma)) (each_fixed s.digit 2 m)

  pub each_amount : (z : ℤ) → Each P (amount z)
  unfolding amount
  each_amount (pos m) = each_cents m
  each_amount (negsuc m) = each_append (one s.minus) (each_cents (suc m))

  each_pair : (letter n : ℕ) → P letter → Each P (pair letter n)
  unfolding pair
  each_pair letter n h = each_append (one h) (each_fixed s.digit 2 n)

  pub each_date : (t : DateTime) → Each P (date_text t)
  unfolding date_text
  each_date t =
      each_append
      (each_append
      (each_append
      (each_append
      (each_append (each_fixed s.digit 4 t.year) (each_pair 45 t.month s.minus))
      (each_pair 45 t.day s.minus))
      (each_pair 84 t.hour s.letter))
      (each_pair 58 t.minute s.colon))
      (each_pair 58 t.second s.colon)
