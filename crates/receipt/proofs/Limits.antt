-- An entry under another limit of an amount: nothing but question 9 is asked again.
use Rattle.std.proofs.Common.{ℕ, ◌≤◌, ◌≡◌, refl, true, List, [], ◌∷◌, arith, le-leb, leb-true, ℤ, nat_abs}
use Rattle.primitives.proofs.Rows.{both}
use Rattle.receipt.specs.Amount.{within}
use Rattle.receipt.specs.Details.{amounts_within}
use Rattle.receipt.specs.Compact.{spellable_within}
use Rattle.receipt.specs.declared.settings.Settings.{Settings}
use Rattle.receipt.specs.declared.entry.Entry.{Entry}
use Rattle.receipt.proofs.Entries.{admitted_within, within_yes}

module _ (limit other : ℕ) (h : limit ≤ other) where
  within_other : (z : ℤ) → within limit z ≡ true → within other z ≡ true
  unfolding within
  within_other z e = le-leb (nat_abs z) other (omega (arith, leb-true (nat_abs z) limit e))

  -- amounts within a limit are within a higher one
  pub amounts_other : (zs : List ℤ) → amounts_within limit zs ≡ true → amounts_within other zs ≡ true
  unfolding amounts_within
  amounts_other [] e = refl
  amounts_other (z ∷ zs) e =
      let p = both (within limit z) (amounts_within limit zs) e in
      rw (within_other z p.0) (amounts_other zs p.1)

module _ (limit : ℕ) (s : Settings) (n : ℕ) (e : Entry) (g : spellable_within limit s n e ≡ true) where
  pub spellable_amounts : amounts_within limit e.fields.details.amounts ≡ true
  spellable_amounts = (admitted_within limit s n e g).amounts

  -- an entry that can be spelled under one limit can be under any that its amounts keep
  pub spellable_other : (other : ℕ) → amounts_within other e.fields.details.amounts ≡ true → spellable_within other s n e ≡ true
  spellable_other other h =
      let a = admitted_within limit s n e g in
      within_yes other s n e
      (record { sized = a.sized; width = a.width; number = a.number; date = a.date; amounts = h; counter = a.counter; signature = a.signature })
