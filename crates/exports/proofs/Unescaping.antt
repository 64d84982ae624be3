-- Letters as they lie against what they spell.
use Rattle.std.proofs.Common.{◌≡◌, refl, ap, true, List, ◌∷◌, ℕ, ◌<◌, ◌≤◌, arith, eqb, length, take}
use mathlib.Core.Bool.{or-true}
use Rattle.exports.specs.Places.{holds, Unescaped, nothing, letter, escape}

-- they are the same, or there is an escape: a backslash lies among the first bytes, as many as are spelled, and "=" is spelled
pub data AsTheyLie (raw w : List ℕ) : Type 0 where
  same : raw ≡ w → AsTheyLie raw w
  escaped : length w < length raw → holds 92 (take (length w) raw) ≡ true → holds 61 w ≡ true → AsTheyLie raw w

lie_letter : (b : ℕ) {raw w : List ℕ} → AsTheyLie raw w → AsTheyLie (b ∷ raw) (b ∷ w)
unfolding holds
lie_letter b (same e) = same (ap (λ (l : List ℕ). b ∷ l) e)
lie_letter b (escaped l s q) = escaped (omega arith) (rw s (or-true (eqb b 92))) (rw q (or-true (eqb b 61)))

-- what is spelled is not longer
pub spells_shorter : {raw w : List ℕ} → Unescaped raw w → length w ≤ length raw
spells_shorter nothing = omega arith
spells_shorter (letter p u) = let h = spells_shorter u in omega arith
spells_shorter (escape u) = let h = spells_shorter u in omega arith

pub as_they_lie : {raw w : List ℕ} → Unescaped raw w → AsTheyLie raw w
unfolding holds
as_they_lie nothing = same refl
as_they_lie (letter {b = b} p u) = lie_letter b (as_they_lie u)
as_they_lie (escape u) = let h = spells_shorter u in escaped (omega arith) refl refl
