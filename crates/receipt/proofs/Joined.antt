-- Fields joined by '_': finding them, and the loops over five amounts.
use Rattle.std.proofs.Common.{◌≡◌, refl, sym, ap, ◌∙◌, subst, Bool, true, false, cond, not, ◌&&◌, Some, None, eqb, ltb, ltb-true, ltb-false, List, [], ◌∷◌, ◌++◌, append_assoc, append-nil, ℕ, zero, suc, ◌+◌, ◌-◌, ◌<◌, ◌≤◌, arith, add-one, ne_eqb, ℤ, pos, length, take, drop, get_or, set, length-append, length-drop, length-set, drop_of_length-le, drop-cons, take-suc-set, take_all}
use Rattle.std.specs.List.{list_all, position, position_or_len}
use Rattle.primitives.specs.Place.{overwrite}
use Rattle.primitives.proofs.Writing.{Writing, writing_left, writing_more, writing_end, writing_fits}
use Rattle.receipt.specs.Amount.{amount, within_limit, read_amount, amounts_text}
use Rattle.receipt.specs.Separated.{after, skip, read_amounts}
use Rattle.receipt.specs.Details.{amounts_good, amounts_within}
use Rattle.primitives.proofs.Over.{then}

-- ---- after the next '_'

pub after_mark : (bs : List ℕ) → after (95 ∷ bs) ≡ bs
unfolding after
after_mark bs = refl

pub after_other : (b : ℕ) (bs : List ℕ) → (b ≡ 95 → ⊥) → after (b ∷ bs) ≡ after bs
unfolding after
after_other b bs h = rw (ne_eqb b 95 h)

-- where the next one stands
abbrev mark : List ℕ → ℕ
mark bs = position_or_len (λ b. eqb b 95) bs

after_drop : (bs : List ℕ) → after bs ≡ drop (suc (mark bs)) bs
unfolding after
after_drop [] = refl
after_drop (b ∷ bs) = go (eqb b 95) (after_drop bs)
  where
    go : (t : Bool) → after bs ≡ drop (suc (mark bs)) bs → cond t bs (after bs) ≡ drop (suc (cond (not t) (1 + mark bs) 0)) (b ∷ bs)
    go true q = refl
    go false q = let one : suc (mark bs) ≡ 1 + mark bs = omega arith in q ∙ ap (λ (k : ℕ). drop k bs) one

pub after_short : (bs : List ℕ) → length (after bs) ≤ length bs
after_short bs = omega (arith, ap length (after_drop bs), length-drop (suc (mark bs)) bs)

module _ (bs : List ℕ) where
  pub after_some : {n : ℕ} → Some n ≡ position (λ b. eqb b 95) bs → (n < length bs) × (drop (n + 1) bs ≡ after bs)
  after_some {n} e = go (ltb (mark bs) (length bs)) refl e
    where
      go : (t : Bool) → ltb (mark bs) (length bs) ≡ t → Some n ≡ cond t (Some (mark bs)) None → (n < length bs) × (drop (n + 1) bs ≡ after bs)
      go true l q =
          let same : n ≡ mark bs = cc in
          let next : n + 1 ≡ suc (mark bs) = omega arith in
          (omega (arith, ltb-true (mark bs) (length bs) l), ap (λ (k : ℕ). drop k bs) next ∙ sym (after_drop bs))
      go false l q = cc

  pub after_none : None ≡ position (λ b. eqb b 95) bs → [] ≡ after bs
  after_none e = go (ltb (mark bs) (length bs)) refl e
    where
      go : (t : Bool) → ltb (mark bs) (length bs) ≡ t → None ≡ cond t (Some (mark bs)) None → [] ≡ after bs
      go true l q = cc
      go false l q =
          let past : length bs ≤ suc (mark bs) = omega (arith, ltb-false (mark bs) (length bs) l) in
          sym (after_drop bs ∙ drop_of_length-le bs past)

-- ---- after n fields

pub skip_none : (bs : List ℕ) → bs ≡ skip 0 bs
unfolding skip
skip_none bs = refl

pub skip_more : (k : ℕ) (bs : List ℕ) → skip (k + 1) bs ≡ after (skip k bs)
unfolding skip
skip_more zero bs = refl
skip_more (suc k) bs = let e : suc k + 1 ≡ suc (k + 1) = omega arith in ap (λ (n : ℕ). skip n bs) e ∙ skip_more k (after bs)

-- ---- five amounts

pub drop_here : (zs : List ℤ) (i : ℕ) → i < length zs → drop i zs ≡ get_or zs i (pos 0) ∷ drop (i + 1) zs
drop_here zs i h = drop-cons zs i (pos 0) h ∙ ap (λ (k : ℕ). get_or zs i (pos 0) ∷ drop k zs) (sym (add-one i))

pub ok_here : (zs : List ℤ) (i : ℕ) → i < length zs → amounts_good (drop i zs) ≡ (within_limit (get_or zs i (pos 0)) && amounts_good (drop (i + 1) zs))
unfolding amounts_within
ok_here zs i h = ap amounts_good (drop_here zs i h)

pub all_good : (zs : List ℤ) → list_all within_limit zs ≡ amounts_good zs
unfolding amounts_within
all_good [] = refl
all_good (z ∷ zs) = ap (λ (t : Bool). within_limit z && t) (all_good zs)

-- the loop that writes
module _ (zs : List ℤ) (i : ℕ) {out₀ out : List ℕ} {at p : ℕ} (w : Writing out₀ at (amounts_text zs) out p (amounts_text (drop i zs))) (h : i < length zs) where
  left : amounts_text (drop i zs) ≡ (amount (get_or zs i (pos 0)) ++ (95 ∷ [])) ++ amounts_text (drop (i + 1) zs)
  unfolding amounts_text
  left = ap amounts_text (drop_here zs i h)

  -- room for the next amount and its '_'
  pub amounts_fit : p + length (amount (get_or zs i (pos 0))) + 1 ≤ length out
  amounts_fit = omega (arith, writing_fits w, ap length left, length-append (amount (get_or zs i (pos 0)) ++ (95 ∷ [])) (amounts_text (drop (i + 1) zs)), length-append (amount (get_or zs i (pos 0))) (95 ∷ []))

  pub amounts_more : {e : ℕ} {out₁ out₂ : List ℕ} → e ≡ p + length (amount (get_or zs i (pos 0))) → out₁ ≡ overwrite out p (amount (get_or zs i (pos 0)))
      → out₂ ≡ overwrite out₁ e (95 ∷ []) → Writing out₀ at (amounts_text zs) out₂ (e + 1) (amounts_text (drop (i + 1) zs))
  amounts_more {e} {out₁} {out₂} q e₁ e₂ =
      let fits = amounts_fit in
      let place : p + length (amount (get_or zs i (pos 0)) ++ (95 ∷ [])) ≡ e + 1 = omega (arith, length-append (amount (get_or zs i (pos 0))) (95 ∷ [])) in
      subst (λ (o : ℕ). Writing out₀ at (amounts_text zs) out₂ o (amounts_text (drop (i + 1) zs))) place
      (writing_more (amount (get_or zs i (pos 0)) ++ (95 ∷ [])) (amounts_text (drop (i + 1) zs)) (writing_left w left) (then _ _ _ _ _ e₁ e₂ q (omega arith)))

pub amounts_end : (zs : List ℤ) (i : ℕ) {out₀ out : List ℕ} {at p : ℕ} → Writing out₀ at (amounts_text zs) out p (amounts_text (drop i zs)) → length zs ≤ i
    → (p ≡ at + length (amounts_text zs)) × (out ≡ overwrite out₀ at (amounts_text zs))
unfolding amounts_text
amounts_end zs i w h = writing_end (writing_left w (ap amounts_text (drop_of_length-le zs h)))

-- the loop that reads: `rest` is left to read after i amounts
pub record Taking (text : List ℕ) (a : List ℤ) (rest : List ℕ) (i : ℕ) : Type 0 where
  pub five : length a ≡ 5
  pub is : take i a ++ read_amounts (5 - i) rest ≡ read_amounts 5 text

pub taking_start : (text : List ℕ) (a : List ℤ) → length a ≡ 5 → Taking text a text 0
taking_start text a l = record { five = l; is = refl }

read_one : (k : ℕ) (bs : List ℕ) → 0 < k → read_amounts k bs ≡ read_amount bs ∷ read_amounts (k - 1) (after bs)
unfolding read_amounts
read_one zero bs h = absurd (omega arith)
read_one (suc k) bs h = let e : k ≡ suc k - 1 = omega arith in ap (λ (j : ℕ). read_amount bs ∷ read_amounts j (after bs)) e

module _ {text rest : List ℕ} {i : ℕ} {a : List ℤ} (t : Taking text a rest i) where
  pub taking_more : {z : ℤ} {next : List ℕ} → i < 5 → z ≡ read_amount rest → next ≡ after rest → Taking text (set a i z) next (i + 1)
  taking_more {z} {next} h e n =
      record {
        five = length-set a i z ∙ t.five;
        is = rw (n, add-one i, take-suc-set a i z (omega (arith, t.five)), append_assoc, e, s)
            (ap (λ (l : List ℤ). take i a ++ l) (sym (read_one (5 - i) rest (omega arith))) ∙ t.is);
      }
    where
      s : 5 - suc i ≡ 5 - i - 1
      s = omega arith

  pub taking_end : 5 ≤ i → a ≡ read_amounts 5 text
  unfolding read_amounts
  taking_end h =
      let e : 5 - i ≡ 0 = omega arith in
      sym (take_all i a (omega (arith, t.five)))
      ∙ sym (append-nil (take i a))
      ∙ sym (ap (λ (k : ℕ). take i a ++ read_amounts k rest) e)
      ∙ t.is
