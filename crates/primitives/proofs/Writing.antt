-- A loop that writes a list piece by piece, from `at` on: what is done, and what is left.
use Rattle.std.proofs.Common.{◌≡◌, ℕ, ◌+◌, ◌<◌, ◌≤◌, List, [], ◌∷◌, ◌++◌, length, get_or, drop, sym, refl, ap, ◌∙◌, subst, append_assoc, append-nil, add-zero, add_assoc, add-one, arith, length-append, drop-cons}
use Rattle.primitives.specs.Place.{overwrite}
use Rattle.primitives.proofs.Over.{over_nil, over_over, length_over}

-- out is out₀ with a first part of `whole` written from `at` to o, and `rest` is what is left of it
pub record Writing (out₀ : List ℕ) (at : ℕ) (whole out : List ℕ) (o : ℕ) (rest : List ℕ) : Type 0 where
  pub done : List ℕ
  pub is : out ≡ overwrite out₀ at done
  pub here : o ≡ at + length done
  pub left : done ++ rest ≡ whole
  pub room : at + length whole ≤ length out₀

pub writing_start : (out₀ : List ℕ) (at : ℕ) (whole : List ℕ) → at + length whole ≤ length out₀ → Writing out₀ at whole out₀ at whole
writing_start out₀ at whole h = record { done = []; is = sym (over_nil out₀ at); here = sym (add-zero at); left = refl; room = h }

module _ {out₀ whole out : List ℕ} {at o : ℕ} where
  -- the same, with what is left in another form
  pub writing_left : {rest rest' : List ℕ} → Writing out₀ at whole out o rest → rest ≡ rest' → Writing out₀ at whole out o rest'
  writing_left {rest} {rest'} w e = subst (Writing out₀ at whole out o) e w

  sizes : {rest : List ℕ} (w : Writing out₀ at whole out o rest) → length w.done + length rest ≡ length whole
  sizes {rest} w = sym (length-append w.done rest) ∙ ap length w.left

  pub writing_long : {rest : List ℕ} → Writing out₀ at whole out o rest → length out ≡ length out₀
  writing_long w = ap length w.is ∙ length_over out₀ at w.done (omega (arith, sizes w, w.room))

  pub writing_fits : {rest : List ℕ} → Writing out₀ at whole out o rest → o + length rest ≤ length out
  writing_fits w = omega (arith, sizes w, w.room, w.here, writing_long w)

  pub writing_more : {out' : List ℕ} (q rest : List ℕ) → Writing out₀ at whole out o (q ++ rest) → out' ≡ overwrite out o q → Writing out₀ at whole out' (o + length q) rest
  writing_more q rest w e =
      record {
        done = w.done ++ q;
        is = e ∙ (λ i. overwrite (w.is i) (w.here i) q) ∙ over_over out₀ at w.done q (omega (arith, sizes w, w.room));
        here = omega (arith, w.here, length-append w.done q);
        left = append_assoc w.done q rest ∙ w.left;
        room = w.room;
      }

  pub writing_end : Writing out₀ at whole out o [] → (o ≡ at + length whole) × (out ≡ overwrite out₀ at whole)
  writing_end w =
      let e : w.done ≡ whole = sym (append-nil w.done) ∙ w.left in
      (w.here ∙ ap (λ (l : List ℕ). at + length l) e, w.is ∙ ap (overwrite out₀ at) e)

-- what is left of a list that is read three at a time
pub drop_one : (s : List ℕ) (i : ℕ) → i < length s → drop i s ≡ get_or s i 0 ∷ drop (i + 1) s
drop_one s i h = drop-cons s i 0 h ∙ ap (λ (n : ℕ). get_or s i 0 ∷ drop n s) (sym (add-one i))

pub drop_two : (s : List ℕ) (i : ℕ) → i + 1 < length s → drop i s ≡ get_or s i 0 ∷ get_or s (i + 1) 0 ∷ drop (i + 2) s
drop_two s i h =
    drop_one s i (omega arith)
    ∙ ap (λ (l : List ℕ). get_or s i 0 ∷ l) (drop_one s (i + 1) h ∙ ap (λ (n : ℕ). get_or s (i + 1) 0 ∷ drop n s) (add_assoc i 1 1))

pub drop_three : (s : List ℕ) (i : ℕ) → i + 2 < length s → drop i s ≡ get_or s i 0 ∷ get_or s (i + 1) 0 ∷ get_or s (i + 2) 0 ∷ drop (i + 3) s
drop_three s i h =
    drop_two s i (omega arith)
    ∙ ap (λ (l : List ℕ). get_or s i 0 ∷ get_or s (i + 1) 0 ∷ l) (drop_one s (i + 2) h ∙ ap (λ (n : ℕ). get_or s (i + 2) 0 ∷ drop n s) (add_assoc i 2 1))
