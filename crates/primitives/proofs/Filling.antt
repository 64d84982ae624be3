-- A loop that writes a number's digits from the end, and the answer of a writer that has no room.
use Rattle.std.proofs.Common.{◌≡◌, ℕ, zero, suc, ◌+◌, ◌-◌, ◌<◌, ◌≤◌, List, [], ◌∷◌, ◌++◌, length, set, sym, ap, ◌∙◌, append_assoc, append-nil, add-zero, arith}
use Rattle.primitives.specs.Place.{overwrite, placed, place_after}
use Rattle.primitives.proofs.Over.{over_nil, over_cons, placed_full, after_full}

-- there is no room for a text, so nothing was written
module _ (out : List ℕ) (at : ℕ) (ys : List ℕ) where
  pub wrote_nothing : {n : ℕ} → length ys ≡ n → length out < at + n → (at ≡ place_after out at ys) × (out ≡ placed out at ys)
  wrote_nothing l h =
      let k : length out < at + length ys = omega arith in
      (sym (after_full out at ys k), sym (placed_full out at ys k))

-- ---- the digits of a number from the end: i of them are left to write, those of the number v

-- `text n v` is what n digits of v are written as
pub record Putting (text : ℕ → ℕ → List ℕ) (out₀ : List ℕ) (at n x : ℕ) (out : List ℕ) (v i : ℕ) : Type 0 where
  pub done : List ℕ
  pub long : length done + i ≡ n
  pub room : at + n ≤ length out₀
  pub is : out ≡ overwrite out₀ (at + i) done
  pub left : text i v ++ done ≡ text n x

pub put_start : (text : ℕ → ℕ → List ℕ) (out₀ : List ℕ) (at n x : ℕ) → at + n ≤ length out₀ → Putting text out₀ at n x out₀ x n
put_start text out₀ at n x h =
    record { done = []; long = omega arith; room = h; is = sym (over_nil out₀ (at + n)); left = append-nil (text n x) }

one_less : (text : ℕ → ℕ → List ℕ) (i v rest digit : ℕ) (done : List ℕ) → ((n : ℕ) → text (suc n) v ≡ text n rest ++ (digit ∷ [])) → 0 < i
    → text (i - 1) rest ++ (digit ∷ done) ≡ text i v ++ done
one_less text zero v rest digit done r h = absurd (omega arith)
one_less text (suc i) v rest digit done r h =
    let e : suc i - 1 ≡ i = omega arith in
    ap (λ (k : ℕ). text k rest ++ (digit ∷ done)) e
    ∙ sym (append_assoc (text i rest) (digit ∷ []) done)
    ∙ ap (λ (l : List ℕ). l ++ done) (sym (r i))

module _ {text : ℕ → ℕ → List ℕ} {out₀ out : List ℕ} {at n x v i : ℕ} (p : Putting text out₀ at n x out v i) where
  -- the lowest digit of v, and the number without it
  pub put_one : (rest digit : ℕ) → ((n : ℕ) → text (suc n) v ≡ text n rest ++ (digit ∷ [])) → 0 < i → Putting text out₀ at n x (set out (at + (i - 1)) digit) rest (i - 1)
  put_one rest digit r h =
      record {
        done = digit ∷ p.done;
        long = omega (arith, p.long);
        room = p.room;
        is =
            ap (λ (l : List ℕ). set l (at + (i - 1)) digit) (p.is ∙ ap (λ (k : ℕ). overwrite out₀ k p.done) e)
            ∙ over_cons out₀ (at + (i - 1)) p.done digit (omega (arith, p.room, p.long));
        left = one_less text i v rest digit p.done r h ∙ p.left;
      }
    where
      e : at + i ≡ at + (i - 1) + 1
      e = omega arith

  pub put_all : text 0 v ≡ [] → i ≤ 0 → out ≡ overwrite out₀ at (text n x)
  put_all z h =
      let e : i ≡ 0 = omega arith in
      p.is
      ∙ ap (λ (k : ℕ). overwrite out₀ k p.done) (ap (λ (k : ℕ). at + k) e ∙ add-zero at)
      ∙ ap (overwrite out₀ at) (ap (λ (l : List ℕ). l ++ p.done) (sym z) ∙ ap (λ (k : ℕ). text k v ++ p.done) (sym e) ∙ p.left)
