-- Laws of writing at a place: `overwrite`, and the writers' answers `placed` and `place_after`.
use Rattle.std.proofs.lemmas.Bool.{lt-leb}
use Rattle.std.proofs.Common.{◌≡◌, ℕ, suc, ◌+◌, ◌<◌, ◌≤◌, Bool, true, false, cond, leb, List, [], ◌∷◌, ◌++◌, length, get_or, take, drop, set, sym, refl, ap, ◌∙◌, append_assoc, add-zero, add-one, arith, length-append, length-drop, take-append-drop, length-take-le, drop-cons, take-suc, drop-drop, take_at, drop_at, le-leb, leb-true}
use Rattle.std.proofs.Math.Numerals.{add-two, add-three}
use Rattle.std.proofs.Math.Seq.{set_at, sets, sets-eq}
use Rattle.primitives.specs.Place.{overwrite, room, placed, place_after}

pub over_nil : (xs : List ℕ) (at : ℕ) → overwrite xs at [] ≡ xs
unfolding overwrite
over_nil xs at = rw (add-zero at) (take-append-drop at xs)

module _ (xs : List ℕ) (at : ℕ) (ys : List ℕ) where
  -- the front: up to the end of what was written
  front : at ≤ length xs → length (take at xs ++ ys) ≡ at + length ys
  front h = length-append (take at xs) ys ∙ ap (λ (n : ℕ). n + length ys) (length-take-le at xs h)

  split : overwrite xs at ys ≡ (take at xs ++ ys) ++ drop (at + length ys) xs
  unfolding overwrite
  split = sym (append_assoc (take at xs) ys (drop (at + length ys) xs))

  pub length_over : at + length ys ≤ length xs → length (overwrite xs at ys) ≡ length xs
  length_over h =
      ap length split ∙ length-append (take at xs ++ ys) (drop (at + length ys) xs)
      ∙ omega (arith, front (omega arith), length-drop (at + length ys) xs)

  -- one more byte after it
  pub over_snoc : (b : ℕ) → at + length ys < length xs → set (overwrite xs at ys) (at + length ys) b ≡ overwrite xs at (ys ++ (b ∷ []))
  unfolding overwrite
  over_snoc b h =
      ap (λ (l : List ℕ). set l k b) (split ∙ ap (λ (l : List ℕ). p ++ l) (drop-cons xs k 0 h))
      ∙ set_at p (get_or xs k 0) (drop (suc k) xs) b k (front (omega arith))
      ∙ append_assoc (take at xs) ys (b ∷ drop (suc k) xs)
      ∙ ap (λ (l : List ℕ). take at xs ++ l) (sym (append_assoc ys (b ∷ []) (drop (suc k) xs)) ∙ ap (λ (n : ℕ). (ys ++ (b ∷ [])) ++ drop n xs) e)
    where
      k : ℕ
      k = at + length ys

      p : List ℕ
      p = take at xs ++ ys

      e : suc (at + length ys) ≡ at + length (ys ++ (b ∷ []))
      e = omega (arith, length-append ys (b ∷ []))

  -- one more byte before it
  pub over_cons : (b : ℕ) → at < length xs → set (overwrite xs (at + 1) ys) at b ≡ overwrite xs at (b ∷ ys)
  unfolding overwrite
  over_cons b h =
      ap (λ (l : List ℕ). set l at b) (ap (λ (l : List ℕ). l ++ rest) (ap (λ (n : ℕ). take n xs) (add-one at) ∙ take-suc xs at 0 h) ∙ append_assoc (take at xs) (get_or xs at 0 ∷ []) rest)
      ∙ set_at (take at xs) (get_or xs at 0) rest b at (length-take-le at xs (omega arith))
      ∙ ap (λ (n : ℕ). take at xs ++ ((b ∷ ys) ++ drop n xs)) e
    where
      rest : List ℕ
      rest = ys ++ drop (at + 1 + length ys) xs

      e : at + 1 + length ys ≡ at + suc (length ys)
      e = omega arith

  -- two writes in a row are one
  pub over_over : (zs : List ℕ) → at + length ys ≤ length xs → overwrite (overwrite xs at ys) (at + length ys) zs ≡ overwrite xs at (ys ++ zs)
  unfolding overwrite
  over_over zs h =
      ap (λ (l : List ℕ). take k l ++ (zs ++ drop (k + length zs) l)) split
      ∙ (λ i. take_at p d k (front (omega arith)) i ++ (zs ++ tail i))
      ∙ append_assoc (take at xs) ys (zs ++ drop (k + length zs) xs)
      ∙ ap (λ (l : List ℕ). take at xs ++ l) (sym (append_assoc ys zs (drop (k + length zs) xs)) ∙ ap (λ (n : ℕ). (ys ++ zs) ++ drop n xs) e)
    where
      k : ℕ
      k = at + length ys

      p : List ℕ
      p = take at xs ++ ys

      d : List ℕ
      d = drop k xs

      tail : drop (k + length zs) (p ++ d) ≡ drop (k + length zs) xs
      tail = sym (drop-drop (length zs) k (p ++ d)) ∙ ap (drop (length zs)) (drop_at p d k (front (omega arith))) ∙ drop-drop (length zs) k xs

      e : k + length zs ≡ at + length (ys ++ zs)
      e = omega (arith, length-append ys zs)

  -- what was written is read there
  pub read_over : at + length ys ≤ length xs → take (length ys) (drop at (overwrite xs at ys)) ≡ ys
  unfolding overwrite
  read_over h =
      ap (take (length ys)) (drop_at (take at xs) (ys ++ drop (at + length ys) xs) at (length-take-le at xs (omega arith)))
      ∙ take_at ys (drop (at + length ys) xs) (length ys) refl

  -- what stands before it is unchanged
  pub before_over : at ≤ length xs → take at (overwrite xs at ys) ≡ take at xs
  unfolding overwrite
  before_over h = take_at (take at xs) (ys ++ drop (at + length ys) xs) at (length-take-le at xs h)

  -- a write at the start of a part that was lent from `at` on
  pub part_over : take at xs ++ overwrite (drop at xs) 0 ys ≡ overwrite xs at ys
  unfolding overwrite
  part_over = ap (λ (l : List ℕ). take at xs ++ (ys ++ l)) (drop-drop (0 + length ys) at xs ∙ ap (λ (n : ℕ). drop n xs) (e))
    where
      e : at + (0 + length ys) ≡ at + length ys
      e = omega arith

-- stores one after the other are one write
pub over_sets : (xs : List ℕ) (at : ℕ) (ys : List ℕ) → at + length ys ≤ length xs → sets xs at ys ≡ overwrite xs at ys
unfolding overwrite
over_sets xs at ys h = sets-eq ys xs at h ∙ append_assoc (take at xs) ys (drop (at + length ys) xs)

pub four : (q : List ℕ) → length q ≡ 4 → q ≡ get_or q 0 0 ∷ get_or q 1 0 ∷ get_or q 2 0 ∷ get_or q 3 0 ∷ []
four [] e = absurd (omega arith)
four (a ∷ []) e = absurd (omega arith)
four (a ∷ b ∷ []) e = absurd (omega arith)
four (a ∷ b ∷ c ∷ []) e = absurd (omega arith)
four (a ∷ b ∷ c ∷ d ∷ []) e = refl
four (a ∷ b ∷ c ∷ d ∷ x ∷ xs) e = absurd (omega arith)

pub put_four : (xs : List ℕ) (at : ℕ) (q : List ℕ) → length q ≡ 4 → at + 4 ≤ length xs →
    set (set (set (set xs at (get_or q 0 0)) (at + 1) (get_or q 1 0)) (at + 2) (get_or q 2 0)) (at + 3) (get_or q 3 0) ≡ overwrite xs at q
put_four xs at q e h =
    (λ i. set (set (set (set xs at (get_or q 0 0)) (add-one at i) (get_or q 1 0)) (add-two at i) (get_or q 2 0)) (add-three at i) (get_or q 3 0))
    ∙ over_sets xs at (get_or q 0 0 ∷ get_or q 1 0 ∷ get_or q 2 0 ∷ get_or q 3 0 ∷ []) h
    ∙ ap (overwrite xs at) (sym (four q e))

-- ---- the writers' answers, with room and without

module _ (xs : List ℕ) (at : ℕ) (ys : List ℕ) where
  pub placed_room : at + length ys ≤ length xs → placed xs at ys ≡ overwrite xs at ys
  unfolding placed room
  placed_room h = rw (le-leb (at + length ys) (length xs) h)

  pub placed_full : length xs < at + length ys → placed xs at ys ≡ xs
  unfolding placed room
  placed_full h = rw (lt-leb (at + length ys) (length xs) h)

  pub after_room : at + length ys ≤ length xs → place_after xs at ys ≡ at + length ys
  unfolding place_after room
  after_room h = rw (le-leb (at + length ys) (length xs) h)

  pub after_full : length xs < at + length ys → place_after xs at ys ≡ at
  unfolding place_after room
  after_full h = rw (lt-leb (at + length ys) (length xs) h)

  pub room_true : at + length ys ≤ length xs → room xs at ys ≡ true
  unfolding room
  room_true h = le-leb (at + length ys) (length xs) h

  pub room_false : length xs < at + length ys → room xs at ys ≡ false
  unfolding room
  room_false h = lt-leb (at + length ys) (length xs) h

  -- a writer never changes the buffer's length
  pub length_placed : length (placed xs at ys) ≡ length xs
  unfolding placed room
  length_placed = go (leb (at + length ys) (length xs)) refl
    where
      go : (t : Bool) → leb (at + length ys) (length xs) ≡ t → length (cond t (overwrite xs at ys) xs) ≡ length xs
      go true e = length_over xs at ys (leb-true (at + length ys) (length xs) e)
      go false e = refl

-- two writes in a row, the second after the first
pub then : (b ys zs : List ℕ) (at at' : ℕ) {b₁ b₂ : List ℕ} → b₁ ≡ overwrite b at ys → b₂ ≡ overwrite b₁ at' zs → at' ≡ at + length ys
    → at + length ys ≤ length b → b₂ ≡ overwrite b at (ys ++ zs)
then b ys zs at at' p q e h = q ∙ (λ i. overwrite (p i) (e i) zs) ∙ over_over b at ys zs h
