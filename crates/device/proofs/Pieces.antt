-- Pieces one after the other, one for each element of a list: written by a loop, and read at a place.
use Rattle.std.proofs.Common.{ℕ, zero, suc, ◌+◌, ◌*◌, ◌≤◌, ◌<◌, ◌≡◌, sym, ap, ◌∙◌, subst, List, [], ◌∷◌, ◌++◌, append_assoc, mul-zero, mul-suc, le_of_suc-le-suc, add-one, arith, length, get_or, take, drop, length-append, drop_of_length-le, drop-cons, drop_at, take_at, drop-drop}
use Rattle.primitives.specs.Place.{overwrite, placed}
use Rattle.primitives.proofs.Over.{placed_room}
use Rattle.primitives.proofs.Writing.{Writing, writing_left, writing_more, writing_end, writing_fits}
use Rattle.device.specs.Details.{pieces}

module _ {A : Type 0} (f : A → List ℕ) (z : A) where
  here : (xs : List A) (i : ℕ) → i < length xs → pieces f (drop i xs) ≡ f (get_or xs i z) ++ pieces f (drop (i + 1) xs)
  unfolding pieces
  here xs i h = ap (pieces f) (drop-cons xs i z h ∙ ap (λ (k : ℕ). get_or xs i z ∷ drop k xs) (sym (add-one i)))

  -- the loop that writes them
  module _ (xs : List A) (i : ℕ) {out₀ out : List ℕ} {at p : ℕ} (w : Writing out₀ at (pieces f xs) out p (pieces f (drop i xs))) where
    pub piece_more : {q : ℕ} {out₁ : List ℕ} → i < length xs → p + length (f (get_or xs i z)) ≡ q → out₁ ≡ placed out p (f (get_or xs i z))
        → Writing out₀ at (pieces f xs) out₁ q (pieces f (drop (i + 1) xs))
    piece_more {q} {out₁} h k e =
        let y = f (get_or xs i z) in
        let rest = pieces f (drop (i + 1) xs) in
        let l = here xs i h in
        let room : p + length y ≤ length out = omega (arith, writing_fits w, ap length l, length-append y rest) in
        subst (λ (o : ℕ). Writing out₀ at (pieces f xs) out₁ o rest) k (writing_more y rest (writing_left w l) (e ∙ placed_room out p y room))

    pub pieces_done : length xs ≤ i → out ≡ overwrite out₀ at (pieces f xs)
    unfolding pieces
    pieces_done h = (writing_end (writing_left w (ap (pieces f) (drop_of_length-le xs h)))).1

  -- pieces of one length
  module _ (k : ℕ) (long : (x : A) → length (f x) ≡ k) where
    pub length_pieces : (xs : List A) → length (pieces f xs) ≡ k * length xs
    unfolding pieces
    length_pieces [] = sym (mul-zero k)
    length_pieces (x ∷ xs) = length-append (f x) (pieces f xs) ∙ omega (arith, long x, length_pieces xs, mul-suc k (length xs))

    pub piece_at : (xs : List A) (i : ℕ) (q : List ℕ) → i < length xs → take k (drop (k * i) (pieces f xs ++ q)) ≡ f (get_or xs i z)
    unfolding pieces
    piece_at [] i q h = absurd (omega arith)
    piece_at (x ∷ xs) zero q h =
        ap (λ (n : ℕ). take k (drop n ((f x ++ pieces f xs) ++ q))) (mul-zero k) ∙ ap (take k) (append_assoc (f x) (pieces f xs) q)
        ∙ take_at (f x) (pieces f xs ++ q) k (long x)
    piece_at (x ∷ xs) (suc i) q h =
        let e : k * suc i ≡ k + k * i = omega (arith, mul-suc k i) in
        ap (λ (n : ℕ). take k (drop n ((f x ++ pieces f xs) ++ q))) e
        ∙ ap (λ (l : List ℕ). take k (drop (k + k * i) l)) (append_assoc (f x) (pieces f xs) q)
        ∙ ap (take k) (sym (drop-drop (k * i) k (f x ++ (pieces f xs ++ q))) ∙ ap (drop (k * i)) (drop_at (f x) (pieces f xs ++ q) k (long x)))
        ∙ piece_at xs i q (le_of_suc-le-suc h)
