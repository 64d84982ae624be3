-- What the words of the library say, in those of this repository.
use Rattle.std.proofs.Common.{◌≡◌, ℕ, suc, ◌+◌, Bool, true, false, cond, ◌&&◌, eqb, List, [], ◌∷◌, refl, ap, sym, arith, eqb-true}
use Rattle.std.proofs.lemmas.Bool.{eqb-false}
use Rattle.std.proofs.lemmas.List.Recursion.{is_count_by}
use Rattle.std.specs.Cmp.Lexicographic.{pointwise}
use Rattle.std.specs.List.{list_all, count_by}
use Rattle.primitives.specs.Bytes.{same}
use Rattle.receipt.specs.Settings.{every, zeros}
use Rattle.receipt.specs.Line.{count_of}

pub same_is : (xs ys : List ℕ) → pointwise eqb xs ys ≡ same xs ys
unfolding same
same_is [] [] = refl
same_is [] (y ∷ ys) = refl
same_is (x ∷ xs) [] = refl
same_is (x ∷ xs) (y ∷ ys) = ap (λ (t : Bool). eqb x y && t) (same_is xs ys)

turned : (x y : ℕ) → eqb x y ≡ eqb y x
turned x y = go (eqb x y) refl (eqb y x) refl
  where
    go : (t : Bool) → eqb x y ≡ t → (u : Bool) → eqb y x ≡ u → t ≡ u
    go true p true q = refl
    go true p false q = absurd (eqb-false y x q (sym (eqb-true x y p)))
    go false p true q = absurd (eqb-false x y p (sym (eqb-true y x q)))
    go false p false q = refl

-- the order of two lists says nothing of whether they are the same
pub same_turned : (xs ys : List ℕ) → same xs ys ≡ same ys xs
unfolding same
same_turned [] [] = refl
same_turned [] (y ∷ ys) = refl
same_turned (x ∷ xs) [] = refl
same_turned (x ∷ xs) (y ∷ ys) = (λ i. turned x y i && same_turned xs ys i)

pub zeros_are : (bs : List ℕ) → list_all (λ b. eqb b 0) bs ≡ zeros bs
unfolding every
zeros_are [] = refl
zeros_are (b ∷ bs) = ap (λ (t : Bool). eqb b 0 && t) (zeros_are bs)

pub count_is : (b : ℕ) (s : List ℕ) → count_by (λ x. eqb x b) s ≡ count_of b s
unfolding count_of
count_is b s = sym (is_count_by (count_of b) (λ x. eqb x b) refl (λ x xs. let e : suc (count_of b xs) ≡ 1 + count_of b xs = omega arith in ap (λ (n : ℕ). cond (eqb x b) n (count_of b xs)) e) s)
