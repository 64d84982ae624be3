-- How often a byte occurs.
use Rattle.std.proofs.lemmas.Bool.{eqb-false}
use Rattle.std.proofs.Common.{ℕ, zero, suc, ◌+◌, ◌≤◌, ◌<◌, ◌≡◌, refl, Bool, true, false, cond, List, [], ◌∷◌, ◌++◌, arith, ne_eqb, eqb, length, get_or}
use Rattle.primitives.proofs.Each.{Each, each_at}
use Rattle.receipt.specs.Form.{Without}
use Rattle.receipt.specs.Line.{count_of}

pub one_mark : count_of 95 (95 ∷ []) ≡ 1
unfolding count_of
one_mark = refl

pub count_append : (b : ℕ) (xs ys : List ℕ) → count_of b (xs ++ ys) ≡ count_of b xs + count_of b ys
unfolding count_of
count_append b [] ys = omega arith
count_append b (x ∷ xs) ys = go (eqb x b) (count_append b xs ys)
  where
    go : (t : Bool) → count_of b (xs ++ ys) ≡ count_of b xs + count_of b ys
        → cond t (suc (count_of b (xs ++ ys))) (count_of b (xs ++ ys)) ≡ cond t (suc (count_of b xs)) (count_of b xs) + count_of b ys
    go true e = omega arith
    go false e = e

-- at most as often as there are bytes
pub count_most : (b : ℕ) (s : List ℕ) → count_of b s ≤ length s
unfolding count_of
count_most b [] = omega arith
count_most b (x ∷ s) = go (count_most b s) (eqb x b)
  where
    go : count_of b s ≤ length s → (t : Bool) → cond t (suc (count_of b s)) (count_of b s) ≤ suc (length s)
    go h true = omega arith
    go h false = omega arith

-- a list without b has none, and a list that has none is without b
pub count_none : (b : ℕ) (xs : List ℕ) → Without b xs → count_of b xs ≡ 0
unfolding count_of
count_none b [] w = refl
count_none b (x ∷ xs) w =
    rw (ne_eqb x b (w.at 0 (omega arith))) (count_none b xs (record { at = λ i h e. w.at (suc i) (omega arith) e }))

pub none_counted : (b : ℕ) (xs : List ℕ) → count_of b xs ≡ 0 → Without b xs
unfolding count_of
none_counted b [] e = record { at = λ i h q. absurd (omega arith) }
none_counted b (x ∷ xs) e = go (none_counted b xs) (eqb x b) refl e
  where
    go : (count_of b xs ≡ 0 → Without b xs) → (t : Bool) → eqb x b ≡ t → cond t (suc (count_of b xs)) (count_of b xs) ≡ 0 → Without b (x ∷ xs)
    go f true q n = absurd (omega arith)
    go f false q n = record { at = at }
      where
        at : (i : ℕ) → i < suc (length xs) → get_or (x ∷ xs) i 0 ≡ b → ⊥
        at zero h p = eqb-false x b q p
        at (suc i) h p = (f n).at i (omega arith) p

-- a list whose elements all differ from b is without it
pub without_each : {b : ℕ} {xs : List ℕ} → Each (λ x. x ≡ b → ⊥) xs → Without b xs
without_each p = record { at = each_at p }
