-- A rule that each element of a list obeys.
use Rattle.std.proofs.Common.{ℕ, zero, suc, ◌<◌, List, [], ◌∷◌, ◌++◌, length, get_or, replicate, arith}

pub data Each (P : ℕ → Type 0) : List ℕ → Type 0 where
  none_left : Each P []
  one_more : {x : ℕ} {xs : List ℕ} → P x → Each P xs → Each P (x ∷ xs)

module _ {P : ℕ → Type 0} where
  pub each_append : {xs ys : List ℕ} → Each P xs → Each P ys → Each P (xs ++ ys)
  each_append none_left q = q
  each_append (one_more h p) q = one_more h (each_append p q)

  pub each_replicate : (n x : ℕ) → P x → Each P (replicate n x)
  each_replicate zero x h = none_left
  each_replicate (suc n) x h = one_more h (each_replicate n x h)

  pub each_at : {xs : List ℕ} → Each P xs → (i : ℕ) → i < length xs → P (get_or xs i 0)
  each_at none_left i h = absurd (omega arith)
  each_at (one_more p e) zero h = p
  each_at (one_more p e) (suc i) h = each_at e i (omega arith)
