-- Lists of bytes: what a slice or an array of `u8` holds.
use Rattle.std.specs.Prelude.{ℕ, ◌<◌, Bool, true, false, ◌&&◌, List, [], ◌∷◌, ◌==◌, slice_index}

-- every element is a byte
pub record AllBytes (xs : List ℕ) : Type 0 where
  pub at : (i : ℕ) → slice_index xs i < 256

-- the same bytes, in the same order
unfoldable pub same : List ℕ → List ℕ → Bool
same [] [] = true
same [] (y ∷ ys) = false
same (x ∷ xs) [] = false
same (x ∷ xs) (y ∷ ys) = x == y && same xs ys
