-- The loose reader of fields joined by '_'.
use Rattle.std.specs.Prelude.{ℕ, zero, suc, cond, List, [], ◌∷◌, eqb, ℤ}
use Rattle.receipt.specs.Amount.{read_amount}
use Rattle.receipt.specs.Texts.{separator}

-- what follows the first '_'
unfoldable pub after : List ℕ → List ℕ
after [] = []
after (b ∷ bs) = cond (eqb b separator) bs (after bs)

-- what follows the first k of them
unfoldable pub skip : ℕ → List ℕ → List ℕ
skip zero bs = bs
skip (suc k) bs = skip k (after bs)

-- k amounts
unfoldable pub read_amounts : ℕ → List ℕ → List ℤ
read_amounts zero bs = []
read_amounts (suc k) bs = read_amount bs ∷ read_amounts k (after bs)
