-- Amounts in cents: "'-' only below zero, euros without leading zeros, ',', two digits".
use Rattle.std.specs.Prelude.{ℕ, suc, ◌/◌, Bool, cond, List, [], ◌∷◌, ◌++◌, leb, eqb, ℤ, pos, negsuc, nat_abs, neg_ℤ, get_or}
use Prim.Native.Char.{code}
use Rattle.receipt.specs.Decimal.{fixed, digits, value_of}
use Rattle.receipt.specs.Texts.{separator}

-- cents without a sign
unfoldable pub cents : ℕ → List ℕ
cents m = digits (m / 100) ++ (code "," ∷ []) ++ fixed 2 m

unfoldable pub amount : ℤ → List ℕ
amount (pos m) = cents m
amount (negsuc m) = (code "-" ∷ []) ++ cents (suc m)

-- amounts, each followed by a '_'
unfoldable pub amounts_text : List ℤ → List ℕ
amounts_text [] = []
amounts_text (z ∷ zs) = (amount z ++ (separator ∷ [])) ++ amounts_text zs

-- "Each amount may now reach 99,999,999,999 cents either way"
abbrev pub amount_limit : ℕ
amount_limit = 99999999999

-- such an amount has at most these bytes: '-', nine digits, ',', two digits
abbrev pub longest_amount : ℕ
longest_amount = 13

-- at most a limit, above or below zero
unfoldable pub within : ℕ → ℤ → Bool
within limit z = leb (nat_abs z) limit

abbrev pub within_limit : ℤ → Bool
within_limit z = within amount_limit z

-- ---- the loose reader: the digits are the cents; ',' and '-' are skipped

unfoldable pub read_amount : List ℕ → ℤ
read_amount bs = cond (eqb (get_or bs 0 0) (code "-")) (neg_ℤ (pos (value_of bs))) (pos (value_of bs))
