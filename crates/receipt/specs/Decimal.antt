-- Numbers in decimal: "number without leading zeros".
use Rattle.std.specs.Prelude.{ℕ, zero, suc, ◌+◌, ◌*◌, ◌/◌, ◌%◌, cond, List, [], ◌∷◌, ltb, eqb}
use Prim.Native.Char.{code}
use Rattle.receipt.specs.Texts.{separator}

-- the w last digits of n, before the bytes acc
unfoldable pub fixed_onto : ℕ → ℕ → List ℕ → List ℕ
fixed_onto zero n acc = acc
fixed_onto (suc w) n acc = fixed_onto w (n / 10) ((code "0" + n % 10) ∷ acc)

-- the w last digits of n
unfoldable pub fixed : ℕ → ℕ → List ℕ
fixed w n = fixed_onto w n []

-- the number of digits of n, at most k + 1
unfoldable pub width_up : ℕ → ℕ → ℕ
width_up zero n = 1
width_up (suc k) n = cond (ltb n 10) 1 (suc (width_up k (n / 10)))

-- the number of digits of n: a number of 64 bits is below 10 ^ 20
unfoldable pub width : ℕ → ℕ
width n = width_up 19 n

-- without leading zeros
unfoldable pub digits : ℕ → List ℕ
digits n = fixed (width n) n

-- ---- the loose reader, up to a '_' or the end

-- every number that is read is below this
abbrev pub read_limit : ℕ
read_limit = 1000000000000

-- one byte more: a byte below '0' (such as ',' and '-') is skipped, any other counts as a digit
unfoldable pub more : ℕ → ℕ → ℕ
more v b = cond (ltb b (code "0")) v ((v * 10 + b % 16) % read_limit)

unfoldable pub value_from : ℕ → List ℕ → ℕ
value_from v [] = v
value_from v (b ∷ bs) = cond (eqb b separator) v (value_from (more v b) bs)

unfoldable pub value_of : List ℕ → ℕ
value_of bs = value_from 0 bs
