-- Numbers as digits of any base, and so as bytes; the highest digit comes first.
use Rattle.std.specs.Prelude.{ℕ, zero, suc, ◌+◌, ◌*◌, ◌/◌, ◌%◌, cond, ◌&&◌, List, [], ◌∷◌, ◌++◌, length, take, drop, nat_le, Option, Some, None}

-- ---- in the base b

-- the n low digits of v, the highest first
unfoldable pub digits_of : ℕ → ℕ → ℕ → List ℕ
digits_of b zero v = []
digits_of b (suc n) v = digits_of b n (v / b) ++ (v % b ∷ [])

-- the value of digits that follow digits of the value v
unfoldable pub number_after : ℕ → ℕ → List ℕ → ℕ
number_after b v [] = v
number_after b v (d ∷ ds) = number_after b (v * b + d) ds

-- the value of digits, the highest first
unfoldable pub number_of : ℕ → List ℕ → ℕ
number_of b ds = number_after b 0 ds

-- ---- bytes, which are digits in the base 256

-- the n low bytes of v, the highest first
unfoldable pub bytes_of : ℕ → ℕ → List ℕ
bytes_of n v = digits_of 256 n v

-- the value of bytes that follow bytes of the value v
unfoldable pub value_after : ℕ → List ℕ → ℕ
value_after v bs = number_after 256 v bs

-- the value of bytes, the highest first
unfoldable pub value_of : List ℕ → ℕ
value_of bs = value_after 0 bs

-- the value of the n bytes at a place
unfoldable pub count_at : List ℕ → ℕ → ℕ → ℕ
count_at s at n = value_of (take n (drop at s))

-- the same; none if n is above 8 or the list ends before the last of them
unfoldable pub number_at : List ℕ → ℕ → ℕ → Option ℕ
number_at s at n = cond (nat_le n 8 && nat_le (at + n) (length s)) (Some (value_of (take n (drop at s)))) None
