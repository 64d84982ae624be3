-- The counter: "N bytes, big-endian two's complement, combined by exclusive or with the first N bytes" of a key stream. Also the checked sum.
use Rattle.std.specs.Prelude.{ℕ, suc, ◌-◌, ◌/◌, ◌^◌, Bool, cond, ◌&&◌, List, [], ◌∷◌, ◌++◌, take, drop, replicate, ℤ, pos, negsuc, ◌+ℤ◌, ◌-ℤ◌, neg_ℤ, bit_xor, int_le, int_lt, nat_le, nat_lt, Option, Some, None}
use Rattle.primitives.specs.Number.{bytes_of, value_of}

-- the widths that a counter may have: 5 to 8 bytes
unfoldable pub width_good : ℕ → Bool
width_good n = nat_le 5 n && nat_le n 8

-- half of the 256 ^ n numbers of n bytes
unfoldable pub half : ℕ → ℕ
half n = 256 ^ n / 2

-- z is in the range of n bytes: at least - half n, and below half n
unfoldable pub fits_in : ℕ → ℤ → Bool
fits_in n z = int_le (neg_ℤ (pos (half n))) z && int_lt z (pos (half n))

-- n is a valid width, and z is in the range of n bytes
unfoldable pub counter_fits : ℕ → ℤ → Bool
counter_fits n z = width_good n && fits_in n z

-- two's complement: the unsigned value of z's n bytes is z, or z + 256 ^ n if z is negative (negsuc k is - (k + 1))
unfoldable pub twos : ℕ → ℤ → ℕ
twos n (pos k) = k
twos n (negsuc k) = 256 ^ n - suc k

-- the signed value of n bytes whose unsigned value is v: v, or v - 256 ^ n in the upper half
unfoldable pub of_twos : ℕ → ℕ → ℤ
of_twos n v = cond (nat_lt v (half n)) (pos v) (pos v -ℤ pos (256 ^ n))

-- the n bytes of z, then zeros up to eight bytes; eight zeros if z does not fit or n is not a valid width
unfoldable pub counter_bytes : ℕ → ℤ → List ℕ
counter_bytes n z = cond (counter_fits n z) (bytes_of n (twos n z) ++ replicate (8 - n) 0) (replicate 8 0)

-- the signed value of the first n bytes; 0 if n is not a valid width
unfoldable pub counter_value : ℕ → List ℕ → ℤ
counter_value n b = cond (width_good n) (of_twos n (value_of (take n b))) (pos 0)

-- two lists combined byte by byte, up to the end of the shorter one
unfoldable pub xor_list : List ℕ → List ℕ → List ℕ
xor_list [] ys = []
xor_list (x ∷ xs) [] = []
xor_list (x ∷ xs) (y ∷ ys) = bit_xor x y ∷ xor_list xs ys

-- the first n bytes of b combined with those of a key stream k; the bytes after them stay as they are
unfoldable pub xor_first : ℕ → List ℕ → List ℕ → List ℕ
xor_first n b k = xor_list (take n b) k ++ drop n b

-- the sum, if it is in the range of eight bytes
unfoldable pub checked_sum : ℤ → ℤ → Option ℤ
checked_sum a b = cond (fits_in 8 (a +ℤ b)) (Some (a +ℤ b)) None
