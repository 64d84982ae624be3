-- The field of FIPS 197, section 4: a byte is a polynomial of eight bits, taken modulo x^8 + x^4 + x^3 + x + 1.
-- Its sum (4.1) is the exclusive or, `bit_xor`.
use Rattle.std.specs.Prelude.{ℕ, zero, suc, ◌*◌, ◌/◌, ◌%◌, cond, ◌==◌, bit_xor, nat_lt}

-- 4.2.1: a byte times x. A shift to the left, and the exclusive or with 1b where the highest bit was set
unfoldable pub xtime : ℕ → ℕ
xtime b = bit_xor (cond (nat_lt b 128) 0 0x1b) (b * 2 % 256)

-- a times the polynomial of the n lowest bits of b: the sum of a · x^i over the bits i that are set
unfoldable pub product : ℕ → ℕ → ℕ → ℕ
unfolding xtime
product zero a b = 0
product (suc n) a b = bit_xor (cond (b % 2 == 1) a 0) (product n (xtime a) (b / 2))

-- 4.2: the product of two bytes
unfoldable pub times : ℕ → ℕ → ℕ
unfolding product
times a b = product 8 a b

-- b^2 · b^4 · .. · b^(2^n)
unfoldable pub squares : ℕ → ℕ → ℕ
unfolding times
squares zero b = 1
squares (suc n) b =
    let s = times b b in
    times s (squares n s)

-- 4.2: the inverse, as b^254, which is 0 for 0. `InverseIsInverse` states that b times it is 1 for every other byte
unfoldable pub inverse : ℕ → ℕ
unfolding squares
inverse b = squares 7 b
