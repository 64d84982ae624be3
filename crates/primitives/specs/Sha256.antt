-- SHA-256 as FIPS 180-4 gives it, section by section. A byte and a word are numbers, a message is the list of its bytes.
use Rattle.std.specs.Prelude.{ℕ, zero, suc, ◌+◌, ◌-◌, ◌*◌, ◌/◌, ◌%◌, ◌^◌, List, [], ◌∷◌, ◌++◌, length, replicate, bit_and, bit_or, bit_xor, slice_index, slice_index_or}
use Rattle.primitives.specs.Number.{bytes_of}
use Rattle.primitives.specs.declared.hash.HashValue.{HashValue}

-- ---- 2.2.2, 3.1 and 3.2: words of 32 bits, the highest byte first (`bytes_of`), and operations on them

-- addition modulo 2^32
infixl 65 ◌⊞◌
abbrev pub ◌⊞◌ : ℕ → ℕ → ℕ
x ⊞ y = (x + y) % 2 ^ 32

-- the complement
abbrev pub complement : ℕ → ℕ
complement x = (2 ^ 32 - 1) - x

-- SHR^n(x) = x >> n
abbrev pub SHR : ℕ → ℕ → ℕ
SHR n x = x / 2 ^ n

-- ROTR^n(x) = (x >> n) ∨ (x << (32 - n))
abbrev pub ROTR : ℕ → ℕ → ℕ
ROTR n x = bit_or (x / 2 ^ n) (x * 2 ^ (32 - n) % 2 ^ 32)

-- ---- 4.1.2: the six functions, equations (4.2) to (4.7)

unfoldable pub Ch : ℕ → ℕ → ℕ → ℕ
Ch x y z = bit_xor (bit_and x y) (bit_and (complement x) z)

unfoldable pub Maj : ℕ → ℕ → ℕ → ℕ
Maj x y z = bit_xor (bit_xor (bit_and x y) (bit_and x z)) (bit_and y z)

unfoldable pub Σ₀ : ℕ → ℕ
Σ₀ x = bit_xor (bit_xor (ROTR 2 x) (ROTR 13 x)) (ROTR 22 x)

unfoldable pub Σ₁ : ℕ → ℕ
Σ₁ x = bit_xor (bit_xor (ROTR 6 x) (ROTR 11 x)) (ROTR 25 x)

unfoldable pub σ₀ : ℕ → ℕ
σ₀ x = bit_xor (bit_xor (ROTR 7 x) (ROTR 18 x)) (SHR 3 x)

unfoldable pub σ₁ : ℕ → ℕ
σ₁ x = bit_xor (bit_xor (ROTR 17 x) (ROTR 19 x)) (SHR 10 x)

-- ---- 4.2.2: the constants K_0 to K_63

unfoldable pub K : List ℕ
K =
    0x428a2f98 ∷ 0x71374491 ∷ 0xb5c0fbcf ∷ 0xe9b5dba5 ∷ 0x3956c25b ∷ 0x59f111f1 ∷ 0x923f82a4 ∷ 0xab1c5ed5 ∷
    0xd807aa98 ∷ 0x12835b01 ∷ 0x243185be ∷ 0x550c7dc3 ∷ 0x72be5d74 ∷ 0x80deb1fe ∷ 0x9bdc06a7 ∷ 0xc19bf174 ∷
    0xe49b69c1 ∷ 0xefbe4786 ∷ 0x0fc19dc6 ∷ 0x240ca1cc ∷ 0x2de92c6f ∷ 0x4a7484aa ∷ 0x5cb0a9dc ∷ 0x76f988da ∷
    0x983e5152 ∷ 0xa831c66d ∷ 0xb00327c8 ∷ 0xbf597fc7 ∷ 0xc6e00bf3 ∷ 0xd5a79147 ∷ 0x06ca6351 ∷ 0x14292967 ∷
    0x27b70a85 ∷ 0x2e1b2138 ∷ 0x4d2c6dfc ∷ 0x53380d13 ∷ 0x650a7354 ∷ 0x766a0abb ∷ 0x81c2c92e ∷ 0x92722c85 ∷
    0xa2bfe8a1 ∷ 0xa81a664b ∷ 0xc24b8b70 ∷ 0xc76c51a3 ∷ 0xd192e819 ∷ 0xd6990624 ∷ 0xf40e3585 ∷ 0x106aa070 ∷
    0x19a4c116 ∷ 0x1e376c08 ∷ 0x2748774c ∷ 0x34b0bcb5 ∷ 0x391c0cb3 ∷ 0x4ed8aa4a ∷ 0x5b9cca4f ∷ 0x682e6ff3 ∷
    0x748f82ee ∷ 0x78a5636f ∷ 0x84c87814 ∷ 0x8cc70208 ∷ 0x90befffa ∷ 0xa4506ceb ∷ 0xbef9a3f7 ∷ 0xc67178f2 ∷ []

-- ---- 5.1.1: padding, in bytes

-- the least z with n + 1 + z equal to 56 modulo 64: the number of zero bytes between the byte 0x80 and the length
abbrev pub zeros : ℕ → ℕ
zeros n = (119 - n % 64) % 64

-- the message, a one bit and zero bits, and the length of the message in bits, modulo 2^64, in 8 bytes
unfoldable pub pad : List ℕ → List ℕ
pad m = m ++ 0x80 ∷ replicate (zeros (length m)) 0 ++ bytes_of 8 (length m * 8 % 2 ^ 64)

-- ---- 5.2.1: parsing into blocks of sixteen words

-- the word of four bytes
abbrev pub word : ℕ → ℕ → ℕ → ℕ → ℕ
word a b c d = a * 2 ^ 24 + b * 2 ^ 16 + c * 2 ^ 8 + d

-- the word that starts at byte k of the message
unfoldable pub word_at : List ℕ → ℕ → ℕ
word_at m k = word (slice_index m k) (slice_index m (k + 1)) (slice_index m (k + 2)) (slice_index m (k + 3))

-- the first n words of the block that starts at byte k
unfoldable pub words : List ℕ → ℕ → ℕ → List ℕ
words m k zero = []
words m k (suc n) = words m k n ++ word_at m (k + 4 * n) ∷ []

-- ---- 5.3.3: the initial hash value

abbrev pub H⁰ : HashValue
H⁰ = record { a = 0x6a09e667; b = 0xbb67ae85; c = 0x3c6ef372; d = 0xa54ff53a; e = 0x510e527f; f = 0x9b05688c; g = 0x1f83d9ab; h = 0x5be0cd19 }

-- ---- 6.2.2: the computation

-- step 1: W_t of the message schedule, from those before it, for t from 16 on
unfoldable pub next_word : List ℕ → ℕ → ℕ
next_word W t = σ₁ (slice_index W (t - 2)) ⊞ slice_index_or W (t - 7) 0 ⊞ σ₀ (slice_index W (t - 15)) ⊞ slice_index_or W (t - 16) 0

-- the schedule's first 16 + n words, where M are the sixteen words of the block
unfoldable pub schedule : List ℕ → ℕ → List ℕ
schedule M zero = M
schedule M (suc n) = let W : List ℕ = schedule M n in W ++ next_word W (16 + n) ∷ []

-- step 3: a round, with the constant k and the word w
unfoldable pub round : HashValue → ℕ → ℕ → HashValue
round v k w =
    let T₁ : ℕ = v.h ⊞ Σ₁ v.e ⊞ Ch v.e v.f v.g ⊞ k ⊞ w in
    let T₂ : ℕ = Σ₀ v.a ⊞ Maj v.a v.b v.c in
    record { a = T₁ ⊞ T₂; b = v.a; c = v.b; d = v.c; e = v.d ⊞ T₁; f = v.e; g = v.f; h = v.g }

-- n rounds, from round t on
unfoldable pub rounds : HashValue → List ℕ → ℕ → ℕ → HashValue
rounds v W t zero = v
rounds v W t (suc n) = round (rounds v W t n) (slice_index K (t + n)) (slice_index W (t + n))

-- step 4: the working variables added to the hash value
unfoldable pub sums : HashValue → HashValue → HashValue
sums v s =
    record { a = v.a ⊞ s.a; b = v.b ⊞ s.b; c = v.c ⊞ s.c; d = v.d ⊞ s.d; e = v.e ⊞ s.e; f = v.f ⊞ s.f; g = v.g ⊞ s.g; h = v.h ⊞ s.h }

-- steps 1 to 4: the hash value s after the block that starts at byte k; step 2 starts the rounds at s itself
unfoldable pub compress : HashValue → List ℕ → ℕ → HashValue
compress s m k = sums (rounds s (schedule (words m k 16) 48) 0 64) s

-- the hash value s after the first n blocks
unfoldable pub blocks : HashValue → List ℕ → ℕ → HashValue
blocks s m zero = s
blocks s m (suc n) = compress (blocks s m n) m (n * 64)

-- the bytes of words, one word after the other
unfoldable pub word_bytes : List ℕ → List ℕ
word_bytes [] = []
word_bytes (w ∷ ws) = bytes_of 4 w ++ word_bytes ws

-- the words of a hash value
abbrev pub words_of : HashValue → List ℕ
words_of s = s.a ∷ s.b ∷ s.c ∷ s.d ∷ s.e ∷ s.f ∷ s.g ∷ s.h ∷ []

-- the message digest: the bytes of the last hash value
unfoldable pub digest : HashValue → List ℕ
digest s = word_bytes (words_of s)

-- the digest of a message: over all blocks of the padded message, from the initial hash value on
unfoldable pub sha256 : List ℕ → List ℕ
sha256 m = digest (blocks H⁰ (pad m) (length (pad m) / 64))
