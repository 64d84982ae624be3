-- AES-256 encryption, as FIPS 197 defines it. The state is a list of four columns of four bytes.
use Rattle.std.specs.Prelude.{◌≡◌, ℕ, zero, suc, ◌+◌, ◌-◌, ◌*◌, ◌/◌, ◌%◌, ◌^◌, ◌<◌, cond, List, [], ◌∷◌, ◌++◌, ◌==◌, bit_xor, nat_lt, slice_index, slice_index_or}
use Rattle.primitives.specs.Field.{xtime, inverse}

-- ---- 3.4: columns and the state

-- the column of the bytes f 0 to f 3
abbrev pub column : (ℕ → ℕ) → List ℕ
column f = f 0 ∷ f 1 ∷ f 2 ∷ f 3 ∷ []

-- the state with the byte f r c in row r of column c
abbrev pub grid : (ℕ → ℕ → ℕ) → List (List ℕ)
grid f = column (λ r. f r 0) ∷ column (λ r. f r 1) ∷ column (λ r. f r 2) ∷ column (λ r. f r 3) ∷ []

-- the byte in row r of column c
abbrev pub cell : List (List ℕ) → ℕ → ℕ → ℕ
cell s r c = slice_index (slice_index_or s c []) r

-- the state of a block: column after column
abbrev pub load : List ℕ → List (List ℕ)
load b = grid (λ r c. slice_index b (r + 4 * c))

-- the block of a state
abbrev pub store : List (List ℕ) → List ℕ
store s = column (λ r. cell s r 0) ++ column (λ r. cell s r 1) ++ column (λ r. cell s r 2) ++ column (λ r. cell s r 3)

-- ---- tables of 256 bytes, as the code has them: `TABLES`

-- a table of f has f k at each byte k
pub record TableOf (f : ℕ → ℕ) (table : List ℕ) : Type 0 where
  pub at : (k : ℕ) → k < 256 → slice_index table k ≡ f k

-- ---- 5.1.1: SubBytes

-- bit i of a byte, with i taken modulo 8
abbrev pub bit : ℕ → ℕ → ℕ
bit b i = b / 2 ^ (i % 8) % 2

-- the byte of the bits f 0 to f 7
abbrev pub byte_of : (ℕ → ℕ) → ℕ
byte_of f = f 0 + f 1 * 2 + f 2 * 4 + f 3 * 8 + f 4 * 16 + f 5 * 32 + f 6 * 64 + f 7 * 128

-- bit i of the affine map: a sum of bits modulo 2, among them bit i of 0x63
abbrev pub affine_bit : ℕ → ℕ → ℕ
affine_bit b i = (bit b i + bit b (i + 4) + bit b (i + 5) + bit b (i + 6) + bit b (i + 7) + bit 0x63 i) % 2

-- the affine map
unfoldable pub affine : ℕ → ℕ
affine b = byte_of (affine_bit b)

-- the substitution of a byte: the inverse in the field, then the affine map
unfoldable pub sub : ℕ → ℕ
unfolding inverse affine
sub b = affine (inverse b)

-- a substitution table
abbrev pub SBox : List ℕ → Type 0
SBox = TableOf sub

abbrev pub sub_column : List ℕ → List ℕ
sub_column a = column (λ r. sub (slice_index a r))

abbrev pub sub_bytes : List (List ℕ) → List (List ℕ)
sub_bytes s = grid (λ r c. sub (cell s r c))

-- ---- 5.1.2: ShiftRows. Row r moves r places to the left

abbrev pub shift_rows : List (List ℕ) → List (List ℕ)
shift_rows s = grid (λ r c. cell s r ((c + r) % 4))

-- ---- 5.1.3: MixColumns

-- a doubling table
abbrev pub DoublingTable : List ℕ → Type 0
DoublingTable = TableOf xtime

-- a times 2, b times 3, c and d added
unfoldable pub mix_byte : ℕ → ℕ → ℕ → ℕ → ℕ
mix_byte a b c d = bit_xor (bit_xor (bit_xor (xtime a) (bit_xor (xtime b) b)) c) d

abbrev pub mix_column : List ℕ → List ℕ
mix_column a = column (λ r. mix_byte (slice_index a r) (slice_index a ((r + 1) % 4)) (slice_index a ((r + 2) % 4)) (slice_index a ((r + 3) % 4)))

abbrev pub mix_columns : List (List ℕ) → List (List ℕ)
mix_columns s = mix_column (slice_index_or s 0 []) ∷ mix_column (slice_index_or s 1 []) ∷ mix_column (slice_index_or s 2 []) ∷ mix_column (slice_index_or s 3 []) ∷ []

-- ---- 5.1.4: AddRoundKey

abbrev pub add_column : List ℕ → List ℕ → List ℕ
add_column a b = column (λ r. bit_xor (slice_index a r) (slice_index b r))

abbrev pub add_round_key : List (List ℕ) → List (List ℕ) → List (List ℕ)
add_round_key s k = grid (λ r c. bit_xor (cell s r c) (cell k r c))

-- ---- 5.2: KeyExpansion, of a key of eight words

abbrev pub rot_word : List ℕ → List ℕ
rot_word a = column (λ r. slice_index a ((r + 1) % 4))

-- x^n
unfoldable pub power : ℕ → ℕ
unfolding xtime
power zero = 1
power (suc n) = xtime (power n)

-- the first byte of the round constant j, from 1 on; its other bytes are 0
unfoldable pub rcon : ℕ → ℕ
unfolding power
rcon j = power (j - 1)

-- what is added to the word eight places before word i, from the word before word i
abbrev pub turned : ℕ → List ℕ → List ℕ
turned i prev =
    cond (i % 8 == 0)
    (add_column (sub_column (rot_word prev)) (rcon (i / 8) ∷ 0 ∷ 0 ∷ 0 ∷ []))
    (cond (i % 8 == 4) (sub_column prev) prev)

unfoldable pub next_word : ℕ → List ℕ → List ℕ → List ℕ
next_word i prev back = add_column back (turned i prev)

-- word i of the key
abbrev pub key_word : List ℕ → ℕ → List ℕ
key_word key i = slice_index key (i * 4) ∷ slice_index key (i * 4 + 1) ∷ slice_index key (i * 4 + 2) ∷ slice_index key (i * 4 + 3) ∷ []

-- word i, after the i words ws
unfoldable pub word_after : List ℕ → List (List ℕ) → ℕ → List ℕ
word_after key ws i = cond (nat_lt i 8) (key_word key i) (next_word i (slice_index_or ws (i - 1) []) (slice_index_or ws (i - 8) []))

-- the first n words
unfoldable pub words : List ℕ → ℕ → List (List ℕ)
words key zero = []
words key (suc n) = words key n ++ (word_after key (words key n) n ∷ [])

unfoldable pub key_schedule : List ℕ → List (List ℕ)
key_schedule key = words key 60

-- the four words of the key of round n
abbrev pub round_key : List (List ℕ) → ℕ → List (List ℕ)
round_key w n = slice_index_or w (n * 4) [] ∷ slice_index_or w (n * 4 + 1) [] ∷ slice_index_or w (n * 4 + 2) [] ∷ slice_index_or w (n * 4 + 3) [] ∷ []

-- ---- 5.1: Cipher, of 14 rounds

unfoldable pub round : List (List ℕ) → List (List ℕ) → List (List ℕ)
round s k = add_round_key (mix_columns (shift_rows (sub_bytes s))) k

unfoldable pub last_round : List (List ℕ) → List (List ℕ) → List (List ℕ)
last_round s k = add_round_key (shift_rows (sub_bytes s)) k

-- the state s after the rounds 1 to n
unfoldable pub rounds_of : List (List ℕ) → List (List ℕ) → ℕ → List (List ℕ)
rounds_of w s zero = s
rounds_of w s (suc n) = round (rounds_of w s n) (round_key w (n + 1))

-- the block b under the schedule w
unfoldable pub cipher : List (List ℕ) → List ℕ → List ℕ
cipher w b = store (last_round (rounds_of w (add_round_key (load b) (round_key w 0)) 13) (round_key w 14))

unfoldable pub aes256 : List ℕ → List ℕ → List ℕ
aes256 key b = cipher (key_schedule key) b
