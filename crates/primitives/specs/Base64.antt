-- RFC 4648: base 64 (section 4, padded) and base 64 for URLs (section 5; without padding, as RFC 7515, section 2, has it).
-- The reader is strict: sections 3.2 (padding), 3.3 (foreign letters) and 3.5 (unused bits).
use Rattle.std.specs.Prelude.{◌≡◌, ℕ, ◌+◌, ◌-◌, ◌*◌, ◌/◌, ◌%◌, ◌<◌, Bool, true, false, cond, ◌&&◌, List, [], ◌∷◌, ◌++◌, length, take, replicate, ◌==◌, nat_le, nat_lt, slice_index, Result, Ok, Err}
use Prim.Native.Char.{code}
use Rattle.std.proofs.Math.Option.{Option, none, some}
use Rattle.primitives.specs.Place.{room, placed}
use Rattle.primitives.specs.BaseRule.{Base, fill}
use Rattle.primitives.specs.declared.base64.Alphabet.{Alphabet}
use Rattle.primitives.specs.declared.base64.Alphabet.TheVariants.{Standard, UrlSafe}
use Rattle.primitives.specs.declared.base64.DecodeError.{DecodeError}
use Rattle.primitives.specs.declared.base64.DecodeError.TheVariants.{Refused, NoRoom}

-- ---- the alphabets: 'A' to 'Z', 'a' to 'z', '0' to '9', and two more letters

-- section 4 and section 5
abbrev pub letter62 : Alphabet → ℕ
letter62 Standard = code "+"
letter62 UrlSafe = code "-"

abbrev pub letter63 : Alphabet → ℕ
letter63 Standard = code "/"
letter63 UrlSafe = code "_"

-- the letter of a number below 64
unfoldable pub letter : Alphabet → ℕ → ℕ
letter a k =
    cond (nat_lt k 26) (code "A" + k)
    (cond (nat_lt k 52) (code "a" + (k - 26))
    (cond (nat_lt k 62) (code "0" + (k - 52)) (cond (k == 62) (letter62 a) (letter63 a))))

-- the number of a letter, and 64 for any other byte
unfoldable pub digit : Alphabet → ℕ → ℕ
digit a c =
    cond (nat_le (code "A") c && nat_le c (code "Z")) (c - code "A")
    (cond (nat_le (code "a") c && nat_le c (code "z")) (26 + (c - code "a"))
    (cond (nat_le (code "0") c && nat_le c (code "9")) (52 + (c - code "0")) (cond (c == letter62 a) 62 (cond (c == letter63 a) 63 64))))

-- the same as a base of specs/BaseRule.antt: letters of 6 bits, in groups of four; UrlSafe has no padding
abbrev pub group_letters : Alphabet → ℕ
group_letters Standard = 4
group_letters UrlSafe = 1

abbrev pub base64 : Alphabet → Base
base64 a = record { bits = 6; group = group_letters a; letter = letter a; digit = digit a }

-- ---- section 4: three bytes are a group of 24 bits, and so are four numbers of 6 bits

abbrev pub from_bytes : ℕ → ℕ → ℕ → ℕ
from_bytes x y z = x * 65536 + y * 256 + z

abbrev pub from_digits : ℕ → ℕ → ℕ → ℕ → ℕ
from_digits w x y z = w * 262144 + x * 4096 + y * 64 + z

-- the four letters of a group
unfoldable pub quad : Alphabet → ℕ → List ℕ
quad a g = letter a (g / 262144 % 64) ∷ letter a (g / 4096 % 64) ∷ letter a (g / 64 % 64) ∷ letter a (g % 64) ∷ []

-- the three bytes of a group
unfoldable pub triple : ℕ → List ℕ
triple g = g / 65536 % 256 ∷ g / 256 % 256 ∷ g % 256 ∷ []

-- ---- writing

-- the letters of a list of bytes. Bits missing at its end are zero, and a letter of such bits alone is left out
unfoldable pub letters : Alphabet → List ℕ → List ℕ
letters a [] = []
letters a (x ∷ []) = take 2 (quad a (from_bytes x 0 0))
letters a (x ∷ y ∷ []) = take 3 (quad a (from_bytes x y 0))
letters a (x ∷ y ∷ z ∷ rest) = quad a (from_bytes x y z) ++ letters a rest

-- the padding
abbrev pub pad : ℕ
pad = fill

-- section 4: padding fills the last group up to four letters; UrlSafe has no padding
abbrev pub padding_count : Alphabet → ℕ → ℕ
padding_count Standard n = (3 - n % 3) % 3
padding_count UrlSafe n = 0

abbrev pub padding : Alphabet → ℕ → List ℕ
padding a n = replicate (padding_count a n) pad

-- the text of a list of bytes
unfoldable pub encoding : Alphabet → List ℕ → List ℕ
encoding a xs = letters a xs ++ padding a (length xs)

-- the length of the text of n bytes
abbrev pub encoded_length : Alphabet → ℕ → ℕ
encoded_length Standard n = (n + 2) / 3 * 4
encoded_length UrlSafe n = (n * 4 + 2) / 3

-- ---- reading

-- the bytes of a text of letters
unfoldable pub bytes : Alphabet → List ℕ → List ℕ
bytes a [] = []
bytes a (w ∷ []) = []
bytes a (w ∷ x ∷ []) = take 1 (triple (from_digits (digit a w) (digit a x) 0 0))
bytes a (w ∷ x ∷ y ∷ []) = take 2 (triple (from_digits (digit a w) (digit a x) (digit a y) 0))
bytes a (w ∷ x ∷ y ∷ z ∷ rest) = triple (from_digits (digit a w) (digit a x) (digit a y) (digit a z)) ++ bytes a rest

-- section 3.3: every byte of the text is a letter; '=' is not a letter
unfoldable pub known : Alphabet → List ℕ → Bool
known a [] = true
known a (c ∷ text) = nat_lt (digit a c) 64 && known a text

-- section 3.5: the bits after the last byte are zero; a single letter encodes no byte
unfoldable pub ended : Alphabet → List ℕ → Bool
ended a [] = true
ended a (w ∷ []) = false
ended a (w ∷ x ∷ []) = digit a x % 16 == 0
ended a (w ∷ x ∷ y ∷ []) = digit a y % 4 == 0
ended a (w ∷ x ∷ y ∷ z ∷ rest) = ended a rest

-- section 3.2: a padded text consists of groups of four
abbrev pub whole : Alphabet → ℕ → Bool
whole Standard n = n % 4 == 0
whole UrlSafe n = true

-- a length of the text, less one if a '=' stands at its end
unfoldable pub unmarked : List ℕ → ℕ → ℕ
unmarked text n = cond (slice_index text (n - 1) == pad) (n - 1) n

-- the number of letters before the padding, which is at most two '='
abbrev pub letter_count : Alphabet → List ℕ → ℕ
letter_count Standard text = unmarked text (unmarked text (length text))
letter_count UrlSafe text = length text

abbrev pub unpadded : Alphabet → List ℕ → List ℕ
unpadded a text = take (letter_count a text) text

-- padding and end are as required, and every byte before the padding is a letter
unfoldable pub accepted : Alphabet → List ℕ → Bool
accepted a text = whole a (length text) && (ended a (unpadded a text) && known a (unpadded a text))

-- the bytes that a text stands for, if it is accepted
unfoldable pub decoding : Alphabet → List ℕ → Option (List ℕ)
decoding a text = cond (accepted a text) (some (bytes a (unpadded a text))) none

-- the reader's answer, which is the place after the bytes or why nothing was written, and the buffer after it
abbrev pub answer_of : Option (List ℕ) → List ℕ → ℕ → Result ℕ DecodeError
answer_of none out at = Err Refused
answer_of (some ys) out at = cond (room out at ys) (Ok (at + length ys)) (Err NoRoom)

abbrev pub buffer_of : Option (List ℕ) → List ℕ → ℕ → List ℕ
buffer_of none out at = out
buffer_of (some ys) out at = placed out at ys

abbrev pub decode_answer : Alphabet → List ℕ → List ℕ → ℕ → Result ℕ DecodeError
decode_answer a text out at = answer_of (decoding a text) out at

abbrev pub decode_buffer : Alphabet → List ℕ → List ℕ → ℕ → List ℕ
decode_buffer a text out at = buffer_of (decoding a text) out at

-- ---- tables

-- a table of the letters of 0 to 63
pub record LetterTable (a : Alphabet) (table : List ℕ) : Type 0 where
  pub at : (k : ℕ) → k < 64 → slice_index table k ≡ letter a k

-- a table of the numbers of all bytes
pub record DigitTable (a : Alphabet) (table : List ℕ) : Type 0 where
  pub at : (c : ℕ) → c < 256 → slice_index table c ≡ digit a c
