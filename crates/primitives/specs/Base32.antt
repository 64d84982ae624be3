-- RFC 4648, section 6: base 32, padded. The rule is that of specs/BaseRule.antt.
use Rattle.std.specs.Prelude.{◌≡◌, ℕ, ◌+◌, ◌-◌, ◌*◌, ◌/◌, ◌<◌, cond, ◌&&◌, List, nat_le, nat_lt, slice_index, Result}
use Prim.Native.Char.{code}
use Rattle.std.proofs.Math.Option.{Option}
use Rattle.primitives.specs.BaseRule.{Base, text_of, read_text}
use Rattle.primitives.specs.Base64.{answer_of, buffer_of}
use Rattle.primitives.specs.declared.base64.DecodeError.{DecodeError}

-- ---- the alphabet: 'A' to 'Z' and '2' to '7'

-- the letter of a number below 32
unfoldable pub letter32 : ℕ → ℕ
letter32 k = cond (nat_lt k 26) (code "A" + k) (code "2" + (k - 26))

-- the number of a letter, and 32 for any other byte
unfoldable pub digit32 : ℕ → ℕ
digit32 c =
    cond (nat_le (code "A") c && nat_le c (code "Z")) (c - code "A") (cond (nat_le (code "2") c && nat_le c (code "7")) (26 + (c - code "2")) 32)

-- letters of 5 bits, in groups of eight
abbrev pub base32 : Base
base32 = record { bits = 5; group = 8; letter = letter32; digit = digit32 }

-- ---- the text of a list of bytes, and the bytes of a text

unfoldable pub encoding32 : List ℕ → List ℕ
encoding32 xs = text_of base32 xs

unfoldable pub decoding32 : List ℕ → Option (List ℕ)
decoding32 text = read_text base32 text

-- the length of the text of n bytes
unfoldable pub encoded_length32 : ℕ → ℕ
encoded_length32 n = (n + 4) / 5 * 8

-- the reader's answer, and the buffer after it
abbrev pub decode_answer32 : List ℕ → List ℕ → ℕ → Result ℕ DecodeError
decode_answer32 text out at = answer_of (decoding32 text) out at

abbrev pub decode_buffer32 : List ℕ → List ℕ → ℕ → List ℕ
decode_buffer32 text out at = buffer_of (decoding32 text) out at

-- ---- tables

-- a table of the letters of 0 to 31
pub record LetterTable32 (table : List ℕ) : Type 0 where
  pub at : (k : ℕ) → k < 32 → slice_index table k ≡ letter32 k

-- a table of the numbers of all bytes
pub record DigitTable32 (table : List ℕ) : Type 0 where
  pub at : (c : ℕ) → c < 256 → slice_index table c ≡ digit32 c
