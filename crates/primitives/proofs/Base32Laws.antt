-- BASE32, what a caller may rely on: it is a good base, so that reading what was written gives it back and an accepted text is the
-- encoding of its bytes; the length of a text, and which bytes it consists of.
use Rattle.std.proofs.Common.{◌≡◌, ℕ, ◌+◌, ◌-◌, ◌*◌, ◌/◌, ◌%◌, ◌<◌, ◌≤◌, Bool, not, ◌&&◌, ◌||◌, T, eqb, ltb, List, length, get_or, replicate, refl, ap, ◌∙◌, arith, eqb→eq, ltb→lt, lt-ltb}
use Rattle.std.proofs.Math.Option.{some}
use Rattle.primitives.specs.Bytes.{AllBytes}
use Rattle.primitives.specs.BaseRule.{GoodBase, letters_for, fill_for}
use Rattle.primitives.specs.Base32.{LetterTable32, DigitTable32, letter32, digit32, base32, encoding32, decoding32, encoded_length32}
use Rattle.primitives.proofs.ByteLists.{each_bytes}
use Rattle.primitives.proofs.Each.{each_at}
use Rattle.primitives.proofs.Table.{every, at, by_rule}
use Rattle.primitives.proofs.Base64Letters.{both_0, both_1, implied}
use Rattle.primitives.proofs.BaseTexts.{each_of_text, length_text, read_back, read_bytes, text_only}

-- ---- letters and numbers determine each other

-- at each number below 32: its letter is a byte, and the letter's number is the number
back : ℕ → ℕ → Bool
back k x = ltb (letter32 k) 256 && eqb (digit32 (letter32 k)) k

all_back : T (every back 0 (replicate 32 0))
unfolding back digit32 letter32
all_back = tt

-- at each byte: where its number is below 32, that number's letter is the byte
again : ℕ → ℕ → Bool
again c x = not (ltb (digit32 c) 32) || eqb (letter32 (digit32 c)) c

all_again : T (every again 0 (replicate 256 0))
unfolding again digit32 letter32
all_again = tt

pub letter_small : (k : ℕ) → k < 32 → letter32 k < 256
unfolding back
letter_small k h = ltb→lt (letter32 k) 256 (both_0 (ltb (letter32 k) 256) (eqb (digit32 (letter32 k)) k) (at back (replicate 32 0) all_back k h))

pub digit_letter : (k : ℕ) → k < 32 → digit32 (letter32 k) ≡ k
unfolding back
digit_letter k h = eqb→eq (digit32 (letter32 k)) k (both_1 (ltb (letter32 k) 256) (eqb (digit32 (letter32 k)) k) (at back (replicate 32 0) all_back k h))

pub letter_digit : (c : ℕ) → c < 256 → digit32 c < 32 → letter32 (digit32 c) ≡ c
unfolding again
letter_digit c h l =
    eqb→eq (letter32 (digit32 c)) c
    (implied (ltb (digit32 c) 32) (eqb (letter32 (digit32 c)) c) (at again (replicate 256 0) all_again c h) (lt-ltb (digit32 c) 32 l))

pub foreign : (c : ℕ) → digit32 c ≡ 32 → (k : ℕ) → k < 32 → letter32 k ≡ c → ⊥
foreign c f k h e = omega (arith, digit_letter k h, ap digit32 e, f)

pub base32_good : GoodBase base32
unfolding digit32
base32_good =
    record {
      some = omega arith;
      most = omega arith;
      grouped = omega arith;
      small = letter_small;
      back = digit_letter;
      again = letter_digit;
      foreign = omega arith;
    }

-- ---- the length of a text

-- whole groups of eight letters
filled : (n : ℕ) → (n * 8 + 4) / 5 + (8 - (n * 8 + 4) / 5 % 8) % 8 ≡ (n + 4) / 5 * 8
filled n = omega arith

pub length_encoding32 : (xs : List ℕ) → length (encoding32 xs) ≡ encoded_length32 (length xs)
unfolding encoding32 encoded_length32 letters_for fill_for
length_encoding32 xs = length_text base32 base32_good xs ∙ filled (length xs)

-- it is short
pub length32_most : (xs : List ℕ) → length (encoding32 xs) ≤ 2 * length xs + 8
unfolding encoded_length32
length32_most xs = omega (arith, length_encoding32 xs)

-- ---- the bytes of a text

pub encoding_bytes32 : (xs : List ℕ) → AllBytes (encoding32 xs)
unfolding encoding32
encoding_bytes32 xs = each_bytes (each_of_text base32 base32_good xs letter_small (omega arith))

-- '_' occurs in no text
pub no_underscore32 : (xs : List ℕ) (i : ℕ) → i < length (encoding32 xs) → get_or (encoding32 xs) i 0 ≡ 95 → ⊥
unfolding encoding32 digit32
no_underscore32 xs = each_at (each_of_text base32 base32_good xs {P = λ b. b ≡ 95 → ⊥} (foreign 95 refl) (λ e. omega arith))

-- ---- there and back

pub decode_encode32 : (xs : List ℕ) → AllBytes xs → decoding32 (encoding32 xs) ≡ some xs
unfolding encoding32 decoding32
decode_encode32 = read_back base32 base32_good

pub decoded_bytes32 : (text xs : List ℕ) → decoding32 text ≡ some xs → AllBytes xs
unfolding decoding32
decoded_bytes32 = read_bytes base32 base32_good

pub encode_decode32 : (text xs : List ℕ) → AllBytes text → decoding32 text ≡ some xs → text ≡ encoding32 xs
unfolding encoding32 decoding32
encode_decode32 text xs p e = text_only base32 base32_good text xs e p

-- ---- the tables

pub letter_table32 : (xs : List ℕ) → length xs ≡ 32 → T (every (λ k x. eqb x (letter32 k)) 0 xs) → LetterTable32 xs
letter_table32 xs l t = record { at = λ k h. by_rule letter32 xs t k (omega (arith, l)) }

pub digit_table32 : (xs : List ℕ) → length xs ≡ 256 → T (every (λ c x. eqb x (digit32 c)) 0 xs) → DigitTable32 xs
digit_table32 xs l t = record { at = λ c h. by_rule digit32 xs t c (omega (arith, l)) }
