-- RFC 4648: the rule that base 64 (section 4) and base 32 (section 6) have in common, over the bits of a letter. The bits of the bytes,
-- in order, are cut into letters; zeros fill the last letter, and '=' fills the last group of letters. The reader is strict: sections
-- 3.2 (padding), 3.3 (foreign letters) and 3.5 (unused bits).
use Rattle.std.specs.Prelude.{◌≡◌, ℕ, zero, suc, ◌+◌, ◌-◌, ◌*◌, ◌/◌, ◌%◌, ◌^◌, ◌<◌, ◌≤◌, Bool, true, cond, ◌&&◌, List, [], ◌∷◌, ◌++◌, map, length, take, replicate, ◌==◌, nat_lt, slice_index}
use Prim.Native.Char.{code}
use Rattle.std.proofs.Math.Option.{Option, none, some}
use Rattle.primitives.specs.Number.{digits_of, number_of, bytes_of, value_of}

-- a base: the bits of a letter; the letters of a group, 1 if the text is not padded; the letter of a number below 2 ^ bits; and the number
-- of a letter, which is 2 ^ bits or more for any other byte
pub record Base : Type 0 where
  pub bits : ℕ
  pub group : ℕ
  pub letter : ℕ → ℕ
  pub digit : ℕ → ℕ

-- the padding
abbrev pub fill : ℕ
fill = code "="

-- a letter has 1 to 8 bits and is a byte, letters and numbers determine each other, and '=' is not a letter
pub record GoodBase (b : Base) : Type 0 where
  pub some : 0 < b.bits
  pub most : b.bits ≤ 8
  pub grouped : 0 < b.group
  pub small : (k : ℕ) → k < 2 ^ b.bits → b.letter k < 256
  pub back : (k : ℕ) → k < 2 ^ b.bits → b.digit (b.letter k) ≡ k
  pub again : (c : ℕ) → c < 256 → b.digit c < 2 ^ b.bits → b.letter (b.digit c) ≡ c
  pub foreign : 2 ^ b.bits ≤ b.digit fill

-- ---- writing

-- the letters of n bytes, and the bits of the last one that are left over
unfoldable pub letters_for : ℕ → ℕ → ℕ
letters_for bits n = (n * 8 + (bits - 1)) / bits

unfoldable pub spare_bits : ℕ → ℕ → ℕ
spare_bits bits n = letters_for bits n * bits - n * 8

-- the bits of the bytes and of the zeros after them are one number; its digits are the letters
unfoldable pub letters_of : Base → List ℕ → List ℕ
letters_of b xs =
    map b.letter (digits_of (2 ^ b.bits) (letters_for b.bits (length xs)) (value_of xs * 2 ^ spare_bits b.bits (length xs)))

-- how many '=' follow n letters
unfoldable pub fill_for : ℕ → ℕ → ℕ
fill_for group n = (group - n % group) % group

-- the text of a list of bytes
unfoldable pub text_of : Base → List ℕ → List ℕ
text_of b xs = letters_of b xs ++ replicate (fill_for b.group (letters_for b.bits (length xs))) fill

-- ---- reading

-- the number that letters spell
unfoldable pub number_in : Base → List ℕ → ℕ
number_in b text = number_of (2 ^ b.bits) (map b.digit text)

-- the bytes of n letters, and the bits after them
unfoldable pub bytes_for : ℕ → ℕ → ℕ
bytes_for bits n = n * bits / 8

unfoldable pub bits_after : ℕ → ℕ → ℕ
bits_after bits n = n * bits % 8

unfoldable pub bytes_in : Base → List ℕ → List ℕ
bytes_in b text = bytes_of (bytes_for b.bits (length text)) (number_in b text / 2 ^ bits_after b.bits (length text))

-- section 3.3: every byte of the text is a letter
unfoldable pub letters_known : Base → List ℕ → Bool
letters_known b [] = true
letters_known b (c ∷ text) = nat_lt (b.digit c) (2 ^ b.bits) && letters_known b text

-- section 3.5: the bits after the last byte are fewer than a letter has, and zero
unfoldable pub well_ended : Base → List ℕ → Bool
well_ended b text =
    nat_lt (bits_after b.bits (length text)) b.bits && number_in b text % 2 ^ bits_after b.bits (length text) == 0

-- of the first n bytes, those before the '=' at their end
unfoldable pub before_fill : List ℕ → ℕ → ℕ
before_fill text zero = 0
before_fill text (suc n) = cond (slice_index text n == fill) (before_fill text n) (suc n)

-- the number of letters before the padding
unfoldable pub letters_in : List ℕ → ℕ
letters_in text = before_fill text (length text)

-- section 3.2: as many '=' as fill the last group, and letters that end well before them
unfoldable pub is_text : Base → List ℕ → Bool
is_text b text =
    (length text == letters_in text + fill_for b.group (letters_in text))
    && (well_ended b (take (letters_in text) text) && letters_known b (take (letters_in text) text))

-- the bytes that a text stands for, if it is one
unfoldable pub read_text : Base → List ℕ → Option (List ℕ)
read_text b text = cond (is_text b text) (some (bytes_in b (take (letters_in text) text))) none
