-- Laws of the primitives, which the crates above them build on. Proved in proofs/Laws.antt.
use Rattle.std.specs.Prelude.{◌≡◌, ℕ, ◌+◌, ◌-◌, ◌*◌, ◌^◌, ◌<◌, ◌≤◌, true, List, length, take, drop, ℤ, bit_xor, slice_index}
use Rattle.std.proofs.Math.Option.{some}
use Rattle.primitives.specs.Bytes.{AllBytes}
use Rattle.primitives.specs.Place.{room, placed}
use Rattle.primitives.specs.Number.{bytes_of, value_of}
use Rattle.primitives.specs.Counter.{width_good, fits_in, counter_fits, twos, of_twos, counter_bytes, counter_value, xor_first}
use Rattle.primitives.specs.BaseRule.{Base, GoodBase, text_of, read_text}
use Rattle.primitives.specs.Base64.{base64, encoding, encoded_length, decoding}
use Rattle.primitives.specs.Base32.{base32, encoding32, decoding32, encoded_length32}
use Rattle.primitives.specs.Field.{xtime, times, inverse}
use Rattle.primitives.specs.Aes.{affine, SBox, DoublingTable}
use Rattle.primitives.specs.declared.base64.Alphabet.{Alphabet}

-- ---- BASE64, over both alphabets

-- decoding what was encoded gives it back
abbrev pub DecodingUndoesEncoding : Type 0
DecodingUndoesEncoding = (a : Alphabet) (xs : List ℕ) → AllBytes xs → decoding a (encoding a xs) ≡ some xs

-- a text decodes to xs exactly if xs are bytes and the text is their encoding; so any other text is refused
abbrev pub DecodingIsExact : Type 0
DecodingIsExact =
    (a : Alphabet) (text xs : List ℕ) → AllBytes text
    → (decoding a text ≡ some xs → AllBytes xs × (text ≡ encoding a xs)) × (AllBytes xs × (text ≡ encoding a xs) → decoding a text ≡ some xs)

-- different bytes have different texts
abbrev pub OneEncoding : Type 0
OneEncoding = (a : Alphabet) (xs ys : List ℕ) → AllBytes xs → AllBytes ys → encoding a xs ≡ encoding a ys → xs ≡ ys

-- the length of a text, from the number of bytes alone
abbrev pub EncodedLengthIs : Type 0
EncodedLengthIs = (a : Alphabet) (xs : List ℕ) → length (encoding a xs) ≡ encoded_length a (length xs)

-- ---- BASE64 and BASE32 follow one rule

-- over every good base: what was written is read back
abbrev pub RuleReadsBack : Type 0
RuleReadsBack = (b : Base) → GoodBase b → (xs : List ℕ) → AllBytes xs → read_text b (text_of b xs) ≡ some xs

-- over every good base: a text is read as xs exactly if xs are bytes and the text is theirs; so any other text is refused
abbrev pub RuleIsExact : Type 0
RuleIsExact =
    (b : Base) → GoodBase b → (text xs : List ℕ) → AllBytes text
    → (read_text b text ≡ some xs → AllBytes xs × (text ≡ text_of b xs)) × (AllBytes xs × (text ≡ text_of b xs) → read_text b text ≡ some xs)

-- and both are good bases
abbrev pub BasesAreGood : Type 0
BasesAreGood = ((a : Alphabet) → GoodBase (base64 a)) × GoodBase base32

-- BASE64, over both alphabets, writes and reads as the rule says
abbrev pub Base64FollowsRule : Type 0
Base64FollowsRule =
    (a : Alphabet)
    → ((xs : List ℕ) → AllBytes xs → encoding a xs ≡ text_of (base64 a) xs)
    × ((text : List ℕ) → AllBytes text → decoding a text ≡ read_text (base64 a) text)

-- ---- BASE32, which is defined by the rule

-- decoding what was encoded gives it back
abbrev pub DecodingUndoesEncoding32 : Type 0
DecodingUndoesEncoding32 = (xs : List ℕ) → AllBytes xs → decoding32 (encoding32 xs) ≡ some xs

-- a text decodes to xs exactly if xs are bytes and the text is their encoding; so any other text is refused
abbrev pub DecodingIsExact32 : Type 0
DecodingIsExact32 =
    (text xs : List ℕ) → AllBytes text
    → (decoding32 text ≡ some xs → AllBytes xs × (text ≡ encoding32 xs)) × (AllBytes xs × (text ≡ encoding32 xs) → decoding32 text ≡ some xs)

-- different bytes have different texts
abbrev pub OneEncoding32 : Type 0
OneEncoding32 = (xs ys : List ℕ) → AllBytes xs → AllBytes ys → encoding32 xs ≡ encoding32 ys → xs ≡ ys

-- the length of a text, from the number of bytes alone
abbrev pub EncodedLengthIs32 : Type 0
EncodedLengthIs32 = (xs : List ℕ) → length (encoding32 xs) ≡ encoded_length32 (length xs)

-- ---- numbers as bytes, for every count of bytes

-- a number that fits into n bytes is read back from them
abbrev pub NumberIsReadBack : Type 0
NumberIsReadBack = (n v : ℕ) → v < 256 ^ n → value_of (bytes_of n v) ≡ v

-- bytes that are read as a number are written back unchanged
abbrev pub NumberBytesAreKept : Type 0
NumberBytesAreKept = (bs : List ℕ) → AllBytes bs → bytes_of (length bs) (value_of bs) ≡ bs

-- ---- two's complement, for every count of bytes, and the counter's bytes, for every width

-- a number in the range of n bytes is read back from its two's complement
abbrev pub ComplementIsReadBack : Type 0
ComplementIsReadBack = (n : ℕ) (z : ℤ) → 0 < n → fits_in n z ≡ true → of_twos n (twos n z) ≡ z

-- the signed value of n bytes is in their range, and they are its two's complement
abbrev pub ComplementIsKept : Type 0
ComplementIsKept = (n v : ℕ) → 0 < n → v < 256 ^ n → (fits_in n (of_twos n v) ≡ true) × (twos n (of_twos n v) ≡ v)

-- a counter that fits is read back from its bytes
abbrev pub CounterIsReadBack : Type 0
CounterIsReadBack = (n : ℕ) (z : ℤ) → counter_fits n z ≡ true → counter_value n (counter_bytes n z) ≡ z

-- the signed value of the first n of eight bytes fits, and they are its bytes
abbrev pub CounterBytesAreKept : Type 0
CounterBytesAreKept =
    (n : ℕ) (b : List ℕ) → width_good n ≡ true → AllBytes b → length b ≡ 8
    → (counter_fits n (counter_value n b) ≡ true) × (take n (counter_bytes n (counter_value n b)) ≡ take n b)

-- exclusive or with the same key stream, applied twice, gives the bytes back
abbrev pub ExclusiveOrTwice : Type 0
ExclusiveOrTwice = (n : ℕ) (b k : List ℕ) → length b ≤ length k → xor_first n (xor_first n b k) k ≡ b

-- ---- the field of AES

-- every byte but 0 times its inverse is 1
abbrev pub InverseIsInverse : Type 0
InverseIsInverse = (k : ℕ) → 0 < k → k < 256 → times k (inverse k) ≡ 1

-- doubling, and doubling with the byte itself added, are the products by 2 and by 3
abbrev pub DoublingIsTimesTwo : Type 0
DoublingIsTimesTwo = (k : ℕ) → k < 256 → times k 2 ≡ xtime k

abbrev pub TriplingIsTimesThree : Type 0
TriplingIsTimesThree = (k : ℕ) → k < 256 → times k 3 ≡ bit_xor (xtime k) k

-- a table of the substitution has at every byte the affine map of its inverse
abbrev pub SubstitutionFollowsRule : Type 0
SubstitutionFollowsRule = (table : List ℕ) → SBox table → (k : ℕ) → k < 256 → slice_index table k ≡ affine (inverse k)

-- in a doubling table the entry at k is 2k for k below 0x80, and 2k - 256, exclusive or 0x1b, for k from 0x80 to 0xff
abbrev pub DoublingFollowsRule : Type 0
DoublingFollowsRule =
    (table : List ℕ) → DoublingTable table → (k : ℕ)
    → (k < 0x80 → slice_index table k ≡ k * 2) × (0x80 ≤ k → k < 256 → slice_index table k ≡ bit_xor 0x1b (k * 2 - 256))

-- ---- writing at a place

-- every byte before the place and every byte after what was written is unchanged
abbrev pub WritingTouchesNoOther : Type 0
WritingTouchesNoOther =
    (xs : List ℕ) (at : ℕ) (ys : List ℕ) (i : ℕ)
    → (i < at → slice_index (placed xs at ys) i ≡ slice_index xs i) × (at + length ys ≤ i → slice_index (placed xs at ys) i ≡ slice_index xs i)

-- the buffer's length is unchanged
abbrev pub WritingKeepsLength : Type 0
WritingKeepsLength = (xs : List ℕ) (at : ℕ) (ys : List ℕ) → length (placed xs at ys) ≡ length xs

-- what was written stands at its place
abbrev pub WrittenIsThere : Type 0
WrittenIsThere = (xs : List ℕ) (at : ℕ) (ys : List ℕ) → room xs at ys ≡ true → take (length ys) (drop at (placed xs at ys)) ≡ ys
