-- What is printed.
use Rattle.std.specs.Prelude.{ℕ, ◌/◌, ◌%◌, ◌≤◌, nat_le, false, List, [], ◌∷◌, ◌++◌, ℤ, length, take, flat_map, if◌then◌else◌, codes, decimal, Option}
use Rattle.std.specs.Io.KnownBytes.{Appends}
use Rattle.std.specs.Fmt.{digit_glyph, signed_decimal}

-- known bytes grew by a beginning of bs: by none of it, a part or the whole
pub record AppendsPart (old new : Option (List ℕ)) (bs : List ℕ) : Type 0 where
  pub count : ℕ
  pub within : count ≤ length bs
  pub appended : Appends old new (take count bs)

-- the first n bytes of a text; nothing where it is shorter
abbrev pub first_of : ℕ → List ℕ → List ℕ
first_of n s = if nat_le n (length s) then take n s else []

-- the two hexadecimal digits of a byte
abbrev pub hex_pair : ℕ → List ℕ
hex_pair b = digit_glyph false (b / 16) ∷ digit_glyph false (b % 16) ∷ []

-- bytes in hexadecimal
abbrev pub hexadecimal : List ℕ → List ℕ
hexadecimal bytes = flat_map hex_pair bytes

-- the first eight bytes of a text in hexadecimal; nothing where it is shorter
abbrev pub eight_of : List ℕ → List ℕ
eight_of s = hexadecimal (first_of 8 s)

-- the line of a journal that is accepted
abbrev pub accepted_line : ℕ → ℤ → List ℕ
accepted_line receipts counter = codes "accepted " ++ (decimal receipts ++ (codes " " ++ (signed_decimal counter ++ codes "\n")))

-- the line of a journal that is refused
abbrev pub refused_line : ℕ → ℕ → List ℕ
refused_line question index = codes "refused " ++ (decimal question ++ (codes " " ++ (decimal index ++ codes "\n")))
