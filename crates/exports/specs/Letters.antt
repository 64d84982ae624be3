-- The bytes of a text, each as a number: blanks, marks, the letters of a string, and the escape. The grammar of Text.antt names them by tests.
use Rattle.std.specs.Prelude.{ℕ, ◌≤◌, ◌≡◌, true, List, [], ◌∷◌, ◌++◌, ◌↔◌, ◌⊎◌}
use Rattle.primitives.specs.Text.{ascii}
use Rattle.exports.specs.Text.{Token, blank, is_mark, plain, Tokens}
use Rattle.exports.specs.Shape.{Element, Shape}

-- a byte stands in a table
abbrev pub In : ℕ → List ℕ → Type 0
In b [] = ⊥
In b (x ∷ xs) = (b ≡ x) ⊎ In b xs

-- each byte of a text stands in a table
abbrev pub AllIn : List ℕ → List ℕ → Type 0
AllIn table [] = Unit {0}
AllIn table (b ∷ bs) = In b table × AllIn table bs

-- "JSON blanks", RFC 8259, section 2: space, tab, line feed, return
abbrev pub json_blanks : List ℕ
json_blanks = 32 ∷ 9 ∷ 10 ∷ 13 ∷ []

-- and the marks: begin and end of an object, begin and end of an array, the mark after a name, the mark between values
abbrev pub json_marks : List ℕ
json_marks = 123 ∷ 125 ∷ 91 ∷ 93 ∷ 58 ∷ 44 ∷ []

-- "The reader also takes JSON blanks": these bytes and no other, between tokens, and before and after the text
pub record BlanksExactly : Type 0 where
  pub these : (b : ℕ) → (blank b ≡ true) ↔ In b json_blanks
  pub between : (a s b : List ℕ) (ts us : List Token) → AllIn json_blanks s → Tokens a ts → Tokens b us → Tokens (a ++ (s ++ b)) (ts ++ us)
  pub around : (s text t : List ℕ) (es : List Element) → AllIn json_blanks s → AllIn json_blanks t → Shape text es → Shape (s ++ (text ++ t)) es

abbrev pub MarksExactly : Type 0
MarksExactly = (b : ℕ) → (is_mark b ≡ true) ↔ In b json_marks

-- "Otherwise a string holds only bytes 32 to 126 without quote and backslash"
abbrev pub LettersExactly : Type 0
LettersExactly = (b : ℕ) → (plain b ≡ true) ↔ ((32 ≤ b) × (b ≤ 126) × (b ≡ 34 → ⊥) × (b ≡ 92 → ⊥))

-- "the escape \u003d for "="": wherever a text has the one, it has the same elements with the other; and a backslash begins nothing else. A "=" and a backslash
-- stand in strings alone.
pub record EscapeExactly : Type 0 where
  pub same : (a b : List ℕ) (es : List Element) → Shape (a ++ (ascii "=" ++ b)) es ↔ Shape (a ++ (ascii "\\u003d" ++ b)) es
  pub only : (a b : List ℕ) (es : List Element) → Shape (a ++ (ascii "\\" ++ b)) es → (rest : List ℕ) × (b ≡ ascii "u003d" ++ rest)
