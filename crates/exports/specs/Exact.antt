-- What holds of the tokens and of the shape, as statements; the proofs are in proofs/Lexical.antt, Unique.antt and Back.antt.
use Rattle.std.specs.Prelude.{◌≡◌, ◌↔◌, List, Bool, true, false, not, ℕ, eqb}
use Rattle.std.proofs.Math.Option.{some}
use Rattle.exports.specs.Shape.{Element, Shape, plain_text, plain_element}
use Rattle.exports.specs.Text.{Token, Tokens, every}
use Rattle.exports.specs.Lexer.{lex}
use Rattle.exports.specs.Parsed.{elements_of}

-- ---- tokens

-- 1 is the kind of a token that the grammar does not have
unfoldable pub right_kind : Token → Bool
right_kind t = not (eqb t.kind 1)

-- The tokens found are exactly those of the grammar: whatever it derives is found, and is never of kind 1; what is found without one of kind 1, it
-- derives; and a text for which it derives nothing gets one of kind 1.
pub record TokensExactly : Type 0 where
  pub always : (text : List ℕ) (ts : List Token) → Tokens text ts → (lex text ≡ ts) × (every right_kind ts ≡ true)
  pub only : (text : List ℕ) → every right_kind (lex text) ≡ true → Tokens text (lex text)
  pub wrong : (text : List ℕ) → ((ts : List Token) → Tokens text ts → ⊥) → every right_kind (lex text) ≡ false

-- ---- elements

-- the elements found are exactly those that the grammar derives
abbrev pub Exact : Type 0
Exact = (text : List ℕ) (es : List Element) → (elements_of text ≡ some es) ↔ Shape text es

-- a text spells at most one list of elements
abbrev pub OneReading : Type 0
OneReading = (text : List ℕ) (es fs : List Element) → Shape text es → Shape text fs → es ≡ fs

-- what is written is read back
abbrev pub ReadsBack : Type 0
ReadsBack = (es : List Element) → every plain_element es ≡ true → elements_of (plain_text es) ≡ some es
