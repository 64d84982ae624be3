-- Texts of bytes as tokens: marks and strings, with blanks before, between and after them.
use Rattle.std.specs.Prelude.{ℕ, ◌≡◌, Bool, true, cond, ◌&&◌, ◌||◌, not, List, [], ◌∷◌, ◌++◌, eqb, leb}

-- a token: a mark, whose kind is its byte, or a string, whose kind is the quote
pub record Token : Type 0 where
  pub kind : ℕ
  pub content : List ℕ

abbrev pub mark : ℕ → Token
mark b = record { kind = b; content = [] }

abbrev pub word : List ℕ → Token
word w = record { kind = 34; content = w }

-- space, tab, line feed, return
unfoldable pub blank : ℕ → Bool
blank b = eqb b 32 || (eqb b 9 || (eqb b 10 || eqb b 13))

-- { } [ ] : ,
unfoldable pub is_mark : ℕ → Bool
is_mark b = eqb b 123 || (eqb b 125 || (eqb b 91 || (eqb b 93 || (eqb b 58 || eqb b 44))))

-- bytes 32 to 126 without quote and backslash
unfoldable pub plain : ℕ → Bool
plain b = leb 32 b && (leb b 126 && (not (eqb b 34) && not (eqb b 92)))

-- all of a list
module _ {A : Type 0} (good : A → Bool) where
  unfoldable pub every : List A → Bool
  every [] = true
  every (x ∷ xs) = good x && every xs

-- ---- the grammar

-- a text begins with the letters of a string and the quote that closes it; `rest` follows
pub data Inside : List ℕ → List ℕ → List ℕ → Type 0 where
  close : {rest : List ℕ} → Inside (34 ∷ rest) [] rest
  letter : {b : ℕ} {text content rest : List ℕ} → plain b ≡ true → Inside text content rest → Inside (b ∷ text) (b ∷ content) rest
  -- \u003d is "="
  escape : {text content rest : List ℕ} → Inside text content rest → Inside (92 ∷ 117 ∷ 48 ∷ 48 ∷ 51 ∷ 100 ∷ text) (61 ∷ content) rest

-- a text is these tokens
pub data Tokens : List ℕ → List Token → Type 0 where
  end : Tokens [] []
  space : {b : ℕ} {text : List ℕ} {ts : List Token} → blank b ≡ true → Tokens text ts → Tokens (b ∷ text) ts
  sign : {b : ℕ} {text : List ℕ} {ts : List Token} → is_mark b ≡ true → Tokens text ts → Tokens (b ∷ text) (mark b ∷ ts)
  quoted : {text content rest : List ℕ} {ts : List Token} → Inside text content rest → Tokens rest ts → Tokens (34 ∷ text) (word content ∷ ts)

-- ---- a text of tokens without blanks and escapes

unfoldable pub text_of : List Token → List ℕ
text_of [] = []
text_of (t ∷ ts) = cond (eqb t.kind 34) (34 ∷ (t.content ++ (34 ∷ text_of ts))) (t.kind ∷ text_of ts)
