-- The tokens of a text as a function of it: what the code finds. It is exact for the grammar: `TokensExactly` of Exact.antt.
use Rattle.std.specs.Prelude.{ℕ, zero, suc, ◌-◌, cond, List, [], ◌∷◌, eqb}
use Rattle.exports.specs.Text.{Token, mark, word, blank, is_mark, plain}

-- at a wrong byte, or in a string that is not closed, the list of tokens ends with one of kind 1

abbrev pub wrong : List Token
wrong = mark 1 ∷ []

-- the escape's letters that are left: u003d
unfoldable pub letter_left : ℕ → ℕ
letter_left k = cond (eqb k 5) 117 (cond (eqb k 2) 51 (cond (eqb k 1) 100 48))

-- how many of the escape's letters are left after a byte in a string; 9 for a byte that cannot stand there
unfoldable pub after_byte : ℕ → ℕ → ℕ
after_byte k b = cond (eqb k 0) (cond (eqb b 92) 5 (cond (plain b) 0 9)) (cond (eqb b (letter_left k)) (k - 1) 9)

-- how many bytes stand before the next quote
unfoldable pub before : List ℕ → ℕ
before [] = 0
before (b ∷ text) = cond (eqb b 34) 0 (suc (before text))

-- what is spelled before the next quote, k letters of an escape left
unfoldable pub content : List ℕ → ℕ → List ℕ
content [] k = []
content (b ∷ text) zero = cond (eqb b 34) [] (cond (eqb b 92) (61 ∷ content text 5) (b ∷ content text 0))
content (b ∷ text) (suc k) = content text k

unfoldable mutual
  pub lex : List ℕ → List Token
  lex [] = []
  lex (b ∷ text) =
      cond (blank b) (lex text) (cond (eqb b 34) (lex_in text 0 (content text 0)) (cond (is_mark b) (mark b ∷ lex text) wrong))

  -- in a string, k letters of an escape left; c is what it spells
  pub lex_in : List ℕ → ℕ → List ℕ → List Token
  lex_in [] k c = wrong
  lex_in (b ∷ text) k c =
      cond (eqb b 34) (cond (eqb k 0) (word c ∷ lex text) wrong) (cond (eqb (after_byte k b) 9) wrong (lex_in text (after_byte k b) c))
