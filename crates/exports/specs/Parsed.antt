-- The elements of a text as a function of it: read loosely, spelled again and compared. What it finds is exactly what the grammar derives (specs/Exact.antt).
use Rattle.std.specs.Prelude.{ℕ, zero, suc, Bool, true, false, cond, ◌&&◌, List, [], ◌∷◌, ◌++◌, eqb, length}
use Rattle.std.proofs.Math.Option.{Option, none, some}
use Rattle.primitives.specs.Bytes.{same}
use Rattle.exports.specs.Text.{Token, mark, word}
use Rattle.exports.specs.Lexer.{lex}
use Rattle.exports.specs.Shape.{group_name, array, Member, certificate, issuers, receipts, certificates_of, issuers_of, receipts_of, Element, object}
use Rattle.exports.specs.Places.{name_number}

-- ---- the first token, and the others

unfoldable pub kind_of : List Token → ℕ
kind_of [] = 0
kind_of (t ∷ ts) = t.kind

unfoldable pub content_of : List Token → List ℕ
content_of [] = []
content_of (t ∷ ts) = t.content

unfoldable pub rest : List Token → List Token
rest [] = []
rest (t ∷ ts) = ts

-- ---- loosely: the strings before the next "]", and what stands after it

unfoldable pub words_of : List Token → List (List ℕ)
words_of [] = []
words_of (t ∷ ts) = cond (eqb t.kind 93) [] (cond (eqb t.kind 34) (t.content ∷ words_of ts) (words_of ts))

unfoldable pub after_words : List Token → List Token
after_words [] = []
after_words (t ∷ ts) = cond (eqb t.kind 93) ts (after_words ts)

-- the value that belongs to a name's number, and what stands after it
abbrev pub member_of : ℕ → List Token → Member
member_of n ts = cond (eqb n 1) (certificate (content_of ts)) (cond (eqb n 2) (issuers (words_of ts)) (receipts (words_of ts)))

abbrev pub after_value : ℕ → List Token → List Token
after_value n ts = cond (eqb n 1) (rest ts) (after_words ts)

-- after a mark: a name, ":" and a value
unfoldable pub member_at : List Token → Member
member_at ts = member_of (name_number (content_of (rest ts))) (rest (rest (rest ts)))

unfoldable pub after_member : List Token → List Token
after_member ts = after_value (name_number (content_of (rest ts))) (rest (rest (rest ts)))

pub record Three : Type 0 where
  pub first : Member
  pub second : Member
  pub third : Member

unfoldable pub three_at : List Token → Three
three_at ts = record { first = member_at ts; second = member_at (after_member ts); third = member_at (after_member (after_member ts)) }

unfoldable pub after_three : List Token → List Token
after_three ts = rest (after_member (after_member (after_member ts)))

-- at most n items, after "[" or ","
unfoldable pub threes_of : ℕ → List Token → List Three
threes_of zero ts = []
threes_of (suc n) ts = cond (eqb (kind_of ts) 123) (three_at ts ∷ threes_of n (rest (after_three ts))) []

-- ---- spelled again

unfoldable pub three_text : Three → List Token
three_text t = object t.first t.second t.third

unfoldable pub threes_text : List Three → List Token
threes_text ts = mark 123 ∷ word group_name ∷ mark 58 ∷ (array three_text ts ++ (mark 125 ∷ []))

unfoldable pub eq_tokens : List Token → List Token → Bool
eq_tokens [] [] = true
eq_tokens [] (y ∷ ys) = false
eq_tokens (x ∷ xs) [] = false
eq_tokens (x ∷ xs) (y ∷ ys) = (eqb x.kind y.kind && same x.content y.content) && eq_tokens xs ys

-- ---- each name once

-- the one item of a list
abbrev pub the_one : {A B : Type 0} → List A → (A → Option B) → Option B
the_one [] f = none
the_one (x ∷ []) f = f x
the_one (x ∷ (y ∷ xs)) f = none

unfoldable pub element_of : Three → Option Element
element_of t =
    the_one (certificates_of (t.first ∷ t.second ∷ t.third ∷ [])) (λ c.
    the_one (issuers_of (t.first ∷ t.second ∷ t.third ∷ [])) (λ i.
    the_one (receipts_of (t.first ∷ t.second ∷ t.third ∷ [])) (λ r.
    some (record { certificate = c; issuers = i; receipts = r }))))

abbrev pub both : Option Element → Option (List Element) → Option (List Element)
both none es = none
both (some e) none = none
both (some e) (some es) = some (e ∷ es)

unfoldable pub all_of : List Three → Option (List Element)
all_of [] = some []
all_of (t ∷ ts) = both (element_of t) (all_of ts)

-- ---- the whole

unfoldable pub threes : List Token → List Three
threes ts = threes_of (length ts) (rest (rest (rest (rest ts))))

unfoldable pub parsed : List Token → Option (List Element)
parsed ts = cond (eq_tokens (threes_text (threes ts)) ts) (all_of (threes ts)) none

-- the elements that a text spells
unfoldable pub elements_of : List ℕ → Option (List Element)
elements_of text = parsed (lex text)
