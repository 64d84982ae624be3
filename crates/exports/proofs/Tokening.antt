-- One token more: marks, strings and names.
use Rattle.std.proofs.Common.{ℕ, ◌+◌, ◌<◌, ◌≤◌, ◌≡◌, refl, sym, ap, ◌∙◌, Bool, true, false, cond, List, [], ◌∷◌, eqb, length, drop, get_or, arith}
use Rattle.std.proofs.lemmas.Bool.{eqb-true, eqb-false}
use Rattle.exports.specs.Text.{Token, mark, word, is_mark}
use Rattle.exports.specs.Lexer.{wrong, after_byte, content, lex, lex_in}
use Rattle.exports.specs.Shape.{string}
use Rattle.exports.specs.Places.{from, Skipped, Next, Quotes, Marked, ReadTo, Absent}
use Rattle.exports.specs.declared.lexer.Found.{Found}
use Rattle.exports.specs.declared.lexer.Found.TheVariants.{End, Wrong, Quoted, Mark}
use Rattle.exports.specs.declared.lexer.Part.{Part}
use Rattle.exports.proofs.Lexing.{no_truth, mark_no_quote, next_end, next_mark, next_other, quote}

pub nil_cons : {X A : Type 0} {x : A} {xs : List A} → [] ≡ x ∷ xs → X
nil_cons p = let z : ◌≡◌ {A = ℕ} 0 1 = cc in absurd (omega arith)

pub head_is : {A : Type 0} {x y : A} {xs ys : List A} → x ∷ xs ≡ y ∷ ys → x ≡ y
head_is p = cc

pub tail_is : {A : Type 0} {x y : A} {xs ys : List A} → x ∷ xs ≡ y ∷ ys → xs ≡ ys
tail_is p = cc

-- two marks that stand at one place
pub other_mark : {X : Type 0} {a b : ℕ} {xs ys : List Token} → (a ≡ b → ⊥) → mark a ∷ xs ≡ mark b ∷ ys → X
other_mark n p = absurd (n (ap (λ (t : Token). t.kind) (head_is p)))

-- a mark is not the kind of a wrong byte
mark_no_wrong : (b : ℕ) → is_mark b ≡ true → 1 ≡ b → ⊥
unfolding is_mark
mark_no_wrong b e z = no_truth (rw (sym z) at e)

pub word_is : {v w : List ℕ} {xs ys : List Token} → word v ∷ xs ≡ word w ∷ ys → v ≡ w
word_is p = ap (λ (t : Token). t.content) (head_is p)

-- ---- a string

module _ {text : List ℕ} {at : ℕ} {p : Part} (n : Quotes text at p) where
  pub read_word : ReadTo string text at p.next
  read_word =
      record {
        inside = n.inside;
        onward = n.onward;
        sound = (content (drop p.start text) 0, n.is);
        complete = λ x rest q. tail_is (sym n.is ∙ q);
      }

  -- what it spells
  pub word_there : {w : List ℕ} {rest : List Token} → from text at ≡ word w ∷ rest → (content (drop p.start text) 0 ≡ w) × (from text p.next ≡ rest)
  word_there q = (word_is (sym n.is ∙ q), tail_is (sym n.is ∙ q))

-- where a string stands, one was found
module _ (text : List ℕ) (at : ℕ) {w : List ℕ} {rest : List Token} (q : from text at ≡ word w ∷ rest) where
  pub no_word : (t : Found) → Next text at t → ((p : Part) → t ≡ Quoted p → ⊥) → ⊥
  no_word End n h = nil_cons (sym n ∙ q)
  no_word Wrong n h = let z : ◌≡◌ {A = ℕ} 1 34 = ap (λ (t : Token). t.kind) (head_is (sym n ∙ q)) in absurd (omega arith)
  no_word (Quoted p) n h = h p refl
  no_word (Mark b r) n h = mark_no_quote b n.0 (ap (λ (t : Token). t.kind) (head_is (sym n.1.is ∙ q)))

pub read_no_word : (text : List ℕ) (at : ℕ) (t : Found) → Next text at t → ((p : Part) → t ≡ Quoted p → ⊥) → Absent string text at
read_no_word text at t n h = record { none = λ x rest q. no_word _ _ q t n h }

lt_no : {m n : ℕ} → m < n → m ≡ n → ⊥
lt_no h e = omega arith

-- ---- a mark, by one byte

-- after a quote stands a word or a wrong token
module _ (b : ℕ) (m : is_mark b ≡ true) {rest : List Token} where
  quoted_no_mark : (text : List ℕ) (k : ℕ) (c : List ℕ) → lex_in text k c ≡ mark b ∷ rest → ⊥
  unfolding lex_in
  quoted_no_mark [] k c e = other_mark (mark_no_wrong b m) e
  quoted_no_mark (x ∷ text) k c e = go (eqb x 34) (eqb k 0) (eqb (after_byte k x) 9) (λ q. quoted_no_mark text (after_byte k x) c q) e
    where
      go : (s t u : Bool) → (lex_in text (after_byte k x) c ≡ mark b ∷ rest → ⊥) → cond s (cond t (word c ∷ lex text) wrong) (cond u wrong (lex_in text (after_byte k x) c)) ≡ mark b ∷ rest → ⊥
      go true true u ih q = mark_no_quote b m (sym (ap (λ (t : Token). t.kind) (head_is q)))
      go true false u ih q = other_mark (mark_no_wrong b m) q
      go false t true ih q = other_mark (mark_no_wrong b m) q
      go false t false ih q = ih q

-- what stands after blanks stands before them
module _ {text : List ℕ} {at p : ℕ} (s : Skipped text at p) where
  pub mark_after : {b r : ℕ} → Marked b text p r → Marked b text at r
  mark_after m = record { inside = m.inside; onward = omega (arith, s.onward, m.onward); is = s.same ∙ m.is }

  pub no_mark_after : {b : ℕ} → ((rest : List Token) → from text p ≡ mark b ∷ rest → ⊥) → (rest : List Token) → from text at ≡ mark b ∷ rest → ⊥
  no_mark_after n rest q = n rest (sym s.same ∙ q)

module _ {text : List ℕ} {at p b : ℕ} (s : Skipped text at p) (m : is_mark b ≡ true) where
  pub expect_end : length text ≤ p → (rest : List Token) → from text at ≡ mark b ∷ rest → ⊥
  expect_end e rest q = nil_cons (sym (next_end s (omega (arith, s.inside))) ∙ q)

  module _ (h : p < length text) where
    pub expect_found : get_or text p 0 ≡ b → Marked b text at (p + 1)
    expect_found e = next_mark s (lt_no h) b e (mark_no_quote b m) m

    pub expect_other : (get_or text p 0 ≡ b → ⊥) → (rest : List Token) → from text at ≡ mark b ∷ rest → ⊥
    expect_other n rest q = go (eqb (get_or text p 0) 34) (is_mark (get_or text p 0)) refl refl
      where
        go : (t u : Bool) → eqb (get_or text p 0) 34 ≡ t → is_mark (get_or text p 0) ≡ u → ⊥
        go true u i j = quoted_no_mark b m (drop (p + 1) text) 0 _ (sym (quote s (lt_no h) (eqb-true _ 34 i)) ∙ q)
        go false true i j = other_mark n (sym (next_mark s (lt_no h) _ refl (eqb-false _ 34 i) j).is ∙ q)
        go false false i j = other_mark (mark_no_wrong b m) (sym (next_other s (lt_no h) _ refl (eqb-false _ 34 i) j) ∙ q)
