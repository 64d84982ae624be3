-- The lexer finds exactly the tokens that the grammar gives a text.
use Rattle.std.proofs.Common.{◌≡◌, refl, sym, ap, ◌∙◌, Bool, true, false, cond, not, ◌||◌, List, [], ◌∷◌, ℕ, zero, suc, ◌-◌, arith, eqb-true, eqb}
use lib.Dec.{eqb-suc-zero}
use Rattle.exports.specs.Text.{Token, every, mark, word, blank, is_mark, plain, Inside, close, letter, escape, Tokens, end, space, sign, quoted}
use Rattle.exports.specs.Lexer.{wrong, letter_left, after_byte, content, lex, lex_in}
use Rattle.exports.specs.Exact.{right_kind, TokensExactly}
use Rattle.primitives.proofs.Rows.{both, true-is-not-false}
use Rattle.exports.proofs.Lexing.{no_truth, plain_not}

-- ---- from the grammar to the lexer

inside_content : {text c rest : List ℕ} → Inside text c rest → content text 0 ≡ c
unfolding content
inside_content close = refl
inside_content (letter {b = b} p i) = rw ((plain_not b p).0, (plain_not b p).1) (ap (λ (l : List ℕ). b ∷ l) (inside_content i))
inside_content (escape i) = ap (λ (l : List ℕ). 61 ∷ l) (inside_content i)

inside_lex : {text c rest : List ℕ} (w : List ℕ) → Inside text c rest → lex_in text 0 w ≡ word w ∷ lex rest
unfolding lex_in after_byte letter_left
inside_lex w close = refl
inside_lex w (letter {b = b} p i) = rw ((plain_not b p).0, (plain_not b p).1, p) (inside_lex w i)
inside_lex w (escape i) = inside_lex w i

pub mark_not : (b : ℕ) → is_mark b ≡ true → (blank b ≡ false) × (eqb b 34 ≡ false)
unfolding is_mark blank
mark_not b e = go (eqb b 123) (eqb b 125) (eqb b 91) (eqb b 93) (eqb b 58) (eqb b 44) refl refl refl refl refl refl e
  where
    no : (n : ℕ) → eqb b n ≡ true → blank n ≡ false → eqb n 34 ≡ false → (blank b ≡ false) × (eqb b 34 ≡ false)
    no n i p q = rw (eqb-true b n i) (p, q)

    go : (r s t u v w : Bool) → eqb b 123 ≡ r → eqb b 125 ≡ s → eqb b 91 ≡ t → eqb b 93 ≡ u → eqb b 58 ≡ v → eqb b 44 ≡ w
        → (r || (s || (t || (u || (v || w))))) ≡ true → (blank b ≡ false) × (eqb b 34 ≡ false)
    go true s t u v w i j k l m n h = no 123 i refl refl
    go false true t u v w i j k l m n h = no 125 j refl refl
    go false false true u v w i j k l m n h = no 91 k refl refl
    go false false false true v w i j k l m n h = no 93 l refl refl
    go false false false false true w i j k l m n h = no 58 m refl refl
    go false false false false false true i j k l m n h = no 44 n refl refl
    go false false false false false false i j k l m n h = no_truth h

pub lexed : {text : List ℕ} {ts : List Token} → Tokens text ts → lex text ≡ ts
unfolding lex blank
lexed end = refl
lexed (space p k) = rw p (lexed k)
lexed (sign {b = b} p k) = rw ((mark_not b p).0, (mark_not b p).1, p) (ap (λ (l : List Token). mark b ∷ l) (lexed k))
lexed (quoted {content = c} i k) = inside_lex _ i ∙ (λ x. word (inside_content i x) ∷ lexed k x)

-- ---- and back: where no token is wrong

pub data Good : List Token → Type 0 where
  none : Good []
  more : {t : Token} {ts : List Token} → (t.kind ≡ 1 → ⊥) → Good ts → Good (t ∷ ts)

following_good : {t : Token} {ts : List Token} → Good (t ∷ ts) → Good ts
following_good (more h g) = g

not_wrong : {X : Type 0} → Good wrong → X
not_wrong (more h g) = absurd (h refl)

-- the letters of an escape that are left
unfoldable left : ℕ → List ℕ → List ℕ
left zero text = text
left (suc k) text = letter_left (suc k) ∷ left k text

-- in a string, k letters of an escape left: it is closed, and tokens follow
record Closes (text : List ℕ) (k : ℕ) (c : List ℕ) : Type 0 where
  pub inner : List ℕ
  pub spelled : List ℕ
  pub rest : List ℕ
  pub starts : text ≡ left k inner
  pub is : Inside inner spelled rest
  pub token : lex_in text k c ≡ word c ∷ lex rest
  pub tokens : Tokens rest (lex rest)

-- a byte that neither closes the string nor is wrong
step_letter : (b : ℕ) (text : List ℕ) (k : ℕ) (c : List ℕ) → eqb b 34 ≡ false → eqb (after_byte k b) 9 ≡ false → Closes text (after_byte k b) c → Closes (b ∷ text) k c
unfolding left letter_left after_byte lex_in
step_letter b text zero c q n r = go (eqb b 92) (plain b) refl refl
  where
    same : lex_in (b ∷ text) 0 c ≡ word c ∷ lex r.rest
    same = rw (q, n) r.token

    go : (s t : Bool) → eqb b 92 ≡ s → plain b ≡ t → Closes (b ∷ text) 0 c
    go true t i j =
        let e : text ≡ left 5 r.inner = rw i at r.starts in
        record {
          inner = 92 ∷ left 5 r.inner;
          spelled = 61 ∷ r.spelled;
          rest = r.rest;
          starts = λ x. eqb-true b 92 i x ∷ e x;
          is = escape r.is;
          token = same;
          tokens = r.tokens;
        }
    go false true i j =
        let e : text ≡ r.inner = rw (i, j) at r.starts in
        record {
          inner = b ∷ r.inner;
          spelled = b ∷ r.spelled;
          rest = r.rest;
          starts = ap (λ (l : List ℕ). b ∷ l) e;
          is = letter j r.is;
          token = same;
          tokens = r.tokens;
        }
    go false false i j = no_truth (sym (rw (i, j) at n))
step_letter b text (suc k) c q n r = go (eqb b (letter_left (suc k))) refl
  where
    pred : suc k - 1 ≡ k
    pred = omega arith

    above : eqb (suc k) 0 ≡ false
    above = eqb-suc-zero k

    same : lex_in (b ∷ text) (suc k) c ≡ word c ∷ lex r.rest
    same = rw (q, n) r.token

    go : (s : Bool) → eqb b (letter_left (suc k)) ≡ s → Closes (b ∷ text) (suc k) c
    go true i =
        let e : text ≡ left k r.inner = rw (above, i, pred) at r.starts in
        record {
          inner = r.inner;
          spelled = r.spelled;
          rest = r.rest;
          starts = λ x. eqb-true b (letter_left (suc k)) i x ∷ e x;
          is = r.is;
          token = same;
          tokens = r.tokens;
        }
    go false i = no_truth (sym (rw (above, i) at n))

step_in : (b : ℕ) (text : List ℕ) (k : ℕ) (c : List ℕ) → (Good (lex text) → Tokens text (lex text)) → ((j : ℕ) → Good (lex_in text j c) → Closes text j c)
    → Good (lex_in (b ∷ text) k c) → Closes (b ∷ text) k c
unfolding left lex_in
step_in b text k c out again g = go (eqb b 34) (eqb k 0) (eqb (after_byte k b) 9) refl refl refl
  where
    go : (s t u : Bool) → eqb b 34 ≡ s → eqb k 0 ≡ t → eqb (after_byte k b) 9 ≡ u → Closes (b ∷ text) k c
    go true true u i j n =
        let h : Good (word c ∷ lex text) = rw (i, j) at g in
        rw (eqb-true b 34 i, eqb-true k 0 j) (record {
          inner = 34 ∷ text;
          spelled = [];
          rest = text;
          starts = refl;
          is = close;
          token = refl;
          tokens = out (following_good h);
        })
    go true false u i j n = not_wrong (rw (i, j) at g)
    go false t true i j n = not_wrong (rw (i, n) at g)
    go false t false i j n = step_letter b text k c i n (again (after_byte k b) (rw (i, n) at g))

step_out : (b : ℕ) (text : List ℕ) → (Good (lex text) → Tokens text (lex text)) → (Good (lex_in text 0 (content text 0)) → Closes text 0 (content text 0))
    → Good (lex (b ∷ text)) → Tokens (b ∷ text) (lex (b ∷ text))
unfolding lex left
step_out b text out inner g = go (blank b) (eqb b 34) (is_mark b) refl refl refl
  where
    string : Closes text 0 (content text 0) → Tokens (34 ∷ text) (lex_in text 0 (content text 0))
    string r =
        let i : Inside text r.spelled r.rest = rw r.starts r.is in
        rw (r.token, inside_content i) (quoted i r.tokens)

    go : (s t u : Bool) → blank b ≡ s → eqb b 34 ≡ t → is_mark b ≡ u
        → Tokens (b ∷ text) (cond (blank b) (lex text) (cond (eqb b 34) (lex_in text 0 (content text 0)) (cond (is_mark b) (mark b ∷ lex text) wrong)))
    go true t u i j k = rw i (space i (out (rw i at g)))
    go false true u i j k = rw (i, j, eqb-true b 34 j) (string (inner (rw (i, j) at g)))
    go false false true i j k = rw (i, j, k) (sign k (out (following_good {t = mark b} (rw (i, j, k) at g))))
    go false false false i j k = not_wrong (rw (i, j, k) at g)

mutual
  unfolding lex

  back : (text : List ℕ) → Good (lex text) → Tokens text (lex text)
  back [] g = end
  back (b ∷ text) g = step_out b text (λ h. back text h) (λ h. back_in text 0 (content text 0) h) g

  back_in : (text : List ℕ) (k : ℕ) (c : List ℕ) → Good (lex_in text k c) → Closes text k c
  back_in [] k c g = not_wrong g
  back_in (b ∷ text) k c g = step_in b text k c (λ h. back text h) (λ j h. back_in text j c h) g

pub tokens_of : (text : List ℕ) → Good (lex text) → Tokens text (lex text)
tokens_of text g = back text g

-- ---- as a statement

mark_right : (b : ℕ) → is_mark b ≡ true → right_kind (mark b) ≡ true
unfolding right_kind is_mark
mark_right b h = go (eqb b 1) refl
  where
    go : (s : Bool) → eqb b 1 ≡ s → not s ≡ true
    go false e = refl
    go true e = true-is-not-false (rw (eqb-true b 1 e) at h)

word_right : (w : List ℕ) → right_kind (word w) ≡ true
unfolding right_kind
word_right w = refl

right_also : (t : Token) (ts : List Token) → right_kind t ≡ true → every right_kind ts ≡ true → every right_kind (t ∷ ts) ≡ true
unfolding every
right_also t ts h e = rw (h, e)

tokens_right : {text : List ℕ} {ts : List Token} → Tokens text ts → every right_kind ts ≡ true
unfolding every
tokens_right end = refl
tokens_right (space p k) = tokens_right k
tokens_right (sign {b = b} {ts = ts} p k) = right_also (mark b) ts (mark_right b p) (tokens_right k)
tokens_right (quoted {content = c} {ts = ts} i k) = right_also (word c) ts (word_right c) (tokens_right k)

kind_right : (t : Token) → right_kind t ≡ true → t.kind ≡ 1 → ⊥
unfolding right_kind
kind_right t h e = true-is-not-false (rw e at h)

right_good : (ts : List Token) → every right_kind ts ≡ true → Good ts
unfolding every
right_good [] h = none
right_good (t ∷ ts) h = let a = both (right_kind t) (every right_kind ts) h in more (kind_right t a.0) (right_good ts a.1)

pub tokens_exactly : TokensExactly
tokens_exactly =
    record {
      always = λ text ts k. (lexed k, tokens_right k);
      only = λ text h. tokens_of text (right_good (lex text) h);
      wrong = λ text never. go text never (every right_kind (lex text)) refl;
    }
  where
    go : (text : List ℕ) → ((ts : List Token) → Tokens text ts → ⊥) → (t : Bool) → every right_kind (lex text) ≡ t → t ≡ false
    go text never true e = absurd (never (lex text) (tokens_of text (right_good (lex text) e)))
    go text never false e = refl
