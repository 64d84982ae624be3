-- The loops of the lexer, step by step.
use Rattle.std.proofs.Common.{ℕ, zero, suc, ◌+◌, ◌-◌, ◌<◌, ◌≤◌, ◌≡◌, refl, sym, ap, ◌∙◌, Bool, true, false, cond, ◌&&◌, not, List, [], ◌∷◌, ◌++◌, eqb, leb, ltb, length, take, drop, get_or, arith, add-one, length-drop, drop-cons, eq-eqb, ne_eqb, ltb-true, ltb-false, drop_of_length-le}
use Rattle.std.proofs.lemmas.Bool.{eqb-true}
use Rattle.std.specs.List.{prefix_len, starts_with}
use Rattle.std.proofs.lemmas.List.{drop-drop, get_or-drop}
use Rattle.std.proofs.lemmas.List.Sums.{prefix_len-le-length, prefix_len_stops}
use Rattle.std.proofs.lemmas.Slice.Eq.{starts_is}
use Rattle.std.proofs.lemmas.Bool.Decides.{Decides-eqb}
use lib.Dec.{eqb-suc-zero}
use lib.Seq.{drop-length, take-length}
use Rattle.exports.specs.Text.{Token, mark, word, blank, is_mark, plain}
use Rattle.exports.specs.Lexer.{wrong, letter_left, after_byte, before, content, lex, lex_in}
use Rattle.exports.specs.Places.{from, Skipped, Stopped, EscapeAt, Ends, Quotes, Marked, Unescaped, nothing, letter, escape, Lying, LettersAt, LetterAt}
use Rattle.exports.specs.declared.lexer.Part.{Part}

pub no_truth {ℓ} : {X : Type ℓ} → false ≡ true → X
no_truth e = let z : ◌≡◌ {A = ℕ} 0 1 = cc in absurd (omega arith)

-- ---- blanks

-- what is lent from a place on
pub rest_is : (text : List ℕ) (at : ℕ) → take (length text - at) (drop at text) ≡ drop at text
rest_is text at = rw (← length-drop at text) (take-length (drop at text))

drop_one : (n b : ℕ) (text : List ℕ) → drop (1 + n) (b ∷ text) ≡ drop n text
drop_one n b text = let e : 1 + n ≡ suc n = omega arith in ap (λ (k : ℕ). drop k (b ∷ text)) e

skip_lexed : (text : List ℕ) → lex text ≡ lex (drop (prefix_len blank text) text)
unfolding lex
skip_lexed [] = refl
skip_lexed (b ∷ text) = go (blank b) refl (skip_lexed text)
  where
    go : (t : Bool) → blank b ≡ t → lex text ≡ lex (drop (prefix_len blank text) text) → lex (b ∷ text) ≡ lex (drop (cond t (1 + prefix_len blank text) 0) (b ∷ text))
    go true e ih = rw e (ih ∙ ap lex (sym (drop_one _ b text)))
    go false e ih = refl

pub skipped : {text : List ℕ} {at n : ℕ} → at ≤ length text → n ≡ prefix_len blank (take (length text - at) (drop at text)) → Skipped text at (at + n)
unfolding from
skipped {text} {at} {n} h q =
    let e : n ≡ prefix_len blank (drop at text) = q ∙ ap (prefix_len blank) (rest_is text at) in
    let l = prefix_len-le-length blank (drop at text) in
    record {
      inside = omega (arith, l, length-drop at text);
      onward = omega arith;
      same = skip_lexed (drop at text) ∙ rw (← e) (ap lex (drop-drop n at text));
      stop = λ q. rw (← get_or-drop at text n 0, e) (prefix_len_stops blank (drop at text) 0 (omega (arith, length-drop at text)));
    }

-- ---- strings

-- a plain byte is neither the quote nor the backslash
pub plain_not : (b : ℕ) → plain b ≡ true → (eqb b 34 ≡ false) × (eqb b 92 ≡ false)
unfolding plain
plain_not b e = go (leb 32 b) (leb b 126) (eqb b 34) (eqb b 92) e
  where
    go : (l m q s : Bool) → (l && (m && (not q && not s))) ≡ true → (q ≡ false) × (s ≡ false)
    go true true false false e = (refl, refl)
    go true true true s e = no_truth e
    go true true false true e = no_truth e
    go true false q s e = no_truth e
    go false m q s e = no_truth e

plain_lexed : (b : ℕ) (text c : List ℕ) → plain b ≡ true → lex_in (b ∷ text) 0 c ≡ lex_in text 0 c
unfolding lex_in after_byte
plain_lexed b text c e = let n = plain_not b e in rw (n.0, n.1, e)

plain_before : (b : ℕ) (text : List ℕ) → plain b ≡ true → before (b ∷ text) ≡ suc (before text)
unfolding before
plain_before b text e = rw (plain_not b e).0

plain_content : (b : ℕ) (text : List ℕ) → plain b ≡ true → content (b ∷ text) 0 ≡ b ∷ content text 0
unfolding content
plain_content b text e = let n = plain_not b e in rw (n.0, n.1)

-- the letters that a text begins with, as far as they are plain
record Plain (text : List ℕ) (n : ℕ) : Type 0 where
  pub same : (c : List ℕ) → lex_in text 0 c ≡ lex_in (drop n text) 0 c
  pub clear : before text ≡ n + before (drop n text)
  pub long : length (content text 0) ≡ n + length (content (drop n text) 0)

plain_front : (text : List ℕ) → Plain text (prefix_len plain text)
plain_front [] = record { same = λ c. refl; clear = omega arith; long = omega arith }
plain_front (b ∷ text) = go (plain b) refl (plain_front text)
  where
    go : (t : Bool) → plain b ≡ t → Plain text (prefix_len plain text) → Plain (b ∷ text) (cond t (1 + prefix_len plain text) 0)
    go true e p =
        record {
          same = λ c. plain_lexed b text c e ∙ p.same c ∙ ap (λ (l : List ℕ). lex_in l 0 c) (sym (drop_one _ b text));
          clear = rw (drop_one _ b text) (omega (arith, plain_before b text e, p.clear));
          long = rw (drop_one _ b text) (omega (arith, ap length (plain_content b text e), p.long));
        }
    go false e p = record { same = λ c. refl; clear = omega arith; long = omega arith }

pub stopped : {text : List ℕ} {start n : ℕ} → start ≤ length text → n ≡ prefix_len plain (take (length text - start) (drop start text)) → Stopped text start (start + n)
stopped {text} {start} {n} h q =
    let e : n ≡ prefix_len plain (drop start text) = q ∙ ap (prefix_len plain) (rest_is text start) in
    let p = plain_front (drop start text) in
    let d : drop (prefix_len plain (drop start text)) (drop start text) ≡ drop (start + n) text = rw e (drop-drop _ start text) in
    record {
      inside = omega (arith, prefix_len-le-length plain (drop start text), length-drop start text);
      onward = omega arith;
      same = λ c. p.same c ∙ ap (λ (l : List ℕ). lex_in l 0 c) d;
      clear = omega (arith, p.clear, ap before d);
      long = omega (arith, p.long, ap (λ (l : List ℕ). length (content l 0)) d);
      stop = λ q. rw (← get_or-drop start text n 0, e) (prefix_len_stops plain (drop start text) 0 (omega (arith, length-drop start text)));
    }

-- ---- the escape

abbrev escaped : List ℕ → List ℕ
escaped rest = 92 ∷ 117 ∷ 48 ∷ 48 ∷ 51 ∷ 100 ∷ rest

six_more : (n : ℕ) → suc (suc (suc (suc (suc (suc n))))) ≡ n + 6
six_more n = omega arith

escape_length : {l : List ℕ} (rest : List ℕ) → l ≡ escaped rest → length l ≡ length rest + 6
escape_length rest e = ap length e ∙ six_more (length rest)

pub starts_escaped : (text : List ℕ) (at : ℕ) (r : Bool) → r ≡ starts_with eqb (take (length text - at) (drop at text)) (escaped []) → EscapeAt text at r
starts_escaped text at r e =
    let s = starts_is Decides-eqb (drop at text) (escaped []) r (e ∙ ap (λ (l : List ℕ). starts_with eqb l (escaped [])) (rest_is text at)) in
    record {
      is = λ t. s.0 t ∙ ap escaped (drop-drop 6 at text);
      none = λ f rest q. no_truth (sym f ∙ s.1 rest q);
    }

-- the last k letters of an escape
escape_left : ℕ → List ℕ
escape_left zero = []
escape_left (suc k) = letter_left (suc k) ∷ escape_left k

-- where they do not stand
broken : (k : ℕ) (text c : List ℕ) → ((rest : List ℕ) → text ≡ escape_left k ++ rest → ⊥) → lex_in text k c ≡ wrong
unfolding lex_in after_byte escape_left
broken zero text c n = absurd (n text refl)
broken (suc k) [] c n = refl
broken (suc k) (b ∷ text) c n = go (λ h. broken k text c h) (eqb b 34) (eqb b (letter_left (suc k))) refl refl
  where
    Later : Type 0
    Later = ((rest : List ℕ) → text ≡ escape_left k ++ rest → ⊥) → lex_in text k c ≡ wrong

    above : eqb (suc k) 0 ≡ false
    above = eqb-suc-zero k

    pred : suc k - 1 ≡ k
    pred = omega arith

    ends : Later → b ≡ letter_left (suc k) → (t : Bool) → cond t wrong (lex_in text k c) ≡ wrong
    ends later l true = refl
    ends later l false = later (λ rest e. n rest (λ t. l t ∷ e t))

    go : Later → (s t : Bool) → eqb b 34 ≡ s → eqb b (letter_left (suc k)) ≡ t → lex_in (b ∷ text) (suc k) c ≡ wrong
    go later true t i j = rw (i, above)
    go later false false i j = rw (i, above, j)
    go later false true i j = rw (i, above, j, pred) (ends later (eqb-true b (letter_left (suc k)) j) (eqb k 9))

-- ---- a string

-- neither a plain byte nor the quote nor an escape
other_lexed : (b : ℕ) (text c : List ℕ) → plain b ≡ false → (b ≡ 34 → ⊥) → ((rest : List ℕ) → b ∷ text ≡ escaped rest → ⊥) → lex_in (b ∷ text) 0 c ≡ wrong
unfolding lex_in after_byte escape_left letter_left
other_lexed b text c p q n = go (eqb b 92) refl
  where
    go : (t : Bool) → eqb b 92 ≡ t → lex_in (b ∷ text) 0 c ≡ wrong
    go true e = rw (ne_eqb b 34 q, e) (broken 5 text c (λ rest s. n rest (λ t. eqb-true b 92 e t ∷ s t)))
    go false e = rw (ne_eqb b 34 q, e, p)

escape_lexed : (rest c : List ℕ) → lex_in (escaped rest) 0 c ≡ lex_in rest 0 c
unfolding lex_in after_byte letter_left
escape_lexed rest c = refl

escape_before : (rest : List ℕ) → before (escaped rest) ≡ before rest + 6
unfolding before
escape_before rest = six_more (before rest)

escape_content : (rest : List ℕ) → content (escaped rest) 0 ≡ 61 ∷ content rest 0
unfolding content
escape_content rest = refl

-- from `start` to i stand letters that spell n bytes, and at i no plain one
pub record Ending (text : List ℕ) (start i n : ℕ) : Type 0 where
  pub inside : i ≤ length text
  pub small : start + n ≤ i
  pub same : (c : List ℕ) → lex_in (drop start text) 0 c ≡ lex_in (drop i text) 0 c
  pub clear : start + before (drop start text) ≡ i + before (drop i text)
  pub long : length (content (drop start text) 0) ≡ n + length (content (drop i text) 0)
  pub stop : i < length text → plain (get_or text i 0) ≡ false

module _ {text : List ℕ} {start i n : ℕ} (s : Ending text start i n) where
  pub string_open : length text ≤ i → (c : List ℕ) → lex_in (drop start text) 0 c ≡ wrong
  unfolding lex_in
  string_open h c = s.same c ∙ rw (drop_of_length-le text h)

  module _ (h : i < length text) where
    here : drop i text ≡ get_or text i 0 ∷ drop (suc i) text
    here = drop-cons text i 0 h

    lexed_here : (c : List ℕ) → lex_in (drop start text) 0 c ≡ lex_in (get_or text i 0 ∷ drop (suc i) text) 0 c
    lexed_here c = s.same c ∙ ap (λ (l : List ℕ). lex_in l 0 c) here

    before_quote : get_or text i 0 ≡ 34 → before (drop i text) ≡ 0
    unfolding before
    before_quote e = rw (here, e)

    none_at_quote : get_or text i 0 ≡ 34 → length (content (drop i text) 0) ≡ 0
    unfolding content
    none_at_quote e = rw (here, e)

    pub string_close : get_or text i 0 ≡ 34 → Ends text start (record { start = start; length = n; next = i + 1 })
    unfolding from lex_in
    string_close e =
        record {
          begins = refl;
          inside = omega arith;
          is = λ c. lexed_here c ∙ rw (e, add-one);
          quote = omega (arith, s.clear, before_quote e);
          long = omega (arith, s.long, none_at_quote e);
        }

    pub string_wrong : {t : Bool} → (get_or text i 0 ≡ 34 → ⊥) → EscapeAt text i t → t ≡ false → (c : List ℕ) → lex_in (drop start text) 0 c ≡ wrong
    string_wrong n e z c = lexed_here c ∙ other_lexed (get_or text i 0) (drop (suc i) text) c (s.stop h) n (λ rest q. e.none z rest (here ∙ q))

  module _ {t : Bool} (e : EscapeAt text i t) (z : t ≡ true) where
    pub escape_room : i + 6 ≤ length text
    escape_room = omega (arith, escape_length (drop (i + 6) text) (e.is z), length-drop i text)

    pub string_more : {j : ℕ} → Stopped text (i + 6) j → Ending text start j (n + (1 + (j - (i + 6))))
    string_more {j} p =
        let a = p.onward in
        let b : before (drop i text) ≡ before (drop (i + 6) text) + 6 = ap before (e.is z) ∙ escape_before (drop (i + 6) text) in
        let l : length (content (drop i text) 0) ≡ suc (length (content (drop (i + 6) text) 0))
        = ap (λ (x : List ℕ). length (content x 0)) (e.is z) ∙ ap length (escape_content (drop (i + 6) text)) in
        record {
          inside = p.inside;
          small = omega (arith, s.small);
          same = λ c. s.same c ∙ ap (λ (l : List ℕ). lex_in l 0 c) (e.is z) ∙ escape_lexed (drop (i + 6) text) c ∙ p.same c;
          clear = omega (arith, s.clear, b, p.clear);
          long = omega (arith, s.long, l, p.long);
          stop = p.stop;
        }

-- ---- what a good string spells, against the bytes that stand there

not_word : {X : Type 0} {c : List ℕ} {ts : List Token} → wrong ≡ word c ∷ ts → X
not_word {c = c} e =
    let t : mark 1 ≡ word c = cc in
    let k : ◌≡◌ {A = ℕ} 1 34 = ap (λ (x : Token). x.kind) t in
    absurd (omega arith)

-- a byte in a good string: which byte it is
data Step (text c : List ℕ) (ts : List Token) : ℕ → ℕ → Type 0 where
  quoting : Step text c ts 34 0
  slash : lex_in text 5 c ≡ word c ∷ ts → Step text c ts 92 0
  other : {b : ℕ} → eqb b 34 ≡ false → eqb b 92 ≡ false → plain b ≡ true → lex_in text 0 c ≡ word c ∷ ts → Step text c ts b 0
  inner : {b k : ℕ} → eqb b 34 ≡ false → b ≡ letter_left (suc k) → lex_in text k c ≡ word c ∷ ts → Step text c ts b (suc k)

step : (b : ℕ) (text : List ℕ) (k : ℕ) {c : List ℕ} {ts : List Token} → lex_in (b ∷ text) k c ≡ word c ∷ ts → Step text c ts b k
unfolding lex_in after_byte
step b text zero {c} {ts} e = go (eqb b 34) (eqb b 92) (plain b) refl refl refl
  where
    go : (s t u : Bool) → eqb b 34 ≡ s → eqb b 92 ≡ t → plain b ≡ u → Step text c ts b 0
    go true t u i j k = rw (eqb-true b 34 i) quoting
    go false true u i j k = rw (eqb-true b 92 j) (slash (rw (i, j) at e))
    go false false true i j k = other i j k (rw (i, j, k) at e)
    go false false false i j k = not_word (rw (i, j, k) at e)
step b text (suc k) {c} {ts} e = go (eqb b 34) (eqb b (letter_left (suc k))) refl refl
  where
    above : eqb (suc k) 0 ≡ false
    above = eqb-suc-zero k

    pred : suc k - 1 ≡ k
    pred = omega arith

    go : (s t : Bool) → eqb b 34 ≡ s → eqb b (letter_left (suc k)) ≡ t → Step text c ts b (suc k)
    go true t i j = not_word (rw (i, above) at e)
    go false false i j = not_word (rw (i, above, j) at e)
    go false true i j = inner i (eqb-true b (letter_left (suc k)) j) (ends (eqb (suc k - 1) 9) (rw (i, above, j) at e))
      where
        ends : (t : Bool) → cond t wrong (lex_in text (suc k - 1) c) ≡ word c ∷ ts → lex_in text k c ≡ word c ∷ ts
        ends true q = not_word q
        ends false q = rw pred at q

-- the bytes before the next quote: what is left of an escape, and then letters that spell the content
record Spelling (text : List ℕ) (k : ℕ) : Type 0 where
  rest : List ℕ
  is : take (before text) text ≡ escape_left k ++ rest
  spelled : Unescaped rest (content text k)

module _ {text c : List ℕ} {ts : List Token} where
  spelling_step : {b k : ℕ} → Step text c ts b k → ((j : ℕ) → lex_in text j c ≡ word c ∷ ts → Spelling text j) → Spelling (b ∷ text) k
  unfolding content before escape_left letter_left
  spelling_step quoting ih = record { rest = []; is = refl; spelled = nothing }
  spelling_step (slash e) ih =
      let s = ih 5 e in
      record { rest = 92 ∷ take (before text) text; is = refl; spelled = rw s.is (escape s.spelled) }
  spelling_step (other {b = b} i j p e) ih =
      let s = ih 0 e in
      record { rest = b ∷ take (before text) text; is = rw i; spelled = rw (i, j, s.is) (letter p s.spelled) }
  spelling_step (inner {b = b} {k = k} i l e) ih =
      let s = ih k e in
      record { rest = s.rest; is = rw i (λ t. l t ∷ s.is t); spelled = s.spelled }

spelling : (text : List ℕ) (k : ℕ) {c : List ℕ} {ts : List Token} → lex_in text k c ≡ word c ∷ ts → Spelling text k
unfolding lex_in
spelling [] k e = not_word e
spelling (b ∷ text) k e = spelling_step (step b text k e) (λ j q. spelling text j q)

lies : (text : List ℕ) {ts : List Token} → lex_in text 0 [] ≡ word [] ∷ ts → Lying text
unfolding escape_left
lies text {ts} e = let s = spelling text 0 e in record { good = (ts, e); spells = rw s.is s.spelled }

-- ---- letter by letter

six : (n : ℕ) → suc n + 5 ≡ n + 6
six n = omega arith

-- within an escape
inner_of : (text : List ℕ) {c : List ℕ} {ts : List Token} (b k : ℕ) → Step text c ts b (suc k) → lex_in text k c ≡ word c ∷ ts
inner_of text b k (inner i l q) = q

-- after an escape
following_escape : (k : ℕ) (text : List ℕ) {c : List ℕ} {ts : List Token} → lex_in text k c ≡ word c ∷ ts
    → (lex_in (drop k text) 0 c ≡ word c ∷ ts) × (content text k ≡ content (drop k text) 0)
unfolding lex_in content
following_escape zero text e = (e, refl)
following_escape (suc k) [] e = not_word e
following_escape (suc k) (b ∷ text) e = following_escape k text (inner_of text b k (step b text (suc k) e))

pub letters_inside : (text : List ℕ) (at : ℕ) → LettersAt text at → at < length text
unfolding lex_in
letters_inside text at l = go (ltb at (length text)) refl
  where
    go : (t : Bool) → ltb at (length text) ≡ t → at < length text
    go true q = ltb-true at (length text) q
    go false q = not_word (rw (drop_of_length-le text (ltb-false at (length text) q)) at l.good.1)

module _ {text : List ℕ} {at : ℕ} (l : LettersAt text at) where
  this : drop at text ≡ get_or text at 0 ∷ drop (suc at) text
  this = drop-cons text at 0 (letters_inside text at l)

  byte : Step (drop (suc at) text) [] l.good.0 (get_or text at 0) 0
  byte = step (get_or text at 0) (drop (suc at) text) 0 (rw this at l.good.1)

  pub letter_none : get_or text at 0 ≡ 34 → content (drop at text) 0 ≡ []
  unfolding content
  letter_none e = rw (this, e)

  -- the backslash: five letters more
  slashed : {b : ℕ} → Step (drop (suc at) text) [] l.good.0 b 0 → b ≡ 92 → lex_in (drop (suc at) text) 5 [] ≡ word [] ∷ l.good.0
  slashed quoting q = absurd (omega arith)
  slashed (slash e) q = e
  slashed (other i j p e) q = no_truth (sym j ∙ eq-eqb _ 92 q)

  plain_step : {b : ℕ} → Step (drop (suc at) text) [] l.good.0 b 0 → (b ≡ 34 → ⊥) → (b ≡ 92 → ⊥) → lex_in (drop (suc at) text) 0 [] ≡ word [] ∷ l.good.0
  plain_step quoting q r = absurd (q refl)
  plain_step (slash e) q r = absurd (r refl)
  plain_step (other i j p e) q r = e

  pub letter_escape : get_or text at 0 ≡ 92 → LetterAt text at (record { byte = 61; next = at + 6 })
  unfolding content
  letter_escape e =
      let s = following_escape 5 (drop (suc at) text) (slashed byte e) in
      let d : drop 5 (drop (suc at) text) ≡ drop (at + 6) text = drop-drop 5 (suc at) text ∙ ap (λ (n : ℕ). drop n text) (six at) in
      record {
        onward = omega arith;
        good = record { good = (l.good.0, rw d at s.0) };
        is = rw (this, e) (ap (λ (x : List ℕ). 61 ∷ x) (s.1 ∙ ap (λ (x : List ℕ). content x 0) d));
      }

  pub letter_plain : (get_or text at 0 ≡ 34 → ⊥) → (get_or text at 0 ≡ 92 → ⊥) → LetterAt text at (record { byte = get_or text at 0; next = at + 1 })
  unfolding content
  letter_plain p q =
      record {
        onward = omega arith;
        good = record { good = (l.good.0, rw (add-one at) (plain_step byte p q)) };
        is = rw (this, ne_eqb (get_or text at 0) 34 p, ne_eqb (get_or text at 0) 92 q, add-one at);
      }

  pub escape_inside : get_or text at 0 ≡ 92 → at + 6 < length text
  escape_inside e = letters_inside text (at + 6) (letter_escape e).good

-- ---- the next token

pub from_end : (text : List ℕ) → from text (length text) ≡ []
unfolding from lex
from_end text = rw (drop-length text)

-- a mark is not the quote
pub mark_no_quote : (b : ℕ) → is_mark b ≡ true → b ≡ 34 → ⊥
unfolding is_mark
mark_no_quote b e z = no_truth (rw z at e)

module _ {text : List ℕ} {at p : ℕ} (s : Skipped text at p) where
  pub next_end : p ≡ length text → from text at ≡ []
  next_end e = s.same ∙ ap (from text) e ∙ from_end text

  module _ (h : (p ≡ length text) → ⊥) where
    inside : p < length text
    inside = let a = s.inside in omega (arith, h)

    -- the byte at the place
    head : from text at ≡ lex (get_or text p 0 ∷ drop (suc p) text)
    unfolding from
    head = s.same ∙ ap lex (drop-cons text p 0 inside)

    pub quote : get_or text p 0 ≡ 34 → from text at ≡ lex_in (drop (p + 1) text) 0 (content (drop (p + 1) text) 0)
    unfolding lex blank
    quote e = head ∙ rw (e, add-one)

    pub next_no_string : get_or text p 0 ≡ 34 → ((c : List ℕ) → lex_in (drop (p + 1) text) 0 c ≡ wrong) → from text at ≡ wrong
    next_no_string e k = quote e ∙ k _

    pub next_string : {r : Part} → get_or text p 0 ≡ 34 → Ends text (p + 1) r → Quotes text at r
    next_string {r} e k =
        let o = s.onward in
        let q = k.begins in
        record {
          inside = k.inside;
          onward = omega (arith, k.quote);
          is = rw q (quote e ∙ k.is _);
          quote = rw q k.quote;
          lying = rw q (lies (drop (p + 1) text) (k.is []));
          long = rw q k.long;
        }

    pub next_mark : (b : ℕ) → get_or text p 0 ≡ b → (b ≡ 34 → ⊥) → is_mark b ≡ true → Marked b text at (p + 1)
    unfolding from lex
    next_mark b e n m =
        let a = inside in
        let o = s.onward in
        record {
          inside = omega arith;
          onward = omega arith;
          is = head ∙ rw (s.stop a, e, ne_eqb b 34 n, m, add-one);
        }

    pub next_other : (b : ℕ) → get_or text p 0 ≡ b → (b ≡ 34 → ⊥) → is_mark b ≡ false → from text at ≡ wrong
    unfolding lex
    next_other b e n m = head ∙ rw (s.stop inside, e, ne_eqb b 34 n, m)
