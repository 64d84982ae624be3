-- The whole text: accepted exactly where the grammar derives it.
use Rattle.std.proofs.Common.{ℕ, ◌<◌, ◌≡◌, refl, sym, ap, ◌∙◌, true, false, List, [], ◌∷◌, ◌++◌, append_assoc, length, arith}
use Rattle.std.specs.Prelude.{◌↔◌, Option, None, Some}
use Rattle.exports.specs.Text.{Token, mark, word}
use Rattle.exports.specs.Lexer.{lex}
use Rattle.exports.specs.Shape.{group_name, following, array, string, Member, certificate, issuers, receipts, value_of, member, Written, object, written, document, elements, Shaped}
use Rattle.exports.specs.Places.{from, Next, Marked, Expected, ReadTo, Absent, Reads, spelling, KeyedBy, Begun, GroupAt, GroupBegun}
use Rattle.exports.specs.declared.lexer.Found.{Found}
use Rattle.exports.specs.declared.lexer.Found.TheVariants.{End, Wrong, Quoted, Mark}
use Rattle.exports.specs.declared.walk.Key.{Key}
use Rattle.exports.specs.declared.walk.Cursor.{Cursor}
use Rattle.exports.specs.declared.walk.Cursor.TheVariants.{Broken}
use Rattle.exports.specs.declared.walk.Name.{Name}
use Rattle.exports.specs.declared.walk.Name.TheVariants.{Group}
use Rattle.exports.proofs.Lexing.{no_truth, from_end}
use Rattle.exports.proofs.Tokening.{nil_cons, tail_is}
use Rattle.exports.proofs.Members.{key_there}
use Rattle.exports.proofs.Lexical.{Good, none, more, lexed, tokens_of}

-- ---- no token of the grammar is wrong

marked : (b : ℕ) {ts : List Token} → 34 < b → Good ts → Good (mark b ∷ ts)
marked b h g = more {t = mark b} (λ e. let q : b ≡ 1 = e in omega arith) g

worded : {c : List ℕ} {ts : List Token} → Good ts → Good (word c ∷ ts)
worded {c} g = more {t = word c} (λ e. let q : ◌≡◌ {A = ℕ} 34 1 = e in omega arith) g

good_append : {xs ys : List Token} → Good xs → Good ys → Good (xs ++ ys)
good_append none h = h
good_append (more n g) h = more n (good_append g h)

module _ {A : Type 0} (item : A → List Token) (each : (x : A) → Good (item x)) where
  good_following : (xs : List A) → Good (following item xs)
  unfolding following
  good_following [] = marked 93 (omega arith) none
  good_following (x ∷ xs) = marked 44 (omega arith) (good_append (each x) (good_following xs))

  good_array : (xs : List A) → Good (array item xs)
  unfolding array
  good_array [] = marked 91 (omega arith) (marked 93 (omega arith) none)
  good_array (x ∷ xs) = marked 91 (omega arith) (good_append (each x) (good_following xs))

good_string : (w : List ℕ) → Good (string w)
good_string w = worded none

good_value : (m : Member) → Good (value_of m)
unfolding value_of
good_value (certificate w) = good_string w
good_value (issuers ws) = good_array string good_string ws
good_value (receipts ws) = good_array string good_string ws

good_member : (m : Member) → Good (member m)
unfolding member
good_member m = worded (marked 58 (omega arith) (good_value m))

good_written : (w : Written) → Good (written w)
unfolding written object
good_written w =
    marked 123 (omega arith) (good_append (good_member w.first) (marked 44 (omega arith) (good_append (good_member w.second)
    (marked 44 (omega arith) (good_append (good_member w.third) (marked 125 (omega arith) none))))))

pub good_document : (ws : List Written) → Good (document ws)
unfolding document
good_document ws =
    marked 123 (omega arith) (worded (marked 58 (omega arith) (good_append (good_array written good_written ws) (marked 125 (omega arith) none))))

-- ---- the place of the elements

module _ {text : List ℕ} {p : ℕ} (r : Marked 123 text 0 p) where
  pub group_no_key : ((n : Name) (rest : List Token) → from text p ≡ word (spelling n) ∷ mark 58 ∷ rest → ⊥) → (rest : List Token) → from text 0 ≡ mark 123 ∷ word group_name ∷ mark 58 ∷ rest → ⊥
  group_no_key h rest q = h Group rest (tail_is (sym r.is ∙ q))

  module _ {k : Key} (d : KeyedBy text p k) where
    pub group_other : (k.name ≡ Group → ⊥) → (rest : List Token) → from text 0 ≡ mark 123 ∷ word group_name ∷ mark 58 ∷ rest → ⊥
    group_other n rest q = n (key_there d {n = Group} (tail_is (sym r.is ∙ q))).0

module _ {text : List ℕ} where
  pub group_begun : {p : ℕ} {c : Cursor} → GroupAt text p → Begun text p c → GroupBegun text c
  unfolding document
  group_begun {p} g b = record { place = p; group = λ ws q. tail_is (tail_is (tail_is (sym g.is ∙ q))); begun = b }

  -- the end of the text is the place of no array
  pub group_broken : ((rest : List Token) → from text 0 ≡ mark 123 ∷ word group_name ∷ mark 58 ∷ rest → ⊥) → GroupBegun text Broken
  unfolding document
  group_broken h = record { place = length text; group = λ ws q. absurd (h _ q); begun = λ r q. nil_cons (sym (from_end text) ∙ q) }

-- ---- the whole

pub document_is : (ws : List Written) (rest : List Token) → document ws ++ rest ≡ mark 123 ∷ word group_name ∷ mark 58 ∷ (array written ws ++ (mark 125 ∷ rest))
unfolding document
document_is ws rest = simp append_assoc

module _ {text : List ℕ} where
  pub document_no_group : ((rest : List Token) → from text 0 ≡ mark 123 ∷ word group_name ∷ mark 58 ∷ rest → ⊥) → Absent document text 0
  document_no_group h = record { none = λ ws rest q. h _ (q ∙ document_is ws rest) }

  module _ {p : ℕ} (g : GroupAt text p) where
    -- where some elements are spelled, their array stands at the place
    array_there : (ws : List Written) (rest : List Token) → from text 0 ≡ document ws ++ rest → from text p ≡ array written ws ++ (mark 125 ∷ rest)
    array_there ws rest q = tail_is (tail_is (tail_is (sym g.is ∙ q ∙ document_is ws rest)))

    pub document_no_array : Absent (array written) text p → Absent document text 0
    document_no_array a = record { none = λ ws rest q. a.none ws _ (array_there ws rest q) }

    pub document_ends : {e : ℕ} → 0 < e → ReadTo (array written) text p e → (r : Option ℕ) → Expected 125 text e r → Reads document text 0 r
    document_ends z a None h = record { none = λ ws rest q. h rest (a.complete ws _ (array_there ws rest q)) }
    document_ends z a (Some r) h =
        record {
          inside = h.inside;
          onward = omega (arith, h.onward);
          sound =
              (a.sound.0, g.is ∙ ap (λ (l : List Token). mark 123 ∷ word group_name ∷ mark 58 ∷ l) (a.sound.1 ∙ ap (λ (l : List Token). array written a.sound.0 ++ l) h.is) ∙ sym (document_is a.sound.0 (from text r)));
          complete = λ ws rest q. tail_is (sym h.is ∙ a.complete ws _ (array_there ws rest q));
        }

no_more : (ws : List Written) → document ws ++ [] ≡ document ws
unfolding document
no_more ws = simp append_assoc

module _ {text : List ℕ} where
  -- where the text spells some elements, their tokens stand at its start
  spelled : {X : Type 0} → ((ws : List Written) → from text 0 ≡ document ws ++ [] → X) → Shaped text → X
  unfolding from
  spelled h s = h s.shape.order (lexed s.shape.spelled ∙ sym (no_more s.shape.order))

  pub shape_none : Absent document text 0 → (false ≡ true) ↔ Shaped text
  shape_none a = (λ e. no_truth e, λ s. absurd (spelled (λ ws q. a.none ws [] q) s))

  module _ {e : ℕ} (r : ReadTo document text 0 e) where
    -- nothing follows the tokens of some elements
    nothing_more : Shaped text → from text e ≡ []
    nothing_more s = spelled (λ ws q. r.complete ws [] q) s

    pub shape_more : (t : Found) → Next text e t → (t ≡ End → ⊥) → (false ≡ true) ↔ Shaped text
    shape_more t n h = (λ f. no_truth f, λ s. absurd (go t n h (nothing_more s)))
      where
        go : (t : Found) → Next text e t → (t ≡ End → ⊥) → from text e ≡ [] → ⊥
        go End n h q = h refl
        go Wrong n h q = nil_cons (sym q ∙ n)
        go (Quoted p) n h q = nil_cons (sym q ∙ n.is)
        go (Mark b p) n h q = nil_cons (sym q ∙ n.1.is)

    pub shape_found : from text e ≡ [] → (true ≡ true) ↔ Shaped text
    unfolding from
    shape_found n = (λ t. shaped, λ s. refl)
      where
        shaped : Shaped text
        shaped =
            let ws = r.sound.0 in
            let w : lex text ≡ document ws = r.sound.1 ∙ ap (λ (l : List Token). document ws ++ l) n ∙ no_more ws in
            let g : Good (lex text) = rw w (good_document ws) in
            record { elements = elements ws; shape = record { order = ws; same = refl; spelled = rw w at (tokens_of text g) } }
