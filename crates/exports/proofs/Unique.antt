-- What the grammar derives is found again: so a text has one reading, and the elements are a function of the text.
use Rattle.std.proofs.Common.{◌≡◌, refl, sym, ap, ap₂, ◌∙◌, Bool, true, false, cond, ◌&&◌, List, [], ◌∷◌, ◌++◌, append_assoc, map, ◌↔◌, ℕ, zero, suc, ◌<◌, arith, eqb-true, eq-eqb, ne_eqb, eqb, length, length-append}
use mathlib.Core.Option.{Option, none, some}
use Rattle.primitives.specs.Bytes.{same}
use Rattle.primitives.proofs.ByteLists.{same_refl, same_true}
use Rattle.exports.specs.Text.{Token, mark, word}
use Rattle.exports.specs.Lexer.{lex}
use Rattle.exports.specs.Shape.{group_name, array, following, string, strings, Member, certificate, issuers, receipts, value_of, member, certificates_of, issuers_of, receipts_of, Element, Written, object, written, document, elements, Shape, Shaped}
use Rattle.exports.specs.Places.{name_number, number_of, led}
use Rattle.exports.specs.Parsed.{kind_of, content_of, rest, words_of, after_words, member_of, after_value, member_at, after_member, Three, three_at, after_three, threes_of, three_text, threes_text, eq_tokens, the_one, element_of, both, all_of, threes, parsed, elements_of}
use Rattle.exports.specs.Exact.{Exact, OneReading}
use Rattle.exports.proofs.Lexing.{no_truth}
use Rattle.exports.proofs.Names.{both as both_true}
use Rattle.exports.proofs.Members.{number_is}
use Rattle.exports.proofs.Objects.{object_is}
use Rattle.exports.proofs.Lexical.{Good, lexed, tokens_of}
use Rattle.exports.proofs.Documents.{good_document}

-- ---- strings

words_following : (ws : List (List ℕ)) (r : List Token) → words_of (following string ws ++ r) ≡ ws
unfolding words_of following
words_following [] r = refl
words_following (w ∷ ws) r = ap (λ (l : List (List ℕ)). w ∷ l) (words_following ws r)

words_are : (ws : List (List ℕ)) (r : List Token) → words_of (strings ws ++ r) ≡ ws
unfolding words_of array
words_are [] r = refl
words_are (w ∷ ws) r = ap (λ (l : List (List ℕ)). w ∷ l) (words_following ws r)

after_following : (ws : List (List ℕ)) (r : List Token) → after_words (following string ws ++ r) ≡ r
unfolding after_words following
after_following [] r = refl
after_following (w ∷ ws) r = after_following ws r

after_are : (ws : List (List ℕ)) (r : List Token) → after_words (strings ws ++ r) ≡ r
unfolding after_words array
after_are [] r = refl
after_are (w ∷ ws) r = after_following ws r

-- ---- members

name_is : (b : ℕ) (m : Member) (r : List Token) → name_number (content_of (rest (led b m ++ r))) ≡ number_of m
unfolding content_of rest led member
name_is b m r = number_is m

value_is : (b : ℕ) (m : Member) (r : List Token) → rest (rest (rest (led b m ++ r))) ≡ value_of m ++ r
unfolding rest led member
value_is b m r = refl

member_is : (b : ℕ) (m : Member) (r : List Token) → member_at (led b m ++ r) ≡ m
unfolding member_at number_of value_of content_of
member_is b m r = rw (name_is b m r, value_is b m r) (go m)
  where
    go : (m : Member) → member_of (number_of m) (value_of m ++ r) ≡ m
    go (certificate w) = refl
    go (issuers ws) = ap issuers (words_are ws r)
    go (receipts ws) = ap receipts (words_are ws r)

after_member_lem : (b : ℕ) (m : Member) (r : List Token) → after_member (led b m ++ r) ≡ r
unfolding after_member number_of value_of rest
after_member_lem b m r = rw (name_is b m r, value_is b m r) (go m)
  where
    go : (m : Member) → after_value (number_of m) (value_of m ++ r) ≡ r
    go (certificate w) = refl
    go (issuers ws) = after_are ws r
    go (receipts ws) = after_are ws r

-- ---- three members

three_is : (t : Three) (r : List Token) → three_at (three_text t ++ r) ≡ t
unfolding three_at three_text
three_is t r =
    rw (object_is t.first t.second t.third r, member_is, after_member_lem, member_is, after_member_lem, member_is)

after_three_lem : (t : Three) (r : List Token) → after_three (three_text t ++ r) ≡ r
unfolding after_three three_text rest
after_three_lem t r =
    rw (object_is t.first t.second t.third r, after_member_lem, after_member_lem, after_member_lem)

-- ---- all of them

no_three : (n b : ℕ) (r : List Token) → (b ≡ 123 → ⊥) → threes_of n (mark b ∷ r) ≡ []
unfolding threes_of kind_of
no_three zero b r h = refl
no_three (suc n) b r h = rw (ne_eqb b 123 h)

begins : (t : Three) (r : List Token) → kind_of (three_text t ++ r) ≡ 123
unfolding kind_of three_text object
begins t r = refl

one_three : (n : ℕ) (t : Three) (r : List Token) → threes_of (suc n) (three_text t ++ r) ≡ t ∷ threes_of n (rest r)
unfolding threes_of
one_three n t r = rw (begins t r, three_is t r, after_three_lem t r)

threes_following : (n : ℕ) (t : Three) (ts : List Three) → length ts < n → threes_of n (three_text t ++ (following three_text ts ++ (mark 125 ∷ []))) ≡ t ∷ ts
unfolding following rest
threes_following zero t ts h = absurd (omega arith)
threes_following (suc n) t [] h = one_three n t _ ∙ ap (λ (l : List Three). t ∷ l) (no_three n 125 [] (λ e. omega arith))
threes_following (suc n) t (u ∷ us) h =
    one_three n t _ ∙ ap (λ (l : List Three). t ∷ l) (ap (threes_of n) (append_assoc (three_text u) (following three_text us) (mark 125 ∷ [])) ∙ threes_following n u us (omega arith))

following_length : (ts : List Three) → length ts < length (following three_text ts)
unfolding following
following_length [] = omega arith
following_length (t ∷ ts) = simp length-append (omega (arith, following_length ts))

threes_are : (ts : List Three) → threes (threes_text ts) ≡ ts
unfolding threes threes_text rest array
threes_are [] = no_three _ 93 (mark 125 ∷ []) (λ e. omega arith)
threes_are (t ∷ ts) =
    ap (threes_of _) (append_assoc (three_text t) (following three_text ts) (mark 125 ∷ []))
    ∙ threes_following _ t ts (simp length-append (omega (arith, following_length ts)))

-- ---- texts that are the same

eq_tokens_refl : (xs : List Token) → eq_tokens xs xs ≡ true
unfolding eq_tokens
eq_tokens_refl [] = refl
eq_tokens_refl (x ∷ xs) = rw (eq-eqb x.kind x.kind refl, same_refl x.content) (eq_tokens_refl xs)

eq_tokens_true : (xs ys : List Token) → eq_tokens xs ys ≡ true → xs ≡ ys
unfolding eq_tokens
eq_tokens_true [] [] e = refl
eq_tokens_true [] (y ∷ ys) e = no_truth e
eq_tokens_true (x ∷ xs) [] e = no_truth e
eq_tokens_true (x ∷ xs) (y ∷ ys) e =
    let p = both_true (eqb x.kind y.kind && same x.content y.content) (eq_tokens xs ys) e in
    let q = both_true (eqb x.kind y.kind) (same x.content y.content) p.0 in
    let k = eqb-true x.kind y.kind q.0 in
    let c = same_true x.content y.content q.1 in
    let t : x ≡ y = λ i. record { kind = k i; content = c i } in
    ap₂ (λ (a : Token) (l : List Token). a ∷ l) t (eq_tokens_true xs ys p.1)

-- ---- elements in the order in which they are written

abbrev three_of : Written → Three
three_of w = record { first = w.first; second = w.second; third = w.third }

following_is : (ws : List Written) → following written ws ≡ following three_text (map three_of ws)
unfolding following written three_text
following_is [] = refl
following_is (w ∷ ws) = ap (λ (l : List Token). mark 44 ∷ (object w.first w.second w.third ++ l)) (following_is ws)

array_is : (ws : List Written) → array written ws ≡ array three_text (map three_of ws)
unfolding array written three_text
array_is [] = refl
array_is (w ∷ ws) = ap (λ (l : List Token). mark 91 ∷ (object w.first w.second w.third ++ l)) (following_is ws)

document_is : (ws : List Written) → document ws ≡ threes_text (map three_of ws)
unfolding document threes_text
document_is ws = ap (λ (l : List Token). mark 123 ∷ word group_name ∷ mark 58 ∷ (l ++ (mark 125 ∷ []))) (array_is ws)

element_is : (w : Written) → element_of (three_of w) ≡ some w.element
unfolding element_of
element_is w = rw (w.certificates, w.issuer_lists, w.receipt_lists)

all_are : (ws : List Written) → all_of (map three_of ws) ≡ some (elements ws)
unfolding all_of elements
all_are [] = refl
all_are (w ∷ ws) = rw (element_is w, all_are ws)

-- and back: each name once
nothing : {X A : Type 0} {x : A} → none ≡ some x → X
nothing e = let z : ◌≡◌ {A = ℕ} 0 1 = cc in absurd (omega arith)

inside : {A : Type 0} {x y : A} → some x ≡ some y → x ≡ y
inside e = cc

record OfThree (t : Three) (e : Element) : Type 0 where
  pub order : Written
  pub three : three_of order ≡ t
  pub element : order.element ≡ e

of_three : (t : Three) (e : Element) → element_of t ≡ some e → OfThree t e
unfolding element_of
of_three t e h = go (certificates_of ms) (issuers_of ms) (receipts_of ms) refl refl refl h
  where
    ms : List Member
    ms = t.first ∷ t.second ∷ t.third ∷ []

    go : (cs : List (List ℕ)) (is rs : List (List (List ℕ))) → certificates_of ms ≡ cs → issuers_of ms ≡ is → receipts_of ms ≡ rs
        → the_one cs (λ c. the_one is (λ i. the_one rs (λ r. some (record { certificate = c; issuers = i; receipts = r })))) ≡ some e → OfThree t e
    go [] is rs p q s k = nothing k
    go (c ∷ (d ∷ cs)) is rs p q s k = nothing k
    go (c ∷ []) [] rs p q s k = nothing k
    go (c ∷ []) (i ∷ (j ∷ is)) rs p q s k = nothing k
    go (c ∷ []) (i ∷ []) [] p q s k = nothing k
    go (c ∷ []) (i ∷ []) (r ∷ (u ∷ rs)) p q s k = nothing k
    go (c ∷ []) (i ∷ []) (r ∷ []) p q s k =
        record {
          order = record {
            element = record { certificate = c; issuers = i; receipts = r };
            first = t.first;
            second = t.second;
            third = t.third;
            certificates = p;
            issuer_lists = q;
            receipt_lists = s;
          };
          three = refl;
          element = inside k;
        }

record OfThrees (ts : List Three) (es : List Element) : Type 0 where
  pub order : List Written
  pub are : map three_of order ≡ ts
  pub elements' : elements order ≡ es

of_threes : (ts : List Three) (es : List Element) → all_of ts ≡ some es → OfThrees ts es
unfolding all_of elements
of_threes [] es h = record { order = []; are = refl; elements' = inside h }
of_threes (t ∷ ts) es h = go (element_of t) (all_of ts) (of_three t) (of_threes ts) h
  where
    go : (x : Option Element) (y : Option (List Element)) → ((e : Element) → x ≡ some e → OfThree t e) → ((fs : List Element) → y ≡ some fs → OfThrees ts fs) → both x y ≡ some es → OfThrees (t ∷ ts) es
    go none y f g k = nothing k
    go (some e) none f g k = nothing k
    go (some e) (some fs) f g k =
        let a = f e refl in
        let b = g fs refl in
        record {
          order = a.order ∷ b.order;
          are = ap₂ (λ (u : Three) (us : List Three). u ∷ us) a.three b.are;
          elements' = ap₂ (λ (u : Element) (us : List Element). u ∷ us) a.element b.elements' ∙ inside k;
        }

-- ---- the statements

found : (ws : List Written) → parsed (document ws) ≡ some (elements ws)
unfolding parsed
found ws = rw (document_is ws, threes_are (map three_of ws), eq_tokens_refl (threes_text (map three_of ws))) (all_are ws)

derived : (text : List ℕ) (es : List Element) → parsed (lex text) ≡ some es → Shape text es
unfolding parsed
derived text es h = go (eq_tokens (threes_text (threes (lex text))) (lex text)) refl h
  where
    go : (b : Bool) → eq_tokens (threes_text (threes (lex text))) (lex text) ≡ b → cond b (all_of (threes (lex text))) none ≡ some es → Shape text es
    go false q k = nothing k
    go true q k =
        let o = of_threes (threes (lex text)) es k in
        let same : document o.order ≡ lex text = document_is o.order ∙ ap threes_text o.are ∙ eq_tokens_true (threes_text (threes (lex text))) (lex text) q in
        let g : Good (lex text) = rw same at (good_document o.order) in
        record { order = o.order; same = o.elements'; spelled = rw (← same) at (tokens_of text g) }

pub exact : Exact
unfolding elements_of
exact text es = (derived text es, λ s. ap parsed (lexed s.spelled) ∙ found s.order ∙ ap some s.same)

pub one_reading : OneReading
one_reading text es fs s t = inside (sym ((exact text es).1 s) ∙ (exact text fs).1 t)

-- what a test that is exact for the shape says of the elements
pub decided : (text : List ℕ) (r : Bool) → (r ≡ true) ↔ Shaped text → (r ≡ true → (es : List Element) × (elements_of text ≡ some es)) × (r ≡ false → elements_of text ≡ none)
decided text r h = (λ e. let s = h.0 e in (s.elements, (exact text s.elements).1 s.shape), λ e. go (elements_of text) refl e)
  where
    go : (o : Option (List Element)) → elements_of text ≡ o → r ≡ false → elements_of text ≡ none
    go none q e = q
    go (some es) q e = no_truth (sym e ∙ h.1 (record { elements = es; shape = (exact text es).0 q }))
