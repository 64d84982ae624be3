-- The journal that a text spells is not longer than the text.
use Rattle.std.proofs.Common.{ℕ, suc, ◌+◌, ◌*◌, ◌≤◌, ◌≡◌, refl, sym, ap, subst, Bool, true, false, cond, not, ◌&&◌, List, [], ◌∷◌, ◌++◌, map, arith, le-leb, eqb, leb, length, length-append}
use mathlib.Core.Option.{Option, none, some}
use Rattle.primitives.specs.Number.{bytes_of}
use Rattle.primitives.specs.Questions.{ask, ifZero}
use Rattle.primitives.proofs.Numbers.{length_bytes_of}
use Rattle.primitives.proofs.Rows.{true-is-not-false}
use Rattle.receipt.specs.Settings.{name_text}
use Rattle.receipt.proofs.Names.{text_short}
use Rattle.journal.specs.Head.{section, pair_start, entry_text}
use Rattle.journal.specs.Valid.{owner_text}
use Rattle.journal.specs.Checking.{take_over}
use Rattle.journal.proofs.Places.{length_entry}
use Rattle.journal.proofs.Sections.{length_section}
use Rattle.exports.specs.Text.{Token, mark, word, every, Inside, close, letter, escape, Tokens, end, space, sign, quoted}
use Rattle.exports.specs.Shape.{group_name, certificate_name, issuers_name, receipts_name, array, following, string, Member, certificate, issuers, receipts, member, name_of, value_of, certificates_of, issuers_of, receipts_of, Element, Written, object, written, document, elements, Shape}
use Rattle.exports.specs.Spelled.{is_empty, sized_texts, pair_spelled, pairs_spelled, journal_spelled}
use Rattle.exports.specs.Naming.{named, not_named}
use Rattle.exports.specs.Naming.{Named}
use Rattle.receipt.specs.declared.settings.Settings.{Settings}
use Rattle.exports.specs.Reading.{element_good, has_receipt, first_of, names_register, settings_of, pair_of, owner_of, journal_of_elements, survey_number, elements_number, restored_from, restored_by, restored, not_read}
use Rattle.exports.specs.Parsed.{elements_of}
use Rattle.exports.specs.Promises.{TextIsRoomEnough}
use Rattle.exports.proofs.Unique.{exact}
use Rattle.exports.proofs.Lexical.{mark_not}
use Rattle.exports.proofs.ElementsTaken.{named_good, named_none}

-- ---- how long tokens are at least

unfoldable weight : List Token → ℕ
weight [] = 0
weight (t ∷ ts) = cond (eqb t.kind 34) (length t.content + 2) 1 + weight ts

inside_long : {text content rest : List ℕ} → Inside text content rest → length content + 1 + length rest ≤ length text
inside_long close = omega arith
inside_long (letter h i) = omega (arith, inside_long i)
inside_long (escape i) = omega (arith, inside_long i)

tokens_long : {text : List ℕ} {ts : List Token} → Tokens text ts → weight ts ≤ length text
unfolding weight
tokens_long end = omega arith
tokens_long (space h t) = omega (arith, tokens_long t)
tokens_long (sign {b = b} h t) = rw (mark_not b h).1 (omega (arith, tokens_long t))
tokens_long (quoted i t) = omega (arith, inside_long i, tokens_long t)

weight_append : (ts us : List Token) → weight (ts ++ us) ≡ weight ts + weight us
unfolding weight
weight_append [] us = omega arith
weight_append (t ∷ ts) us = omega (arith, weight_append ts us)

weight_word : (w : List ℕ) (ts : List Token) → weight (word w ∷ ts) ≡ length w + 2 + weight ts
unfolding weight
weight_word w ts = refl

weight_mark : (b : ℕ) (ts : List Token) → eqb b 34 ≡ false → weight (mark b ∷ ts) ≡ suc (weight ts)
unfolding weight
weight_mark b ts h = rw h (omega arith)

-- ---- strings, as entries

sized_more : (w : List ℕ) (ws : List (List ℕ)) → length (sized_texts (w ∷ ws)) ≡ 2 + length w + length (sized_texts ws)
unfolding sized_texts
sized_more w ws = omega (arith, length-append (entry_text w) (sized_texts ws), length_entry w)

sized_none : length (sized_texts []) ≡ 0
unfolding sized_texts
sized_none = refl

following_long : (ws : List (List ℕ)) → length (sized_texts ws) + 1 ≤ weight (following string ws)
unfolding following
following_long [] = omega (arith, sized_none, weight_mark 93 [] refl)
following_long (w ∷ ws) = omega (arith, sized_more w ws, weight_mark 44 (word w ∷ following string ws) refl, weight_word w (following string ws), following_long ws)

strings_long : (ws : List (List ℕ)) → length (sized_texts ws) + 2 ≤ weight (array string ws)
unfolding array
strings_long [] = omega (arith, sized_none, weight_mark 91 (mark 93 ∷ []) refl, weight_mark 93 [] refl)
strings_long (w ∷ ws) = omega (arith, sized_more w ws, weight_mark 91 (word w ∷ following string ws) refl, weight_word w (following string ws), following_long ws)

-- ---- members and elements

unfoldable least : Member → ℕ
least (certificate w) = 23
least (issuers ws) = 23
least (receipts ws) = 19 + length (sized_texts ws)

member_long : (m : Member) → least m ≤ weight (member m)
unfolding least member name_of value_of certificate_name issuers_name receipts_name
member_long (certificate w) =
    omega (arith, weight_word certificate_name (mark 58 ∷ string w), weight_mark 58 (string w) refl, weight_word w [])
member_long (issuers ws) =
    omega (arith, weight_word issuers_name (mark 58 ∷ array string ws), weight_mark 58 (array string ws) refl, strings_long ws)
member_long (receipts ws) =
    omega (arith, weight_word receipts_name (mark 58 ∷ array string ws), weight_mark 58 (array string ws) refl, strings_long ws)

unfoldable leasts : List Member → ℕ
leasts [] = 0
leasts (m ∷ ms) = least m + leasts ms

unfoldable entries : List (List (List ℕ)) → ℕ
entries [] = 0
entries (ws ∷ rs) = 19 + length (sized_texts ws) + entries rs

leasts_are : (ms : List Member) → leasts ms ≡ 23 * length (certificates_of ms) + 23 * length (issuers_of ms) + entries (receipts_of ms)
unfolding leasts least entries certificates_of issuers_of receipts_of
leasts_are [] = refl
leasts_are (certificate w ∷ ms) = omega (arith, leasts_are ms)
leasts_are (issuers ws ∷ ms) = omega (arith, leasts_are ms)
leasts_are (receipts ws ∷ ms) = omega (arith, leasts_are ms)

one_of_each : (w : Written) → leasts (w.first ∷ w.second ∷ w.third ∷ []) ≡ 65 + length (sized_texts w.element.receipts)
unfolding entries
one_of_each w =
    let e : entries (receipts_of (w.first ∷ w.second ∷ w.third ∷ [])) ≡ 19 + length (sized_texts w.element.receipts) + 0 = ap entries w.receipt_lists in
    omega (arith, leasts_are (w.first ∷ w.second ∷ w.third ∷ []), ap length w.certificates, ap length w.issuer_lists, e)

element_long : (w : Written) → 69 + length (sized_texts w.element.receipts) ≤ weight (written w)
unfolding written object leasts
element_long w =
    let o = one_of_each w in
    omega (
      arith,
      o,
      member_long w.first,
      member_long w.second,
      member_long w.third,
      weight_mark 123 (member w.first ++ (mark 44 ∷ (member w.second ++ (mark 44 ∷ (member w.third ++ (mark 125 ∷ [])))))) refl,
      weight_append (member w.first) (mark 44 ∷ (member w.second ++ (mark 44 ∷ (member w.third ++ (mark 125 ∷ []))))),
      weight_mark 44 (member w.second ++ (mark 44 ∷ (member w.third ++ (mark 125 ∷ [])))) refl,
      weight_append (member w.second) (mark 44 ∷ (member w.third ++ (mark 125 ∷ []))),
      weight_mark 44 (member w.third ++ (mark 125 ∷ [])) refl,
      weight_append (member w.third) (mark 125 ∷ []),
      weight_mark 125 [] refl,
    )

-- the elements' share of the text
unfoldable spelled_size : List Element → ℕ
spelled_size [] = 0
spelled_size (e ∷ es) = 69 + length (sized_texts e.receipts) + spelled_size es

elements_following : (ws : List Written) → spelled_size (elements ws) + 1 ≤ weight (following written ws)
unfolding following elements spelled_size
elements_following [] = omega (arith, weight_mark 93 [] refl)
elements_following (w ∷ ws) =
    omega (arith, weight_mark 44 (written w ++ following written ws) refl, weight_append (written w) (following written ws), element_long w, elements_following ws)

elements_long_lem : (ws : List Written) → spelled_size (elements ws) + 2 ≤ weight (array written ws)
unfolding array elements spelled_size
elements_long_lem [] = omega (arith, weight_mark 91 (mark 93 ∷ []) refl, weight_mark 93 [] refl)
elements_long_lem (w ∷ ws) =
    omega (arith, weight_mark 91 (written w ++ following written ws) refl, weight_append (written w) (following written ws), element_long w, elements_following ws)

document_long : (ws : List Written) → spelled_size (elements ws) + 20 ≤ weight (document ws)
unfolding document group_name
document_long ws =
    omega (
      arith,
      weight_mark 123 (word group_name ∷ mark 58 ∷ (array written ws ++ (mark 125 ∷ []))) refl,
      weight_word group_name (mark 58 ∷ (array written ws ++ (mark 125 ∷ []))),
      weight_mark 58 (array written ws ++ (mark 125 ∷ [])) refl,
      weight_append (array written ws) (mark 125 ∷ []),
      weight_mark 125 [] refl,
      elements_long_lem ws,
    )

shape_long : (text : List ℕ) (es : List Element) → Shape text es → spelled_size es + 20 ≤ length text
shape_long text es s = omega (arith, document_long s.order, tokens_long s.spelled, ap spelled_size s.same)

-- ---- the journal

-- whatever the first receipt of an element names, and if it names nothing
record Sizes (s : Settings) : Type 0 where
  pub three : length s.csp ≡ 3
  pub id_long : length s.id.bytes ≡ 32
  pub serial_long : length s.serial.bytes ≡ 32

none_sizes : Sizes not_named.settings
none_sizes = record { three = refl; id_long = refl; serial_long = refl }

named_sizes : (w : List ℕ) → Sizes (named w).settings
named_sizes w = go (named w).good refl
  where
    go : (t : Bool) → (named w).good ≡ t → Sizes (named w).settings
    go true q = let g = named_good w q in record { three = g.three; id_long = g.id_long; serial_long = g.serial_long }
    go false q = subst (λ (n : Named). Sizes n.settings) (sym (named_none w q)) none_sizes

element_sizes : (e : Element) → Sizes (settings_of e)
unfolding settings_of
element_sizes e = named_sizes (first_of e.receipts)

pair_short : (e : Element) → length (pair_spelled (pair_of e)) ≤ 40 + length (sized_texts e.receipts)
unfolding pair_spelled pair_start pair_of
pair_short e =
    let g = element_sizes e in
    omega (
      arith,
      text_short (settings_of e).serial g.serial_long,
      length-append (pair_start (settings_of e).serial (length e.receipts)) (sized_texts e.receipts),
      length-append (section (name_text (settings_of e).serial)) (bytes_of 4 (length e.receipts)),
      length_section (name_text (settings_of e).serial),
      length_bytes_of 4 (length e.receipts),
    )

pairs_short : (es : List Element) → length (pairs_spelled (map pair_of es)) + 29 * length es ≤ spelled_size es
unfolding pairs_spelled spelled_size
pairs_short [] = omega arith
pairs_short (e ∷ es) = omega (arith, length-append (pair_spelled (pair_of e)) (pairs_spelled (map pair_of es)), pair_short e, pairs_short es)

owner_short : (e : Element) (es : List Element) → length (owner_text (owner_of (e ∷ es))) ≤ 43
unfolding owner_text owner_of
owner_short e es =
    let g = element_sizes e in
    omega (
      arith,
      g.three,
      text_short (settings_of e).id g.id_long,
      length-append (section (settings_of e).csp) (section (name_text (settings_of e).id)),
      length_section (settings_of e).csp,
      length_section (name_text (settings_of e).id),
    )

pub journal_short : (text : List ℕ) (es : List Element) → Shape text es → not (is_empty es) ≡ true → length (journal_of_elements es) ≤ length text
unfolding journal_of_elements journal_spelled
journal_short text [] s n = true-is-not-false n
journal_short text (e ∷ es) s n =
    omega (
      arith,
      shape_long text (e ∷ es) s,
      pairs_short (e ∷ es),
      owner_short e es,
      length-append (owner_text (owner_of (e ∷ es))) (pairs_spelled (map pair_of (e ∷ es))),
    )

-- ---- the answer

-- 23 comes only after the other questions
module _ (es : List Element) (a b : ℕ) (same : not (is_empty es) ≡ true → a ≡ b) where
  survey_same : survey_number es a ≡ survey_number es b
  unfolding survey_number ask
  survey_same = go (not (is_empty es)) (every element_good es) (every has_receipt es) (every names_register es) refl
    where
      go : (p q r t : Bool) → not (is_empty es) ≡ p → ask (p && q) 28 (ask r 29 (ask t 28 a)) ≡ ask (p && q) 28 (ask r 29 (ask t 28 b))
      go true true true true x = same x
      go true true true false x = refl
      go true true false t x = refl
      go true false r t x = refl
      go false q r t x = refl

number_same : (text : List ℕ) (es : List Element) (size : ℕ) → Shape text es → length text ≤ size → elements_number es size ≡ elements_number es (length text)
unfolding elements_number ask
number_same text es size s h = survey_same es _ _ (λ n.
    let l = journal_short text es s n in
    let x : leb (length (journal_of_elements es)) size ≡ true = le-leb (length (journal_of_elements es)) size (omega (arith, l, h)) in
    let y : leb (length (journal_of_elements es)) (length text) ≡ true = le-leb (length (journal_of_elements es)) (length text) l in
    rw (x, y))

answer_same : (text key : List ℕ) (n size : ℕ) → length text ≤ size → restored text key n size ≡ restored text key n (length text)
unfolding restored
answer_same text key n size h = go (elements_of text) refl
  where
    go : (o : Option (List Element)) → elements_of text ≡ o → restored_by o key n size ≡ restored_by o key n (length text)
    go none q = refl
    go (some es) q =
        ap (λ (m : ℕ). ifZero m (restored_from (take_over (journal_of_elements es) key n) (length (journal_of_elements es))) (not_read m 0)) (number_same text es size ((exact text es).0 q) h)

pub some_element : (es : List Element) → (es ≡ [] → ⊥) → not (is_empty es) ≡ true
some_element [] h = absurd (h refl)
some_element (x ∷ es) h = refl

pub text_is_room_enough : TextIsRoomEnough
text_is_room_enough = record { fits = λ text es s n h. journal_short text es s (some_element es n); same = answer_same }
