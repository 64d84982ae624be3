-- The strings that a text spells consist of letters, and so of bytes.
use Rattle.std.proofs.Common.{ℕ, zero, suc, ◌<◌, ◌≡◌, refl, subst, true, List, [], ◌∷◌, ◌++◌, arith, get_or}
use Rattle.primitives.specs.Bytes.{AllBytes}
use Rattle.exports.specs.Text.{Token, mark, plain, every, Inside, close, letter, escape, Tokens, end, space, sign, quoted}
use Rattle.exports.specs.Shape.{array, following, string, Member, certificate, issuers, receipts, member, value_of, certificates_of, issuers_of, receipts_of, Element, Written, object, written, document, elements, Shape}
use Rattle.exports.proofs.Sized.{every_nil, every_one, every_head, every_tail}
use Rattle.exports.proofs.Lettering.{letters_exactly}

inside_plain : {text content rest : List ℕ} → Inside text content rest → every plain content ≡ true
unfolding plain
inside_plain close = every_nil plain
inside_plain (letter {b} {text} {content} h i) = every_one plain b content h (inside_plain i)
inside_plain (escape i) = every_one plain _ _ refl (inside_plain i)

-- each token spells letters
abbrev Words : List Token → Type 0
Words [] = Unit {0}
Words (t ∷ ts) = (every plain t.content ≡ true) × Words ts

tokens_plain : {text : List ℕ} {ts : List Token} → Tokens text ts → Words ts
tokens_plain end = tt
tokens_plain (space h t) = tokens_plain t
tokens_plain (sign h t) = (every_nil plain, tokens_plain t)
tokens_plain (quoted i t) = (inside_plain i, tokens_plain t)

words_split : (ts us : List Token) → Words (ts ++ us) → Words ts × Words us
words_split [] us h = (tt, h)
words_split (t ∷ ts) us h = let r = words_split ts us h.1 in ((h.0, r.0), r.1)

following_plain : (ws : List (List ℕ)) → Words (following string ws) → every (every plain) ws ≡ true
unfolding following
following_plain [] h = every_nil (every plain)
following_plain (w ∷ ws) h = every_one (every plain) w ws h.1.0 (following_plain ws h.1.1)

strings_plain : (ws : List (List ℕ)) → Words (array string ws) → every (every plain) ws ≡ true
unfolding array
strings_plain [] h = every_nil (every plain)
strings_plain (w ∷ ws) h = every_one (every plain) w ws h.1.0 (following_plain ws h.1.1)

-- ---- members

abbrev Member-plain : Member → Type 0
Member-plain (certificate w) = every plain w ≡ true
Member-plain (issuers ws) = every (every plain) ws ≡ true
Member-plain (receipts ws) = every (every plain) ws ≡ true

member_plain : (m : Member) → Words (member m) → Member-plain m
unfolding member value_of
member_plain (certificate w) h = h.1.1.0
member_plain (issuers ws) h = strings_plain ws h.1.1
member_plain (receipts ws) h = strings_plain ws h.1.1

abbrev Members-plain : List Member → Type 0
Members-plain [] = Unit {0}
Members-plain (m ∷ ms) = Member-plain m × Members-plain ms

certificates_plain : (ms : List Member) → Members-plain ms → every (every plain) (certificates_of ms) ≡ true
unfolding certificates_of
certificates_plain [] h = every_nil (every plain)
certificates_plain (certificate w ∷ ms) h = every_one (every plain) w (certificates_of ms) h.0 (certificates_plain ms h.1)
certificates_plain (issuers ws ∷ ms) h = certificates_plain ms h.1
certificates_plain (receipts ws ∷ ms) h = certificates_plain ms h.1

issuers_plain : (ms : List Member) → Members-plain ms → every (every (every plain)) (issuers_of ms) ≡ true
unfolding issuers_of
issuers_plain [] h = every_nil (every (every plain))
issuers_plain (certificate w ∷ ms) h = issuers_plain ms h.1
issuers_plain (issuers ws ∷ ms) h = every_one (every (every plain)) ws (issuers_of ms) h.0 (issuers_plain ms h.1)
issuers_plain (receipts ws ∷ ms) h = issuers_plain ms h.1

receipts_plain : (ms : List Member) → Members-plain ms → every (every (every plain)) (receipts_of ms) ≡ true
unfolding receipts_of
receipts_plain [] h = every_nil (every (every plain))
receipts_plain (certificate w ∷ ms) h = receipts_plain ms h.1
receipts_plain (issuers ws ∷ ms) h = receipts_plain ms h.1
receipts_plain (receipts ws ∷ ms) h = every_one (every (every plain)) ws (receipts_of ms) h.0 (receipts_plain ms h.1)

-- ---- elements

pub record PlainElement (e : Element) : Type 0 where
  pub certificate : every plain e.certificate ≡ true
  pub issuers : every (every plain) e.issuers ≡ true
  pub receipts : every (every plain) e.receipts ≡ true

three_plain : (w : Written) → Members-plain (w.first ∷ w.second ∷ w.third ∷ []) → PlainElement w.element
three_plain w h =
    let ms = w.first ∷ w.second ∷ w.third ∷ [] in
    let c = subst (λ (l : List (List ℕ)). every (every plain) l ≡ true) w.certificates (certificates_plain ms h) in
    let i = subst (λ (l : List (List (List ℕ))). every (every (every plain)) l ≡ true) w.issuer_lists (issuers_plain ms h) in
    let r = subst (λ (l : List (List (List ℕ))). every (every (every plain)) l ≡ true) w.receipt_lists (receipts_plain ms h) in
    record { certificate = every_head (every plain) _ [] c; issuers = every_head (every (every plain)) _ [] i; receipts = every_head (every (every plain)) _ [] r }

written_plain : (w : Written) → Words (written w) → PlainElement w.element
unfolding written object
written_plain w h =
    let a = words_split (member w.first) (mark 44 ∷ (member w.second ++ (mark 44 ∷ (member w.third ++ (mark 125 ∷ []))))) h.1 in
    let b = words_split (member w.second) (mark 44 ∷ (member w.third ++ (mark 125 ∷ []))) a.1.1 in
    let c = words_split (member w.third) (mark 125 ∷ []) b.1.1 in
    three_plain w (member_plain w.first a.0, (member_plain w.second b.0, (member_plain w.third c.0, tt)))

abbrev pub AllPlain : List Element → Type 0
AllPlain [] = Unit {0}
AllPlain (e ∷ es) = PlainElement e × AllPlain es

later_plain : (ws : List Written) → Words (following written ws) → AllPlain (elements ws)
unfolding following elements
later_plain [] h = tt
later_plain (w ∷ ws) h =
    let a = words_split (written w) (following written ws) h.1 in
    (written_plain w a.0, later_plain ws a.1)

array_plain : (ws : List Written) → Words (array written ws) → AllPlain (elements ws)
unfolding array elements
array_plain [] h = tt
array_plain (w ∷ ws) h =
    let a = words_split (written w) (following written ws) h.1 in
    (written_plain w a.0, later_plain ws a.1)

document_plain : (ws : List Written) → Words (document ws) → AllPlain (elements ws)
unfolding document
document_plain ws h = array_plain ws (words_split (array written ws) (mark 125 ∷ []) h.1.1.1).0

pub shape_plain : (text : List ℕ) (es : List Element) → Shape text es → AllPlain es
shape_plain text es s = subst AllPlain s.same (document_plain s.order (tokens_plain s.spelled))

-- ---- letters are bytes

pub plain_bytes : (w : List ℕ) → every plain w ≡ true → AllBytes w
plain_bytes w h = record { at = at w h }
  where
    at : (w : List ℕ) → every plain w ≡ true → (i : ℕ) → get_or w i 0 < 256
    at [] h i = omega arith
    at (b ∷ w) h zero = omega (arith, ((letters_exactly b).0 (every_head plain b w h)).1)
    at (b ∷ w) h (suc i) = at w (every_tail plain b w h) i
