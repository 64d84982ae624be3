-- The text of an export, piece by piece, is the text of its tokens.
use Rattle.std.proofs.Common.{ℕ, ◌≡◌, refl, sym, ap, ◌∙◌, Bool, true, false, cond, List, [], ◌∷◌, ◌++◌, map, append_assoc, eqb}
use Rattle.primitives.specs.Text.{ascii}
use Rattle.exports.specs.Text.{Token, mark, word, text_of}
use Rattle.exports.specs.Shape.{certificate_name, issuers_name, receipts_name, group_name, array, following, string, Element, member, name_of, value_of, object, written, standard, document, plain_text}
use Rattle.exports.proofs.Back.{standard_text, map_array}
use Rattle.exports.specs.Writing.{quoted, listed, opening, before_certificate, before_issuers, before_receipts, ending, certificates_part, receipts_part, element_text, export_text}

token_text : (t : Token) (ts us : List Token) → (text_of (ts ++ us) ≡ text_of ts ++ text_of us) → text_of (t ∷ (ts ++ us)) ≡ text_of (t ∷ ts) ++ text_of us
unfolding text_of
token_text t ts us h = go (eqb t.kind 34)
  where
    go : (b : Bool) → cond b (34 ∷ (t.content ++ (34 ∷ text_of (ts ++ us)))) (t.kind ∷ text_of (ts ++ us))
        ≡ cond b (34 ∷ (t.content ++ (34 ∷ text_of ts))) (t.kind ∷ text_of ts) ++ text_of us
    go true = ap (λ (l : List ℕ). 34 ∷ (t.content ++ (34 ∷ l))) h ∙ ap (λ (l : List ℕ). 34 ∷ l) (sym (append_assoc t.content (34 ∷ text_of ts) (text_of us)))
    go false = ap (λ (l : List ℕ). t.kind ∷ l) h

text_append : (ts us : List Token) → text_of (ts ++ us) ≡ text_of ts ++ text_of us
unfolding text_of
text_append [] us = refl
text_append (t ∷ ts) us = token_text t ts us (text_append ts us)

text_mark : (b : ℕ) (ts : List Token) → eqb b 34 ≡ false → text_of (mark b ∷ ts) ≡ b ∷ text_of ts
unfolding text_of
text_mark b ts h = rw h

text_last : (b : ℕ) → eqb b 34 ≡ false → text_of (mark b ∷ []) ≡ b ∷ []
unfolding text_of
text_last b h = rw h

text_word : (w : List ℕ) (ts : List Token) → text_of (word w ∷ ts) ≡ quoted w ++ text_of ts
unfolding text_of quoted
text_word w ts = ap (λ (l : List ℕ). 34 ∷ l) (sym (append_assoc w (34 ∷ []) (text_of ts)))

-- an array of items
module _ {A : Type 0} (item : A → List Token) (text : A → List ℕ) (each : (x : A) → text_of (item x) ≡ text x) where
  text_following : (xs : List A) → text_of (following item xs) ≡ listed text true xs ++ (93 ∷ [])
  unfolding following listed text_of
  text_following [] = refl
  text_following (x ∷ xs) =
      ap (λ (l : List ℕ). 44 ∷ l)
      (text_append (item x) (following item xs) ∙ (λ i. each x i ++ text_following xs i) ∙ sym (append_assoc (text x) (listed text true xs) (93 ∷ [])))

  text_array : (xs : List A) → text_of (array item xs) ≡ 91 ∷ (listed text false xs ++ (93 ∷ []))
  unfolding array listed text_of
  text_array [] = refl
  text_array (x ∷ xs) =
      ap (λ (l : List ℕ). 91 ∷ l)
      (text_append (item x) (following item xs) ∙ (λ i. each x i ++ text_following xs i) ∙ sym (append_assoc (text x) (listed text true xs) (93 ∷ [])))

text_string : (w : List ℕ) → text_of (string w) ≡ quoted w
unfolding text_of quoted
text_string w = refl

certificate_start : (t : List ℕ) → 123 ∷ (quoted certificate_name ++ (58 ∷ t)) ≡ before_certificate ++ t
unfolding before_certificate certificate_name ascii quoted
certificate_start t = refl

issuers_start : (t : List ℕ) → 44 ∷ (quoted issuers_name ++ (58 ∷ (91 ∷ t))) ≡ before_issuers ++ t
unfolding before_issuers issuers_name ascii quoted
issuers_start t = refl

receipts_start : (t : List ℕ) → 93 ∷ (44 ∷ (quoted receipts_name ++ (58 ∷ (91 ∷ t)))) ≡ before_receipts ++ t
unfolding before_receipts receipts_name ascii quoted
receipts_start t = refl

named_end : 93 ∷ (125 ∷ []) ≡ ending
unfolding ending ascii
named_end = refl

-- an element, as three members
module _ (e : Element) where
  certificate_part : List ℕ
  certificate_part = quoted certificate_name ++ (58 ∷ quoted e.certificate)

  issuers_part : List ℕ
  issuers_part = quoted issuers_name ++ (58 ∷ (91 ∷ (listed quoted false e.issuers ++ (93 ∷ []))))

  receipts_part_lem : List ℕ
  receipts_part_lem = quoted receipts_name ++ (58 ∷ (91 ∷ (listed quoted false e.receipts ++ (93 ∷ []))))

  first_is : text_of (member (standard e).first) ≡ certificate_part
  unfolding standard member name_of value_of certificate_part
  first_is = text_word certificate_name _ ∙ ap (λ (l : List ℕ). quoted certificate_name ++ l) (text_mark 58 (string e.certificate) refl ∙ ap (λ (l : List ℕ). 58 ∷ l) (text_string e.certificate))

  second_is : text_of (member (standard e).second) ≡ issuers_part
  unfolding standard member name_of value_of issuers_part
  second_is = text_word issuers_name _ ∙ ap (λ (l : List ℕ). quoted issuers_name ++ l) (text_mark 58 (array string e.issuers) refl ∙ ap (λ (l : List ℕ). 58 ∷ l) (text_array string quoted text_string e.issuers))

  third_is : text_of (member (standard e).third) ≡ receipts_part_lem
  unfolding standard member name_of value_of receipts_part_lem
  third_is = text_word receipts_name _ ∙ ap (λ (l : List ℕ). quoted receipts_name ++ l) (text_mark 58 (array string e.receipts) refl ∙ ap (λ (l : List ℕ). 58 ∷ l) (text_array string quoted text_string e.receipts))

  as_members : text_of (written (standard e)) ≡ 123 ∷ (certificate_part ++ (44 ∷ (issuers_part ++ (44 ∷ (receipts_part_lem ++ (125 ∷ []))))))
  unfolding written object standard
  as_members =
      let m = (standard e).first in
      let n = (standard e).second in
      let o = (standard e).third in
      text_mark 123 _ refl
      ∙ ap (λ (l : List ℕ). 123 ∷ l)
      (text_append (member m) _ ∙ (λ i. first_is i ++ (text_mark 44 (member n ++ (mark 44 ∷ (member o ++ (mark 125 ∷ [])))) refl
      ∙ ap (λ (l : List ℕ). 44 ∷ l) (text_append (member n) _ ∙ (λ k. second_is k ++ (text_mark 44 (member o ++ (mark 125 ∷ [])) refl
      ∙ ap (λ (l : List ℕ). 44 ∷ l) (text_append (member o) (mark 125 ∷ []) ∙ (λ h. third_is h ++ text_last 125 refl h))) k))) i))

  apart : 123 ∷ (certificate_part ++ (44 ∷ (issuers_part ++ (44 ∷ (receipts_part_lem ++ (125 ∷ []))))))
      ≡ 123 ∷ (quoted certificate_name ++ (58 ∷ (quoted e.certificate ++ (44 ∷ (quoted issuers_name ++ (58 ∷ (91 ∷ (listed quoted false e.issuers
      ++ (93 ∷ (44 ∷ (quoted receipts_name ++ (58 ∷ (91 ∷ (listed quoted false e.receipts ++ (93 ∷ (125 ∷ []))))))))))))))))
  unfolding certificate_part issuers_part receipts_part_lem
  apart = simp append_assoc

  joined : before_certificate ++ (quoted e.certificate ++ (before_issuers ++ (listed quoted false e.issuers ++ (before_receipts ++ (listed quoted false e.receipts ++ ending)))))
      ≡ element_text e
  unfolding element_text certificates_part receipts_part
  joined = simp append_assoc

  pub element_text_lem : text_of (written (standard e)) ≡ element_text e
  element_text_lem =
      as_members ∙ apart
      ∙ certificate_start _
      ∙ ap (λ (l : List ℕ). before_certificate ++ (quoted e.certificate ++ l)) (issuers_start _
      ∙ ap (λ (l : List ℕ). before_issuers ++ (listed quoted false e.issuers ++ l)) (receipts_start _
      ∙ ap (λ (l : List ℕ). before_receipts ++ (listed quoted false e.receipts ++ l)) named_end))
      ∙ joined

named_start : (t : List ℕ) → 123 ∷ (quoted group_name ++ (58 ∷ (91 ∷ t))) ≡ opening ++ t
unfolding opening group_name ascii quoted
named_start t = refl

pub plain_text_lem : (es : List Element) → export_text es ≡ plain_text es
unfolding export_text plain_text document
plain_text_lem es =
    let items : List ℕ = listed element_text false es in
    let all : text_of (array written (map standard es)) ≡ 91 ∷ (items ++ (93 ∷ [])) = ap text_of (map_array es) ∙ text_array standard_text element_text element_text_lem es in
    sym (text_mark 123 _ refl
    ∙ ap (λ (l : List ℕ). 123 ∷ l) (text_word group_name _
    ∙ ap (λ (l : List ℕ). quoted group_name ++ l) (text_mark 58 _ refl
    ∙ ap (λ (l : List ℕ). 58 ∷ l) (text_append (array written (map standard es)) (mark 125 ∷ []) ∙ (λ i. all i ++ text_last 125 refl i))))
    ∙ named_start ((items ++ (93 ∷ [])) ++ (125 ∷ []))
    ∙ ap (λ (l : List ℕ). opening ++ l) (append_assoc items (93 ∷ []) (125 ∷ []) ∙ ap (λ (l : List ℕ). items ++ l) named_end))
