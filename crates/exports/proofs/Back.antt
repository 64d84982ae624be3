-- What is written without blanks and escapes is read back.
use Rattle.std.proofs.Common.{◌≡◌, refl, ap, Bool, true, ◌&&◌, List, [], ◌∷◌, ◌++◌, map, ℕ}
use Rattle.exports.specs.Text.{Token, mark, word, is_mark, plain, every, text_of, Inside, close, letter, Tokens, end, sign, quoted}
use Rattle.exports.specs.Shape.{group_name, array, following, string, Member, certificate, issuers, receipts, name_of, value_of, member, certificate_name, issuers_name, receipts_name, Element, object, written, document, elements, Shape, standard, plain_text, plain_element}
use Rattle.exports.specs.Exact.{ReadsBack}
use Rattle.exports.proofs.Names.{both}
use Rattle.exports.proofs.Lexical.{mark_not}
use Rattle.exports.proofs.Unique.{exact}

-- tokens that can be written so
data Printable : List Token → Type 0 where
  none : Printable []
  marked : {b : ℕ} {ts : List Token} → is_mark b ≡ true → Printable ts → Printable (mark b ∷ ts)
  worded : {w : List ℕ} {ts : List Token} → every plain w ≡ true → Printable ts → Printable (word w ∷ ts)

letters : (w rest : List ℕ) → every plain w ≡ true → Inside (w ++ (34 ∷ rest)) w rest
unfolding every
letters [] rest h = close
letters (b ∷ w) rest h = let p = both (plain b) (every plain w) h in letter p.0 (letters w rest p.1)

spelled : {ts : List Token} → Printable ts → Tokens (text_of ts) ts
unfolding text_of
spelled none = end
spelled (marked {b = b} h p) = rw (mark_not b h).1 (sign h (spelled p))
spelled (worded {w = w} h p) = quoted (letters w _ h) (spelled p)

joined : {xs ys : List Token} → Printable xs → Printable ys → Printable (xs ++ ys)
joined none q = q
joined (marked h p) q = marked h (joined p q)
joined (worded h p) q = worded h (joined p q)

module _ {A : Type 0} (item : A → List Token) (good : A → Bool) (each : (x : A) → good x ≡ true → Printable (item x)) where
  print_following : (xs : List A) → every good xs ≡ true → Printable (following item xs)
  unfolding following every is_mark
  print_following [] h = marked refl none
  print_following (x ∷ xs) h = let p = both (good x) (every good xs) h in marked refl (joined (each x p.0) (print_following xs p.1))

  print_array : (xs : List A) → every good xs ≡ true → Printable (array item xs)
  unfolding array every is_mark
  print_array [] h = marked refl (marked refl none)
  print_array (x ∷ xs) h = let p = both (good x) (every good xs) h in marked refl (joined (each x p.0) (print_following xs p.1))

print_string : (w : List ℕ) → every plain w ≡ true → Printable (string w)
print_string w h = worded h none

print_member : (m : Member) → every plain (name_of m) ≡ true → Printable (value_of m) → Printable (member m)
unfolding member is_mark
print_member m h p = worded h (marked refl p)

print_element : (e : Element) → plain_element e ≡ true → Printable (written (standard e))
unfolding written object standard plain_element every plain name_of value_of certificate_name issuers_name receipts_name is_mark
print_element e h =
    let p = both (every plain e.certificate) (every (every plain) e.issuers && every (every plain) e.receipts) h in
    let q = both (every (every plain) e.issuers) (every (every plain) e.receipts) p.1 in
    marked refl (joined (print_member (certificate e.certificate) refl (print_string e.certificate p.0))
    (marked refl (joined (print_member (issuers e.issuers) refl (print_array string (every plain) print_string e.issuers q.0))
    (marked refl (joined (print_member (receipts e.receipts) refl (print_array string (every plain) print_string e.receipts q.1))
    (marked refl none))))))

abbrev pub standard_text : Element → List Token
standard_text e = written (standard e)

map_following : (es : List Element) → following written (map standard es) ≡ following standard_text es
unfolding following
map_following [] = refl
map_following (e ∷ es) = ap (λ (l : List Token). mark 44 ∷ (written (standard e) ++ l)) (map_following es)

pub map_array : (es : List Element) → array written (map standard es) ≡ array standard_text es
unfolding array
map_array [] = refl
map_array (e ∷ es) = ap (λ (l : List Token). mark 91 ∷ (written (standard e) ++ l)) (map_following es)

print_document : (es : List Element) → every plain_element es ≡ true → Printable (document (map standard es))
unfolding document is_mark every plain group_name
print_document es h =
    let p : Printable (array written (map standard es)) = rw (map_array es) (print_array standard_text plain_element print_element es h) in
    marked refl (worded refl (marked refl (joined p (marked refl none))))

map_elements : (es : List Element) → elements (map standard es) ≡ es
unfolding elements standard
map_elements [] = refl
map_elements (e ∷ es) = ap (λ (l : List Element). e ∷ l) (map_elements es)

pub export_shape : (es : List Element) → every plain_element es ≡ true → Shape (plain_text es) es
unfolding plain_text
export_shape es h = record { order = map standard es; same = map_elements es; spelled = spelled (print_document es h) }

pub reads_back : ReadsBack
reads_back es h = (exact (plain_text es) es).1 (export_shape es h)
