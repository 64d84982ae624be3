-- The letters of a string, four by four.
use Rattle.std.proofs.Common.{◌≡◌, refl, sym, ap, ◌∙◌, Bool, true, false, cond, ◌&&◌, List, [], ◌∷◌, ◌++◌, append-nil, ℕ, zero, suc, ◌+◌, ◌-◌, ◌<◌, ◌≤◌, arith, eq-eqb, ne_eqb, eqb, length, take, drop, get_or, replicate, take_all, length-take-le}
use lib.Dec.{eqb-suc-zero}
use Rattle.primitives.specs.Base64.{accepted}
use Rattle.primitives.specs.declared.base64.Alphabet.TheVariants.{Standard}
use Rattle.exports.specs.Text.{Token, every}
use Rattle.exports.specs.Lexer.{content}
use Rattle.exports.specs.Shape.{string, strings}
use Rattle.exports.specs.Places.{from, LettersAt, Absent, Quotes, Followed}
use Rattle.exports.specs.Spelled.{is_empty}
use Rattle.exports.specs.Reading.{canonical}
use Rattle.exports.specs.Passing.{QuadRead}
use Rattle.exports.specs.declared.walk.Cursor.{Cursor}
use Rattle.exports.specs.declared.walk.Cursor.TheVariants.{Item}
use Rattle.exports.specs.declared.lexer.Part.{Part}
use Rattle.exports.specs.declared.certificates.Quad.{Quad}
use Rattle.exports.proofs.Lexing.{letters_inside}
use Rattle.exports.proofs.Tokening.{read_word, word_there}
use Rattle.exports.proofs.Canonical.{by_fours, none_canonical, few_not}
use Rattle.exports.proofs.Passing.{Passing, NoItem, pass_out, pass_more, pass_end, every_no, every_yes, every_all}

-- ---- the first i of four letters

pub record Filling (text : List ℕ) (at : ℕ) (bytes : List ℕ) (next i : ℕ) : Type 0 where
  pub few : i ≤ 4
  pub four : length bytes ≡ 4
  pub is : content (drop at text) 0 ≡ take i bytes ++ content (drop next text) 0
  pub onward : i + at ≤ next
  pub letters : LettersAt text next

pub fill_start : (text : List ℕ) (at : ℕ) → LettersAt text at → Filling text at (replicate 4 0) at 0
fill_start text at l = record { few = omega arith; four = refl; is = refl; onward = omega arith; letters = l }

-- ---- what four letters decide

fours : (bytes rest : List ℕ) → length bytes ≡ 4 → accepted Standard (bytes ++ rest) ≡ canonical bytes && cond (eqb (get_or bytes 3 0) 61) (is_empty rest) (accepted Standard rest)
fours [] rest h = absurd (omega arith)
fours (w ∷ []) rest h = absurd (omega arith)
fours (w ∷ x ∷ []) rest h = absurd (omega arith)
fours (w ∷ x ∷ y ∷ []) rest h = absurd (omega arith)
fours (w ∷ x ∷ y ∷ z ∷ []) rest h = by_fours w x y z rest
fours (w ∷ x ∷ y ∷ z ∷ b ∷ bytes) rest h = absurd (omega arith)

empty_few : (n : ℕ) (bytes rest : List ℕ) → length bytes ≡ 4 → (n < 4 → rest ≡ []) → is_empty (take n bytes ++ rest) ≡ eqb n 0
empty_few zero bytes rest h e = ap is_empty (e (omega arith))
empty_few (suc n) [] rest h e = absurd (omega arith)
empty_few (suc n) (b ∷ bytes) rest h e = sym (eqb-suc-zero n)

last_few : (n : ℕ) (bytes rest : List ℕ) → length bytes ≡ 4 → n < 4 → rest ≡ [] → eqb n 0 ≡ accepted Standard (take n bytes ++ rest)
last_few zero bytes rest h k e = sym (rw e none_canonical)
last_few (suc n) bytes rest h k e =
    let l : length (take (suc n) bytes) ≡ suc n = length-take-le (suc n) bytes (omega arith) in
    eqb-suc-zero n ∙ sym (rw (e, append-nil (take (suc n) bytes)) (few_not (take (suc n) bytes) (omega arith) (omega arith)))

empty_quad : {text : List ℕ} {at : ℕ} {q : Quad} → QuadRead text at q → is_empty (content (drop at text) 0) ≡ eqb q.count 0
empty_quad {text} {at} {q} r = ap is_empty r.is ∙ empty_few q.count q.bytes (content (drop q.next text) 0) r.four r.ended

-- from the start and from here it is the same question
pub record Quads (text : List ℕ) (start at : ℕ) (q : Quad) : Type 0 where
  pub read : QuadRead text at q
  pub same : canonical (content (drop start text) 0) ≡ canonical (content (drop at text) 0)

pub quads_start : {text : List ℕ} {start : ℕ} {q : Quad} → QuadRead text start q → Quads text start start q
quads_start r = record { read = r; same = refl }

module _ {text : List ℕ} {start at : ℕ} {q : Quad} (k : Quads text start at q) where
  pub quads_end : (q.count ≡ 4 → ⊥) → eqb q.count 0 ≡ canonical (content (drop start text) 0)
  quads_end n =
      let r = k.read in
      let h : q.count < 4 = omega (arith, n, r.few) in
      last_few q.count q.bytes (content (drop q.next text) 0) r.four h (r.ended h) ∙ sym (k.same ∙ ap canonical r.is)

  module _ (c : q.count ≡ 4) where
    whole : canonical (content (drop start text) 0)
        ≡ canonical q.bytes && cond (eqb (get_or q.bytes 3 0) 61) (is_empty (content (drop q.next text) 0)) (canonical (content (drop q.next text) 0))
    whole =
        let r = k.read in
        let t : take q.count q.bytes ≡ q.bytes = take_all q.count q.bytes (omega (arith, r.four)) in
        k.same ∙ ap canonical (r.is ∙ ap (λ (x : List ℕ). x ++ content (drop q.next text) 0) t)
        ∙ fours q.bytes (content (drop q.next text) 0) r.four

    pub quads_falls : length text - q.next < length text - at
    quads_falls =
        let r = k.read in
        let a = r.onward (omega arith) in
        let b = letters_inside text q.next r.letters in
        omega arith

    module _ {g : Bool} (e : g ≡ canonical q.bytes) where
      pub quads_bad : g ≡ false → false ≡ canonical (content (drop start text) 0)
      quads_bad b = sym (rw (sym e ∙ b) at whole)

      module _ (y : g ≡ true) {q' : Quad} (r : QuadRead text q.next q') where
        good : canonical q.bytes ≡ true
        good = sym e ∙ y

        pub quads_last : get_or q.bytes 3 0 ≡ 61 → eqb q'.count 0 ≡ canonical (content (drop start text) 0)
        quads_last p = sym ((rw (good, eq-eqb (get_or q.bytes 3 0) 61 p) at whole) ∙ empty_quad r)

        pub quads_more : (get_or q.bytes 3 0 ≡ 61 → ⊥) → Quads text start q.next q'
        quads_more p = record { read = r; same = rw (good, ne_eqb (get_or q.bytes 3 0) 61 p) at whole }

-- ---- certificates

pub no_certificate : {text : List ℕ} {at : ℕ} → Absent string text at → (w : List ℕ) (r : List Token) → from text at ≡ string w ++ r → false ≡ canonical w
no_certificate a w r q = absurd (a.none w r q)

module _ {text : List ℕ} {at : ℕ} {p : Part} (i : Quotes text at p) where
  pub letters_there : LettersAt text p.start
  letters_there = record { good = i.lying.good }

  pub certificate_is : {b : Bool} → b ≡ canonical (content (drop p.start text) 0) → (w : List ℕ) (r : List Token) → from text at ≡ string w ++ r → b ≡ canonical w
  certificate_is e w r q = e ∙ ap canonical (word_there i q).0

abbrev pub Issuers : List ℕ → ℕ → Cursor → Type 0
Issuers text at c = Passing string (every canonical) (every canonical) text at c

module _ {text : List ℕ} {at p : ℕ} {c : Cursor} (k : Issuers text at c) (e : c ≡ Item p) where
  module _ {s : Part} (i : Quotes text p s) {b : Bool} (h : b ≡ canonical (content (drop s.start text) 0)) where
    pub issuers_bad : b ≡ false → (ws : List (List ℕ)) (r : List Token) → from text at ≡ strings ws ++ r → false ≡ every canonical ws
    issuers_bad f = pass_out string k e false (λ x xs r q. every_no canonical x xs (sym (certificate_is i h x r q) ∙ f))

    pub issuers_more : (d : Cursor) → b ≡ true → Followed text s.next d → Issuers text at d
    issuers_more d t f = pass_more string k e (read_word i) d f (every canonical) (λ x xs r q. every_yes canonical x xs (sym (certificate_is i h x r q) ∙ t))

pub issuers_end : {text : List ℕ} {at : ℕ} {c : Cursor} → Issuers text at c → NoItem c → (ws : List (List ℕ)) (r : List Token) → from text at ≡ strings ws ++ r → true ≡ every canonical ws
issuers_end k n ws r q = sym (every_all canonical) ∙ (pass_end string k n ws r q).0
