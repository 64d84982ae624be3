-- What the calls on texts show at their returns, over plain variables.
use Rattle.std.proofs.Common.{ℕ, zero, suc, ◌+◌, ◌-◌, ◌≤◌, ◌<◌, ◌≡◌, refl, sym, ap, ◌∙◌, Bool, true, false, cond, List, arith, le-leb, leb-true, leb-false, eq-eqb, ne_eqb, leb, eqb, length}
use Rattle.std.proofs.Math.Option.{Option, none, some}
use Rattle.std.proofs.lemmas.Bool.{lt-leb}
use Rattle.primitives.specs.Place.{room, placed, place_after}
use Rattle.primitives.specs.Sha256.{sha256}
use Rattle.primitives.specs.Base64 as B
use Rattle.primitives.specs.Base64.{encoding, decoding, encoded_length, answer_of, buffer_of}
use Rattle.primitives.specs.declared.base64.Alphabet.{Alphabet}
use Rattle.primitives.specs.declared.base64.Alphabet.TheVariants.{Standard, UrlSafe}
use Rattle.std.specs.Prelude.{Result, Ok, Err}
use Rattle.primitives.specs.declared.base64.DecodeError.{DecodeError}
use Rattle.primitives.specs.declared.base64.DecodeError.TheVariants.{NoRoom}
use Rattle.primitives.specs.Base32.{encoding32, decoding32, encoded_length32}
use Rattle.primitives.proofs.Base32Laws.{length_encoding32}
use Rattle.primitives.proofs.Base64Lengths.{length_encoding}
use Rattle.primitives.proofs.Digest.{length_sha256}
use Rattle.primitives.proofs.Over.{placed_room, after_room, after_full}
use Rattle.receipt.specs.Code.{id_place}
use Rattle.primitives.specs.Answers.{Answer, written, answer_with, bufferWith}
use Rattle.receipt.specs.declared.machine_code.Part.{Part}
use Rattle.device.specs.Texts.{fields_number, fields_length, hash_number, hash_buffer, alphabet_of, encode_answer, encode_buffer, decode_answer, decode_buffer, encode_answer32, encode_buffer32, decode_answer32, decode_buffer32, written_number, decoded_length, decoded_number}
use Rattle.primitives.proofs.Answers as answers
use Rattle.primitives.proofs.Answers.{written_is, written_room}

-- an answer that was told in its two parts, beside the output
pub parts_of : {a e : Answer} {n l : ℕ} {b b₁ : List ℕ} → (a ≡ e) × (b ≡ b₁) → (n ≡ a.number) × (l ≡ a.length) → (n ≡ e.number) × (b ≡ b₁) × (l ≡ e.length)
parts_of p t = (t.0 ∙ ap (λ (x : Answer). x.number) p.0, p.1, t.1 ∙ ap (λ (x : Answer). x.length) p.0)

-- ---- the ID field

module _ (code : List ℕ) {p : Part} (e : p ≡ id_place code) where
  pub field_none : p.start ≡ p.end → (24 ≡ fields_number code) × (p.start ≡ (id_place code).start) × (p.end - p.start ≡ fields_length code)
  unfolding fields_number fields_length
  field_none h =
      (ap (λ (t : Bool). cond t 24 0) (sym (eq-eqb p.start p.end h)) ∙ ap (λ (x : Part). cond (eqb x.start x.end) 24 0) e, ap (λ (x : Part). x.start) e, ap (λ (x : Part). x.end - x.start) e)

  pub field_some : (p.start ≡ p.end → ⊥) → (0 ≡ fields_number code) × (p.start ≡ (id_place code).start) × (p.end - p.start ≡ fields_length code)
  unfolding fields_number fields_length
  field_some h =
      (ap (λ (t : Bool). cond t 24 0) (sym (ne_eqb p.start p.end h)) ∙ ap (λ (x : Part). cond (eqb x.start x.end) 24 0) e, ap (λ (x : Part). x.start) e, ap (λ (x : Part). x.end - x.start) e)

-- ---- SHA-256

module _ (m out : List ℕ) where
  pub hash_short : length out < 32 → (23 ≡ hash_number out) × (out ≡ hash_buffer m out)
  unfolding hash_number hash_buffer
  hash_short h = rw (lt-leb 32 (length out) h) (refl, refl)

  pub hash_done : {x b : List ℕ} → 32 ≤ length out → x ≡ sha256 m → b ≡ placed out 0 x → (0 ≡ hash_number out) × (b ≡ hash_buffer m out)
  unfolding hash_number hash_buffer
  hash_done h e q =
      rw (le-leb 32 (length out) h) (refl, q ∙ ap (placed out 0) e ∙ placed_room out 0 (sha256 m) (omega (arith, length_sha256 m)))

-- ---- BASE64 and BASE32

-- a text is empty exactly if there are no bytes
text_some : (a : Alphabet) (n : ℕ) → 0 < n → 0 < encoded_length a n
text_some Standard n h = omega arith
text_some UrlSafe n h = omega arith

text_none : (a : Alphabet) → encoded_length a 0 ≡ 0
text_none Standard = refl
text_none UrlSafe = refl

module _ (n end : ℕ) where
  pub written_none : n ≡ 0 → 0 ≡ written_number n end
  unfolding written_number
  written_none e = rw (eq-eqb n 0 e)

  pub written_full : (n ≡ 0 → ⊥) → end ≡ 0 → 23 ≡ written_number n end
  unfolding written_number
  written_full h e = rw (ne_eqb n 0 h, eq-eqb end 0 e)

  pub written_done : (n ≡ 0 → ⊥) → (end ≡ 0 → ⊥) → 0 ≡ written_number n end
  unfolding written_number
  written_done h k = rw (ne_eqb n 0 h, ne_eqb end 0 k)

-- a text that is empty exactly if there are no bytes
module _ (xs text out : List ℕ) (some : 0 < length xs → 0 < length text) (none : length xs ≡ 0 → length text ≡ 0) where
  fitted : 0 ≡ written_number (length xs) (0 + length text)
  fitted = go (length xs) some
    where
      go : (n : ℕ) → (0 < n → 0 < length text) → 0 ≡ written_number n (0 + length text)
      go zero f = written_none zero (0 + length text) refl
      go (suc n) f =
          let l = f (omega arith) in
          written_done (suc n) (0 + length text) (λ z. omega arith) (λ z. omega arith)

  cut_off : length out < 0 + length text → 23 ≡ written_number (length xs) 0
  cut_off h = written_full (length xs) 0 (λ z. let q = none z in omega arith) refl

  pub encoded : {n end : ℕ} → end ≡ place_after out 0 text → n ≡ written_number (length xs) end
      → (n ≡ (written out text).number) × (end ≡ (written out text).length)
  encoded {n} {end} e q = go (leb (0 + length text) (length out)) refl
    where
      go : (t : Bool) → leb (0 + length text) (length out) ≡ t → (n ≡ (written out text).number) × (end ≡ (written out text).length)
      go true f =
          let r = leb-true (0 + length text) (length out) f in
          let w = e ∙ after_room out 0 text r in
          rw (written_room out text (omega arith)) (q ∙ ap (written_number (length xs)) w ∙ sym fitted, w ∙ omega arith)
      go false f =
          let r = leb-false (0 + length text) (length out) f in
          let w = e ∙ after_full out 0 text r in
          rw (answers.written_full out text (omega arith)) (q ∙ ap (written_number (length xs)) w ∙ sym (cut_off r), w)

pub encode_is : (url : ℕ) (xs out : List ℕ) {a : Alphabet} {n end : ℕ} {b : List ℕ} → a ≡ alphabet_of url
    → (end ≡ place_after out 0 (encoding a xs)) × (b ≡ placed out 0 (encoding a xs)) → n ≡ written_number (length xs) end
    → (n ≡ (encode_answer url xs out).number) × (b ≡ encode_buffer url xs out) × (end ≡ (encode_answer url xs out).length)
unfolding encode_answer encode_buffer
encode_is url xs out ea p q =
    let a : Alphabet = alphabet_of url in
    let r = encoded xs (encoding a xs) out (λ h. let l = text_some a (length xs) h in omega (arith, length_encoding a xs)) (λ h. length_encoding a xs ∙ ap (encoded_length a) h ∙ text_none a)
    (p.0 ∙ ap (λ (x : Alphabet). place_after out 0 (encoding x xs)) ea) q in
    (r.0, p.1 ∙ ap (λ (x : Alphabet). placed out 0 (encoding x xs)) ea, r.1)

pub encode_is_32 : (xs out : List ℕ) {n end : ℕ} {b : List ℕ} → (end ≡ place_after out 0 (encoding32 xs)) × (b ≡ placed out 0 (encoding32 xs)) → n ≡ written_number (length xs) end
    → (n ≡ (encode_answer32 xs out).number) × (b ≡ encode_buffer32 xs out) × (end ≡ (encode_answer32 xs out).length)
unfolding encode_answer32 encode_buffer32 encoded_length32
encode_is_32 xs out p q =
    let r = encoded xs (encoding32 xs) out (λ h. omega (arith, length_encoding32 xs)) (λ h. length_encoding32 xs ∙ ap encoded_length32 h) p.0 q in
    (r.0, p.1, r.1)

module _ (out : List ℕ) where
  number_of : (o : Option (List ℕ)) → decoded_number (answer_of o out 0) ≡ (answer_with 22 o out).number
  number_of none = refl
  number_of (some ys) = go (room out 0 ys) ∙ sym (ap (λ (x : Answer). x.number) (written_is out ys))
    where
      go : (t : Bool) → decoded_number (cond {A = Result ℕ DecodeError} t (Ok (0 + length ys)) (Err NoRoom)) ≡ (cond {A = Answer} t (record { number = 0; length = length ys }) (record { number = 23; length = 0 })).number
      go true = refl
      go false = refl

  length_of : (o : Option (List ℕ)) → decoded_length (answer_of o out 0) ≡ (answer_with 22 o out).length
  length_of none = refl
  length_of (some ys) = go (room out 0 ys) ∙ sym (ap (λ (x : Answer). x.length) (written_is out ys))
    where
      go : (t : Bool) → decoded_length (cond {A = Result ℕ DecodeError} t (Ok (0 + length ys)) (Err NoRoom)) ≡ (cond {A = Answer} t (record { number = 0; length = length ys }) (record { number = 23; length = 0 })).length
      go true = omega arith
      go false = refl

  buffer_of_lem : (o : Option (List ℕ)) → buffer_of o out 0 ≡ bufferWith o out
  buffer_of_lem none = refl
  buffer_of_lem (some ys) = refl

-- what a reader answers, as number, output and length
module _ (out : List ℕ) (o : Option (List ℕ)) where
  pub read_is : {d : Result ℕ DecodeError} {n end : ℕ} {b : List ℕ} → (d ≡ answer_of o out 0) × (b ≡ buffer_of o out 0) → end ≡ decoded_length d → n ≡ decoded_number d
      → (n ≡ (answer_with 22 o out).number) × (b ≡ bufferWith o out) × (end ≡ (answer_with 22 o out).length)
  read_is p ql qn = (qn ∙ ap decoded_number p.0 ∙ number_of out o, p.1 ∙ buffer_of_lem out o, ql ∙ ap decoded_length p.0 ∙ length_of out o)

pub decode_is : (url : ℕ) (text out : List ℕ) {a : Alphabet} {d : Result ℕ DecodeError} {n end : ℕ} {b : List ℕ} → a ≡ alphabet_of url
    → (d ≡ B.decode_answer a text out 0) × (b ≡ B.decode_buffer a text out 0) → end ≡ decoded_length d → n ≡ decoded_number d
    → (n ≡ (decode_answer url text out).number) × (b ≡ decode_buffer url text out) × (end ≡ (decode_answer url text out).length)
unfolding decode_answer decode_buffer
decode_is url text out ea p ql qn =
    read_is out (decoding (alphabet_of url) text)
    (p.0 ∙ ap (λ (x : Alphabet). answer_of (decoding x text) out 0) ea, p.1 ∙ ap (λ (x : Alphabet). buffer_of (decoding x text) out 0) ea) ql qn

pub decode_is_32 : (text out : List ℕ) {d : Result ℕ DecodeError} {n end : ℕ} {b : List ℕ}
    → (d ≡ answer_of (decoding32 text) out 0) × (b ≡ buffer_of (decoding32 text) out 0) → end ≡ decoded_length d → n ≡ decoded_number d
    → (n ≡ (decode_answer32 text out).number) × (b ≡ decode_buffer32 text out) × (end ≡ (decode_answer32 text out).length)
unfolding decode_answer32 decode_buffer32
decode_is_32 text out = read_is out (decoding32 text)
