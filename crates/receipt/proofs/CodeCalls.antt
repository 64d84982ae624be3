-- What the functions of the code show at their returns, over plain lists.
use Rattle.std.proofs.Common.{ℕ, ◌+◌, ◌≤◌, ◌<◌, ◌≡◌, refl, sym, ap, ◌∙◌, Bool, true, false, List, [], ◌∷◌, ◌++◌, add_comm, arith, lt-ltb, le-ltb, leb-true, leb-false, ltb, leb, length, take, drop, length-append, length-take}
use mathlib.Core.Bool.{and-false}
use mathlib.Core.Option.{Option, none, some}
use Rattle.primitives.specs.Place.{overwrite, placed, place_after}
use Rattle.primitives.specs.Base64.{encoding, decoding}
use Rattle.primitives.specs.declared.base64.Alphabet.TheVariants.{Standard}
use Rattle.primitives.proofs.Over.{placed_room, placed_full, after_room, after_full}
use Rattle.primitives.specs.Answers.{Answer}
use Rattle.receipt.specs.declared.machine_code.Part.{Part}
use Rattle.receipt.specs.Form.{next_at, part, further, Parts, parts, good_parts, signed_form, parts_of_form}
use Rattle.receipt.specs.Code.{last_at, code_text, parts_of_code, code_answer, code_buffer, uncode_answer, uncode_buffer, id_start, id_end, id_there, nowhere, id_place, id_field}
use Rattle.primitives.specs.Answers.{written}
use Rattle.receipt.specs.FormReading.{fitting}
use Rattle.primitives.proofs.Answers.{written_room, written_full}
use Rattle.receipt.proofs.Finding.{next_from}
use Rattle.receipt.proofs.CodeTexts.{good_signature, fit_signature}
use Rattle.receipt.proofs.Forms.{length_form, form_good}
use Rattle.receipt.proofs.Codes.{code_good, code_payload}
use Rattle.receipt.proofs.FormCalls.{put_next}

-- ---- reading a code

pub code_none : (code : List ℕ) → length code ≤ last_at 95 code → none ≡ parts_of_code code
unfolding parts_of_code
code_none code h = rw (le-ltb (last_at 95 code) (length code) h)

-- the payload, and a signature that is read into a buffer of 64 bytes
pub code_parts : (code x y : List ℕ) → last_at 95 code < length code → x ≡ take (last_at 95 code) code → y ≡ drop (last_at 95 code + 1) code → {b : ℕ} → b ≡ 64
    → {o : Option (List ℕ)} → o ≡ fitting b (decoding Standard y) → good_parts (some x) o ≡ parts_of_code code
unfolding parts_of_code
code_parts code x y h p q lb e =
    (λ i. good_parts (some (p i)) (e i)) ∙ (λ i. good_parts (some (take (last_at 95 code) code)) (fitting (lb i) (decoding Standard (q i))))
    ∙ fit_signature (some (take (last_at 95 code) code)) (decoding Standard (drop (last_at 95 code + 1) code)) ∙ rw (lt-ltb (last_at 95 code) (length code) h)

-- ---- writing

module _ (out text : List ℕ) (n : ℕ) (long : length text ≡ n) where
  pub no_room : length out < n → (record { number = 23; length = 0 } ≡ written out text) × (out ≡ placed out 0 text)
  no_room h =
      let k : length out < 0 + length text = omega arith in
      (sym (written_full out text (omega arith)), sym (placed_full out 0 text k))

  pub has_room : {out' : List ℕ} → n ≤ length out → out' ≡ overwrite out 0 text → (record { number = 0; length = n } ≡ written out text) × (out' ≡ placed out 0 text)
  has_room h e =
      let k : 0 + length text ≤ length out = omega arith in
      (rw (sym long) (sym (written_room out text (omega arith))), e ∙ sym (placed_room out 0 text k))

module _ (p s out : List ℕ) where
  pub put_code : {out₁ out₂ out₃ : List ℕ} → length (code_text (parts p s)) ≤ length out → out₁ ≡ placed out 0 p → out₂ ≡ placed out₁ (length p) (95 ∷ [])
      → out₃ ≡ placed out₂ (length p + 1) (encoding Standard s) → out₃ ≡ overwrite out 0 (code_text (parts p s))
  unfolding code_text
  put_code {out₁} {out₂} h e₁ e₂ e₃ =
      let l₁ : length (p ++ (95 ∷ [])) ≡ length p + 1 = length-append p (95 ∷ []) in
      let l₂ : length (p ++ (95 ∷ []) ++ encoding Standard s) ≡ length p + 1 + length (encoding Standard s) =
      length-append (p ++ (95 ∷ [])) (encoding Standard s) ∙ ap (λ (n : ℕ). n + length (encoding Standard s)) l₁ in
      let w₁ : out₁ ≡ overwrite out 0 p = e₁ ∙ placed_room out 0 p (omega arith) in
      let w₂ : out₂ ≡ overwrite out 0 (p ++ (95 ∷ [])) = put_next out p (95 ∷ []) 0 w₁ e₂ (omega arith) (omega arith) in
      put_next out (p ++ (95 ∷ [])) (encoding Standard s) 0 w₂ e₃ (omega arith) (omega arith)

-- a form is not empty, so the place after it is 0 exactly if it was not written at 0
module _ (out text : List ℕ) (n : ℕ) (is : n ≡ place_after out 0 text) where
  pub wrote_none : n ≡ 0 → 1 ≤ length text → record { number = 23; length = 0 } ≡ written out text
  wrote_none z h = go (leb (length text) (length out)) refl
    where
      go : (t : Bool) → leb (length text) (length out) ≡ t → record { number = 23; length = 0 } ≡ written out text
      go true q =
          let k : 0 + length text ≤ length out = omega (arith, leb-true (length text) (length out) q) in
          absurd (omega (arith, is, after_room out 0 text k))
      go false q =
          let k : length out < 0 + length text = omega (arith, leb-false (length text) (length out) q) in
          sym (written_full out text (omega arith))

  pub wrote_some : (n ≡ 0 → ⊥) → record { number = 0; length = n } ≡ written out text
  wrote_some z = go (leb (length text) (length out)) refl
    where
      go : (t : Bool) → leb (length text) (length out) ≡ t → record { number = 0; length = n } ≡ written out text
      go true q =
          let k : 0 + length text ≤ length out = omega (arith, leb-true (length text) (length out) q) in
          let m : n ≡ length text = omega (arith, is, after_room out 0 text k) in
          rw m (sym (written_room out text (omega arith)))
      go false q =
          let k : length out < 0 + length text = omega (arith, leb-false (length text) (length out) q) in
          absurd (z (is ∙ after_full out 0 text k))

-- ---- the calls

-- the signature of an accepted text is short
pub form_signature : (form : List ℕ) {p : Parts} → some p ≡ parts_of_form form → length p.signature ≤ 64
form_signature form {p} e = good_signature p (form_good form p (sym e))

pub code_signature : (code : List ℕ) {p : Parts} → some p ≡ parts_of_code code → length p.signature ≤ 64
code_signature code {p} e = good_signature p (code_good code p (sym e))

module _ (form out : List ℕ) where
  pub code_refused : none ≡ parts_of_form form → (record { number = 22; length = 0 } ≡ code_answer form out) × (out ≡ code_buffer form out)
  unfolding code_answer code_buffer
  code_refused e = (rw (sym e), rw (sym e))

  pub code_accepted : {p : Parts} {a : Answer} {out' : List ℕ} → some p ≡ parts_of_form form → (a ≡ written out (code_text p)) × (out' ≡ placed out 0 (code_text p))
      → (a ≡ code_answer form out) × (out' ≡ code_buffer form out)
  unfolding code_answer code_buffer
  code_accepted e h = (rw (sym e) h.0, rw (sym e) h.1)

module _ (code out : List ℕ) where
  pub uncode_refused : none ≡ parts_of_code code → (record { number = 24; length = 0 } ≡ uncode_answer code out) × (out ≡ uncode_buffer code out)
  unfolding uncode_answer uncode_buffer
  uncode_refused e = (rw (sym e), rw (sym e))

  module _ {p : Parts} {a : ℕ} {out' : List ℕ} (e : some p ≡ parts_of_code code) (h : (a ≡ place_after out 0 (signed_form p)) × (out' ≡ placed out 0 (signed_form p))) where
    pub uncode_full : a ≡ 0 → (record { number = 23; length = 0 } ≡ uncode_answer code out) × (out' ≡ uncode_buffer code out)
    unfolding uncode_answer uncode_buffer
    uncode_full z =
        let l : 1 ≤ length (signed_form p) = omega (arith, length_form p) in
        (rw (sym e) (wrote_none out (signed_form p) a h.0 z l), rw (sym e) h.1)

    pub uncode_written : (a ≡ 0 → ⊥) → (record { number = 0; length = a } ≡ uncode_answer code out) × (out' ≡ uncode_buffer code out)
    unfolding uncode_answer uncode_buffer
    uncode_written z = (rw (sym e) (wrote_some out (signed_form p) a h.0 z), rw (sym e) h.1)

-- ---- the ID field

pub no_id : (code : List ℕ) → none ≡ parts_of_code code → id_place code ≡ nowhere
unfolding id_place
no_id code e = rw (sym e)

module _ (code : List ℕ) {p : Parts} (e : some p ≡ parts_of_code code) where
  -- the payload lies in the code
  pub payload_within : length p.payload ≤ length code
  payload_within = omega (arith, ap length (code_payload code p (sym e)), length-take (last_at 95 code) code)

  pub no_second : length p.payload ≤ next_at 95 p.payload 1 → id_place code ≡ nowhere
  unfolding id_place id_there id_start id_end
  no_second h =
      let k : length p.payload ≤ next_at 95 p.payload (next_at 95 p.payload 1 + 1) = omega (arith, next_from 95 p.payload (next_at 95 p.payload 1 + 1)) in
      rw (sym e, le-ltb (next_at 95 p.payload (next_at 95 p.payload 1 + 1)) (length p.payload) k)

  module _ {a : ℕ} (is : next_at 95 p.payload 1 ≡ a) where
    pub no_third : length p.payload ≤ next_at 95 p.payload (a + 1) → id_place code ≡ nowhere
    unfolding id_place id_there id_start id_end
    no_third h = rw (sym e, is, le-ltb (next_at 95 p.payload (a + 1)) (length p.payload) h)

    module _ {k : ℕ} (ends : next_at 95 p.payload (a + 1) ≡ k) where
      pub nothing_between : k ≤ a + 1 → id_place code ≡ nowhere
      unfolding id_place id_there id_start id_end
      nothing_between h = rw (sym e, is, ends, le-ltb (a + 1) k h, and-false (ltb k (length p.payload)))

      pub id_found : k < length p.payload → a + 1 < k → record { start = a + 1; end = k } ≡ id_place code
      unfolding id_place id_there id_start id_end
      id_found h l = rw (sym e, is, ends, lt-ltb k (length p.payload) h, lt-ltb (a + 1) k l)

-- the part at the place that was found, and where it lies
pub field_at : (m : ℕ × ℕ) (code : List ℕ) {x : Part} → x ≡ id_place code
    → (part x.start x.end code ≡ id_field code) × ((m.0, x.start + m.1) ≡ further m (id_place code).start)
unfolding id_field
field_at m code {x} e =
    let o : x.start + m.1 ≡ m.1 + (id_place code).start = add_comm x.start m.1 ∙ ap (λ (y : Part). m.1 + y.start) e in
    (rw e, λ i. (m.0, o i))
