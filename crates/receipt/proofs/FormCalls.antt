-- What the functions of the compact form show at their returns, over plain lists.
use Rattle.std.proofs.Common.{ℕ, ◌+◌, ◌*◌, ◌/◌, ◌≤◌, ◌<◌, ◌≡◌, refl, sym, ap, ◌∙◌, Bool, true, false, cond, List, [], ◌∷◌, ◌++◌, append_assoc, arith, lt-ltb, le-ltb, leb-true, leb-false, leb, eqb, length, take, drop, length-append}
use mathlib.Core.Option.{Option, none, some}
use Rattle.primitives.specs.Place.{overwrite, placed, place_after}
use Rattle.primitives.specs.Bytes.{same}
use Rattle.primitives.specs.Base64.{answer_of, buffer_of, encoding, decoding}
use Rattle.std.specs.Prelude as Rust
use Rattle.std.specs.Prelude.{Result, Some, None}
use Rattle.std.specs.Result.{result_ok}
use Rattle.std.specs.Cmp.Lexicographic.{pointwise}
use Rattle.primitives.specs.declared.base64.DecodeError.{DecodeError}
use Rattle.primitives.specs.declared.base64.Alphabet.TheVariants.{UrlSafe}
use Rattle.primitives.proofs.Over.{placed_room, after_room, room_true, room_false, length_placed, length_over, read_over, then}
use Rattle.primitives.proofs.Base64Lengths.{length_encoding}
use Rattle.receipt.specs.Form.{next_at, part, parts, good_parts, signed_input, signed_form, second_dot, parts_of_form, first_element}
use Rattle.receipt.specs.Payload.{longest_payload}
use Rattle.receipt.specs.FormReading.{fitting}
use Rattle.receipt.proofs.Texts.{first_long}
use Rattle.receipt.proofs.CodeTexts.{fit_parts}
use Rattle.receipt.proofs.Forms.{length_form}
use Rattle.receipt.proofs.Worded.{same_is, same_turned}

-- ---- reading BASE64 to the start of a buffer

module _ (o : Option (List ℕ)) (out : List ℕ) {d : Result ℕ DecodeError} {r : Rust.Option ℕ} (is : d ≡ answer_of o out 0) (told : r ≡ result_ok d) where
  pub decoded_upto : {n : ℕ} {out' : List ℕ} → r ≡ Some n → out' ≡ buffer_of o out 0 → (n ≤ length out) × (some (take n out') ≡ fitting (length out) o)
  decoded_upto {n} {out'} u b = cases o (sym u ∙ told ∙ ap result_ok is) b
    where
      cases : (q : Option (List ℕ)) → Some n ≡ result_ok (answer_of q out 0) → out' ≡ buffer_of q out 0 → (n ≤ length out) × (some (take n out') ≡ fitting (length out) q)
      cases none e b = let z : ◌≡◌ {A = ℕ} 0 1 = cc in absurd (omega arith)
      cases (some ys) e b = fits (leb (length ys) (length out)) refl
        where
          fits : (t : Bool) → leb (length ys) (length out) ≡ t → (n ≤ length out) × (some (take n out') ≡ cond t (some ys) none)
          fits true q =
              let h : 0 + length ys ≤ length out = omega (arith, leb-true (length ys) (length out) q) in
              let k : Some n ≡ Some (0 + length ys) = rw (room_true out 0 ys h) at e in
              let m : n ≡ 0 + length ys = cc in
              let m₁ : n ≡ length ys = omega arith in
              (omega arith, (λ i. some (take (m₁ i) ((b ∙ placed_room out 0 ys h) i))) ∙ ap some (read_over out 0 ys h))
          fits false q =
              let h : length out < 0 + length ys = omega (arith, leb-false (length ys) (length out) q) in
              let k : Some n ≡ None = rw (room_false out 0 ys h) at e in
              let z : ◌≡◌ {A = ℕ} 0 1 = cc in
              absurd (omega arith)

  pub decoded_not : r ≡ None → none ≡ fitting (length out) o
  decoded_not u = cases o (sym u ∙ told ∙ ap result_ok is)
    where
      cases : (q : Option (List ℕ)) → None ≡ result_ok (answer_of q out 0) → none ≡ fitting (length out) q
      cases none e = refl
      cases (some ys) e = fits (leb (length ys) (length out)) refl
        where
          fits : (t : Bool) → leb (length ys) (length out) ≡ t → none ≡ cond t (some ys) none
          fits true q =
              let h : 0 + length ys ≤ length out = omega (arith, leb-true (length ys) (length out) q) in
              let k : None ≡ Some (0 + length ys) = rw (room_true out 0 ys h) at e in
              let z : ◌≡◌ {A = ℕ} 0 1 = cc in
              absurd (omega arith)
          fits false q = refl

-- ---- reading a compact form

module _ (form : List ℕ) {first : List ℕ} (is : first ≡ first_element) {r : Bool} (begins : r ≡ pointwise eqb first (take (length first) form)) where
  begins_with : r ≡ same (take 21 form) first_element
  begins_with =
      begins ∙ (λ i. pointwise eqb (is i) (take (length (is i)) form)) ∙ (λ i. pointwise eqb first_element (take (first_long i) form))
      ∙ same_is first_element (take 21 form) ∙ same_turned first_element (take 21 form)

  pub dot_other : r ≡ false → length form ≤ second_dot form
  unfolding second_dot
  dot_other t = rw (sym begins_with ∙ t) (omega arith)

  pub dot_next : r ≡ true → second_dot form ≡ next_at 46 form 21
  unfolding second_dot
  dot_next t = rw (sym begins_with ∙ t)

-- the parts of two elements, read into a buffer of the longest payload and one of 64 bytes
pub form_parts : (form x y : List ℕ) → second_dot form < length form → x ≡ part 21 (second_dot form) form → y ≡ drop (second_dot form + 1) form → {a b : ℕ} → a ≡ longest_payload
    → b ≡ 64 → {o₁ o₂ : Option (List ℕ)} → o₁ ≡ fitting a (decoding UrlSafe x) → o₂ ≡ fitting b (decoding UrlSafe y) → good_parts o₁ o₂ ≡ parts_of_form form
unfolding parts_of_form
form_parts form x y h p q la lb e₁ e₂ =
    (λ i. good_parts (e₁ i) (e₂ i)) ∙ (λ i. good_parts (fitting (la i) (decoding UrlSafe (p i))) (fitting (lb i) (decoding UrlSafe (q i))))
    ∙ fit_parts (decoding UrlSafe (part 21 (second_dot form) form)) (decoding UrlSafe (drop (second_dot form + 1) form)) ∙ rw (lt-ltb (second_dot form) (length form) h)

pub form_none : (form : List ℕ) → length form ≤ second_dot form → none ≡ parts_of_form form
unfolding parts_of_form
form_none form h = rw (le-ltb (second_dot form) (length form) h)

-- ---- writing

-- one more text after what was written
pub put_next : (b ys zs : List ℕ) (at : ℕ) {at' : ℕ} {b₁ b₂ : List ℕ} → b₁ ≡ overwrite b at ys → b₂ ≡ placed b₁ at' zs → at' ≡ at + length ys
    → at + length ys + length zs ≤ length b → b₂ ≡ overwrite b at (ys ++ zs)
put_next b ys zs at {at'} {b₁} p q e h =
    then b ys zs at at' p
    (q ∙ placed_room b₁ at' zs (omega (arith, ap length p, length_over b at ys (omega arith)))) e (omega arith)

-- "." and an element
module _ (s out : List ℕ) where
  pub put_element : (at : ℕ) {r : ℕ} {out₁ out₂ : List ℕ} → at + length ((46 ∷ []) ++ encoding UrlSafe s) ≤ length out → out₁ ≡ placed out at (46 ∷ [])
      → r ≡ place_after out₁ (at + 1) (encoding UrlSafe s) → out₂ ≡ placed out₁ (at + 1) (encoding UrlSafe s)
      → (r ≡ at + length ((46 ∷ []) ++ encoding UrlSafe s)) × (out₂ ≡ overwrite out at ((46 ∷ []) ++ encoding UrlSafe s))
  put_element at {r} {out₁} h e₁ f e₂ =
      let l : length out₁ ≡ length out = ap length e₁ ∙ length_placed out at (46 ∷ []) in
      (f ∙ after_room out₁ (at + 1) (encoding UrlSafe s) (omega arith) ∙ omega arith, put_next out (46 ∷ []) (encoding UrlSafe s) at (e₁ ∙ placed_room out at (46 ∷ []) (omega arith)) e₂ refl (omega arith))

-- ---- writing a compact form

pub length_input : (p : List ℕ) → length (signed_input p) ≡ 21 + (length p * 4 + 2) / 3
length_input p =
    omega (arith, length-append first_element (encoding UrlSafe p), first_long, length_encoding UrlSafe p)

module _ (p out : List ℕ) (at : ℕ) (h : at + (21 + (length p * 4 + 2) / 3) ≤ length out) {out₁ out₂ : List ℕ} {r : ℕ} where
  pub put_signed_input : {f : List ℕ} → f ≡ first_element → out₁ ≡ placed out at f → r ≡ place_after out₁ (at + 21) (encoding UrlSafe p) → out₂ ≡ placed out₁ (at + 21) (encoding UrlSafe p)
      → (r ≡ place_after out at (signed_input p)) × (out₂ ≡ placed out at (signed_input p))
  put_signed_input e e₁ f e₂ =
      let l : length (signed_input p) ≡ 21 + (length p * 4 + 2) / 3 = length_input p in
      let m : length (encoding UrlSafe p) ≡ (length p * 4 + 2) / 3 = length_encoding UrlSafe p in
      let k : at + length (signed_input p) ≤ length out = omega arith in
      let w₁ : out₁ ≡ overwrite out at first_element = e₁ ∙ ap (placed out at) e ∙ placed_room out at first_element (omega (arith, first_long)) in
      let n : length out₁ ≡ length out = ap length w₁ ∙ length_over out at first_element (omega (arith, first_long)) in (
        f ∙ after_room out₁ (at + 21) (encoding UrlSafe p) (omega arith) ∙ omega arith ∙ sym (after_room out at (signed_input p) k),
        put_next out first_element (encoding UrlSafe p) at w₁ e₂ (omega (arith, first_long)) (omega (arith, first_long)) ∙ sym (placed_room out at (signed_input p) k),
      )

module _ (p s out : List ℕ) (at : ℕ) (h : at + (22 + (length p * 4 + 2) / 3 + (length s * 4 + 2) / 3) ≤ length out) {r : ℕ} {out₁ : List ℕ}
    (e₁ : (r ≡ place_after out at (signed_input p)) × (out₁ ≡ placed out at (signed_input p))) where
  fits : at + length (signed_input p) ≤ length out
  fits = omega (arith, length_input p)

  -- room for the third element
  pub room_third : r + length ((46 ∷ []) ++ encoding UrlSafe s) ≤ length out₁
  room_third =
      omega (
        arith,
        e₁.0,
        after_room out at (signed_input p) fits,
        length_input p,
        length_encoding UrlSafe s,
        ap length e₁.1,
        length_placed out at (signed_input p),
      )

  pub put_form : {r₂ : ℕ} {out₂ : List ℕ}
      → (r₂ ≡ r + length ((46 ∷ []) ++ encoding UrlSafe s)) × (out₂ ≡ overwrite out₁ r ((46 ∷ []) ++ encoding UrlSafe s))
      → (r₂ ≡ place_after out at (signed_form (parts p s))) × (out₂ ≡ placed out at (signed_form (parts p s)))
  unfolding signed_form
  put_form {r₂} {out₂} e₂ =
      let t : List ℕ = signed_input p in
      let a : List ℕ = (46 ∷ []) ++ encoding UrlSafe s in
      let k : at + length (signed_form (parts p s)) ≤ length out = omega (arith, length_form (parts p s)) in
      let q : r ≡ at + length t = e₁.0 ∙ after_room out at t fits in
      let w₁ : out₁ ≡ overwrite out at t = e₁.1 ∙ placed_room out at t fits in
      let w₂ : out₂ ≡ overwrite out at (t ++ a) = then out t a at r w₁ e₂.1 q fits in (
        omega (arith, e₂.0, q, length_input p, length_form (parts p s), length_encoding UrlSafe s, after_room out at (signed_form (parts p s)) k),
        w₂ ∙ ap (overwrite out at) (sym (append_assoc t (46 ∷ []) (encoding UrlSafe s))) ∙ sym (placed_room out at (signed_form (parts p s)) k),
      )
