-- The compact form: it is read back to the parts it was made of, and has no other spelling.
use Rattle.std.proofs.Common.{ℕ, suc, ◌+◌, ◌-◌, ◌*◌, ◌/◌, ◌≤◌, ◌<◌, ◌≡◌, refl, sym, ap, ◌∙◌, Bool, true, false, cond, List, [], ◌∷◌, ◌++◌, append_assoc, arith, lt-ltb, ltb-true, ltb, length, get_or, take, drop, length-append, length-drop, take-append-drop, take_at, drop_at, drop-drop, get_or-drop}
use mathlib.Core.Option.{Option, none, some}
use lib.Seq.{split_at, append_snoc}
use Rattle.primitives.specs.Bytes.{AllBytes, same}
use Rattle.primitives.specs.Base64.{encoding, decoding}
use Rattle.primitives.specs.declared.base64.Alphabet.TheVariants.{UrlSafe}
use Rattle.primitives.proofs.ByteLists.{bytes_take, bytes_drop, same_refl, same_true}
use Rattle.primitives.proofs.Base64Lengths.{length_encoding}
use Rattle.primitives.proofs.Base64Laws.{no_dot, decode_encode, encode_decode, decoded_bytes}
use Rattle.receipt.specs.Form.{next_at, part, Without, Parts, parts_good, PartsOfBytes, signed_form, good_parts, second_dot, parts_of_form, header, first_element}
use Rattle.receipt.specs.Compact.{longest_compact}
use Rattle.receipt.specs.CodeLaws.{FormIsExact, FormIsShort}
use Rattle.receipt.proofs.Finding.{next_is, next_from, next_without}
use Rattle.receipt.proofs.Texts.{first_long}
use Rattle.receipt.proofs.CodeTexts.{good_payload, good_signature, good_some, Inverted, good_inverted, exactly}

-- a choice that gave parts
pub chosen : (t : Bool) (o : Option Parts) {p : Parts} → cond t o none ≡ some p → (t ≡ true) × (o ≡ some p)
chosen true o e = (refl, e)
chosen false o e = let z : ◌≡◌ {A = ℕ} 0 1 = cc in absurd (omega arith)

-- ---- compact form

regroup : (h x y : List ℕ) → h ++ (46 ∷ []) ++ x ++ (46 ∷ []) ++ y ≡ (h ++ (46 ∷ [])) ++ (x ++ (46 ∷ y))
regroup h x y = simp append_assoc

module _ (f x y : List ℕ) (long : length f ≡ 21) where
  spread : length (f ++ (x ++ (46 ∷ y))) ≡ 21 + length x + 1 + length y
  spread = omega (arith, long, length-append f (x ++ (46 ∷ y)), length-append x (46 ∷ y))

  after_header : drop 21 (f ++ (x ++ (46 ∷ y))) ≡ x ++ (46 ∷ y)
  after_header = drop_at f (x ++ (46 ∷ y)) 21 long

  second : (e : ℕ) → e ≡ 21 + length x → part 21 e (f ++ (x ++ (46 ∷ y))) ≡ x
  second e q = rw after_header (take_at x (46 ∷ y) (e - 21) (omega arith))

  third : (e : ℕ) → e ≡ 21 + length x → drop (e + 1) (f ++ (x ++ (46 ∷ y))) ≡ y
  third e q =
      let d : e + 1 ≡ 21 + suc (length x) = omega arith in
      ap (λ (n : ℕ). drop n (f ++ (x ++ (46 ∷ y)))) d
      ∙ sym (drop-drop (suc (length x)) 21 (f ++ (x ++ (46 ∷ y))))
      ∙ ap (drop (suc (length x))) (after_header ∙ sym (append_snoc x 46 y))
      ∙ drop_at (x ++ (46 ∷ [])) y (suc (length x)) (omega (arith, length-append x (46 ∷ [])))

dotless : (xs : List ℕ) → Without 46 (encoding UrlSafe xs)
dotless xs = record { at = no_dot UrlSafe xs }

module _ (p : Parts) where
  x : List ℕ
  x = encoding UrlSafe p.payload

  y : List ℕ
  y = encoding UrlSafe p.signature

  form_is : signed_form p ≡ first_element ++ (x ++ (46 ∷ y))
  unfolding signed_form x y
  form_is = regroup (encoding UrlSafe header) x y

  dot_is : second_dot (first_element ++ (x ++ (46 ∷ y))) ≡ 21 + length x
  unfolding second_dot x y
  dot_is =
      rw (take_at first_element (x ++ (46 ∷ y)) 21 first_long, same_refl first_element)
      (next_without 46 first_element x y 21 first_long (dotless p.payload))

  -- the second "." stands after the payload's element
  pub form_dot : second_dot (signed_form p) ≡ 21 + length (encoding UrlSafe p.payload)
  unfolding x
  form_dot = ap second_dot form_is ∙ dot_is

  -- good parts of bytes are read back from their compact form
  pub form_back : parts_good p ≡ true → PartsOfBytes p → parts_of_form (signed_form p) ≡ some p
  unfolding parts_of_form x y
  form_back g b =
      let t : List ℕ = first_element ++ (x ++ (46 ∷ y)) in
      let l : second_dot t < length t = omega (arith, dot_is, spread first_element x y first_long) in
      rw (form_is, lt-ltb (second_dot t) (length t) l, second first_element x y first_long (second_dot t) dot_is, third first_element x y first_long (second_dot t) dot_is, decode_encode UrlSafe p.payload b.payload, decode_encode UrlSafe p.signature b.signature)
      (good_some p g)

  pub length_form : length (signed_form p) ≡ 22 + (length p.payload * 4 + 2) / 3 + (length p.signature * 4 + 2) / 3
  unfolding x y
  length_form =
      ap length form_is
      ∙ omega (arith, spread first_element x y first_long, length_encoding UrlSafe p.payload, length_encoding UrlSafe p.signature)

  form_short_of : parts_good p ≡ true → length (signed_form p) ≤ longest_compact
  form_short_of g = omega (arith, length_form, good_payload p g, good_signature p g)

-- where there is a second dot, the first element is the header's
module _ (t : List ℕ) where
  pub dot_inverted : second_dot t < length t → (take 21 t ≡ first_element) × (second_dot t ≡ next_at 46 t 21)
  unfolding second_dot
  dot_inverted h = go (same (take 21 t) first_element) refl h
    where
      go : (b : Bool) → same (take 21 t) first_element ≡ b → cond b (next_at 46 t 21) (length t) < length t
          → (take 21 t ≡ first_element) × (cond b (next_at 46 t 21) (length t) ≡ next_at 46 t 21)
      go true e k = (same_true (take 21 t) first_element e, refl)
      go false e k = absurd (omega arith)

  -- cut at a place where b stands
  pub cut : (b from e : ℕ) → from ≤ e → e < length t → get_or t e 0 ≡ b → drop from t ≡ part from e t ++ (b ∷ drop (e + 1) t)
  cut b from e h k q =
      let d : from + (e - from) ≡ e = omega arith in
      let d₁ : from + suc (e - from) ≡ e + 1 = omega arith in
      split_at (drop from t) (e - from) 0 (omega (arith, length-drop from t))
      ∙ (λ i. part from e t ++ ((get_or-drop from t (e - from) 0 ∙ ap (λ (n : ℕ). get_or t n 0) d ∙ q) i
      ∷ (drop-drop (suc (e - from)) from t ∙ ap (λ (n : ℕ). drop n t) d₁) i))

  module _ (p : Parts) (e : parts_of_form t ≡ some p) where
    form_inverted : (second_dot t < length t) × Inverted (decoding UrlSafe (part 21 (second_dot t) t)) (decoding UrlSafe (drop (second_dot t + 1) t)) p
    unfolding parts_of_form
    form_inverted =
        let c = chosen (ltb (second_dot t) (length t)) (good_parts (decoding UrlSafe (part 21 (second_dot t) t)) (decoding UrlSafe (drop (second_dot t + 1) t))) e in
        (ltb-true (second_dot t) (length t) c.0, good_inverted (decoding UrlSafe (part 21 (second_dot t) t)) (decoding UrlSafe (drop (second_dot t + 1) t)) p c.1)

    pub form_good : parts_good p ≡ true
    form_good = form_inverted.1.good

    -- what is read is bytes
    pub form_bytes : PartsOfBytes p
    form_bytes =
        record {
          payload = decoded_bytes UrlSafe (part 21 (second_dot t) t) p.payload form_inverted.1.payload;
          signature = decoded_bytes UrlSafe (drop (second_dot t + 1) t) p.signature form_inverted.1.signature;
        }

    module _ (b : AllBytes t) where
      second_is : part 21 (second_dot t) t ≡ x p
      unfolding x
      second_is = encode_decode UrlSafe (part 21 (second_dot t) t) p.payload (bytes_take (second_dot t - 21) (bytes_drop 21 b)) form_inverted.1.payload

      third_is : drop (second_dot t + 1) t ≡ y p
      unfolding y
      third_is = encode_decode UrlSafe (drop (second_dot t + 1) t) p.signature (bytes_drop (second_dot t + 1) b) form_inverted.1.signature

    -- an accepted text is the compact form of its parts
    pub form_only : AllBytes t → t ≡ signed_form p
    form_only b =
        let k : ℕ = second_dot t in
        let h : k < length t = form_inverted.0 in
        let n : k ≡ next_at 46 t 21 = (dot_inverted h).1 in
        let g : get_or t k 0 ≡ 46 = ap (λ (m : ℕ). get_or t m 0) n ∙ next_is 46 t 21 (omega arith) in
        let q₁ : part 21 k t ≡ x p = second_is b in
        let q₂ : drop (k + 1) t ≡ y p = third_is b in
        sym (take-append-drop 21 t)
        ∙ (λ i. (dot_inverted h).0 i ++ (cut 46 21 k (omega (arith, next_from 46 t 21)) h g ∙ (λ j. q₁ j ++ (46 ∷ q₂ j))) i)
        ∙ sym (form_is p)

-- ---- the laws

pub form_exact : FormIsExact
form_exact t b =
    exactly signed_form t (parts_of_form t)
    (λ p e. record { good = form_good t p e; bytes = form_bytes t p e; is = form_only t p e b })
    (λ p w. ap parts_of_form w.is ∙ form_back p w.good w.bytes)

pub form_short : FormIsShort
form_short = form_short_of
