-- Compact form and code say the same: a code too is read back to its parts and has no other spelling, and the calls undo each other.
use Rattle.std.proofs.Common.{ℕ, ◌+◌, ◌-◌, ◌*◌, ◌/◌, ◌≤◌, ◌<◌, ◌≡◌, sym, ap, ◌∙◌, subst, true, List, [], ◌∷◌, ◌++◌, arith, lt-ltb, ltb-true, ltb, length, take, drop, length-append, take_at, drop_at}
use mathlib.Core.Option.{some}
use lib.Seq.{append_snoc}
use Rattle.primitives.specs.Bytes.{AllBytes}
use Rattle.primitives.specs.Base64.{encoding, decoding}
use Rattle.primitives.specs.declared.base64.Alphabet.TheVariants.{Standard}
use Rattle.primitives.proofs.ByteLists.{bytes_take, bytes_drop}
use Rattle.primitives.proofs.Base64Lengths.{length_encoding}
use Rattle.primitives.proofs.Base64Laws.{no_underscore, decode_encode, encode_decode, decoded_bytes}
use Rattle.receipt.specs.Form.{part, Parts, parts_good, PartsOfBytes, signed_form, good_parts, parts_of_form}
use Rattle.receipt.specs.Code.{last_at, code_text, parts_of_code, code_answer, code_buffer, uncode_answer, uncode_buffer}
use Rattle.receipt.specs.Payload.{longest_payload}
use Rattle.receipt.specs.CodeLaws.{CodeIsExact, CodeIsShort, UncodeAfterCode, CodeAfterUncode}
use Rattle.receipt.proofs.Finding.{last_is, last_without}
use Rattle.receipt.proofs.CodeTexts.{good_payload, good_signature, good_some, Inverted, good_inverted, exactly}
use Rattle.receipt.proofs.Forms.{chosen, cut, form_good, form_bytes, form_back, form_only}
use Rattle.receipt.proofs.Undoing.{round}

-- ---- code

module _ (p : Parts) where
  z : List ℕ
  z = encoding Standard p.signature

  code_is : code_text p ≡ p.payload ++ (95 ∷ z)
  unfolding code_text z
  code_is = append_snoc p.payload 95 z

  mark_is : last_at 95 (p.payload ++ (95 ∷ z)) ≡ length p.payload
  unfolding z
  mark_is = last_without 95 p.payload z (record { at = no_underscore p.signature })

  rest_is : (k : ℕ) → k ≡ length p.payload → drop (k + 1) (p.payload ++ (95 ∷ z)) ≡ z
  rest_is k e =
      ap (drop (k + 1)) (sym (append_snoc p.payload 95 z))
      ∙ drop_at (p.payload ++ (95 ∷ [])) z (k + 1) (omega (arith, length-append p.payload (95 ∷ [])))

  -- good parts of bytes are read back from their code
  pub code_back : parts_good p ≡ true → PartsOfBytes p → parts_of_code (code_text p) ≡ some p
  unfolding parts_of_code z
  code_back g b =
      let t : List ℕ = p.payload ++ (95 ∷ z) in
      let l : last_at 95 t < length t = omega (arith, mark_is, length-append p.payload (95 ∷ z)) in
      rw (code_is, lt-ltb (last_at 95 t) (length t) l, take_at p.payload (95 ∷ z) (last_at 95 t) (sym mark_is), rest_is (last_at 95 t) mark_is, decode_encode Standard p.signature b.signature)
      (good_some p g)

  pub length_code : length (code_text p) ≡ length p.payload + 1 + (length p.signature + 2) / 3 * 4
  unfolding z
  length_code = ap length code_is ∙ omega (arith, length-append p.payload (95 ∷ z), length_encoding Standard p.signature)

  code_short_of : parts_good p ≡ true → length (code_text p) ≤ longest_payload + 1 + 88
  code_short_of g = omega (arith, length_code, good_payload p g, good_signature p g)

module _ (t : List ℕ) (p : Parts) (e : parts_of_code t ≡ some p) where
  code_inverted : (last_at 95 t < length t) × Inverted (some (take (last_at 95 t) t)) (decoding Standard (drop (last_at 95 t + 1) t)) p
  unfolding parts_of_code
  code_inverted =
      let c = chosen (ltb (last_at 95 t) (length t)) (good_parts (some (take (last_at 95 t) t)) (decoding Standard (drop (last_at 95 t + 1) t))) e in
      (ltb-true (last_at 95 t) (length t) c.0, good_inverted (some (take (last_at 95 t) t)) (decoding Standard (drop (last_at 95 t + 1) t)) p c.1)

  pub code_within : last_at 95 t < length t
  code_within = code_inverted.0

  pub code_good : parts_good p ≡ true
  code_good = code_inverted.1.good

  -- the payload stands at the code's start
  pub code_payload : take (last_at 95 t) t ≡ p.payload
  code_payload = let q : some (take (last_at 95 t) t) ≡ some p.payload = code_inverted.1.payload in cc

  pub code_bytes : AllBytes t → PartsOfBytes p
  code_bytes b =
      record {
        payload = subst AllBytes code_payload (bytes_take (last_at 95 t) b);
        signature = decoded_bytes Standard (drop (last_at 95 t + 1) t) p.signature code_inverted.1.signature;
      }

  rest : AllBytes t → drop (last_at 95 t + 1) t ≡ z p
  unfolding z
  rest b = encode_decode Standard (drop (last_at 95 t + 1) t) p.signature (bytes_drop (last_at 95 t + 1) b) code_inverted.1.signature

  -- an accepted text is the code of its parts
  pub code_only : AllBytes t → t ≡ code_text p
  code_only b =
      let k : ℕ = last_at 95 t in
      let h : k < length t = code_inverted.0 in
      let q : drop (k + 1) t ≡ z p = rest b in
      cut t 95 0 k (omega arith) h (last_is 95 t h)
      ∙ (λ i. first i ++ (95 ∷ q i))
      ∙ sym (code_is p)
    where
      first : part 0 (last_at 95 t) t ≡ p.payload
      first = let d : last_at 95 t - 0 ≡ last_at 95 t = omega arith in ap (λ (n : ℕ). take n t) d ∙ code_payload

-- ---- the laws

pub code_exact : CodeIsExact
code_exact t b =
    exactly code_text t (parts_of_code t)
    (λ p e. record { good = code_good t p e; bytes = code_bytes t p e b; is = code_only t p e b })
    (λ p w. ap parts_of_code w.is ∙ code_back p w.good w.bytes)

pub code_short : CodeIsShort
code_short = code_short_of

-- ---- the calls: Uncode undoes Code, and Code undoes Uncode

pub uncode_code : UncodeAfterCode
unfolding code_answer code_buffer uncode_answer uncode_buffer
uncode_code form out again b accepted room =
    round 22 24 code_text signed_form (parts_of_form form) parts_of_code form out again (λ e. absurd (omega arith)) (λ p e. form_only form p e b)
    (λ p e. code_back p (form_good form p e) (form_bytes form p e)) accepted room

pub code_uncode : CodeAfterUncode
unfolding code_answer code_buffer uncode_answer uncode_buffer
code_uncode code out again b accepted room =
    round 24 22 signed_form code_text (parts_of_code code) parts_of_form code out again (λ e. absurd (omega arith)) (λ p e. code_only code p e b)
    (λ p e. form_back p (code_good code p e) (code_bytes code p e b)) accepted room
