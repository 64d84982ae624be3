-- The fields of a code or of a line: good fields are read back from their text, and have no other text.
use Rattle.std.proofs.Common.{ℕ, ◌+◌, ◌-◌, ◌≤◌, ◌≡◌, refl, sym, ap, ◌∙◌, subst, Bool, true, false, cond, List, append_assoc, arith, eqb-true, eqb, length, take, drop}
use mathlib.Core.Option.{Option, none, some}
use Rattle.primitives.specs.Bytes.{AllBytes}
use Rattle.primitives.proofs.ByteLists.{bytes_take, bytes_drop}
use Rattle.primitives.proofs.Rows.{both}
use Rattle.receipt.specs.Payload.{longest_payload}
use Rattle.receipt.specs.Form.{part, Without, Parts, parts, parts_good}
use Rattle.receipt.specs.Code.{code_text}
use Rattle.receipt.specs.Line.{spell, unspell, CodeFields, FieldsOfBytes, count_of, twelve, payload_in, text_in, code_fields_good, signature_mark, chain_mark, serial_mark, counter_mark, marks_there, with_fields, fields_of}
use Rattle.receipt.specs.LineLaws.{SpelledAs}
use Rattle.receipt.specs.declared.optical_line.Spelling.{Spelling}
use Rattle.receipt.specs.declared.optical_line.Spelling.TheVariants.{Base64}
use Rattle.receipt.proofs.CodeTexts.{good_payload, good_signature}
use Rattle.receipt.proofs.MarkCounts.{none_counted}
use Rattle.receipt.proofs.Spellings.{spell_back, spell_only, unspell_bytes, spell_none}
use Rattle.receipt.proofs.LineMarks.{four, fields_split, text_split}

-- ---- good fields

module _ (f : CodeFields) (g : code_fields_good f ≡ true) where
  pub good_twelve : twelve f ≡ true
  unfolding code_fields_good
  good_twelve = (both (twelve f) _ g).0

  pub good_parts_lem : parts_good (parts (payload_in Base64 f) f.signature) ≡ true
  unfolding code_fields_good
  good_parts_lem = (both (twelve f) (parts_good (parts (payload_in Base64 f) f.signature)) g).1

  pub good_most : (length (payload_in Base64 f) ≤ longest_payload) × (length f.signature ≤ 64)
  good_most = let p = parts (payload_in Base64 f) f.signature in (good_payload p good_parts_lem, good_signature p good_parts_lem)

-- the counts of twelve fields
module _ (f : CodeFields) (t : twelve f ≡ true) where
  counts : (eqb (count_of 95 f.start) 9 ≡ true) × (eqb (count_of 95 f.serial) 0 ≡ true)
  unfolding twelve
  counts = both (eqb (count_of 95 f.start) 9) (eqb (count_of 95 f.serial) 0) t

  pub start_nine : count_of 95 f.start ≡ 9
  start_nine = eqb-true (count_of 95 f.start) 9 counts.0

  pub serial_none : Without 95 f.serial
  serial_none = none_counted 95 f.serial (eqb-true (count_of 95 f.serial) 0 counts.1)

-- ---- good fields are read back

module _ (s : Spelling) (f : CodeFields) where
  pub text_is : text_in s f ≡ four f.start (spell s f.counter) f.serial (spell s f.chain) (spell s f.signature)
  unfolding text_in payload_in
  text_is = simp append_assoc

  pub fields_back : code_fields_good f ≡ true → FieldsOfBytes f → fields_of s (text_in s f) ≡ some f
  fields_back g b =
      ap (fields_of s) text_is
      ∙ fields_split f.start (spell s f.counter) f.serial (spell s f.chain) (spell s f.signature) (spell_none s f.counter) (serial_none f (good_twelve f g))
      (spell_none s f.chain) (spell_none s f.signature) s
      ∙ (λ i. with_fields f.start (spell_back s f.counter b.counter i) f.serial (spell_back s f.chain b.chain i) (spell_back s f.signature b.signature i))
      ∙ rw g

-- ---- what is read

-- five texts that are good fields
record Inverted (a : List ℕ) (b : Option (List ℕ)) (c : List ℕ) (d e : Option (List ℕ)) (f : CodeFields) : Type 0 where
  start : a ≡ f.start
  counter : b ≡ some f.counter
  serial : c ≡ f.serial
  chain : d ≡ some f.chain
  signature : e ≡ some f.signature
  good : code_fields_good f ≡ true

inverted : (a : List ℕ) (b : Option (List ℕ)) (c : List ℕ) (d e : Option (List ℕ)) (f : CodeFields) → with_fields a b c d e ≡ some f → Inverted a b c d e f
inverted a none c d e f q = let z : ◌≡◌ {A = ℕ} 0 1 = cc in absurd (omega arith)
inverted a (some b) c none e f q = let z : ◌≡◌ {A = ℕ} 0 1 = cc in absurd (omega arith)
inverted a (some b) c (some d) none f q = let z : ◌≡◌ {A = ℕ} 0 1 = cc in absurd (omega arith)
inverted a (some b) c (some d) (some e) f q = go (code_fields_good h) refl q
  where
    h : CodeFields
    h = record { start = a; counter = b; serial = c; chain = d; signature = e }

    go : (t : Bool) → code_fields_good h ≡ t → cond t (some h) none ≡ some f → Inverted a (some b) c (some d) (some e) f
    go false p r = let z : ◌≡◌ {A = ℕ} 0 1 = cc in absurd (omega arith)
    go true p r =
        let k : h ≡ f = cc in
        record {
          start = ap (λ (x : CodeFields). x.start) k;
          counter = ap (λ (x : CodeFields). some x.counter) k;
          serial = ap (λ (x : CodeFields). x.serial) k;
          chain = ap (λ (x : CodeFields). some x.chain) k;
          signature = ap (λ (x : CodeFields). some x.signature) k;
          good = ap code_fields_good (sym k) ∙ p;
        }

module _ (s : Spelling) (text : List ℕ) (f : CodeFields) where
  abbrev Read : Type 0
  Read =
      Inverted (take (counter_mark text) text) (unspell s (part (counter_mark text + 1) (serial_mark text) text)) (part (serial_mark text + 1) (chain_mark text) text)
      (unspell s (part (chain_mark text + 1) (signature_mark text) text)) (unspell s (drop (signature_mark text + 1) text)) f

  read : fields_of s text ≡ some f → (marks_there text ≡ true) × Read
  unfolding fields_of
  read e = go (marks_there text) refl e
    where
      found : Option CodeFields
      found =
          with_fields (take (counter_mark text) text) (unspell s (part (counter_mark text + 1) (serial_mark text) text)) (part (serial_mark text + 1) (chain_mark text) text)
          (unspell s (part (chain_mark text + 1) (signature_mark text) text)) (unspell s (drop (signature_mark text + 1) text))

      go : (t : Bool) → marks_there text ≡ t → cond t found none ≡ some f → (marks_there text ≡ true) × Read
      go true q r = (q, inverted _ _ _ _ _ f r)
      go false q r = let z : ◌≡◌ {A = ℕ} 0 1 = cc in absurd (omega arith)

  -- fields that were found are good, are bytes, and the text is their spelling
  pub fields_only : AllBytes text → fields_of s text ≡ some f → SpelledAs s text f
  fields_only b e =
      let r = (read e).1 in
      let m₁ : ℕ = signature_mark text in
      let m₂ : ℕ = chain_mark text in
      let m₃ : ℕ = serial_mark text in
      let m₄ : ℕ = counter_mark text in
      let b₁ : AllBytes (part (m₄ + 1) m₃ text) = bytes_take (m₃ - (m₄ + 1)) (bytes_drop (m₄ + 1) b) in
      let b₂ : AllBytes (part (m₂ + 1) m₁ text) = bytes_take (m₁ - (m₂ + 1)) (bytes_drop (m₂ + 1) b) in
      let b₃ : AllBytes (drop (m₁ + 1) text) = bytes_drop (m₁ + 1) b in
      let q₁ : part (m₄ + 1) m₃ text ≡ spell s f.counter = spell_only s (part (m₄ + 1) m₃ text) f.counter b₁ r.counter in
      let q₂ : part (m₂ + 1) m₁ text ≡ spell s f.chain = spell_only s (part (m₂ + 1) m₁ text) f.chain b₂ r.chain in
      let q₃ : drop (m₁ + 1) text ≡ spell s f.signature = spell_only s (drop (m₁ + 1) text) f.signature b₃ r.signature in
      record {
        good = r.good;
        bytes = record {
          start = subst AllBytes r.start (bytes_take m₄ b);
          counter = unspell_bytes s (part (m₄ + 1) m₃ text) f.counter r.counter;
          serial = subst AllBytes r.serial (bytes_take (m₂ - (m₃ + 1)) (bytes_drop (m₃ + 1) b));
          chain = unspell_bytes s (part (m₂ + 1) m₁ text) f.chain r.chain;
          signature = unspell_bytes s (drop (m₁ + 1) text) f.signature r.signature;
        };
        is = text_split text (read e).0 ∙ (λ i. four (r.start i) (q₁ i) (r.serial i) (q₂ i) (q₃ i)) ∙ sym (text_is s f);
      }

-- a text is the spelling of one set of fields at most
pub one_spelling : (s : Spelling) (text : List ℕ) (f g : CodeFields) → SpelledAs s text f → SpelledAs s text g → f ≡ g
one_spelling s text f g v w =
    let a : fields_of s text ≡ some f = ap (fields_of s) v.is ∙ fields_back s f v.good v.bytes in
    let b : fields_of s text ≡ some g = ap (fields_of s) w.is ∙ fields_back s g w.good w.bytes in
    cc

-- ---- the code of fields

module _ (f : CodeFields) where
  abbrev pub parts_in : Parts
  parts_in = parts (payload_in Base64 f) f.signature

  pub code_of_lem : text_in Base64 f ≡ code_text parts_in
  unfolding text_in code_text
  code_of_lem = refl
