-- What the functions of the optical line show at their returns, over plain lists.
use Rattle.std.proofs.lemmas.Bool.{lt-leb}
use Rattle.std.proofs.Common.{◌≡◌, ℕ, ◌+◌, ◌-◌, ◌*◌, ◌/◌, ◌≤◌, ◌<◌, Bool, true, false, cond, ◌&&◌, List, [], ◌∷◌, ◌++◌, length, take, drop, refl, sym, ap, ◌∙◌, append_assoc, arith, leb, ltb, eqb, leb-true, leb-false, le-leb, lt-ltb, le-ltb, eq-eqb, ne_eqb, length-append}
use Rattle.std.proofs.Math.Option.{Option, none, some}
use Rattle.std.proofs.Math.Seq.{length-take-le}
use Rattle.std.proofs.lemmas.List.{take-append-le, take-take, drop-take}
use mathlib.Core.Bool.{and-false}
use Rattle.primitives.specs.Place.{overwrite, placed, place_after}
use Rattle.primitives.specs.Bytes.{same}
use Rattle.primitives.specs.Base64.{encoding}
use Rattle.primitives.specs.Base32.{encoded_length32}
use Rattle.primitives.specs.Answers.{Answer, written}
use Rattle.primitives.specs.declared.base64.Alphabet.TheVariants.{Standard}
use Rattle.primitives.proofs.Over.{placed_room, after_room, length_over, then}
use Rattle.primitives.proofs.Rows.{both}
use Rattle.primitives.proofs.Base64Lengths.{length_encoding}
use Rattle.primitives.proofs.Base32Laws.{length_encoding32, length32_most}
use Rattle.receipt.specs.Texts.{beginning}
use Rattle.receipt.specs.Payload.{longest_payload}
use Rattle.receipt.specs.Form.{Parts, part, parts, payload_good, signature_good, parts_good}
use Rattle.receipt.specs.Code.{last_at, parts_of_code}
use Rattle.receipt.specs.FormReading.{fitting}
use Rattle.receipt.specs.Line.{spell, unspell, CodeFields, count_of, twelve, payload_in, text_in, code_fields_good, signature_mark, chain_mark, serial_mark, counter_mark, marks_there, good_fields, with_fields, fields_of, line_answer, line_buffer, unline_answer, unline_buffer}
use Rattle.receipt.specs.LineReading.{longest_fields, code_fields, pieces}
use Rattle.receipt.specs.declared.optical_line.Spelling.{Spelling}
use Rattle.receipt.specs.declared.optical_line.Spelling.TheVariants.{Base64, Base32}
use Rattle.receipt.proofs.CodeTexts.{good_payload, good_signature}
use Rattle.receipt.proofs.CodeCalls.{has_room}
use Rattle.receipt.proofs.MarkCounts.{count_most}
use Rattle.receipt.proofs.LineFields.{good_most}
use Rattle.receipt.proofs.Lines.{payload_length}
use Rattle.receipt.proofs.FormCalls.{put_next}

-- ---- the spelled fields

-- the match on the spelling
module _ {s : Spelling} (xs : List ℕ) where
  pub long_64 : {r : ℕ} → s ≡ Base64 → r ≡ (length xs + 2) / 3 * 4 → (r ≡ length (spell s xs)) × (r ≤ 2 * length xs + 8)
  long_64 e q = (rw e (q ∙ sym (length_encoding Standard xs)), omega arith)

  pub long_32 : {r : ℕ} → s ≡ Base32 → r ≡ encoded_length32 (length xs) → (r ≡ length (spell s xs)) × (r ≤ 2 * length xs + 8)
  long_32 e q = (rw e (q ∙ sym (length_encoding32 xs)), omega (arith, q, length_encoding32 xs, length32_most xs))

-- ---- the marks

-- a part of a front, from a place on
front_rest : (a n : ℕ) (s : List ℕ) → a ≤ n → drop a (take n s) ≡ take (n - a) (drop a s)
front_rest a n s h = let e : n ≡ a + (n - a) = omega arith in ap (λ (k : ℕ). drop a (take k s)) e ∙ drop-take a (n - a) s

-- no mark for the signature
pub no_fourth : (text : List ℕ) → length text ≤ last_at 95 text → marks_there text ≡ false
unfolding marks_there signature_mark
no_fourth text h = rw (le-ltb (last_at 95 text) (length text) h)

module _ (text : List ℕ) {t₁ x₁ : List ℕ} (w₁ : (last_at 95 text < length text) × (t₁ ≡ take (last_at 95 text) text) × (x₁ ≡ drop (last_at 95 text + 1) text)) where
  there₁ : ltb (signature_mark text) (length text) ≡ true
  unfolding signature_mark
  there₁ = lt-ltb (last_at 95 text) (length text) w₁.0

  front₁ : t₁ ≡ take (signature_mark text) text
  unfolding signature_mark
  front₁ = w₁.1

  within₁ : signature_mark text < length text
  unfolding signature_mark
  within₁ = w₁.0

  long₁ : length t₁ ≡ signature_mark text
  long₁ = ap length front₁ ∙ length-take-le (signature_mark text) text (omega (arith, within₁))

  last₁ : x₁ ≡ drop (signature_mark text + 1) text
  unfolding signature_mark
  last₁ = w₁.2

  chain_is : last_at 95 t₁ ≡ chain_mark text
  unfolding chain_mark
  chain_is = ap (last_at 95) front₁

  -- nor for the chain field
  pub no_third_mark : length t₁ ≤ last_at 95 t₁ → marks_there text ≡ false
  unfolding marks_there
  no_third_mark h = rw (le-ltb (chain_mark text) (signature_mark text) (omega (arith, h, long₁, chain_is)), and-false (ltb (signature_mark text) (length text)))

  module _ {t₂ x₂ : List ℕ} (w₂ : (last_at 95 t₁ < length t₁) × (t₂ ≡ take (last_at 95 t₁) t₁) × (x₂ ≡ drop (last_at 95 t₁ + 1) t₁)) where
    within₂ : chain_mark text < signature_mark text
    within₂ = omega (arith, w₂.0, long₁, chain_is)

    front₂ : t₂ ≡ take (chain_mark text) text
    front₂ = w₂.1 ∙ (λ i. take (chain_is i) (front₁ i)) ∙ take-take (chain_mark text) (signature_mark text) text (omega (arith, within₂))

    long₂ : length t₂ ≡ chain_mark text
    long₂ = ap length front₂ ∙ length-take-le (chain_mark text) text (omega (arith, within₁, within₂))

    last₂ : x₂ ≡ part (chain_mark text + 1) (signature_mark text) text
    last₂ = w₂.2 ∙ (λ i. drop (chain_is i + 1) (front₁ i)) ∙ front_rest (chain_mark text + 1) (signature_mark text) text (omega (arith, within₂))

    serial_is : last_at 95 t₂ ≡ serial_mark text
    unfolding serial_mark
    serial_is = ap (last_at 95) front₂

    -- nor for the serial
    pub no_second_mark : length t₂ ≤ last_at 95 t₂ → marks_there text ≡ false
    unfolding marks_there
    no_second_mark h =
        rw (le-ltb (serial_mark text) (chain_mark text) (omega (arith, h, long₂, serial_is)), and-false (ltb (chain_mark text) (signature_mark text)), and-false (ltb (signature_mark text) (length text)))

    module _ {t₃ x₃ : List ℕ} (w₃ : (last_at 95 t₂ < length t₂) × (t₃ ≡ take (last_at 95 t₂) t₂) × (x₃ ≡ drop (last_at 95 t₂ + 1) t₂)) where
      within₃ : serial_mark text < chain_mark text
      within₃ = omega (arith, w₃.0, long₂, serial_is)

      front₃ : t₃ ≡ take (serial_mark text) text
      front₃ = w₃.1 ∙ (λ i. take (serial_is i) (front₂ i)) ∙ take-take (serial_mark text) (chain_mark text) text (omega (arith, within₃))

      long₃ : length t₃ ≡ serial_mark text
      long₃ = ap length front₃ ∙ length-take-le (serial_mark text) text (omega (arith, within₁, within₂, within₃))

      last₃ : x₃ ≡ part (serial_mark text + 1) (chain_mark text) text
      last₃ = w₃.2 ∙ (λ i. drop (serial_is i + 1) (front₂ i)) ∙ front_rest (serial_mark text + 1) (chain_mark text) text (omega (arith, within₃))

      counter_is : last_at 95 t₃ ≡ counter_mark text
      unfolding counter_mark
      counter_is = ap (last_at 95) front₃

      -- nor for the counter field
      pub no_first_mark : length t₃ ≤ last_at 95 t₃ → marks_there text ≡ false
      unfolding marks_there
      no_first_mark h =
          rw (le-ltb (counter_mark text) (serial_mark text) (omega (arith, h, long₃, counter_is)), and-false (ltb (serial_mark text) (chain_mark text)), and-false (ltb (chain_mark text) (signature_mark text)), and-false (ltb (signature_mark text) (length text)))

      -- all are there
      module _ {t₄ x₄ : List ℕ} (w₄ : (last_at 95 t₃ < length t₃) × (t₄ ≡ take (last_at 95 t₃) t₃) × (x₄ ≡ drop (last_at 95 t₃ + 1) t₃)) where
        within₄ : counter_mark text < serial_mark text
        within₄ = omega (arith, w₄.0, long₃, counter_is)

        front₄ : t₄ ≡ take (counter_mark text) text
        front₄ = w₄.1 ∙ (λ i. take (counter_is i) (front₃ i)) ∙ take-take (counter_mark text) (serial_mark text) text (omega (arith, within₄))

        last₄ : x₄ ≡ part (counter_mark text + 1) (serial_mark text) text
        last₄ = w₄.2 ∙ (λ i. drop (counter_is i + 1) (front₃ i)) ∙ front_rest (counter_mark text + 1) (serial_mark text) text (omega (arith, within₄))

        all_there : marks_there text ≡ true
        unfolding marks_there
        all_there =
            rw (there₁, lt-ltb (chain_mark text) (signature_mark text) within₂, lt-ltb (serial_mark text) (chain_mark text) within₃, lt-ltb (counter_mark text) (serial_mark text) within₄)

        pub four_marks : (marks_there text ≡ true) × (code_fields t₄ x₄ x₃ x₂ x₁ ≡ pieces text)
        four_marks = (all_there, (λ i. code_fields (front₄ i) (last₄ i) (last₃ i) (last₂ i) (last₁ i)))

-- ---- the payload of the code

module _ (f : CodeFields) where
  rest : List ℕ
  rest = (95 ∷ []) ++ (encoding Standard f.counter ++ ((95 ∷ []) ++ (f.serial ++ ((95 ∷ []) ++ encoding Standard f.chain))))

  front_is : payload_in Base64 f ≡ f.start ++ rest
  unfolding payload_in rest
  front_is = simp append_assoc

  length_payload : length (payload_in Base64 f) ≡ length f.start + (length f.counter + 2) / 3 * 4 + length f.serial + (length f.chain + 2) / 3 * 4 + 3
  unfolding payload_in
  length_payload = simp (length-append, length_encoding) (omega arith)

  module _ (h : 4 ≤ length f.start) where
    begins : take 4 (payload_in Base64 f) ≡ take 4 f.start
    begins = ap (take 4) front_is ∙ take-append-le 4 f.start rest h

    payload_is : payload_good (payload_in Base64 f) ≡ leb (length (payload_in Base64 f)) longest_payload && same (take 4 f.start) beginning
    unfolding payload_good
    payload_is = rw (le-leb 4 (length (payload_in Base64 f)) (omega (arith, length_payload)), begins)

    start_is : payload_good f.start ≡ leb (length f.start) longest_payload && same (take 4 f.start) beginning
    unfolding payload_good
    start_is = rw (le-leb 4 (length f.start) h)

    start_bad : payload_good f.start ≡ false → payload_good (payload_in Base64 f) ≡ false
    start_bad e = go (leb (length (payload_in Base64 f)) longest_payload) refl
      where
        go : (t : Bool) → leb (length (payload_in Base64 f)) longest_payload ≡ t → payload_good (payload_in Base64 f) ≡ false
        go true q =
            let k : length f.start ≤ longest_payload = omega (arith, leb-true (length (payload_in Base64 f)) longest_payload q, length_payload) in
            let v : same (take 4 f.start) beginning ≡ false = rw (le-leb (length f.start) longest_payload k) at (sym start_is ∙ e) in
            rw (payload_is, q, v)
        go false q = rw (payload_is, q)

    payload_long : longest_payload < length (payload_in Base64 f) → payload_good (payload_in Base64 f) ≡ false
    payload_long l = rw (payload_is, lt-leb (length (payload_in Base64 f)) longest_payload l)

    start_good_lem : payload_good f.start ≡ true → length (payload_in Base64 f) ≤ longest_payload → payload_good (payload_in Base64 f) ≡ true
    start_good_lem e l =
        let v = both (leb (length f.start) longest_payload) (same (take 4 f.start) beginning) (sym start_is ∙ e) in
        rw (payload_is, le-leb (length (payload_in Base64 f)) longest_payload l, v.1)

-- ---- good fields

module _ (f : CodeFields) where
  pub record Sizes : Type 0 where
    pub start : length f.start ≤ longest_payload
    pub spelled : length f.counter + length f.chain ≤ longest_payload
    pub serial : length f.serial ≤ longest_payload
    pub signature : length f.signature ≤ 64

  pub good_sizes : code_fields_good f ≡ true → Sizes
  unfolding code_fields_good
  good_sizes g =
      let p = parts (payload_in Base64 f) f.signature in
      let b : parts_good p ≡ true = (both (twelve f) (parts_good p) g).1 in
      let n = length_payload f in
      let k = good_payload p b in
      record { start = omega arith; spelled = omega arith; serial = omega arith; signature = good_signature p b }

-- the questions in their row
module _ (f : CodeFields) where
  pub not_nine : (count_of 95 f.start ≡ 9 → ⊥) → false ≡ code_fields_good f
  unfolding code_fields_good twelve
  not_nine h = rw (ne_eqb (count_of 95 f.start) 9 h)

  pub not_whole : (count_of 95 f.serial ≡ 0 → ⊥) → false ≡ code_fields_good f
  unfolding code_fields_good twelve
  not_whole h = rw (ne_eqb (count_of 95 f.serial) 0 h, and-false (eqb (count_of 95 f.start) 9))

  module _ (nine : count_of 95 f.start ≡ 9) (none : count_of 95 f.serial ≡ 0) where
    are_twelve : twelve f ≡ true
    unfolding twelve
    are_twelve = rw (eq-eqb (count_of 95 f.start) 9 nine, eq-eqb (count_of 95 f.serial) 0 none)

    four : 4 ≤ length f.start
    four = omega (arith, nine, count_most 95 f.start)

    bad : payload_good (payload_in Base64 f) ≡ false → false ≡ code_fields_good f
    unfolding code_fields_good
    bad q = rw (are_twelve, q)

    pub not_started : payload_good f.start ≡ false → false ≡ code_fields_good f
    not_started t = bad (start_bad f four t)

    module _ (started : payload_good f.start ≡ true) {n : ℕ} (long : n ≡ length (payload_in Base64 f)) where
      pub too_long : longest_payload < n → false ≡ code_fields_good f
      too_long h = bad (payload_long f four (omega (arith, long)))

      pub then_signature : n ≤ longest_payload → signature_good f.signature ≡ code_fields_good f
      unfolding code_fields_good
      then_signature h = rw (are_twelve, start_good_lem f four started (omega (arith, long)))

-- ---- reading

module _ (a : ℕ) (o : Option (List ℕ)) where
  pub fit : {x : List ℕ} → fitting a o ≡ some x → (o ≡ some x) × (length x ≤ a)
  fit {x} e = cases o refl e
    where
      cases : (q : Option (List ℕ)) → o ≡ q → fitting a q ≡ some x → (o ≡ some x) × (length x ≤ a)
      cases none p f = let z : ◌≡◌ {A = ℕ} 0 1 = cc in absurd (omega arith)
      cases (some y) p f = go (leb (length y) a) refl f
        where
          go : (t : Bool) → leb (length y) a ≡ t → cond t (some y) none ≡ some x → (o ≡ some x) × (length x ≤ a)
          go true q f = let w : y ≡ x = cc in (p ∙ f, omega (arith, leb-true (length y) a q, ap length w))
          go false q f = let z : ◌≡◌ {A = ℕ} 0 1 = cc in absurd (omega arith)

  not_fit : fitting a o ≡ none → (x : List ℕ) → o ≡ some x → a < length x
  not_fit e x p = go (leb (length x) a) refl
    where
      go : (t : Bool) → leb (length x) a ≡ t → a < length x
      go true q =
          let f : fitting a (some x) ≡ none = ap (fitting a) (sym p) ∙ e in
          let k : some x ≡ none = rw q at f in
          let z : ◌≡◌ {A = ℕ} 0 1 = cc in
          absurd (omega arith)
      go false q = leb-false (length x) a q

-- fields that do not fit the buffer are too long for good fields
unfit : (start serial : List ℕ) (o₁ o₂ o₃ : Option (List ℕ)) → ((x y z : List ℕ) → o₁ ≡ some x → o₂ ≡ some y → o₃ ≡ some z → longest_fields < length x + length y + length z)
    → none ≡ with_fields start o₁ serial o₂ o₃
unfit start serial none o₂ o₃ h = refl
unfit start serial (some x) none o₃ h = refl
unfit start serial (some x) (some y) none h = refl
unfit start serial (some x) (some y) (some z) h = go (code_fields_good f) refl
  where
    f : CodeFields
    f = code_fields start x serial y z

    go : (t : Bool) → code_fields_good (code_fields start x serial y z) ≡ t → none ≡ cond t (some (code_fields start x serial y z)) none
    go true g =
        let k = good_most (code_fields start x serial y z) g in
        let w = h x y z refl refl refl in
        absurd (omega (arith, payload_length (code_fields start x serial y z), k.0, k.1))
    go false g = refl

pub no_marks : (s : Spelling) (text : List ℕ) → marks_there text ≡ false → none ≡ fields_of s text
unfolding fields_of
no_marks s text e = rw e

-- the fields of a text that is split, of which three are read into a buffer
module _ (s : Spelling) (text : List ℕ) (f : CodeFields) (is : (marks_there text ≡ true) × (f ≡ pieces text)) {a : ℕ} (whole : a ≡ longest_fields) where
  fields_are : with_fields f.start (unspell s f.counter) f.serial (unspell s f.chain) (unspell s f.signature) ≡ fields_of s text
  unfolding fields_of
  fields_are =
      ap (λ (p : CodeFields). with_fields p.start (unspell s p.counter) p.serial (unspell s p.chain) (unspell s p.signature)) is.1 ∙ rw is.0

  pub no_counter : fitting a (unspell s f.counter) ≡ none → none ≡ fields_of s text
  no_counter e =
      unfit f.start f.serial (unspell s f.counter) (unspell s f.chain) (unspell s f.signature) (λ x y z p q r. omega (arith, not_fit a (unspell s f.counter) e x p)) ∙ fields_are

  module _ {x : List ℕ} (b : ℕ) (e₁ : fitting a (unspell s f.counter) ≡ some x) (l₁ : length x + b ≡ a) where
    same₁ : (u : List ℕ) → unspell s f.counter ≡ some u → length u ≡ length x
    same₁ u p = let q : some u ≡ some x = sym p ∙ (fit a (unspell s f.counter) e₁).0 in let w : u ≡ x = cc in ap length w

    pub no_chain : fitting b (unspell s f.chain) ≡ none → none ≡ fields_of s text
    no_chain e =
        unfit f.start f.serial (unspell s f.counter) (unspell s f.chain) (unspell s f.signature) (λ u y z p q r. omega (arith, not_fit b (unspell s f.chain) e y q, same₁ u p)) ∙ fields_are

    module _ {y : List ℕ} (d : ℕ) (e₂ : fitting b (unspell s f.chain) ≡ some y) (l₂ : length y + d ≡ b) where
      same₂ : (u : List ℕ) → unspell s f.chain ≡ some u → length u ≡ length y
      same₂ u p = let q : some u ≡ some y = sym p ∙ (fit b (unspell s f.chain) e₂).0 in let w : u ≡ y = cc in ap length w

      pub no_signature : fitting d (unspell s f.signature) ≡ none → none ≡ fields_of s text
      no_signature e =
          unfit f.start f.serial (unspell s f.counter) (unspell s f.chain) (unspell s f.signature) (λ u v z p q r. omega (arith, not_fit d (unspell s f.signature) e z r, same₁ u p, same₂ v q)) ∙ fields_are

      pub three_read : {z : List ℕ} → fitting d (unspell s f.signature) ≡ some z → good_fields (code_fields f.start x f.serial y z) ≡ fields_of s text
      three_read {z} e₃ =
          let c₁ : some x ≡ unspell s f.counter = sym (fit a (unspell s f.counter) e₁).0 in
          let c₂ : some y ≡ unspell s f.chain = sym (fit b (unspell s f.chain) e₂).0 in
          let c₃ : some z ≡ unspell s f.signature = sym (fit d (unspell s f.signature) e₃).0 in
          (λ i. with_fields f.start (c₁ i) f.serial (c₂ i) (c₃ i)) ∙ fields_are

-- ---- writing

-- a mark and a text
pub put_marked : (s out : List ℕ) (at : ℕ) {r : ℕ} {o₁ o₂ : List ℕ} → at + 1 + length s ≤ length out → o₁ ≡ overwrite out at (95 ∷ [])
    → (r ≡ place_after o₁ (at + 1) s) × (o₂ ≡ placed o₁ (at + 1) s) → (r ≡ at + 1 + length s) × (o₂ ≡ overwrite out at (95 ∷ s))
put_marked s out at {r} {o₁} h e₁ e₂ =
    let k : length o₁ ≡ length out = ap length e₁ ∙ length_over out at (95 ∷ []) (omega arith) in
    (e₂.0 ∙ after_room o₁ (at + 1) s (omega arith), put_next out (95 ∷ []) s at e₁ e₂.1 refl (omega arith))

module _ (s : Spelling) (f : CodeFields) where
  abbrev m₁ : List ℕ
  m₁ = 95 ∷ spell s f.counter

  abbrev m₂ : List ℕ
  m₂ = 95 ∷ f.serial

  abbrev m₃ : List ℕ
  m₃ = 95 ∷ spell s f.chain

  abbrev m₄ : List ℕ
  m₄ = 95 ∷ spell s f.signature

  text_is : text_in s f ≡ f.start ++ m₁ ++ m₂ ++ m₃ ++ m₄
  unfolding text_in payload_in
  text_is = simp append_assoc

  text_long : length (text_in s f) ≡ length f.start + length f.serial + (length (spell s f.counter) + length (spell s f.chain) + length (spell s f.signature)) + 4
  text_long = ap length text_is ∙ simp length-append (omega arith)

  -- its length is a sum that fits
  module _ {a b d : ℕ} (la : (a ≡ length (spell s f.counter)) × (a ≤ 2 * length f.counter + 8)) (lb : (b ≡ length (spell s f.chain)) × (b ≤ 2 * length f.chain + 8))
      (ld : (d ≡ length (spell s f.signature)) × (d ≤ 2 * length f.signature + 8)) where
    pub total_is : length (text_in s f) ≡ length f.start + length f.serial + (a + b + d) + 4
    total_is = omega (arith, text_long, la.0, lb.0, ld.0)

    module _ (good : code_fields_good f ≡ true) where
      pub small : length f.start + length f.serial + (a + b + d) ≤ 2048
      small = let k = good_sizes f good in omega (arith, k.start, k.serial, k.spelled, k.signature, la.1, lb.1, ld.1)

      module _ (out : List ℕ) (h : length f.start + length f.serial + (a + b + d) + 4 ≤ length out) {p₀ : ℕ} {o₀ : List ℕ} (w₀ : (p₀ ≡ place_after out 0 f.start) × (o₀ ≡ placed out 0 f.start)) where
        pub after_start : (p₀ ≡ length f.start) × (length o₀ ≡ length out)
        after_start =
            let k : o₀ ≡ overwrite out 0 f.start = w₀.1 ∙ placed_room out 0 f.start (omega arith) in
            (omega (arith, w₀.0, after_room out 0 f.start (omega arith)), ap length k ∙ length_over out 0 f.start (omega arith))

        pub put_fields : {p₁ p₂ p₃ : ℕ} {o₁ o₂ o₃ o₄ : List ℕ} → (p₁ ≡ p₀ + 1 + length (spell s f.counter)) × (o₁ ≡ overwrite o₀ p₀ (95 ∷ spell s f.counter))
            → (p₂ ≡ p₁ + 1 + length f.serial) × (o₂ ≡ overwrite o₁ p₁ (95 ∷ f.serial)) → (p₃ ≡ p₂ + 1 + length (spell s f.chain)) × (o₃ ≡ overwrite o₂ p₂ (95 ∷ spell s f.chain))
            → o₄ ≡ overwrite o₃ p₃ (95 ∷ spell s f.signature)
            → (record { number = 0; length = length f.start + length f.serial + (a + b + d) + 4 } ≡ written out (text_in s f)) × (o₄ ≡ placed out 0 (text_in s f))
        put_fields w₁ w₂ w₃ w₄ =
            let k₀ = after_start in
            let q₀ = w₀.1 ∙ placed_room out 0 f.start (omega arith) in
            let q₁ = then out f.start m₁ 0 _ q₀ w₁.1 (omega (arith, k₀.0)) (omega (arith, la.0)) in
            let q₂ = then out (f.start ++ m₁) m₂ 0 _ q₁ w₂.1 (simp length-append (omega (arith, k₀.0, w₁.0))) (simp length-append (omega (arith, la.0))) in
            let q₃ = then out (f.start ++ m₁ ++ m₂) m₃ 0 _ q₂ w₃.1 (simp length-append (omega (arith, k₀.0, w₁.0, w₂.0))) (simp length-append (omega (arith, la.0, lb.0))) in
            let q₄ = then out (f.start ++ m₁ ++ m₂ ++ m₃) m₄ 0 _ q₃ w₄ (simp length-append (omega (arith, k₀.0, w₁.0, w₂.0, w₃.0))) (simp length-append (omega (arith, la.0, lb.0, ld.0))) in
            has_room out (text_in s f) _ total_is h (q₄ ∙ ap (overwrite out 0) (sym text_is))

-- ---- the calls

module _ (code out : List ℕ) (e : none ≡ fields_of Base64 code) where
  pub line_refused : {p : Parts} → some p ≡ parts_of_code code → (record { number = 26; length = 0 } ≡ line_answer code out) × (out ≡ line_buffer code out)
  unfolding line_answer line_buffer
  line_refused q = (rw (sym e, sym q), rw (sym e))

  pub no_code : none ≡ parts_of_code code → (record { number = 24; length = 0 } ≡ line_answer code out) × (out ≡ line_buffer code out)
  unfolding line_answer line_buffer
  no_code q = (rw (sym e, sym q), rw (sym e))

module _ (code out : List ℕ) {f : CodeFields} (e : some f ≡ fields_of Base64 code) {a : Answer} {out' : List ℕ} where
  pub line_made : (a ≡ written out (text_in Base32 f)) × (out' ≡ placed out 0 (text_in Base32 f)) → (a ≡ line_answer code out) × (out' ≡ line_buffer code out)
  unfolding line_answer line_buffer
  line_made h = (rw (sym e) h.0, rw (sym e) h.1)

pub no_line : (line out : List ℕ) → none ≡ fields_of Base32 line → (record { number = 27; length = 0 } ≡ unline_answer line out) × (out ≡ unline_buffer line out)
unfolding unline_answer unline_buffer
no_line line out e = (rw (sym e), rw (sym e))

module _ (line out : List ℕ) {f : CodeFields} (e : some f ≡ fields_of Base32 line) {a : Answer} {out' : List ℕ} where
  pub code_made : (a ≡ written out (text_in Base64 f)) × (out' ≡ placed out 0 (text_in Base64 f)) → (a ≡ unline_answer line out) × (out' ≡ unline_buffer line out)
  unfolding unline_answer unline_buffer
  code_made h = (rw (sym e) h.0, rw (sym e) h.1)

-- the fields that were found are good
good_only : (start serial : List ℕ) (o₁ o₂ o₃ : Option (List ℕ)) (f : CodeFields) → with_fields start o₁ serial o₂ o₃ ≡ some f → code_fields_good f ≡ true
good_only start serial none o₂ o₃ f e = let z : ◌≡◌ {A = ℕ} 0 1 = cc in absurd (omega arith)
good_only start serial (some x) none o₃ f e = let z : ◌≡◌ {A = ℕ} 0 1 = cc in absurd (omega arith)
good_only start serial (some x) (some y) none f e = let z : ◌≡◌ {A = ℕ} 0 1 = cc in absurd (omega arith)
good_only start serial (some x) (some y) (some z) f e = go (code_fields_good (code_fields start x serial y z)) refl e
  where
    go : (t : Bool) → code_fields_good (code_fields start x serial y z) ≡ t → cond t (some (code_fields start x serial y z)) none ≡ some f → code_fields_good f ≡ true
    go true q k = let w : code_fields start x serial y z ≡ f = cc in ap code_fields_good (sym w) ∙ q
    go false q k = let z : ◌≡◌ {A = ℕ} 0 1 = cc in absurd (omega arith)

pub found_good : (s : Spelling) (text : List ℕ) {f : CodeFields} → some f ≡ fields_of s text → code_fields_good f ≡ true
unfolding fields_of
found_good s text {f} e = go (marks_there text) (sym e)
  where
    go : (t : Bool) → cond t
        (with_fields (take (counter_mark text) text) (unspell s (part (counter_mark text + 1) (serial_mark text) text)) (part (serial_mark text + 1) (chain_mark text) text)
        (unspell s (part (chain_mark text + 1) (signature_mark text) text)) (unspell s (drop (signature_mark text + 1) text))) none ≡ some f → code_fields_good f ≡ true
    go true k = good_only _ _ _ _ _ f k
    go false k = let z : ◌≡◌ {A = ℕ} 0 1 = cc in absurd (omega arith)
