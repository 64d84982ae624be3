-- The fields of a receipt's code: they are good, and how long they are.
use Rattle.std.proofs.Common.{ℕ, zero, suc, ◌+◌, ◌*◌, ◌≤◌, ◌<◌, ◌≡◌, refl, sym, ap, ◌∙◌, subst, true, ◌&&◌, List, [], ◌∷◌, ◌++◌, append_assoc, append-nil, arith, eq-eqb, leb-true, leb, ℤ, length, get_or, take, length-append, length-take, take_at}
use Rattle.primitives.specs.Bytes.{AllBytes}
use Rattle.primitives.proofs.ByteLists.{bytes_take}
use Rattle.primitives.proofs.Rows.{both}
use Rattle.receipt.specs.Decimal.{digits}
use Rattle.receipt.specs.Amount.{amount, longest_amount, within_limit, amounts_text}
use Rattle.receipt.specs.DateTime.{date_text}
use Rattle.receipt.specs.Details.{amounts_good, amounts_within}
use Rattle.receipt.specs.Settings.{between, id_letter, name_text, every, csp_good, settings_good, SettingsLengths, SettingsBytes}
use Rattle.receipt.specs.Texts.{beginning, cancellation_text, training_text}
use Rattle.receipt.specs.Payload.{base64, register_part, moment, counter_content, counter_field, closing, body, payload}
use Rattle.receipt.specs.Form.{parts, parts_good, PartsOfBytes}
use Rattle.receipt.specs.Compact.{TypedEntry, signature_text, spellable}
use Rattle.receipt.specs.Code.{code_text}
use Rattle.receipt.specs.Line.{CodeFields, FieldsOfBytes, count_of, twelve, payload_in, text_in, code_fields_good}
use Rattle.receipt.specs.LineLaws.{SpelledAs}
use Rattle.receipt.specs.declared.datetime.DateTime.{DateTime}
use Rattle.receipt.specs.declared.details.Kind.{Kind}
use Rattle.receipt.specs.declared.details.Kind.TheVariants.{Standard, Cancellation, Training}
use Rattle.receipt.specs.declared.settings.Settings.{Settings}
use Rattle.receipt.specs.declared.settings.Letters.{Letters}
use Rattle.receipt.specs.declared.settings.Letters.TheVariants.{Id, Serial}
use Rattle.receipt.specs.declared.entry.Entry.{Entry}
use Rattle.receipt.specs.declared.optical_line.Spelling.TheVariants.{Base64}
use Rattle.receipt.proofs.Texts.{cancellation_long, training_long}
use Rattle.receipt.proofs.Signs.{each_digits, each_amount, each_date}
use Rattle.receipt.proofs.Names.{letters_bytes, letters_no_mark, text_short, good_settings}
use Rattle.receipt.proofs.Digits.{length_digits, width_short}
use Rattle.receipt.proofs.Cents.{amount_short}
use Rattle.receipt.proofs.Written.{sized_short, length_register, length_moment, good}
use Rattle.receipt.proofs.CodeTexts.{good_signature}
use Rattle.receipt.proofs.EntryCalls.{spellable_true}
use Rattle.receipt.proofs.ExactEntry.{parts_good_lem, parts_bytes}
use Rattle.receipt.proofs.Marks.{no_mark}
use Rattle.receipt.proofs.MarkCounts.{one_mark, count_append, count_none, without_each}
use Rattle.receipt.proofs.LineFields.{code_of_lem}

-- ---- texts without "_"

digits_none : (n : ℕ) → count_of 95 (digits n) ≡ 0
digits_none n = count_none 95 (digits n) (without_each (each_digits no_mark.digit n))

date_none : (t : DateTime) → count_of 95 (date_text t) ≡ 0
date_none t = count_none 95 (date_text t) (without_each (each_date no_mark t))

amount_none : (z : ℤ) → count_of 95 (amount z) ≡ 0
amount_none z = count_none 95 (amount z) (without_each (each_amount no_mark z))

letters_none : (class : Letters) (t : List ℕ) → every class t ≡ true → count_of 95 t ≡ 0
letters_none class t e = count_none 95 t (record { at = λ i h q. letters_no_mark class t e i q })

-- a letter or a digit of a CSP is below "_"
low_letter : (low high b : ℕ) → high < 95 → between low high b ≡ true → b ≡ 95 → ⊥
unfolding between
low_letter low high b h e q = omega (arith, leb-true b high (both (leb low b) (leb b high) e).1)

csp_none : (csp : List ℕ) → length csp ≡ 3 → csp_good csp ≡ true → count_of 95 csp ≡ 0
unfolding csp_good
csp_none csp l e =
    let p = both (between 65 90 (get_or csp 0 0)) (between 65 90 (get_or csp 1 0) && between 48 57 (get_or csp 2 0)) e in
    let q = both (between 65 90 (get_or csp 1 0)) (between 48 57 (get_or csp 2 0)) p.1 in
    count_none 95 csp (record { at = at p.0 q.0 q.1 })
  where
    at : between 65 90 (get_or csp 0 0) ≡ true → between 65 90 (get_or csp 1 0) ≡ true → between 48 57 (get_or csp 2 0) ≡ true
        → (i : ℕ) → i < length csp → get_or csp i 0 ≡ 95 → ⊥
    at p q r zero h = low_letter 65 90 (get_or csp 0 0) (omega arith) p
    at p q r (suc zero) h = low_letter 65 90 (get_or csp 1 0) (omega arith) q
    at p q r (suc (suc zero)) h = low_letter 48 57 (get_or csp 2 0) (omega arith) r
    at p q r (suc (suc (suc i))) h = absurd (omega arith)

-- ---- amounts

-- joined by "_"
unfoldable pub joined : List ℤ → List ℕ
joined [] = []
joined (z ∷ []) = amount z
joined (z ∷ y ∷ ys) = (amount z ++ (95 ∷ [])) ++ joined (y ∷ ys)

-- a "_" follows the last
amounts_joined : (z : ℤ) (zs : List ℤ) → amounts_text (z ∷ zs) ≡ joined (z ∷ zs) ++ (95 ∷ [])
unfolding amounts_text joined
amounts_joined z [] = append-nil (amount z ++ (95 ∷ []))
amounts_joined z (y ∷ ys) =
    ap (λ (l : List ℕ). (amount z ++ (95 ∷ [])) ++ l) (amounts_joined y ys) ∙ sym (append_assoc (amount z ++ (95 ∷ [])) (joined (y ∷ ys)) (95 ∷ []))

count_joined : (z : ℤ) (zs : List ℤ) → count_of 95 (joined (z ∷ zs)) ≡ length zs
unfolding joined
count_joined z [] = amount_none z
count_joined z (y ∷ ys) = simp count_append (omega (arith, amount_none z, one_mark, count_joined y ys))

length_joined : (z : ℤ) (zs : List ℤ) → amounts_good (z ∷ zs) ≡ true → length (joined (z ∷ zs)) ≤ longest_amount + (longest_amount + 1) * length zs
unfolding joined amounts_within
length_joined z [] e = omega (arith, amount_short z (both (within_limit z) (amounts_good []) e).0)
length_joined z (y ∷ ys) e =
    let p = both (within_limit z) (amounts_good (y ∷ ys)) e in
    simp length-append (omega (arith, amount_short z p.0, length_joined y ys p.1))

amounts_end : (zs : List ℤ) → 0 < length zs → amounts_text zs ≡ joined zs ++ (95 ∷ [])
amounts_end [] h = absurd (omega arith)
amounts_end (z ∷ zs) h = amounts_joined z zs

count_amounts : (zs : List ℤ) → 0 < length zs → count_of 95 (joined zs) + 1 ≡ length zs
count_amounts [] h = absurd (omega arith)
count_amounts (z ∷ zs) h = omega (arith, count_joined z zs)

length_amounts : (zs : List ℤ) → 0 < length zs → amounts_good zs ≡ true → length (joined zs) + 1 ≤ (longest_amount + 1) * length zs
length_amounts [] h e = absurd (omega arith)
length_amounts (z ∷ zs) h e = omega (arith, length_joined z zs e)

-- ---- the parts of a payload

count_beginning : count_of 95 beginning ≡ 1
unfolding count_of beginning
count_beginning = refl

-- the CSP and the ID of good settings have no "_"
count_register : (s : Settings) → SettingsLengths s → settings_good s ≡ true → count_of 95 (register_part s) ≡ 3
unfolding register_part
count_register s l e =
    let g = good_settings s e in
    simp count_append
    (omega (arith, count_beginning, one_mark, csp_none s.csp l.csp g.csp, letters_none Id (name_text s.id) g.id.letters))

count_moment : (n : ℕ) (t : DateTime) → count_of 95 (moment n t) ≡ 2
unfolding moment
count_moment n t = simp count_append (omega (arith, one_mark, digits_none n, date_none t))

-- ---- counter field and signature

module _ (n : ℕ) where
  content_short : (kind : Kind) (counter : List ℕ) → length counter ≡ 8 → length (counter_content n kind counter) ≤ 8
  unfolding counter_content
  content_short Standard counter l = omega (arith, length-take n counter)
  content_short Cancellation counter l = omega (arith, cancellation_long)
  content_short Training counter l = omega (arith, training_long)

  content_bytes : (kind : Kind) (counter : List ℕ) → AllBytes counter → AllBytes (counter_content n kind counter)
  unfolding counter_content cancellation_text training_text every id_letter between
  content_bytes Standard counter b = bytes_take n b
  content_bytes Cancellation counter b = letters_bytes Id cancellation_text refl
  content_bytes Training counter b = letters_bytes Id training_text refl

-- ---- the fields of a receipt's code

unfoldable pub fields_in : Settings → ℕ → Entry → CodeFields
fields_in s n e =
    record {
      start = register_part s ++ (moment e.fields.details.number e.fields.details.date ++ joined e.fields.details.amounts);
      counter = counter_content n e.fields.details.kind e.fields.counter;
      serial = name_text s.serial;
      chain = e.fields.chain;
      signature = signature_text e.signature;
    }

abbrev pub code_of : Settings → ℕ → Entry → List ℕ
code_of s n e = code_text (parts (payload s n e.fields) (signature_text e.signature))

-- the nine fields up to the amounts: what does not depend on the amounts, and five amounts with a '_' before each
abbrev longest_start : ℕ
longest_start = 71 + 5 * (longest_amount + 1)

-- they are good, the code is their spelling, and they are no longer than this
pub record ReceiptFields (s : Settings) (n : ℕ) (e : Entry) (f : CodeFields) : Type 0 where
  pub as_code : SpelledAs Base64 (code_of s n e) f
  pub start : length f.start ≤ longest_start
  pub counter : length f.counter ≤ 8
  pub serial : length f.serial ≤ 32
  pub chain : length f.chain ≡ 8
  pub signature : length f.signature ≤ 64

module _ (s : Settings) (n : ℕ) (e : Entry) (five : length e.fields.details.amounts ≡ 5) where
  payload_is : payload_in Base64 (fields_in s n e) ≡ payload s n e.fields
  unfolding payload_in payload body closing counter_field fields_in
  payload_is = rw (amounts_end e.fields.details.amounts (omega arith)) (simp append_assoc)

  code_is : code_of s n e ≡ text_in Base64 (fields_in s n e)
  unfolding fields_in
  code_is = ap (λ (p : List ℕ). code_text (parts p (signature_text e.signature))) (sym payload_is) ∙ sym (code_of_lem (fields_in s n e))

  module _ (l : SettingsLengths s) (g : settings_good s ≡ true) where
    count_start : count_of 95 (fields_in s n e).start ≡ 9
    unfolding fields_in
    count_start =
        simp count_append
        (omega (arith, count_register s l g, count_moment e.fields.details.number e.fields.details.date, count_amounts e.fields.details.amounts (omega arith)))

    count_serial : count_of 95 (fields_in s n e).serial ≡ 0
    unfolding fields_in
    count_serial = letters_none Serial (name_text s.serial) (good_settings s g).serial.letters

    fields_twelve : twelve (fields_in s n e) ≡ true
    unfolding twelve
    fields_twelve = rw (eq-eqb (count_of 95 (fields_in s n e).start) 9 count_start, eq-eqb (count_of 95 (fields_in s n e).serial) 0 count_serial)

module _ (s : Settings) (n : ℕ) (e : Entry) (l : SettingsLengths s) (b : SettingsBytes s) (g : settings_good s ≡ true) (te : TypedEntry e) (can : spellable s n e ≡ true) where
  abbrev five : length e.fields.details.amounts ≡ 5
  five = te.fields.amounts

  good_parts_lem : parts_good (parts (payload s n e.fields) (signature_text e.signature)) ≡ true
  good_parts_lem = parts_good_lem s n e te l can

  all_bytes : PartsOfBytes (parts (payload s n e.fields) (signature_text e.signature))
  all_bytes = parts_bytes s n e te l can b

  fields_good_lem : code_fields_good (fields_in s n e) ≡ true
  unfolding code_fields_good fields_in
  fields_good_lem = rw (fields_twelve s n e five l g, payload_is s n e five) good_parts_lem

  -- the start is the payload's
  start_bytes : AllBytes (fields_in s n e).start
  unfolding payload_in
  start_bytes =
      let f : CodeFields = fields_in s n e in
      let is : payload s n e.fields ≡ f.start ++ rest f = sym (payload_is s n e five) ∙ simp append_assoc in
      subst AllBytes (ap (take (length f.start)) is ∙ take_at f.start (rest f) (length f.start) refl) (bytes_take (length f.start) all_bytes.payload)
    where
      rest : CodeFields → List ℕ
      rest f = (95 ∷ []) ++ (base64 f.counter ++ ((95 ∷ []) ++ (f.serial ++ ((95 ∷ []) ++ base64 f.chain))))

  fields_bytes : FieldsOfBytes (fields_in s n e)
  unfolding fields_in name_text
  fields_bytes =
      record {
        start = start_bytes;
        counter = content_bytes n e.fields.details.kind e.fields.counter te.fields.counter_bytes;
        serial = bytes_take s.serial.len b.serial;
        chain = te.fields.chain_bytes;
        signature = all_bytes.signature;
      }

  start_short : length (fields_in s n e).start ≤ longest_start
  unfolding fields_in
  start_short =
      let c = (spellable_true s n e can).fields in
      let h = sized_short s c.sized in
      let d = e.fields.details in
      let k : d.number < 4294967296 = te.fields.number in
      simp length-append
      (omega (
        arith,
        length_register s l.csp l.id h.id,
        length_moment d.number d.date,
        length_digits d.number,
        width_short 9 d.number (omega arith),
        length_amounts d.amounts (omega arith) (good n e.fields c.fields).amounts,
      ))

  pub receipt_fields : ReceiptFields s n e (fields_in s n e)
  unfolding fields_in
  receipt_fields =
      record {
        as_code = record { good = fields_good_lem; bytes = fields_bytes; is = code_is s n e five };
        start = start_short;
        counter = content_short n e.fields.details.kind e.fields.counter te.fields.counter;
        serial = text_short s.serial l.serial;
        chain = te.fields.chain;
        signature = good_signature (parts (payload s n e.fields) (signature_text e.signature)) good_parts_lem;
      }
