-- A receipt names the settings that it is spelled with.
use Rattle.std.proofs.Common.{ℕ, zero, suc, ◌+◌, ◌-◌, ◌<◌, ◌≡◌, refl, sym, ap, ◌∙◌, true, ◌&&◌, List, [], ◌∷◌, ◌++◌, append_assoc, arith, eq-eqb, leb-true, leb, ℤ, length, get_or, take, drop, length-append, take_at, drop_at}
use Rattle.primitives.specs.Base64.{encoding}
use Rattle.primitives.specs.declared.base64.Alphabet.TheVariants.{UrlSafe}
use Rattle.primitives.proofs.Rows.{both}
use Rattle.primitives.proofs.ByteLists.{same_refl}
use Rattle.primitives.proofs.Base64Laws.{no_dot, no_underscore, decode_encode}
use Rattle.receipt.specs.Decimal.{digits}
use Rattle.receipt.specs.Amount.{amount, amounts_text}
use Rattle.receipt.specs.DateTime.{date_text}
use Rattle.receipt.specs.Settings.{between, name_text, name_of, csp_good, id_good, serial_good, settings_good, SettingsLengths, SettingsBytes}
use Rattle.receipt.specs.Texts.{beginning}
use Rattle.receipt.specs.Separated.{after, skip}
use Rattle.receipt.specs.Payload.{base64, register_part, moment, counter_field, closing, body, payload}
use Rattle.receipt.specs.Form.{first_at, next_at, Without, header, signed_form}
use Rattle.receipt.specs.Line.{count_of}
use Rattle.receipt.specs.Compact.{TypedEntry, signature_text, compact, spellable}
use Rattle.receipt.specs.declared.settings.Settings.{Settings}
use Rattle.receipt.specs.declared.settings.Letters.TheVariants.{Id, Serial}
use Rattle.receipt.specs.declared.payload.PayloadFields.{PayloadFields}
use Rattle.receipt.specs.declared.entry.Entry.{Entry}
use Rattle.receipt.proofs.Joined.{after_mark, after_other}
use Rattle.receipt.proofs.Marks.{no_mark, skip_amounts}
use Rattle.receipt.proofs.Signs.{each_digits, each_amount, each_date}
use Rattle.receipt.proofs.Names.{letters_no_mark, good_settings, name_of_lem}
use Rattle.receipt.proofs.MarkCounts.{count_append, count_none, one_mark, without_each}
use Rattle.receipt.proofs.Finding.{next_without}
use Rattle.receipt.proofs.ExactEntry.{parts_bytes}
use Rattle.exports.specs.Naming.{middle, field_of, settings_in, payload_names, named}

-- ---- a field and the "_" after it

without_tail : {b x : ℕ} {s : List ℕ} → Without b (x ∷ s) → Without b s
without_tail w = record { at = λ i h e. w.at (suc i) (omega arith) e }

after_field : (xs rest : List ℕ) → Without 95 xs → after (xs ++ (95 ∷ rest)) ≡ rest
after_field [] rest w = after_mark rest
after_field (x ∷ xs) rest w = after_other x (xs ++ (95 ∷ rest)) (w.at 0 (omega arith)) ∙ after_field xs rest (without_tail w)

skip_field : (k : ℕ) (xs rest : List ℕ) → Without 95 xs → skip (suc k) (xs ++ (95 ∷ rest)) ≡ skip k rest
unfolding skip
skip_field k xs rest w = ap (skip k) (after_field xs rest w)

first_at_lem : (b : ℕ) (xs rest : List ℕ) → Without b xs → first_at b (xs ++ (b ∷ rest)) ≡ length xs
unfolding next_at
first_at_lem b xs rest w = let e : 0 + first_at b (xs ++ (b ∷ rest)) ≡ 0 + length xs = next_without b [] xs rest 0 refl w in omega arith

first_field : (xs rest : List ℕ) → Without 95 xs → take (first_at 95 (xs ++ (95 ∷ rest))) (xs ++ (95 ∷ rest)) ≡ xs
first_field xs rest w = rw (first_at_lem 95 xs rest w) (take_at xs (95 ∷ rest) (length xs) refl)

-- ---- fields without "_"

csp_low : (low high b : ℕ) → high < 95 → between low high b ≡ true → b ≡ 95 → ⊥
unfolding between
csp_low low high b h e q = omega (arith, leb-true b high (both (leb low b) (leb b high) e).1)

-- "R1-" and a good CSP
revision : (csp : List ℕ) → length csp ≡ 3 → csp_good csp ≡ true → Without 95 (82 ∷ 49 ∷ 45 ∷ csp)
unfolding csp_good
revision csp l e =
    let p = both (between 65 90 (get_or csp 0 0)) (between 65 90 (get_or csp 1 0) && between 48 57 (get_or csp 2 0)) e in
    let q = both (between 65 90 (get_or csp 1 0)) (between 48 57 (get_or csp 2 0)) p.1 in
    record { at = at p.0 q.0 q.1 }
  where
    at : between 65 90 (get_or csp 0 0) ≡ true → between 65 90 (get_or csp 1 0) ≡ true → between 48 57 (get_or csp 2 0) ≡ true
        → (i : ℕ) → i < length (82 ∷ 49 ∷ 45 ∷ csp) → get_or (82 ∷ 49 ∷ 45 ∷ csp) i 0 ≡ 95 → ⊥
    at p q r zero h z = omega arith
    at p q r (suc zero) h z = omega arith
    at p q r (suc (suc zero)) h z = omega arith
    at p q r (suc (suc (suc zero))) h z = csp_low 65 90 (get_or csp 0 0) (omega arith) p z
    at p q r (suc (suc (suc (suc zero)))) h z = csp_low 65 90 (get_or csp 1 0) (omega arith) q z
    at p q r (suc (suc (suc (suc (suc zero))))) h z = csp_low 48 57 (get_or csp 2 0) (omega arith) r z
    at p q r (suc (suc (suc (suc (suc (suc i)))))) h z = absurd (omega arith)

base64_none : (xs : List ℕ) → Without 95 (base64 xs)
base64_none xs = record { at = no_underscore xs }

count_amounts : (zs : List ℤ) → count_of 95 (amounts_text zs) ≡ length zs
unfolding amounts_text count_of
count_amounts [] = refl
count_amounts (z ∷ zs) =
    count_append 95 (amount z ++ (95 ∷ [])) (amounts_text zs)
    ∙ omega (arith, count_append 95 (amount z) (95 ∷ []), count_none 95 (amount z) (without_each (each_amount no_mark z)), one_mark, count_amounts zs)

mark_more : (xs : List ℕ) → count_of 95 (95 ∷ xs) ≡ suc (count_of 95 xs)
unfolding count_of
mark_more xs = refl

-- a field without "_", and what follows
count_field : (xs rest : List ℕ) → Without 95 xs → count_of 95 (xs ++ (95 ∷ rest)) ≡ suc (count_of 95 rest)
count_field xs rest w = omega (arith, count_append 95 xs (95 ∷ rest), count_none 95 xs w, mark_more rest)

-- ---- the payload

module _ (s : Settings) (n : ℕ) (f : PayloadFields) (l : SettingsLengths s) (g : settings_good s ≡ true) (five : length f.details.amounts ≡ 5) where
  id : List ℕ
  id = name_text s.id

  serial : List ℕ
  serial = name_text s.serial

  counter : List ℕ
  counter = counter_field n f.details.kind f.counter

  end : List ℕ
  end = counter ++ (95 ∷ (serial ++ (95 ∷ base64 f.chain)))

  sums : List ℕ
  sums = amounts_text f.details.amounts ++ end

  rest : List ℕ
  rest = digits f.details.number ++ (95 ∷ (date_text f.details.date ++ (95 ∷ sums)))

  first : List ℕ
  first = 82 ∷ 49 ∷ 45 ∷ s.csp

  payload_is : payload s n f ≡ 95 ∷ (first ++ (95 ∷ (id ++ (95 ∷ rest))))
  unfolding payload register_part beginning body moment closing id serial counter end sums rest first
  payload_is = simp append_assoc

  first_none : Without 95 first
  unfolding first
  first_none = revision s.csp l.csp (good_settings s g).csp

  id_none : Without 95 id
  unfolding id
  id_none = record { at = λ i h e. letters_no_mark Id (name_text s.id) (good_settings s g).id.letters i e }

  serial_none : Without 95 serial
  unfolding serial
  serial_none = record { at = λ i h e. letters_no_mark Serial (name_text s.serial) (good_settings s g).serial.letters i e }

  counter_none : Without 95 counter
  unfolding counter counter_field
  counter_none = base64_none _

  empty_none : Without 95 []
  empty_none = record { at = λ i h e. omega arith }

  number_none : Without 95 (digits f.details.number)
  number_none = without_each (each_digits no_mark.digit f.details.number)

  date_none : Without 95 (date_text f.details.date)
  date_none = without_each (each_date no_mark f.details.date)

  skip_1 : skip 1 (payload s n f) ≡ first ++ (95 ∷ (id ++ (95 ∷ rest)))
  unfolding skip
  skip_1 = ap (skip 1) payload_is ∙ skip_field 0 [] (first ++ (95 ∷ (id ++ (95 ∷ rest)))) empty_none

  skip_2 : skip 2 (payload s n f) ≡ id ++ (95 ∷ rest)
  unfolding skip
  skip_2 = ap after skip_1 ∙ after_field first (id ++ (95 ∷ rest)) first_none

  skip_3 : skip 3 (payload s n f) ≡ rest
  unfolding skip
  skip_3 = ap after skip_2 ∙ after_field id rest id_none

  skip_5 : skip 5 (payload s n f) ≡ sums
  unfolding skip rest
  skip_5 =
      ap (skip 2) skip_3
      ∙ ap after (after_field (digits f.details.number) (date_text f.details.date ++ (95 ∷ sums)) number_none)
      ∙ after_field (date_text f.details.date) sums date_none

  skip_10 : skip 10 (payload s n f) ≡ end
  unfolding skip sums
  skip_10 =
      ap (skip 5) skip_5
      ∙ sym (ap (λ (k : ℕ). skip k (amounts_text f.details.amounts ++ end)) five)
      ∙ skip_amounts f.details.amounts end

  skip_11 : skip 11 (payload s n f) ≡ serial ++ (95 ∷ base64 f.chain)
  unfolding skip end
  skip_11 = ap after skip_10 ∙ after_field counter (serial ++ (95 ∷ base64 f.chain)) counter_none

  field_1 : field_of 1 (payload s n f) ≡ first
  unfolding field_of
  field_1 = rw skip_1 (first_field first (id ++ (95 ∷ rest)) first_none)

  field_2 : field_of 2 (payload s n f) ≡ name_text s.id
  unfolding field_of id
  field_2 = rw skip_2 (first_field id rest id_none)

  field_11 : field_of 11 (payload s n f) ≡ name_text s.serial
  unfolding field_of serial
  field_11 = rw skip_11 (first_field serial (base64 f.chain) serial_none)

  names_good : (id_good s.id ≡ true) × (serial_good s.serial ≡ true)
  unfolding settings_good
  names_good = both (id_good s.id) (serial_good s.serial) (both (csp_good s.csp) (id_good s.id && serial_good s.serial) g).1

  pub settings_in_lem : settings_in (payload s n f) ≡ s
  unfolding settings_in first
  settings_in_lem = λ i.
      record {
        csp = ap (drop 3) field_1 i;
        id = (ap name_of field_2 ∙ name_of_lem Id s.id l.id names_good.0) i;
        serial = (ap name_of field_11 ∙ name_of_lem Serial s.serial l.serial names_good.1) i;
      }

  count_end : count_of 95 end ≡ 2
  unfolding end
  count_end =
      omega (arith, count_field counter (serial ++ (95 ∷ base64 f.chain)) counter_none, count_field serial (base64 f.chain) serial_none, count_none 95 (base64 f.chain) (base64_none f.chain))

  count_sums : count_of 95 sums ≡ 7
  unfolding sums
  count_sums = omega (arith, count_append 95 (amounts_text f.details.amounts) end, count_amounts f.details.amounts, five, count_end)

  count_rest : count_of 95 rest ≡ 9
  unfolding rest
  count_rest =
      omega (arith, count_field (digits f.details.number) (date_text f.details.date ++ (95 ∷ sums)) number_none, count_field (date_text f.details.date) sums date_none, count_sums)

  count_payload : count_of 95 (payload s n f) ≡ 12
  count_payload =
      ap (count_of 95) payload_is
      ∙ omega (arith, mark_more (first ++ (95 ∷ (id ++ (95 ∷ rest)))), count_field first (id ++ (95 ∷ rest)) first_none, count_field id rest id_none, count_rest)

  pub payload_names_lem : payload_names (payload s n f) ≡ true
  unfolding payload_names beginning first
  payload_names_lem =
      let t : take 4 (payload s n f) ≡ beginning = ap (take 4) payload_is in
      let six : length (field_of 1 (payload s n f)) ≡ 6 = ap length field_1 ∙ omega (arith, l.csp) in
      rw (t, same_refl beginning, eq-eqb _ 12 count_payload, eq-eqb _ 6 six, settings_in_lem, g)

-- ---- the compact form

dotless : (xs : List ℕ) → Without 46 (encoding UrlSafe xs)
dotless xs = record { at = no_dot UrlSafe xs }

one_dot : count_of 46 (46 ∷ []) ≡ 1
unfolding count_of
one_dot = refl

-- three parts without "."
module _ (x y z : List ℕ) (nx : Without 46 x) (ny : Without 46 y) (nz : Without 46 z) where
  two_dots : count_of 46 (x ++ (46 ∷ (y ++ (46 ∷ z)))) ≡ 2
  two_dots =
      let c = count_none 46 x nx in
      let d = count_none 46 y ny in
      let e = count_none 46 z nz in
      omega (arith, one_dot, count_append 46 x (46 ∷ (y ++ (46 ∷ z))), count_append 46 (46 ∷ []) (y ++ (46 ∷ z)), count_append 46 y (46 ∷ z), count_append 46 (46 ∷ []) z)

  middle_is : middle (x ++ (46 ∷ (y ++ (46 ∷ z)))) ≡ y
  unfolding middle
  middle_is =
      let w : List ℕ = x ++ (46 ∷ (y ++ (46 ∷ z))) in
      let a : first_at 46 w ≡ length x = first_at_lem 46 x (y ++ (46 ∷ z)) nx in
      let r : w ≡ (x ++ (46 ∷ [])) ++ (y ++ (46 ∷ z)) = sym (append_assoc x (46 ∷ []) (y ++ (46 ∷ z))) in
      let m : length (x ++ (46 ∷ [])) ≡ length x + 1 = length-append x (46 ∷ []) in
      let e : next_at 46 w (length x + 1) ≡ length x + 1 + length y = ap (λ (v : List ℕ). next_at 46 v (length x + 1)) r ∙ next_without 46 (x ++ (46 ∷ [])) y z (length x + 1) m ny in
      let d : drop (length x + 1) w ≡ y ++ (46 ∷ z) = ap (drop (length x + 1)) r ∙ drop_at (x ++ (46 ∷ [])) (y ++ (46 ∷ z)) (length x + 1) m in
      rw (a, e, d) (take_at y (46 ∷ z) (length x + 1 + length y - (length x + 1)) (omega arith))

module _ (s : Settings) (n : ℕ) (e : Entry) (l : SettingsLengths s) (b : SettingsBytes s) (g : settings_good s ≡ true) (te : TypedEntry e) (can : spellable s n e ≡ true) where
  form_is : compact s n e
      ≡ encoding UrlSafe header ++ (46 ∷ (encoding UrlSafe (payload s n e.fields) ++ (46 ∷ encoding UrlSafe (signature_text e.signature))))
  unfolding compact signed_form
  form_is = simp append_assoc

  pub named_back : named (compact s n e) ≡ record { good = true; settings = s }
  unfolding named
  named_back =
      let x : List ℕ = encoding UrlSafe header in
      let y : List ℕ = encoding UrlSafe (payload s n e.fields) in
      let z : List ℕ = encoding UrlSafe (signature_text e.signature) in
      let nx = dotless header in
      let ny = dotless (payload s n e.fields) in
      let nz = dotless (signature_text e.signature) in
      rw (form_is, eq-eqb _ 2 (two_dots x y z nx ny nz), middle_is x y z nx ny nz, decode_encode UrlSafe (payload s n e.fields) (parts_bytes s n e te l can b).payload, payload_names_lem s n e.fields l g te.fields.amounts, settings_in_lem s n e.fields l g te.fields.amounts)
