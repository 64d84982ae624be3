-- What is spelled is read back: reading a payload gives its fields, so different fields are spelled differently.
use Rattle.std.proofs.Common.{◌≡◌, refl, sym, ap, ◌∙◌, Bool, true, false, cond, ◌&&◌, List, [], ◌∷◌, ◌++◌, append_assoc, ℕ, zero, suc, ◌+◌, ◌-◌, ◌%◌, ◌≤◌, arith, leb-true, le-leb, leb, length, drop, length-append, drop_at}
use Rattle.primitives.specs.Bytes.{AllBytes}
use Rattle.primitives.specs.Counter.{width_good}
use Rattle.primitives.proofs.ByteLists.{bytes_replicate}
use Rattle.receipt.specs.Decimal.{digits, value_of}
use Rattle.receipt.specs.DateTime.{days_in, day_good, time_good, date_good, date_text, read_date}
use Rattle.receipt.specs.Settings.{name_text, sized, SettingsLengths}
use Rattle.receipt.specs.Amount.{amounts_text}
use Rattle.receipt.specs.Separated.{after, skip, read_amounts}
use Rattle.receipt.specs.Payload.{base64, register_part, moment, counter_field, closing, body, payload, fields_good, TypedFields}
use Rattle.receipt.specs.PayloadReading.{eight, kind_of, read_counter, read_chain, read_details, readable, found_in, blank, read_fields}
use Rattle.receipt.specs.declared.datetime.DateTime.{DateTime}
use Rattle.receipt.specs.declared.details.Kind.{Kind}
use Rattle.receipt.specs.declared.details.Kind.TheVariants.{Standard, Cancellation, Training}
use Rattle.receipt.specs.declared.settings.Settings.{Settings}
use Rattle.receipt.specs.declared.payload.PayloadFields.{PayloadFields}
use Rattle.primitives.proofs.Rows.{both}
use Rattle.receipt.proofs.Digits.{value_digits}
use Rattle.receipt.proofs.Dates.{Small, read_date_lem, length_date, days_few}
use Rattle.receipt.proofs.Written.{sized_short, length_register, Good, good}
use Rattle.receipt.proofs.Marks.{after_digits, after_date, skip_amounts, read_amounts_lem}
use Rattle.receipt.proofs.CounterFields.{kind_back, counter_back, length_chain, chain_back, eight_length, eight_bytes}

-- ---- a good date has few digits

small : (t : DateTime) → date_good t ≡ true → Small t
unfolding date_good day_good time_good
small t e =
    let d₆ = leb t.day (days_in t.year t.month) in
    let d₅ = leb 1 t.day && d₆ in
    let d₄ = leb t.month 12 && d₅ in
    let d₃ = leb 1 t.month && d₄ in
    let d₂ = leb t.year 2099 && d₃ in
    let h₂ = leb t.minute 59 && leb t.second 59 in
    let p = both (leb 2000 t.year && d₂) (leb t.hour 23 && h₂) e in
    let y = both (leb t.year 2099) d₃ (both (leb 2000 t.year) d₂ p.0).1 in
    let m = both (leb t.month 12) d₅ (both (leb 1 t.month) d₄ y.1).1 in
    let d = both (leb 1 t.day) d₆ m.1 in
    let h = both (leb t.hour 23) h₂ p.1 in
    let s = both (leb t.minute 59) (leb t.second 59) h.1 in
    record {
      year = omega (arith, leb-true t.year 2099 y.0);
      month = omega (arith, leb-true t.month 12 m.0);
      day = omega (arith, leb-true t.day (days_in t.year t.month) d.1, days_few t.year t.month);
      hour = omega (arith, leb-true t.hour 23 h.0);
      minute = omega (arith, leb-true t.minute 59 s.0);
      second = omega (arith, leb-true t.second 59 s.1);
    }

-- ---- the body, from the front

module _ (s : Settings) (n : ℕ) (f : PayloadFields) (w : width_good n ≡ true) (a : TypedFields f) (g : Good n f) where
  -- what follows the counter field's '_'
  ending : List ℕ
  ending = name_text s.serial ++ (95 ∷ base64 f.chain)

  tail : List ℕ
  tail = counter_field n f.details.kind f.counter ++ (95 ∷ ending)

  dated : List ℕ
  dated = date_text f.details.date ++ (95 ∷ (amounts_text f.details.amounts ++ tail))

  front : body s n f ≡ digits f.details.number ++ (95 ∷ dated)
  unfolding body moment closing dated tail ending
  front = simp append_assoc

  skip_1 : skip 1 (body s n f) ≡ dated
  unfolding skip
  skip_1 = ap after front ∙ after_digits f.details.number dated

  skip_2 : skip 2 (body s n f) ≡ amounts_text f.details.amounts ++ tail
  unfolding skip dated
  skip_2 = ap after skip_1 ∙ after_date f.details.date (amounts_text f.details.amounts ++ tail)

  skip_7 : skip 7 (body s n f) ≡ tail
  unfolding skip
  skip_7 =
      ap (skip 5) skip_2
      ∙ sym (ap (λ (k : ℕ). skip k (amounts_text f.details.amounts ++ tail)) a.amounts)
      ∙ skip_amounts f.details.amounts tail

  number_back : value_of (body s n f) % 4294967296 ≡ f.details.number
  number_back =
      let h = a.number in
      let e : value_of (body s n f) ≡ f.details.number = ap value_of front ∙ value_digits f.details.number dated (omega arith) in
      omega arith

  date_back : read_date (skip 1 (body s n f)) ≡ f.details.date
  unfolding dated
  date_back = ap read_date skip_1 ∙ read_date_lem f.details.date (95 ∷ (amounts_text f.details.amounts ++ tail)) (small f.details.date g.date)

  amounts_back : read_amounts 5 (skip 2 (body s n f)) ≡ f.details.amounts
  amounts_back =
      ap (read_amounts 5) skip_2
      ∙ sym (ap (λ (k : ℕ). read_amounts k (amounts_text f.details.amounts ++ tail)) a.amounts)
      ∙ read_amounts_lem f.details.amounts tail g.amounts

  kind_is : kind_of (skip 7 (body s n f)) ≡ f.details.kind
  unfolding tail
  kind_is = ap kind_of skip_7 ∙ kind_back n w f.details.kind f.counter ending a.counter

  counter_is : read_counter n (kind_of (skip 7 (body s n f))) (skip 7 (body s n f)) ≡ f.counter
  unfolding tail
  counter_is =
      (λ i. read_counter n (kind_is i) (skip_7 i))
      ∙ counter_back n w f.details.kind f.counter ending a.counter a.counter_bytes g.counter

  details_back : read_details (body s n f) ≡ f.details
  unfolding read_details
  details_back = λ i. record { number = number_back i; date = date_back i; amounts = amounts_back i; kind = kind_is i }

  readable_back : readable (body s n f) ≡ true
  unfolding readable dated tail ending
  readable_back =
      let l : 19 ≤ length (skip 1 (body s n f)) = rw (skip_1, length-append, length_date) (omega arith) in
      let c = length_chain f.chain a.chain in
      let m : 12 ≤ length (skip 7 (body s n f)) = rw skip_7 (simp length-append (omega arith)) in
      rw (le-leb 19 _ l, le-leb 12 _ m)

  -- ---- the chain field, from the end

  opening : List ℕ
  opening =
      register_part s ++ (moment f.details.number f.details.date ++ amounts_text f.details.amounts
      ++ ((counter_field n f.details.kind f.counter ++ (95 ∷ [])) ++ (name_text s.serial ++ (95 ∷ []))))

  whole : payload s n f ≡ opening ++ base64 f.chain
  unfolding payload body closing opening
  whole = simp append_assoc

  chain_is : read_chain (payload s n f) ≡ f.chain
  unfolding read_chain
  chain_is =
      let l : length (payload s n f) ≡ length opening + 12 =
      ap length whole ∙ length-append opening (base64 f.chain) ∙ ap (λ (k : ℕ). length opening + k) (length_chain f.chain a.chain) in
      let e : length opening ≡ length (payload s n f) - 12 = omega arith in
      ap (λ (t : List ℕ). eight (drop (length (payload s n f) - 12) t)) whole
      ∙ ap eight (drop_at opening (base64 f.chain) (length (payload s n f) - 12) e)
      ∙ chain_back f.chain a.chain a.chain_bytes

  found_back : found_in n (payload s n f) (body s n f) ≡ f
  unfolding found_in
  found_back = λ i. record { details = details_back i; counter = counter_is i; chain = chain_is i }

-- ---- the whole

after_register : (s : Settings) (n : ℕ) (f : PayloadFields) → SettingsLengths s → sized s ≡ true → drop (9 + s.id.len) (payload s n f) ≡ body s n f
unfolding payload
after_register s n f t z = drop_at (register_part s) (body s n f) (9 + s.id.len) (length_register s t.csp t.id (sized_short s z).id)

-- reading what was spelled gives it back
pub payload_back : (s : Settings) (n : ℕ) (f : PayloadFields) → SettingsLengths s → sized s ≡ true → width_good n ≡ true → TypedFields f → fields_good n f ≡ true
    → read_fields s n (payload s n f) ≡ f
unfolding read_fields
payload_back s n f t z w a g =
    rw (after_register s n f t z, readable_back s n f w a (good n f g)) (found_back s n f w a (good n f g))

-- different fields are spelled differently
pub payload_injective : (s : Settings) (n : ℕ) (f h : PayloadFields) → SettingsLengths s → sized s ≡ true → width_good n ≡ true
    → TypedFields f → fields_good n f ≡ true → TypedFields h → fields_good n h ≡ true → payload s n f ≡ payload s n h → f ≡ h
payload_injective s n f h t z w af gf ah gh e = sym (payload_back s n f t z w af gf) ∙ ap (read_fields s n) e ∙ payload_back s n h t z w ah gh

-- ---- what is read has the code's types, whatever the text is

length_amounts : (k : ℕ) (bs : List ℕ) → length (read_amounts k bs) ≡ k
unfolding read_amounts
length_amounts zero bs = refl
length_amounts (suc k) bs = ap suc (length_amounts k (after bs))

counter_length : (n : ℕ) (kind : Kind) (bs : List ℕ) → length (read_counter n kind bs) ≡ 8
unfolding read_counter
counter_length n Standard bs = eight_length _
counter_length n Cancellation bs = refl
counter_length n Training bs = refl

counter_bytes_lem : (n : ℕ) (kind : Kind) (bs : List ℕ) → AllBytes (read_counter n kind bs)
unfolding read_counter
counter_bytes_lem n Standard bs = eight_bytes _
counter_bytes_lem n Cancellation bs = bytes_replicate 8 (omega arith)
counter_bytes_lem n Training bs = bytes_replicate 8 (omega arith)

found_typed : (n : ℕ) (text bs : List ℕ) → TypedFields (found_in n text bs)
unfolding found_in read_details read_chain
found_typed n text bs =
    record {
      number = omega arith;
      amounts = length_amounts 5 (skip 2 bs);
      counter = counter_length n (kind_of (skip 7 bs)) (skip 7 bs);
      counter_bytes = counter_bytes_lem n (kind_of (skip 7 bs)) (skip 7 bs);
      chain = eight_length _;
      chain_bytes = eight_bytes _;
    }

pub blank_typed : TypedFields blank
unfolding blank
blank_typed =
    record { number = omega arith; amounts = refl; counter = refl; counter_bytes = bytes_replicate 8 (omega arith); chain = refl; chain_bytes = bytes_replicate 8 (omega arith) }

pub read_typed : (s : Settings) (n : ℕ) (text : List ℕ) → TypedFields (read_fields s n text)
unfolding read_fields
read_typed s n text = go (readable (drop (9 + s.id.len) text))
  where
    go : (t : Bool) → TypedFields (cond t (found_in n text (drop (9 + s.id.len) text)) blank)
    go true = found_typed n text (drop (9 + s.id.len) text)
    go false = blank_typed
