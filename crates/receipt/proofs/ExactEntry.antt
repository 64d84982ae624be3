-- The reader of entries is exact: it accepts the compact forms of entries, finds the entry, and accepts no other text.
use Rattle.std.proofs.Common.{ℕ, ◌+◌, ◌≤◌, ◌<◌, ◌≡◌, refl, sym, ap, ◌∙◌, Bool, true, false, cond, not, ◌||◌, List, [], ◌∷◌, ◌++◌, append_assoc, arith, eq-eqb, ne_eqb, eqb-true, eqb, length, take, replicate, length-append, take_at}
use mathlib.Core.Option.{Option, none, some}
use Rattle.primitives.specs.Bytes.{AllBytes, same}
use Rattle.primitives.specs.Base64.{encoding}
use Rattle.primitives.specs.declared.base64.Alphabet.TheVariants.{UrlSafe}
use Rattle.primitives.proofs.ByteLists.{bytes_nil, bytes_cons, bytes_append, bytes_replicate, same_refl, same_true}
use Rattle.primitives.proofs.Base64Laws.{encoding_bytes}
use Rattle.receipt.specs.Settings.{zeros, SettingsLengths, SettingsBytes}
use Rattle.receipt.specs.Payload.{payload, longest_payload}
use Rattle.receipt.specs.PayloadReading.{read_fields}
use Rattle.receipt.specs.Form.{Parts, parts, parts_good, PartsOfBytes, signed_input, signed_form, signature_good, payload_good, second_dot, parts_of_form, header, first_element, failure_text}
use Rattle.receipt.specs.Texts.{beginning}
use Rattle.receipt.specs.Compact.{signature_text, compact, signing_input, longest_compact, signature_zero, preparable, spellable, signature_of, spells, Found, no_entry, entry_of, entry_of_parts, read_entry, TypedEntry}
use Rattle.receipt.specs.Exact.{Exact, EntryIsReadBack, OneSpelling, CompactIsShort, CompactIsLong, CompactIsBytes, CompactIsSigned, InputBeforeDot, FoundIsTyped, PayloadIsShort}
use Rattle.receipt.specs.declared.settings.Settings.{Settings}
use Rattle.receipt.specs.declared.payload.PayloadFields.{PayloadFields}
use Rattle.receipt.specs.declared.entry.Signature.{Signature}
use Rattle.receipt.specs.declared.entry.Entry.{Entry}
use Rattle.primitives.proofs.Rows.{both, true-is-not-false}
use Rattle.receipt.proofs.Written.{payload_short}
use Rattle.receipt.proofs.PayloadBytes.{payload_bytes_lem, payload_begins, payload_long}
use Rattle.receipt.proofs.PayloadBack.{payload_back, read_typed, blank_typed}
use Rattle.receipt.proofs.Names.{zeros_are, zeros_good}
use Rattle.receipt.proofs.Texts.{failure_long, failure_bytes, first_long}
use Rattle.receipt.proofs.CodeTexts.{payload_mark, signature_whole}
use Rattle.receipt.proofs.Forms.{form_back, form_only, form_short, form_good, form_bytes, form_dot, length_form}
use Rattle.receipt.proofs.EntryCalls.{preparable_made, spellable_is, spellable_true, spells_is, preparable_true}

-- ---- the signature and its text

no_failure : eqb (length failure_text) 64 ≡ false
no_failure = ne_eqb (length failure_text) 64 (λ e. absurd (omega (arith, e, failure_long)))

-- a signature, from its text
signature_back : (g : Signature) → length g.bytes ≡ 64 → signature_zero g ≡ true → signature_of (signature_text g) ≡ g
unfolding signature_of signature_text signature_zero
signature_back g l z = go g.failed g.bytes l z
  where
    go : (t : Bool) (bytes : List ℕ) → length bytes ≡ 64 → not t || zeros bytes ≡ true → signature_of (cond t failure_text bytes) ≡ record { failed = t; bytes = bytes }
    go true bytes l z =
        let q : bytes ≡ replicate 64 0 = zeros_are bytes z ∙ ap (λ (n : ℕ). replicate n 0) l in
        rw no_failure (λ i. record { failed = true; bytes = sym q i })
    go false bytes l z = rw (eq-eqb (length bytes) 64 l)

module _ (g : Signature) (l : length g.bytes ≡ 64) where
  text_good : signature_good (signature_text g) ≡ true
  unfolding signature_text signature_good
  text_good = go g.failed
    where
      go : (t : Bool) → signature_good (cond t failure_text g.bytes) ≡ true
      go true = rw no_failure (same_refl failure_text)
      go false = sym (signature_whole g.bytes l)

  text_long : 34 ≤ length (signature_text g)
  unfolding signature_text
  text_long = go g.failed
    where
      go : (t : Bool) → 34 ≤ length (cond t failure_text g.bytes)
      go true = omega (arith, failure_long)
      go false = omega arith

text_bytes : (g : Signature) → AllBytes g.bytes → AllBytes (signature_text g)
unfolding signature_text
text_bytes g b = go g.failed
  where
    go : (t : Bool) → AllBytes (cond t failure_text g.bytes)
    go true = failure_bytes
    go false = b

-- the signature of a text
record Right (text : List ℕ) (g : Signature) : Type 0 where
  long : length g.bytes ≡ 64
  bytes : AllBytes g.bytes
  zero : signature_zero g ≡ true
  is : signature_text g ≡ text

signature_right : (text : List ℕ) → AllBytes text → signature_good text ≡ true → Right text (signature_of text)
unfolding signature_of signature_good signature_text signature_zero
signature_right text b e = go (eqb (length text) 64) refl e
  where
    go : (t : Bool) → eqb (length text) 64 ≡ t → t || same text failure_text ≡ true
        → Right text (cond t (record { failed = false; bytes = text }) (record { failed = true; bytes = replicate 64 0 }))
    go true q f = record { long = eqb-true (length text) 64 q; bytes = b; zero = refl; is = refl }
    go false q f =
        record { long = refl; bytes = bytes_replicate 64 (omega arith); zero = zeros_good 64; is = sym (same_true text failure_text f) }

-- ---- the compact form

pub payload_good_lem : (s : Settings) (n : ℕ) (f : PayloadFields) → length (payload s n f) ≤ longest_payload → payload_good (payload s n f) ≡ true
payload_good_lem s n f h =
    sym
    (payload_mark (payload s n f) (payload_long s n f) h
    (sym (same_refl beginning) ∙ ap (λ (l : List ℕ). same l beginning) (sym (payload_begins s n f))) refl)

module _ (s : Settings) (n : ℕ) (e : Entry) where
  p : Parts
  p = parts (payload s n e.fields) (signature_text e.signature)

  is_form : compact s n e ≡ signed_form p
  unfolding compact p
  is_form = refl

  module _ (te : TypedEntry e) where
    compact_long_of : 42 < length (compact s n e)
    unfolding p
    compact_long_of = omega (arith, ap length is_form, length_form p, text_long e.signature te.signature)

    module _ (ts : SettingsLengths s) (g : spellable s n e ≡ true) where
      pub parts_good_lem : parts_good (parts (payload s n e.fields) (signature_text e.signature)) ≡ true
      unfolding p
      parts_good_lem =
          let f = e.fields in
          let c = (spellable_true s n e g).fields in
          rw (payload_good_lem s n f (payload_short s n f ts c.sized te.fields c.fields)) (text_good e.signature te.signature)

      pub parts_bytes : SettingsBytes s → PartsOfBytes (parts (payload s n e.fields) (signature_text e.signature))
      unfolding p
      parts_bytes bs = record { payload = payload_bytes_lem s n e.fields bs; signature = text_bytes e.signature te.signature_bytes }

      compact_short_of : length (compact s n e) ≤ longest_compact
      unfolding p
      compact_short_of = omega (arith, ap length is_form, form_short p parts_good_lem)

      -- an entry is read back from its compact form
      back_of : SettingsBytes s → read_entry s n (compact s n e) ≡ record { ok = true; entry = e }
      unfolding read_entry entry_of p
      back_of bs =
          let f = e.fields in
          let can = spellable_true s n e g in
          let c = can.fields in
          let r : read_fields s n (payload s n f) ≡ f = payload_back s n f ts c.sized c.width te.fields c.fields in
          let o : parts_of_form (compact s n e) ≡ some p = ap parts_of_form is_form ∙ form_back p parts_good_lem (parts_bytes bs) in
          let w : spells s n f (payload s n f) ≡ true = spells_is s n f (payload s n f) ∙ rw (preparable_made s n f c) (same_refl (payload s n f)) in
          rw (o, r, w, signature_back e.signature te.signature can.signature)

pub back : EntryIsReadBack
back s n e ts bs te g = back_of s n e te ts g bs

pub payload_is_short : PayloadIsShort
payload_is_short s n f ts tf g = let p = preparable_true s n f g in payload_short s n f ts p.sized tf p.fields

pub compact_short : CompactIsShort
compact_short s n e ts te g = compact_short_of s n e te ts g

pub compact_long : CompactIsLong
compact_long s n e te = compact_long_of s n e te

pub compact_bytes : CompactIsBytes
unfolding compact signed_form
compact_bytes s n e =
    let dot : AllBytes (46 ∷ []) = bytes_cons (omega arith) bytes_nil in
    bytes_append (bytes_append (bytes_append (bytes_append (encoding_bytes UrlSafe header) dot) (encoding_bytes UrlSafe (payload s n e.fields))) dot) (encoding_bytes UrlSafe (signature_text e.signature))

pub compact_signed : CompactIsSigned
unfolding compact signed_form signing_input
compact_signed s n e = append_assoc (signed_input (payload s n e.fields)) (46 ∷ []) (encoding UrlSafe (signature_text e.signature))

length_front : (xs : List ℕ) → length (signed_input xs) ≡ 21 + length (encoding UrlSafe xs)
length_front xs =
    omega (arith, length-append first_element (encoding UrlSafe xs), first_long)

pub input_before_dot : InputBeforeDot
unfolding signing_input p
input_before_dot s n e =
    let f = e.fields in
    let d : length (signed_input (payload s n f)) ≡ second_dot (compact s n e) =
    sym (ap second_dot (is_form s n e) ∙ form_dot (p s n e) ∙ sym (length_front (payload s n f))) in
    ap (take (second_dot (compact s n e))) (compact_signed s n e)
    ∙ take_at (signed_input (payload s n f)) ((46 ∷ []) ++ encoding UrlSafe (signature_text e.signature)) (second_dot (compact s n e)) d

pub one_spelling : OneSpelling
one_spelling s n e f ts bs te tf ge gf q =
    ap (λ (r : Found). r.entry) (sym (back s n e ts bs te ge) ∙ ap (read_entry s n) q ∙ back s n f ts bs tf gf)

-- ---- the reader

no_entry_typed : TypedEntry no_entry.entry
unfolding no_entry
no_entry_typed = record { fields = blank_typed; signature = refl; signature_bytes = bytes_replicate 64 (omega arith) }

found_typed_of : (s : Settings) (n : ℕ) (o : Option Parts) → ((q : Parts) → o ≡ some q → (signature_good q.signature ≡ true) × AllBytes q.signature)
    → TypedEntry (entry_of_parts s n o).entry
unfolding entry_of
found_typed_of s n none h = no_entry_typed
found_typed_of s n (some q) h = go (spells s n (read_fields s n q.payload) q.payload)
  where
    go : (t : Bool) → TypedEntry (cond t (record { ok = true; entry = record { fields = read_fields s n q.payload; signature = signature_of q.signature } }) no_entry).entry
    go true =
        let r = signature_right q.signature (h q refl).1 (h q refl).0 in
        record { fields = read_typed s n q.payload; signature = r.long; signature_bytes = r.bytes }
    go false = no_entry_typed

module _ (s : Settings) (n : ℕ) (text : List ℕ) where
  -- the entry that was found
  found : Entry
  found = (read_entry s n text).entry

  -- what is accepted is the compact form of what was found
  sound : AllBytes text → (read_entry s n text).ok ≡ true → (spellable s n found ≡ true) × (text ≡ compact s n found)
  unfolding read_entry found no_entry entry_of compact
  sound b = go (parts_of_form text) refl
    where
      go : (o : Option Parts) → parts_of_form text ≡ o → (entry_of_parts s n o).ok ≡ true
          → (spellable s n (entry_of_parts s n o).entry ≡ true) × (text ≡ compact s n (entry_of_parts s n o).entry)
      go none q h = true-is-not-false h
      go (some q) eq h = try (spells s n f q.payload) refl h
        where
          f : PayloadFields
          f = read_fields s n q.payload

          r : Right q.signature (signature_of q.signature)
          r = signature_right q.signature (form_bytes text q eq).signature (both (payload_good q.payload) (signature_good q.signature) (form_good text q eq)).1

          e : Entry
          e = record { fields = f; signature = signature_of q.signature }

          try : (t : Bool) → spells s n f q.payload ≡ t → (cond t (record { ok = true; entry = e }) no_entry).ok ≡ true
              → (spellable s n (cond t (record { ok = true; entry = e }) no_entry).entry ≡ true) × (text ≡ compact s n (cond t (record { ok = true; entry = e }) no_entry).entry)
          try true w k =
              let c = both (preparable s n f) (same (payload s n f) q.payload) (sym (spells_is s n f q.payload) ∙ w) in
              let pq : payload s n f ≡ q.payload = same_true (payload s n f) q.payload c.1 in
              let sq : signature_text (signature_of q.signature) ≡ q.signature = r.is in
              (spellable_is s n e ∙ rw c.0 r.zero, form_only text q eq b ∙ (λ i. signed_form (parts (sym pq i) (sym sq i))))
          try false w k = true-is-not-false k

pub found_typed : FoundIsTyped
unfolding read_entry
found_typed s n text =
    found_typed_of s n (parts_of_form text)
    (λ q e. ((both (payload_good q.payload) (signature_good q.signature) (form_good text q e)).1, (form_bytes text q e).signature))

-- nothing is found in a text that is refused
refused : (s : Settings) (n : ℕ) (text : List ℕ) → (read_entry s n text).ok ≡ false → read_entry s n text ≡ no_entry
unfolding read_entry entry_of
refused s n text = go (parts_of_form text)
  where
    go : (o : Option Parts) → (entry_of_parts s n o).ok ≡ false → entry_of_parts s n o ≡ no_entry
    go none h = refl
    go (some q) h = try (spells s n (read_fields s n q.payload) q.payload) h
      where
        try : (t : Bool) → (cond t (record { ok = true; entry = record { fields = read_fields s n q.payload; signature = signature_of q.signature } }) no_entry).ok ≡ false
            → cond t (record { ok = true; entry = record { fields = read_fields s n q.payload; signature = signature_of q.signature } }) no_entry ≡ no_entry
        try true k = true-is-not-false (sym k)
        try false k = refl

pub exact : Exact
unfolding found
exact s n text ts bs b = (
  λ h. record { entry = found s n text; typed = found_typed s n text; spellable = (sound s n text b h).0; is = (sound s n text b h).1 },
  λ w. ap (read_entry s n) w.is ∙ back s n w.entry ts bs w.typed w.spellable,
  refused s n text,
)
