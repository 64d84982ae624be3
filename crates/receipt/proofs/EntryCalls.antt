-- What the functions of an entry show at their returns, over plain variables.
use Rattle.std.proofs.Common.{ℕ, ◌+◌, ◌≤◌, ◌<◌, ◌≡◌, refl, sym, ap, ◌∙◌, Bool, true, false, cond, ◌&&◌, List, [], arith, leb-true, leb-false, leb, eqb, length, take}
use mathlib.Core.Bool.{and-false}
use mathlib.Core.Option.{Option, some, none}
use Rattle.std.specs.Cmp.Lexicographic.{pointwise}
use Rattle.primitives.specs.Place.{overwrite, placed, place_after}
use Rattle.primitives.specs.Bytes.{same}
use Rattle.primitives.specs.Counter.{width_good}
use Rattle.primitives.proofs.Over.{over_nil, read_over, placed_room, placed_full, after_room, after_full}
use Rattle.receipt.specs.Settings.{sized, SettingsLengths}
use Rattle.receipt.specs.Payload.{payload, longest_payload, fields_good, fields_within}
use Rattle.receipt.specs.PayloadReading.{blank, read_fields}
use Rattle.receipt.specs.Form.{Parts, parts, signed_input, signed_form, parts_of_form, failure_text}
use Rattle.receipt.specs.Compact.{signature_text, compact, signing_input, signature_zero, preparable, preparable_within, spellable, spellable_within, prepared, spelled, signature_of, spells, Found, no_entry, entry_of, read_entry, FoundDeterminesEntry}
use Rattle.receipt.specs.declared.settings.Settings.{Settings}
use Rattle.receipt.specs.declared.payload.PayloadFields.{PayloadFields}
use Rattle.receipt.specs.declared.entry.Signature.{Signature}
use Rattle.receipt.specs.declared.entry.Entry.{Entry}
use Rattle.std.specs.Prelude.{Some, None}
use Rattle.primitives.proofs.Rows.{both, true-is-not-false}
use Rattle.receipt.proofs.Written.{Sizes, payload_most}
use Rattle.receipt.proofs.Worded.{same_is}

-- ---- which entries have a compact form

-- what it takes to have a payload
pub record Preparable (s : Settings) (n : ℕ) (f : PayloadFields) : Type 0 where
  pub sized : sized s ≡ true
  pub width : width_good n ≡ true
  pub fields : fields_good n f ≡ true

pub preparable_true : (s : Settings) (n : ℕ) (f : PayloadFields) → preparable s n f ≡ true → Preparable s n f
unfolding preparable_within
preparable_true s n f e =
    let p = both (sized s) (width_good n && fields_good n f) e in
    let q = both (width_good n) (fields_good n f) p.1 in
    record { sized = p.0; width = q.0; fields = q.1 }

pub preparable_made : (s : Settings) (n : ℕ) (f : PayloadFields) → Preparable s n f → preparable s n f ≡ true
unfolding preparable_within
preparable_made s n f p = rw (p.sized, p.width, p.fields)

-- an entry can be spelled if its fields have a payload, and its signature is good
pub record Spellable (s : Settings) (n : ℕ) (e : Entry) : Type 0 where
  pub fields : Preparable s n e.fields
  pub signature : signature_zero e.signature ≡ true

pub spellable_is : (s : Settings) (n : ℕ) (e : Entry) → spellable s n e ≡ preparable s n e.fields && signature_zero e.signature
unfolding spellable_within
spellable_is s n e = refl

pub spellable_true : (s : Settings) (n : ℕ) (e : Entry) → spellable s n e ≡ true → Spellable s n e
spellable_true s n e g =
    let q = both (preparable s n e.fields) (signature_zero e.signature) (sym (spellable_is s n e) ∙ g) in
    record { fields = preparable_true s n e.fields q.0; signature = q.1 }

-- what the writers write then
pub spelled_is : (s : Settings) (n : ℕ) (e : Entry) → spellable s n e ≡ true → spelled s n e ≡ compact s n e
unfolding spelled
spelled_is s n e g = rw g

pub prepared_is : (s : Settings) (n : ℕ) (f : PayloadFields) → preparable s n f ≡ true → prepared s n f ≡ signing_input s n f
unfolding prepared
prepared_is s n f g = rw g

pub spells_is : (s : Settings) (n : ℕ) (f : PayloadFields) (text : List ℕ) → spells s n f text ≡ preparable s n f && same (payload s n f) text
unfolding spells
spells_is s n f text = refl

-- ---- the payload, in a buffer of the longest payload

-- the payload that fields have
abbrev pub payload_of : Settings → ℕ → PayloadFields → Option (List ℕ)
payload_of s n f = cond (preparable s n f) (some (payload s n f)) none

module _ (s : Settings) (n : ℕ) (f : PayloadFields) where
  pub payload_none : preparable s n f ≡ false → none ≡ payload_of s n f
  payload_none e = rw e

  module _ (ts : SettingsLengths s) (tf : Sizes f) (out : List ℕ) (long : length out ≡ longest_payload) (e : preparable s n f ≡ true) where
    pub payload_room : 0 + length (payload s n f) ≤ length out
    payload_room =
        let p = preparable_true s n f e in
        omega (arith, payload_most s n f ts p.sized tf p.fields)

    pub payload_some : {r : ℕ} {out₁ : List ℕ} → (r ≡ 0 + length (payload s n f)) × (out₁ ≡ overwrite out 0 (payload s n f))
        → (r ≤ length out) × (some (take r out₁) ≡ payload_of s n f)
    payload_some {r} h =
        let q : r ≡ length (payload s n f) = omega (arith, h.0) in
        (omega (arith, payload_room), rw e (ap some ((λ i. take (q i) (h.1 i)) ∙ read_over out 0 (payload s n f) payload_room)))

  -- what is known after that
  pub unprepared : none ≡ payload_of s n f → preparable s n f ≡ false
  unprepared h = go (preparable s n f) h
    where
      go : (t : Bool) → none ≡ cond t (some (payload s n f)) none → t ≡ false
      go true e = let z : ◌≡◌ {A = ℕ} 0 1 = cc in absurd (omega arith)
      go false e = refl

  pub is_prepared : {p : List ℕ} → some p ≡ payload_of s n f → (preparable s n f ≡ true) × (p ≡ payload s n f)
  is_prepared {p} h = go (preparable s n f) h
    where
      go : (t : Bool) → some p ≡ cond t (some (payload s n f)) none → (t ≡ true) × (p ≡ payload s n f)
      go true e = (refl, cc)
      go false e = let z : ◌≡◌ {A = ℕ} 0 1 = cc in absurd (omega arith)

-- ---- writing

-- nothing is written
empty : (out : List ℕ) (at : ℕ) → (at ≡ place_after out at []) × (out ≡ placed out at [])
empty out at = go (leb at (length out)) refl
  where
    go : (t : Bool) → leb at (length out) ≡ t → (at ≡ place_after out at []) × (out ≡ placed out at [])
    go true q =
        let k : at + 0 ≤ length out = omega (arith, leb-true at (length out) q) in
        (omega (arith, after_room out at [] k), sym (placed_room out at [] k ∙ over_nil out at))
    go false q =
        let k : length out < at + 0 = omega (arith, leb-false at (length out) q) in
        (sym (after_full out at [] k), sym (placed_full out at [] k))

module _ (out : List ℕ) (at : ℕ) where
  -- by an entry that can't be spelled
  module _ (s : Settings) (n : ℕ) (e : Entry) where
    unspelled : spellable s n e ≡ false → (at ≡ place_after out at (spelled s n e)) × (out ≡ placed out at (spelled s n e))
    unfolding spelled
    unspelled q = rw q (empty out at)

    pub no_payload : preparable s n e.fields ≡ false → (at ≡ place_after out at (spelled s n e)) × (out ≡ placed out at (spelled s n e))
    no_payload q = unspelled (spellable_is s n e ∙ ap (λ (t : Bool). t && signature_zero e.signature) q)

    pub stray_bytes : signature_zero e.signature ≡ false → (at ≡ place_after out at (spelled s n e)) × (out ≡ placed out at (spelled s n e))
    stray_bytes q = unspelled (spellable_is s n e ∙ ap (λ (t : Bool). preparable s n e.fields && t) q ∙ and-false (preparable s n e.fields))

    pub wrote_compact : {r : ℕ} {out₁ p : List ℕ} → preparable s n e.fields ≡ true → signature_zero e.signature ≡ true → p ≡ payload s n e.fields
        → (r ≡ place_after out at (signed_form (parts p (signature_text e.signature)))) × (out₁ ≡ placed out at (signed_form (parts p (signature_text e.signature))))
        → (r ≡ place_after out at (spelled s n e)) × (out₁ ≡ placed out at (spelled s n e))
    unfolding spelled compact
    wrote_compact {p = p} a b q h =
        let w : spellable s n e ≡ true = spellable_is s n e ∙ rw (a, b) in
        rw (w, sym q) h

  module _ (s : Settings) (n : ℕ) (f : PayloadFields) where
    pub no_input : preparable s n f ≡ false → (at ≡ place_after out at (prepared s n f)) × (out ≡ placed out at (prepared s n f))
    unfolding prepared
    no_input q = rw q (empty out at)

    pub wrote_input : {r : ℕ} {out₁ p : List ℕ} → preparable s n f ≡ true → p ≡ payload s n f
        → (r ≡ place_after out at (signed_input p)) × (out₁ ≡ placed out at (signed_input p))
        → (r ≡ place_after out at (prepared s n f)) × (out₁ ≡ placed out at (prepared s n f))
    unfolding prepared signing_input
    wrote_input a q h = rw (a, sym q) h

-- ---- the signature

module _ (g : Signature) where
  pub text_whole : g.failed ≡ false → g.bytes ≡ signature_text g
  unfolding signature_text
  text_whole e = rw e

  pub text_failed : g.failed ≡ true → failure_text ≡ signature_text g
  unfolding signature_text
  text_failed e = rw e

module _ (p out : List ℕ) (at : ℕ) {t u : List ℕ} (e : t ≡ u) {r : ℕ} {out₁ : List ℕ} where
  pub signed_as : (r ≡ place_after out at (signed_form (parts p t))) × (out₁ ≡ placed out at (signed_form (parts p t)))
      → (r ≡ place_after out at (signed_form (parts p u))) × (out₁ ≡ placed out at (signed_form (parts p u)))
  signed_as h = rw (sym e) h

-- ---- reading

module _ (s : Settings) (n : ℕ) (f : PayloadFields) (text : List ℕ) where
  pub spells_none : preparable s n f ≡ false → false ≡ spells s n f text
  spells_none e = sym (spells_is s n f text ∙ ap (λ (t : Bool). t && same (payload s n f) text) e)

  pub spells_some : {r : Bool} {p : List ℕ} → preparable s n f ≡ true → p ≡ payload s n f → r ≡ pointwise eqb p text → r ≡ spells s n f text
  spells_some e q h =
      h ∙ same_is _ text ∙ (λ i. same (q i) text) ∙ sym (spells_is s n f text ∙ ap (λ (t : Bool). t && same (payload s n f) text) e)

-- no text is the payload of blank fields
blank_unspelled : (s : Settings) (n : ℕ) (text : List ℕ) → spells s n blank text ≡ false
unfolding spells preparable_within fields_within blank
blank_unspelled s n text = rw (and-false (width_good n), and-false (sized s))

pub read_refused : (s : Settings) (n : ℕ) (text : List ℕ) → none ≡ parts_of_form text → no_entry ≡ read_entry s n text
unfolding read_entry
read_refused s n text e = rw (sym e)

module _ (s : Settings) (n : ℕ) (text : List ℕ) {p : Parts} (e : some p ≡ parts_of_form text) where
  pub read_short : read_fields s n p.payload ≡ blank → no_entry ≡ read_entry s n text
  unfolding read_entry entry_of
  read_short h = rw (sym e, h, blank_unspelled s n p.payload)

  module _ {f : PayloadFields} (fs : f ≡ read_fields s n p.payload) where
    pub read_other : spells s n f p.payload ≡ false → no_entry ≡ read_entry s n text
    unfolding read_entry entry_of
    read_other q = rw (sym e, sym fs, q)

    pub read_found : {g : Signature} → spells s n f p.payload ≡ true → g ≡ signature_of p.signature
        → record { ok = true; entry = record { fields = f; signature = g } } ≡ read_entry s n text
    unfolding read_entry entry_of
    read_found q h = rw (sym e, sym fs, q, h)

pub found_determines_entry : FoundDeterminesEntry
unfolding no_entry
found_determines_entry None None e = refl
found_determines_entry None (Some y) e = let z : false ≡ true = ap (λ (f : Found). f.ok) e in absurd (true-is-not-false z)
found_determines_entry (Some x) None e = let z : false ≡ true = sym (ap (λ (f : Found). f.ok) e) in absurd (true-is-not-false z)
found_determines_entry (Some x) (Some y) e = ap Some (ap (λ (f : Found). f.entry) e)
