-- Laws of entries and their compact forms, as statements; the proofs are in proofs/ExactEntry.antt and Cents.antt.
use Rattle.std.specs.Prelude.{ℕ, ◌≤◌, ◌<◌, ◌≡◌, true, false, List, [], ◌∷◌, ◌++◌, ℤ, length, take}
use Rattle.primitives.specs.Bytes.{AllBytes}
use Rattle.primitives.specs.Base64.{encoding}
use Rattle.primitives.specs.declared.base64.Alphabet.TheVariants.{UrlSafe}
use Rattle.receipt.specs.Settings.{SettingsLengths, SettingsBytes}
use Rattle.receipt.specs.Amount.{amount, longest_amount, within_limit}
use Rattle.receipt.specs.Payload.{TypedFields, payload, longest_payload}
use Rattle.receipt.specs.Form.{second_dot}
use Rattle.receipt.specs.Texts.{dot}
use Rattle.receipt.specs.Compact.{TypedEntry, signature_text, compact, signing_input, longest_compact, spellable, no_entry, read_entry, preparable}
use Rattle.receipt.specs.declared.settings.Settings.{Settings}
use Rattle.receipt.specs.declared.entry.Entry.{Entry}
use Rattle.receipt.specs.declared.payload.PayloadFields.{PayloadFields}

-- the text is the compact form of an entry that can be spelled
pub record Spelled (s : Settings) (n : ℕ) (text : List ℕ) : Type 0 where
  pub entry : Entry
  pub typed : TypedEntry entry
  pub spellable : spellable s n entry ≡ true
  pub is : text ≡ compact s n entry

-- question 16 is exact: the reader accepts the texts that are the compact form of an entry, and finds that entry; in a refused text it finds nothing
abbrev pub Exact : Type 0
Exact =
    (s : Settings) (n : ℕ) (text : List ℕ) → SettingsLengths s → SettingsBytes s → AllBytes text
    → ((read_entry s n text).ok ≡ true → Spelled s n text) × ((w : Spelled s n text) → read_entry s n text ≡ record { ok = true; entry = w.entry }) × ((read_entry s n text).ok ≡ false → read_entry s n text ≡ no_entry)

-- an entry is read back from its compact form
abbrev pub EntryIsReadBack : Type 0
EntryIsReadBack =
    (s : Settings) (n : ℕ) (e : Entry) → SettingsLengths s → SettingsBytes s → TypedEntry e → spellable s n e ≡ true
    → read_entry s n (compact s n e) ≡ record { ok = true; entry = e }

-- no two entries have the same spelling
abbrev pub OneSpelling : Type 0
OneSpelling =
    (s : Settings) (n : ℕ) (e f : Entry) → SettingsLengths s → SettingsBytes s → TypedEntry e → TypedEntry f → spellable s n e ≡ true → spellable s n f ≡ true
    → compact s n e ≡ compact s n f → e ≡ f

-- an amount within the limit is no longer than the longest
abbrev pub AmountIsShort : Type 0
AmountIsShort = (z : ℤ) → within_limit z ≡ true → length (amount z) ≤ longest_amount

-- "A payload is at most 200 bytes"
abbrev pub PayloadIsShort : Type 0
PayloadIsShort = (s : Settings) (n : ℕ) (f : PayloadFields) → SettingsLengths s → TypedFields f → preparable s n f ≡ true → length (payload s n f) ≤ longest_payload

-- "a compact form 375"
abbrev pub CompactIsShort : Type 0
CompactIsShort = (s : Settings) (n : ℕ) (e : Entry) → SettingsLengths s → TypedEntry e → spellable s n e ≡ true → length (compact s n e) ≤ longest_compact

-- and longer than any number or register ID
abbrev pub CompactIsLong : Type 0
CompactIsLong = (s : Settings) (n : ℕ) (e : Entry) → TypedEntry e → 42 < length (compact s n e)

abbrev pub CompactIsBytes : Type 0
CompactIsBytes = (s : Settings) (n : ℕ) (e : Entry) → AllBytes (compact s n e)

-- the signing input, "." and the signature's element are the compact form
abbrev pub CompactIsSigned : Type 0
CompactIsSigned =
    (s : Settings) (n : ℕ) (e : Entry)
    → compact s n e ≡ signing_input s n e.fields ++ ((dot ∷ []) ++ encoding UrlSafe (signature_text e.signature))

-- so the signing input is what stands before the second "."
abbrev pub InputBeforeDot : Type 0
InputBeforeDot = (s : Settings) (n : ℕ) (e : Entry) → take (second_dot (compact s n e)) (compact s n e) ≡ signing_input s n e.fields

-- what is found has the code's types, accepted or not
abbrev pub FoundIsTyped : Type 0
FoundIsTyped = (s : Settings) (n : ℕ) (text : List ℕ) → TypedEntry (read_entry s n text).entry
