-- A receipt as a journal's entry spells it: its compact form, written and read.
use Rattle.std.specs.Prelude as Rust
use Rattle.std.specs.Prelude.{ℕ, Bool, true, false, cond, not, ◌&&◌, ◌||◌, Some, None, List, [], ◌≡◌, eqb, length, replicate}
use Rattle.std.proofs.Math.Option.{Option, none, some}
use Rattle.primitives.specs.Bytes.{AllBytes, same}
use Rattle.primitives.specs.Counter.{width_good}
use Rattle.receipt.specs.Amount.{amount_limit}
use Rattle.receipt.specs.Settings.{sized, zeros}
use Rattle.receipt.specs.Payload.{payload, fields_within, TypedFields}
use Rattle.receipt.specs.PayloadReading.{blank, read_fields}
use Rattle.receipt.specs.Form.{Parts, parts, signed_input, signed_form, parts_of_form, failure_text}
use Rattle.receipt.specs.declared.settings.Settings.{Settings}
use Rattle.receipt.specs.declared.payload.PayloadFields.{PayloadFields}
use Rattle.receipt.specs.declared.entry.Signature.{Signature}
use Rattle.receipt.specs.declared.entry.Entry.{Entry}

-- ---- the spelling

-- the signature's 64 bytes; the text of a failed device
unfoldable pub signature_text : Signature → List ℕ
signature_text g = cond g.failed failure_text g.bytes

-- the elements of header, payload and signature, with "." between them
unfoldable pub compact : Settings → ℕ → Entry → List ℕ
compact s n e = signed_form (parts (payload s n e.fields) (signature_text e.signature))

-- what the device signs: what stands before the second "."
unfoldable pub signing_input : Settings → ℕ → PayloadFields → List ℕ
signing_input s n f = signed_input (payload s n f)

-- "a compact form 375"
abbrev pub longest_compact : ℕ
longest_compact = 375

-- what the code's types say of an entry
pub record TypedEntry (e : Entry) : Type 0 where
  pub fields : TypedFields e.fields
  pub signature : length e.signature.bytes ≡ 64
  pub signature_bytes : AllBytes e.signature.bytes

-- ---- which entries have a compact form, under a limit of an amount and under the one that the calls have

-- if the device has failed, all bytes are zero
unfoldable pub signature_zero : Signature → Bool
signature_zero g = not g.failed || zeros g.bytes

-- these fields can be spelled as a payload
unfoldable pub preparable_within : ℕ → Settings → ℕ → PayloadFields → Bool
preparable_within limit s n f = sized s && (width_good n && fields_within limit n f)

abbrev pub preparable : Settings → ℕ → PayloadFields → Bool
preparable s n f = preparable_within amount_limit s n f

-- and, with this signature, as a compact form
unfoldable pub spellable_within : ℕ → Settings → ℕ → Entry → Bool
spellable_within limit s n e = preparable_within limit s n e.fields && signature_zero e.signature

abbrev pub spellable : Settings → ℕ → Entry → Bool
spellable s n e = spellable_within amount_limit s n e

-- ---- what the writers write: nothing if there is nothing to spell

unfoldable pub prepared : Settings → ℕ → PayloadFields → List ℕ
prepared s n f = cond (preparable s n f) (signing_input s n f) []

unfoldable pub spelled : Settings → ℕ → Entry → List ℕ
spelled s n e = cond (spellable s n e) (compact s n e) []

-- ---- question 16: what the bytes of one entry spell

-- the signature with this text
unfoldable pub signature_of : List ℕ → Signature
signature_of text = cond (eqb (length text) 64) (record { failed = false; bytes = text }) (record { failed = true; bytes = replicate 64 0 })

-- the fields have a payload, and it is this text
unfoldable pub spells : Settings → ℕ → PayloadFields → List ℕ → Bool
spells s n f text = preparable s n f && same (payload s n f) text

-- what a reader finds: whether the text spells an entry, and that entry, or a blank one if it does not
pub record Found : Type 0 where
  pub ok : Bool
  pub entry : Entry

-- nothing is found
unfoldable pub no_entry : Found
no_entry =
    record { ok = false; entry = record { fields = blank; signature = record { failed = false; bytes = replicate 64 0 } } }

-- fields that are read loosely, and spelled again
unfoldable pub entry_of : Settings → ℕ → PayloadFields → Parts → Found
entry_of s n f p =
    cond (spells s n f p.payload) (record { ok = true; entry = record { fields = f; signature = signature_of p.signature } }) no_entry

abbrev pub entry_of_parts : Settings → ℕ → Option Parts → Found
entry_of_parts s n none = no_entry
entry_of_parts s n (some p) = entry_of s n (read_fields s n p.payload) p

unfoldable pub read_entry : Settings → ℕ → List ℕ → Found
read_entry s n text = entry_of_parts s n (parts_of_form text)

-- an entry that may be missing, as what is found
abbrev pub as_found : Rust.Option Entry → Found
as_found None = no_entry
as_found (Some e) = record { ok = true; entry = e }

-- it determines the entry; proved in proofs/EntryCalls.antt
abbrev pub FoundDeterminesEntry : Type 0
FoundDeterminesEntry = (a b : Rust.Option Entry) → as_found a ≡ as_found b → a ≡ b
