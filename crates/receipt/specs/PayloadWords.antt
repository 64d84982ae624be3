-- The payload of a receipt, and which receipts can be spelled, in the paper's words; the proofs are in proofs/TwelveFields.antt and GoodEntries.antt.
use Rattle.std.specs.Prelude.{ℕ, ◌≤◌, true, ◌≡◌, List, [], ◌∷◌, ◌++◌, ℤ, length, take, drop, replicate}
use Prim.Native.Char.{code}
use Rattle.primitives.specs.Text.{ascii}
use Rattle.primitives.specs.Base64.{encoding}
use Rattle.primitives.specs.declared.base64.Alphabet.TheVariants as alphabet
use Rattle.receipt.specs.Decimal.{digits}
use Rattle.receipt.specs.Amount.{amount}
use Rattle.receipt.specs.DateTime.{date_text}
use Rattle.receipt.specs.Payload.{counter_field, payload}
use Rattle.receipt.specs.Compact.{spellable}
use Rattle.receipt.specs.SettingsWords.{Means, GoodWidth}
use Rattle.receipt.specs.DetailsWords.{GoodDate, GoodAmounts}
use Rattle.receipt.specs.declared.settings.Settings.{Settings}
use Rattle.receipt.specs.declared.details.Kind.TheVariants.{Standard, Cancellation, Training}
use Rattle.receipt.specs.declared.payload.PayloadFields.{PayloadFields}
use Rattle.receipt.specs.declared.entry.Entry.{Entry}

-- fields joined by "_"
unfoldable pub joined : List (List ℕ) → List ℕ
joined [] = []
joined (f ∷ []) = f
joined (f ∷ g ∷ fs) = f ++ (code "_" ∷ joined (g ∷ fs))

-- "'_', then twelve fields joined by '_': 'R1-' and CSP; ID; number without leading zeros; date; the five amounts; counter field; serial; chain field"
abbrev pub PayloadIsTwelveFields : Type 0
PayloadIsTwelveFields =
    (s : Settings) (n : ℕ) (f : PayloadFields) (normal reduced1 reduced2 zero special : ℤ)
    → f.details.amounts ≡ normal ∷ reduced1 ∷ reduced2 ∷ zero ∷ special ∷ []
    → payload s n f
    ≡ code "_"
    ∷ joined
    ((ascii "R1-" ++ s.csp)
    ∷ take s.id.len s.id.bytes
    ∷ digits f.details.number
    ∷ date_text f.details.date
    ∷ amount normal
    ∷ amount reduced1
    ∷ amount reduced2
    ∷ amount zero
    ∷ amount special
    ∷ counter_field n f.details.kind f.counter
    ∷ take s.serial.len s.serial.bytes
    ∷ encoding alphabet.Standard f.chain
    ∷ [])

-- ---- question 16: which receipts can be spelled at all

-- every byte is zero
abbrev pub Zeros : List ℕ → Type 0
Zeros xs = xs ≡ replicate (length xs) 0

-- "number, date with its time and amounts within limits", where number 0 is none, under names of at most 32 bytes and a width of 5 to 8. What an entry holds and does not spell
-- is zero: the bytes after a counter of n bytes, the whole counter of a cancellation or a training receipt, and the signature of a failed device
pub record GoodEntry (s : Settings) (n : ℕ) (e : Entry) : Type 0 where
  pub id : s.id.len ≤ 32
  pub serial : s.serial.len ≤ 32
  pub width : GoodWidth n
  pub number : 1 ≤ e.fields.details.number
  pub date : GoodDate e.fields.details.date
  pub amounts : GoodAmounts e.fields.details.amounts
  pub standard : e.fields.details.kind ≡ Standard → Zeros (drop n e.fields.counter)
  pub cancellation : e.fields.details.kind ≡ Cancellation → Zeros e.fields.counter
  pub training : e.fields.details.kind ≡ Training → Zeros e.fields.counter
  pub failed : e.signature.failed ≡ true → Zeros e.signature.bytes

abbrev pub SpellableMeans : Type 0
SpellableMeans = (s : Settings) (n : ℕ) (e : Entry) → Means (spellable s n e) (GoodEntry s n e)
