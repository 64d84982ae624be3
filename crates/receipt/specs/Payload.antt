-- The payload: "'_', then twelve fields joined by '_'".
use Rattle.std.specs.Prelude.{ℕ, ◌<◌, Bool, ◌&&◌, List, [], ◌∷◌, ◌++◌, ◌≡◌, leb, length, take, drop}
use Rattle.primitives.specs.Base64.{encoding}
use Rattle.primitives.specs.Bytes.{AllBytes}
use Rattle.primitives.specs.declared.base64.Alphabet.TheVariants as alphabet
use Rattle.receipt.specs.Decimal.{digits}
use Rattle.receipt.specs.Amount.{amount_limit, amounts_text}
use Rattle.receipt.specs.DateTime.{date_good, date_text}
use Rattle.receipt.specs.Settings.{name_text, zeros}
use Rattle.receipt.specs.Details.{amounts_within}
use Rattle.receipt.specs.Texts.{separator, beginning, cancellation_text, training_text}
use Rattle.receipt.specs.declared.datetime.DateTime.{DateTime}
use Rattle.receipt.specs.declared.details.Kind.{Kind}
use Rattle.receipt.specs.declared.details.Kind.TheVariants.{Standard, Cancellation, Training}
use Rattle.receipt.specs.declared.settings.Settings.{Settings}
use Rattle.receipt.specs.declared.payload.PayloadFields.{PayloadFields}

-- ---- the spelling

-- BASE64, padded
abbrev pub base64 : List ℕ → List ℕ
base64 xs = encoding alphabet.Standard xs

-- "_R1-", the CSP, '_', the ID, '_'
unfoldable pub register_part : Settings → List ℕ
register_part s = beginning ++ (s.csp ++ (separator ∷ [])) ++ (name_text s.id ++ (separator ∷ []))

-- number, '_', date, '_'
unfoldable pub moment : ℕ → DateTime → List ℕ
moment number date = digits number ++ (separator ∷ []) ++ date_text date ++ (separator ∷ [])

-- what the counter field holds: the n bytes of the encrypted counter, "STO" or "TRA"
unfoldable pub counter_content : ℕ → Kind → List ℕ → List ℕ
counter_content n Standard counter = take n counter
counter_content n Cancellation counter = cancellation_text
counter_content n Training counter = training_text

-- "standard, BASE64 of the encrypted counter after this receipt; cancellation, BASE64 of 'STO'; training, BASE64 of 'TRA'"
unfoldable pub counter_field : ℕ → Kind → List ℕ → List ℕ
counter_field n kind counter = base64 (counter_content n kind counter)

-- counter field, '_', serial, '_', chain field
unfoldable pub closing : Settings → ℕ → PayloadFields → List ℕ
closing s n f =
    (counter_field n f.details.kind f.counter ++ (separator ∷ [])) ++ (name_text s.serial ++ (separator ∷ [])) ++ base64 f.chain

-- what follows the register part
unfoldable pub body : Settings → ℕ → PayloadFields → List ℕ
body s n f = moment f.details.number f.details.date ++ amounts_text f.details.amounts ++ closing s n f

unfoldable pub payload : Settings → ℕ → PayloadFields → List ℕ
payload s n f = register_part s ++ body s n f

-- "A payload is at most 200 bytes"
abbrev pub longest_payload : ℕ
longest_payload = 200

-- ---- which fields a payload may have, under a limit of an amount and under the one that the calls have

-- every byte of the counter that its field does not spell is zero
unfoldable pub counter_good : ℕ → Kind → List ℕ → Bool
counter_good n Standard counter = zeros (drop n counter)
counter_good n Cancellation counter = zeros counter
counter_good n Training counter = zeros counter

unfoldable pub fields_within : ℕ → ℕ → PayloadFields → Bool
fields_within limit n f =
    leb 1 f.details.number
    && (date_good f.details.date && (amounts_within limit f.details.amounts && counter_good n f.details.kind f.counter))

abbrev pub fields_good : ℕ → PayloadFields → Bool
fields_good n f = fields_within amount_limit n f

-- what the code's types say: a number of 32 bits, five amounts and eight bytes twice
pub record TypedFields (f : PayloadFields) : Type 0 where
  pub number : f.details.number < 4294967296
  pub amounts : length f.details.amounts ≡ 5
  pub counter : length f.counter ≡ 8
  pub counter_bytes : AllBytes f.counter
  pub chain : length f.chain ≡ 8
  pub chain_bytes : AllBytes f.chain
