-- The first receipt of an element names the register: "a first receipt that isn't three elements, the middle one canonical for twelve fields with
-- good CSP, ID and serial, 28". First and third element are not looked at, and there is no limit of size.
use Rattle.std.specs.Prelude.{ℕ, ◌+◌, Bool, true, false, cond, ◌&&◌, List, eqb, length, take, drop, replicate}
use Rattle.std.proofs.Math.Option.{Option, none, some}
use Rattle.primitives.specs.Bytes.{same}
use Rattle.primitives.specs.Base64.{decoding}
use Rattle.primitives.specs.declared.base64.Alphabet.TheVariants.{UrlSafe}
use Rattle.receipt.specs.Texts.{separator, dot, beginning}
use Rattle.receipt.specs.Form.{first_at, next_at, part}
use Rattle.receipt.specs.Line.{count_of}
use Rattle.receipt.specs.Separated.{skip}
use Rattle.receipt.specs.Settings.{name_of, settings_good}
use Rattle.receipt.specs.declared.settings.Settings.{Settings}
use Rattle.journal.specs.State.{no_name}

-- what a receipt names: settings, or none
pub record Named : Type 0 where
  pub good : Bool
  pub settings : Settings

-- the second of the parts with "." between them
unfoldable pub middle : List ℕ → List ℕ
middle w = part (first_at dot w + 1) (next_at dot w (first_at dot w + 1)) w

-- the field of a payload with this number: what stands after so many "_", up to the next
unfoldable pub field_of : ℕ → List ℕ → List ℕ
field_of k p = take (first_at separator (skip k p)) (skip k p)

-- what a payload names: its first field after "R1-", its second and its eleventh
unfoldable pub settings_in : List ℕ → Settings
settings_in p = record { csp = drop 3 (field_of 1 p); id = name_of (field_of 2 p); serial = name_of (field_of 11 p) }

-- "_R1-", twelve fields, the first of them six bytes long, and good settings
unfoldable pub payload_names : List ℕ → Bool
payload_names p =
    same (take 4 p) beginning && (eqb (count_of separator p) 12 && (eqb (length (field_of 1 p)) 6 && settings_good (settings_in p)))

abbrev pub not_named : Named
not_named = record { good = false; settings = record { csp = replicate 3 0; id = no_name; serial = no_name } }

abbrev pub named_by : Option (List ℕ) → Named
named_by none = not_named
named_by (some p) = cond (payload_names p) (record { good = true; settings = settings_in p }) not_named

-- what a receipt names
unfoldable pub named : List ℕ → Named
named w = cond (eqb (count_of dot w) 2) (named_by (decoding UrlSafe (middle w))) not_named
