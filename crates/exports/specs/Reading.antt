-- Reading an export: "It rebuilds the journal, with the head from the first receipt, and takes it over."
use Rattle.std.specs.Prelude.{ℕ, Bool, ◌&&◌, List, [], ◌∷◌, map, leb, length, Result, Ok, Err}
use Rattle.std.proofs.Math.Option.{Option, none, some}
use Rattle.primitives.specs.Place.{overwrite}
use Rattle.primitives.specs.Questions.{ask, ifZero}
use Rattle.primitives.specs.Base64.{accepted}
use Rattle.primitives.specs.declared.base64.Alphabet.TheVariants.{Standard}
use Rattle.receipt.specs.declared.settings.Settings.{Settings}
use Rattle.primitives.specs.Refusals.{number_of}
use Rattle.journal.specs.declared.state.State.{State}
use Rattle.journal.specs.declared.state.RefusedAt.{RefusedAt}
use Rattle.journal.specs.State.{unopened}
use Rattle.exports.specs.declared.reading.Restored.{Restored as Read}
use Rattle.journal.specs.Valid.{Owner}
use Rattle.journal.specs.Checking.{take_over}
use Rattle.journal.specs.declared.state.TakenOver.{TakenOver}
use Rattle.exports.specs.Text.{every}
use Rattle.exports.specs.Shape.{Element}
use Rattle.exports.specs.Parsed.{elements_of}
use Rattle.exports.specs.Spelled.{short, some_of, TextPair, journal_spelled}
use Rattle.exports.specs.Naming.{named}

-- ---- what is asked of an element

-- "certificates not in canonical BASE64"
abbrev pub canonical : List ℕ → Bool
canonical w = accepted Standard w

-- 28: certificates in canonical BASE64, and no "receipts over 65,535 bytes or too many for their four-byte count"
unfoldable pub element_good : Element → Bool
element_good e =
    (canonical e.certificate && every canonical e.issuers) && (every short e.receipts && leb (length e.receipts) 4294967295)

-- 29: "an element without one gets 29"
unfoldable pub has_receipt : Element → Bool
has_receipt e = some_of e.receipts

abbrev pub first_of : List (List ℕ) → List ℕ
first_of [] = []
first_of (w ∷ ws) = w

-- the settings that its first receipt names
unfoldable pub settings_of : Element → Settings
settings_of e = (named (first_of e.receipts)).settings

-- 28: "the rule for the first receipt holds in each element"
unfoldable pub names_register : Element → Bool
names_register e = (named (first_of e.receipts)).good

-- ---- the journal that elements spell

-- "with the head from the first receipt"
unfoldable pub owner_of : List Element → Owner
owner_of [] = record { csp = (named []).settings.csp; id = (named []).settings.id }
owner_of (e ∷ es) = record { csp = (settings_of e).csp; id = (settings_of e).id }

unfoldable pub pair_of : Element → TextPair
pair_of e = record { serial = (settings_of e).serial; texts = e.receipts }

unfoldable pub journal_of_elements : List Element → List ℕ
journal_of_elements es = journal_spelled (owner_of es) (map pair_of es)

-- ---- the questions: "each question before 23 goes through all elements first"

-- 28 ("an empty outer array too"), 29, 28, and then the rest
unfoldable pub survey_number : List Element → ℕ → ℕ
survey_number es rest =
    ask (some_of es && every element_good es) 28 (ask (every has_receipt es) 29 (ask (every names_register es) 28 rest))

-- and 23
unfoldable pub elements_number : List Element → ℕ → ℕ
elements_number es room = survey_number es (ask (leb (length (journal_of_elements es)) room) 23 0)

-- ---- the call

-- its answer: the number of the first question answered no, and Take over's index, or 0 for 28, 29 and 23; or 0, the length of the journal and the state after it
pub record Restored : Type 0 where
  pub number : ℕ
  pub index : ℕ
  pub length : ℕ
  pub state : State

abbrev pub as_restored : Result Read RefusedAt → Restored
as_restored (Ok r) = record { number = 0; index = 0; length = r.length; state = r.state }
as_restored (Err r) = record { number = number_of r.question; index = r.index; length = 0; state = unopened }

unfoldable pub not_read : ℕ → ℕ → Restored
not_read number index = record { number = number; index = index; length = 0; state = unopened }

-- "and then the numbers of Take over"
abbrev pub restored_from : TakenOver → ℕ → Restored
restored_from t n = ifZero t.number (record { number = 0; index = 0; length = n; state = t.state }) (not_read t.number t.index)

abbrev pub restored_by : Option (List Element) → List ℕ → ℕ → ℕ → Restored
restored_by none key n room = not_read 28 0
restored_by (some es) key n room =
    ifZero (elements_number es room) (restored_from (take_over (journal_of_elements es) key n) (length (journal_of_elements es))) (not_read (elements_number es room) 0)

-- the answer for a text, a key, a width and an output of this length
unfoldable pub restored : List ℕ → List ℕ → ℕ → ℕ → Restored
restored text key n room = restored_by (elements_of text) key n room

abbrev pub journal_by : Option (List Element) → List ℕ
journal_by none = []
journal_by (some es) = journal_of_elements es

-- the output after it
unfoldable pub restored_buffer : List ℕ → List ℕ → ℕ → List ℕ → List ℕ
restored_buffer text key n out = ifZero (restored text key n (length out)).number (overwrite out 0 (journal_by (elements_of text))) out
