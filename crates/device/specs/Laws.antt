-- What holds of settings, states and details as bytes. Proved in proofs/.
use Rattle.std.specs.Prelude.{ℕ, ◌%◌, ◌<◌, ◌≡◌, Bool, true, false, List, [], pos, length, replicate, get_or}
use Rattle.primitives.specs.Bytes.{AllBytes}
use Rattle.primitives.specs.Counter.{fits_in}
use Rattle.receipt.specs.Chain.{hash_input}
use Rattle.receipt.specs.declared.settings.Name.{Name}
use Rattle.receipt.specs.declared.settings.Settings.{Settings}
use Rattle.receipt.specs.declared.details.Details.{Details}
use Rattle.journal.specs.State.{unopened, TypedRegister, TypedState}
use Rattle.journal.specs.Opening.{open_number}
use Rattle.journal.specs.SharedKey.{SharedDigit}
use Rattle.journal.specs.Preparing.{prepare_number}
use Rattle.journal.specs.Step.{sound, details_number}
use Rattle.journal.specs.Issuing.{issue_number}
use Rattle.journal.specs.Changing.{change_number}
use Rattle.journal.specs.Parts.{check_steps}
use Rattle.journal.specs.declared.state.State.{State}
use Rattle.device.specs.Layout.{settings_bytes, state_bytes, no_settings, settings_of, width_of, key_of, state_of, kept}
use Rattle.device.specs.Details.{no_details, pieces, details_bytes, details_in, list_in}
use Rattle.device.specs.Calls.{settings_from, width_with, settings_answer, settings_buffer, Slices, opened_number, opened_slices, IssueCall, issued_number, issued_slices, listed_number, listed_count, listed_slices, changed_number, changed_slices, take_over_answer, head_answer, steps_answer, settings_in, settings_in_buffer}

-- ---- reading and writing undo each other

abbrev pub SettingsAreRead : Type 0
SettingsAreRead =
    (s : Settings) (n : ℕ) (key : List ℕ) → TypedRegister s n key
    → (settings_of (settings_bytes s n key) ≡ s) × (width_of (settings_bytes s n key) ≡ n) × (key_of (settings_bytes s n key) ≡ key)

-- where ditgrux_settings returns 0, it has written what it was given
abbrev pub WrittenSettingsAreRead : Type 0
WrittenSettingsAreRead =
    (csp id serial key : List ℕ) (n : ℕ) (out : List ℕ) → AllBytes key → settings_answer (settings_from csp id serial) (width_with key n) (length out) ≡ 0
    → (settings_of (settings_buffer (settings_from csp id serial) key n out) ≡ settings_from csp id serial)
    × (width_of (settings_buffer (settings_from csp id serial) key n out) ≡ n)
    × (key_of (settings_buffer (settings_from csp id serial) key n out) ≡ key)

abbrev pub SettingsBytesAreKept : Type 0
SettingsBytesAreKept = (b : List ℕ) → AllBytes b → length b ≡ 123 → settings_bytes (settings_of b) (width_of b) (key_of b) ≡ b

abbrev pub StateIsRead : Type 0
StateIsRead = (st : State) → TypedState st → state_of (state_bytes st) ≡ st

abbrev pub BytesAreKept : Type 0
BytesAreKept = (b : List ℕ) → AllBytes b → length b ≡ 447 → state_bytes (state_of b) ≡ b

-- ---- what is all zero

abbrev pub UnopenedIsZero : Type 0
UnopenedIsZero = state_bytes unopened ≡ replicate 447 0

-- settings of another length get 1, a state of another length gets 6, and an unknown kind gets 7
abbrev pub NoSettingsGetOne : Type 0
NoSettingsGetOne = (shared : Bool) (n room : ℕ) → open_number no_settings shared n room ≡ 1

abbrev pub UnopenedGetsSix : Type 0
UnopenedGetsSix =
    (d : Details) (sig : List ℕ) (serial : Name) (room : ℕ)
    → (issue_number unopened d sig room ≡ 6) × (prepare_number unopened d room ≡ 6) × (change_number unopened serial room ≡ 6)
    × ((j : List ℕ) (n : ℕ) → (check_steps unopened j n).number ≡ 6)

abbrev pub UnknownKindGetsSeven : Type 0
UnknownKindGetsSeven = (st : State) (rest : ℕ) → details_number st no_details rest ≡ 7

-- ---- ditgrux_open, and ditgrux_open_shared for a shared key

-- two receipts of registers that ditgrux_open_shared opened have the same hash input only if ID and number are the same
abbrev pub SharedKeyNeverRepeatsInC : Type 0
SharedKeyNeverRepeatsInC =
    (settings others : List ℕ) (g h : Slices) → AllBytes settings → AllBytes others → opened_number settings true g ≡ 0 → opened_number others true h ≡ 0
    → (a b : ℕ) → a < 4294967296 → b < 4294967296 → hash_input (settings_of settings).id a ≡ hash_input (settings_of others).id b
    → ((settings_of settings).id ≡ (settings_of others).id) × (a ≡ b)

-- 32 is returned exactly by ditgrux_open_shared, for a good CSP and a good ID that ends in a digit, with a state's slice of 447 bytes
abbrev pub SharedDigitGets32InC : Type 0
SharedDigitGets32InC =
    (settings : List ℕ) (shared : Bool) (g : Slices)
    → (opened_number settings shared g ≡ 32 → (length g.state ≡ 447) × SharedDigit (settings_of settings) shared)
    × (length g.state ≡ 447 → SharedDigit (settings_of settings) shared → opened_number settings shared g ≡ 32)

-- unless it returns 32, ditgrux_open_shared returns what ditgrux_open returns and leaves the same bytes
abbrev pub SharedIsNotStoredInC : Type 0
SharedIsNotStoredInC =
    (settings : List ℕ) (g : Slices) → (opened_number settings true g ≡ 32 → ⊥)
    → (opened_number settings true g ≡ opened_number settings false g) × (opened_slices settings true g ≡ opened_slices settings false g)

-- refused, either leaves the journal as it was and the unopened state; if the state's slice is not 447 bytes long, it is as it was
abbrev pub RefusedOpenKeepsJournal : Type 0
RefusedOpenKeepsJournal =
    (settings : List ℕ) (shared : Bool) (g : Slices) → (opened_number settings shared g ≡ 0 → ⊥)
    → ((opened_slices settings shared g).journal ≡ g.journal) × ((opened_slices settings shared g).state ≡ kept g.state unopened)

-- ---- a refused ditgrux_issue leaves the bytes of the state and the journal as they were, also where the state is not 447 bytes long

abbrev pub RefusedIssueKeepsSlices : Type 0
RefusedIssueKeepsSlices = (g : Slices) → AllBytes g.state → (c : IssueCall) → (issued_number g c ≡ 0 → ⊥) → issued_slices g c ≡ g

-- and so does a refused ditgrux_change
abbrev pub RefusedChangeKeepsSlices : Type 0
RefusedChangeKeepsSlices =
    (g : Slices) → AllBytes g.state → (serial : List ℕ) → (changed_number g serial ≡ 0 → ⊥) → changed_slices g serial ≡ g

-- ---- ditgrux_issue_list

-- if it says that none is issued, it leaves the bytes of the state and the journal as they were, also where the state is not 447 bytes long
abbrev pub RefusedListKeepsSlices : Type 0
RefusedListKeepsSlices = (g : Slices) → AllBytes g.state → (list : List ℕ) → listed_count g list ≡ 0 → listed_slices g list ≡ g

-- an empty list: nothing is refused, none is issued, and nothing changes
abbrev pub EmptyListChangesNothingInC : Type 0
EmptyListChangesNothingInC =
    (g : Slices) → AllBytes g.state → (listed_number g [] ≡ 0) × (listed_count g [] ≡ 0) × (listed_slices g [] ≡ g)

-- a list that is not a whole number of details: none is issued, and 7 is returned, or 6 if the state is not sound
abbrev pub CutListIssuesNone : Type 0
CutListIssuesNone =
    (g : Slices) (list : List ℕ) → AllBytes g.state → (length list % 72 ≡ 0 → ⊥)
    → (listed_count g list ≡ 0) × (listed_slices g list ≡ g)
    × (sound (state_of g.state) (length g.journal) ≡ true → listed_number g list ≡ 7)
    × (sound (state_of g.state) (length g.journal) ≡ false → listed_number g list ≡ 6)

-- ---- a state that is not 447 bytes long, such as the 155 bytes of version 1

-- it is left as it was: Open, Issue, a list that is not empty, Change, Prepare, Take over and the two checks get 6 with it
pub record OtherLengthsGetSix : Type 0 where
  pub opens : (settings : List ℕ) (shared : Bool) (g : Slices) → (length g.state ≡ 447 → ⊥)
      → (opened_number settings shared g ≡ 6) × (opened_slices settings shared g ≡ g)
  pub issues : (g : Slices) (c : IssueCall) → (length g.state ≡ 447 → ⊥) → (issued_number g c ≡ 6) × (issued_slices g c ≡ g)
  pub lists : (g : Slices) (list : List ℕ) → (length g.state ≡ 447 → ⊥)
      → (listed_slices g list ≡ g) × (listed_count g list ≡ 0) × ((list ≡ [] → ⊥) → listed_number g list ≡ 6)
  pub changes : (g : Slices) (serial : List ℕ) → (length g.state ≡ 447 → ⊥) → (changed_number g serial ≡ 6) × (changed_slices g serial ≡ g)
  pub prepares : (state : List ℕ) (d : Details) (room : ℕ) → (length state ≡ 447 → ⊥) → prepare_number (state_of state) d room ≡ 6
  pub takes : (j key : List ℕ) (n : ℕ) (state : List ℕ) → (length state ≡ 447 → ⊥)
      → (take_over_answer j key n (length state) ≡ record { number = 6; index = 0; state = unopened }) × (kept state unopened ≡ state)
  pub heads : (j key : List ℕ) (n : ℕ) (state : List ℕ) → (length state ≡ 447 → ⊥)
      → (head_answer j key n (length state) ≡ record { number = 6; index = 0; state = unopened }) × (kept state unopened ≡ state)
  pub checks : (state j : List ℕ) (n : ℕ) → (length state ≡ 447 → ⊥)
      → (steps_answer state j n ≡ record { number = 6; index = 0; state = unopened }) × (kept state unopened ≡ state)

-- ---- the serials of a state

-- what ditgrux_settings_in writes is read as CSP, ID, this serial, width and key of the state
abbrev pub SettingsOfSerial : Type 0
SettingsOfSerial =
    (st : State) (which : ℕ) (out : List ℕ) → TypedState st → length out ≡ 123
    → (settings_of (settings_in_buffer st which out) ≡ settings_in st which) × (width_of (settings_in_buffer st which out) ≡ st.width) × (key_of (settings_in_buffer st which out) ≡ st.key)

-- ---- the details of a receipt as 72 bytes

-- what the code's types say of details
pub record TypedDetails (d : Details) : Type 0 where
  pub number : d.number < 4294967296
  pub year : d.date.year < 4294967296
  pub month : d.date.month < 4294967296
  pub day : d.date.day < 4294967296
  pub hour : d.date.hour < 4294967296
  pub minute : d.date.minute < 4294967296
  pub second : d.date.second < 4294967296
  pub five : length d.amounts ≡ 5
  pub amounts : (i : ℕ) → i < 5 → fits_in 8 (get_or d.amounts i (pos 0)) ≡ true

-- details are read back from their 72 bytes, so different details have different bytes
abbrev pub DetailsAreRead : Type 0
DetailsAreRead = (d : Details) → TypedDetails d → (length (details_bytes d) ≡ 72) × (details_in (details_bytes d) ≡ d)

-- a list of details, one after the other, is read back from its bytes
abbrev pub ListIsRead : Type 0
ListIsRead = (ds : List Details) → ((i : ℕ) → i < length ds → TypedDetails (get_or ds i no_details)) → list_in (pieces details_bytes ds) ≡ ds
