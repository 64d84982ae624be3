-- What each call asks, in the paper's words and in its order, apart from the tests that code follows: a call gives the number of its first "no", both ways.
use Rattle.std.specs.Prelude.{ℕ, ◌+◌, ◌-◌, ◌≤◌, ◌<◌, ◌≡◌, Bool, true, List, ◌++◌, ◌⊎◌, ◌+ℤ◌, length, get_or, replicate, drop}
use Rattle.primitives.specs.Bytes.{AllBytes}
use Rattle.primitives.specs.Number.{count_at}
use Rattle.primitives.specs.Counter.{counter_fits}
use Rattle.primitives.specs.Aes.{key_schedule}
use Rattle.primitives.specs.Questions.{Row, asked_all, question, GivesFirstNo}
use Rattle.receipt.specs.Settings.{SettingsLengths, TypedSettings}
use Rattle.receipt.specs.SettingsWords.{GoodCsp, GoodId, GoodSerial, GoodWidth, AllGood, settings_row}
use Rattle.receipt.specs.DetailsWords.{GoodDate, GoodAmounts, GoodStart, amounts_taken, added_up}
use Rattle.receipt.specs.declared.settings.Name.{Name}
use Rattle.receipt.specs.declared.settings.Settings.{Settings}
use Rattle.receipt.specs.declared.details.Details.{Details}
use Rattle.receipt.specs.declared.entry.Entry.{Entry}
use Rattle.journal.specs.State.{no_name, used, settings_now, TypedState}
use Rattle.journal.specs.Opening.{open_number}
use Rattle.journal.specs.Issuing.{text_of, issue_number}
use Rattle.journal.specs.Preparing.{prepared_text, prepare_number}
use Rattle.journal.specs.Changing.{change_number}
use Rattle.journal.specs.Checking.{stopped, entry_checked, serial_checked, settings_checked, step_checked}
use Rattle.journal.specs.Parts.{handed_back, check_steps}
use Rattle.journal.specs.Certificates.{OneOf}
use Rattle.journal.specs.Valid.{Counted}
use Rattle.journal.specs.FirstNo.{EntryThere, StartThere, Spells}
use Rattle.journal.specs.declared.state.State.{State}

-- ---- 6

-- "State sound, that is settings meet 1 to 4, counter fits N bytes, receipts issued no more than last number, head length ≤ journal length", where
-- question 6 "takes the head by the first serial and also wants one to eight good serials with zeros behind, no more receipts in the open section than
-- issued, and that count to end within the journal length"
pub record SoundState (st : State) : Type 0 where
  pub csp : GoodCsp st.csp
  pub id : GoodId st.id
  pub serials : List Name
  pub some : 1 ≤ length serials
  pub most : length serials ≤ 8
  pub good : (i : ℕ) → i < length serials → GoodSerial (get_or serials i no_name)
  pub zeros : st.serials ≡ serials ++ replicate (8 - length serials) no_name
  pub width : GoodWidth st.width
  pub counter : counter_fits st.width st.counter ≡ true
  pub issued : st.issued ≤ st.last
  pub since : st.since ≤ st.issued
  pub place : st.place + 4 ≤ st.length
  -- "19 bytes + ID + serial"
  pub head : 19 + st.id.len + (get_or serials 0 no_name).len ≤ st.length

-- and "journal length ≤ buffer length"
pub record SoundIn (st : State) (room : ℕ) : Type 0 where
  pub state : SoundState st
  pub within : st.length ≤ room

-- ---- Open

-- "CSP good? 1. ID good? 2. Serial good? 3. N from 5 to 8? 4. Head fits the buffer? 5.", with 32 between 2 and 3
abbrev pub open_row : Settings → Bool → ℕ → ℕ → Row
open_row s shared n room = settings_row s shared n (question (19 + s.id.len + s.serial.len ≤ room) 5 asked_all)

abbrev pub OpenGivesFirstNo : Type 0
OpenGivesFirstNo =
    (s : Settings) (shared : Bool) (n room : ℕ) → SettingsLengths s → GivesFirstNo (open_number s shared n room) (open_row s shared n room)

-- ---- Issue and Prepare

-- "Number above the state's last number? 7." "Year 2000 to 2099, date in the Gregorian calendar, hour 0 to 23, minute and second 0 to 59? 8."
-- "Amounts within limits? 9." "Where receipts issued is 0, standard with five zeros? 10." "New counter fits N bytes? 11."
abbrev pub details_row : State → Details → Row → Row
details_row st d rest =
    question (st.last < d.number) 7
    (question (GoodDate d.date) 8
    (question (GoodAmounts d.amounts) 9
    (question (st.issued ≡ 0 → GoodStart d) 10
    (question (counter_fits st.width (st.counter +ℤ added_up (amounts_taken d.kind d.amounts)) ≡ true) 11 rest))))

-- "State sound .. ≤ buffer length? 6.", then 7 to 11, "Signature length 64 or 0? 12." "Entry fits behind the journal length? 13."
abbrev pub issue_row : State → Details → List ℕ → ℕ → Row
issue_row st d sig room =
    question (SoundIn st room) 6
    (details_row st d
    (question ((length sig ≡ 64) ⊎ (length sig ≡ 0)) 12 (question (st.length + (2 + length (text_of st d sig)) ≤ room) 13 asked_all)))

abbrev pub IssueGivesFirstNo : Type 0
IssueGivesFirstNo =
    (st : State) (d : Details) (sig : List ℕ) (room : ℕ) → TypedState st → GivesFirstNo (issue_number st d sig room) (issue_row st d sig room)

-- "questions 6 (with the journal length alone at least the head), 7 to 11, then 13 for the output"
abbrev pub prepare_row : State → Details → ℕ → Row
prepare_row st d room = question (SoundState st) 6 (details_row st d (question (length (prepared_text st d) ≤ room) 13 asked_all))

abbrev pub PrepareGivesFirstNo : Type 0
PrepareGivesFirstNo = (st : State) (d : Details) (room : ℕ) → TypedState st → GivesFirstNo (prepare_number st d room) (prepare_row st d room)

-- ---- Change

-- "Change undergoes 6, 3 and 13 as Issue would"; "A serial already used gets 30, then a ninth serial 31, both between 3 and 13"
abbrev pub change_row : State → Name → ℕ → Row
change_row st serial room =
    question (SoundIn st room) 6
    (question (GoodSerial serial) 3
    (question (OneOf serial (used st.serials) → ⊥) 30
    (question (length (used st.serials) < 8) 31 (question (st.length + (8 + serial.len) ≤ room) 13 asked_all))))

abbrev pub ChangeGivesFirstNo : Type 0
ChangeGivesFirstNo =
    (st : State) (serial : Name) (room : ℕ) → TypedState st → length serial.bytes ≡ 32 → GivesFirstNo (change_number st serial room) (change_row st serial room)

-- ---- a check from a state on

-- "A state that isn't sound for the journal as its buffer, or has more receipts in the open section than the journal's count there, gets 6."
pub record SoundFor (st : State) (j : List ℕ) : Type 0 where
  pub sound : SoundIn st (length j)
  -- the journal's count: four bytes at the state's place of it
  pub count : st.since ≤ count_at j st.place 4

-- such a state gets 6, with index 0, however many the steps, and no other state does
abbrev pub CheckAsksSix : Type 0
CheckAsksSix =
    (st : State) (j : List ℕ) (count : ℕ) → TypedState st
    → ((check_steps st j count).number ≡ 6 → SoundFor st j → ⊥) × ((SoundFor st j → ⊥) → check_steps st j count ≡ handed_back 6 0 st)

-- ---- steps for other readers

-- 6 of an entry: the state is sound, and the journal length after the entry fits 64 bits
pub record ReadyFor (st : State) (bytes : ℕ) : Type 0 where
  pub sound : SoundState st
  pub fits : st.length + bytes ≤ 18446744073709551615

-- "Number above the last? 17. First one standard with five zeros? 18. Chain field right? 19. Running sum fits N bytes, and on a standard receipt equals the
-- decrypted counter? 20."
abbrev pub entry_row : State → Entry → Row
entry_row st e =
    question (st.last < e.fields.details.number) 17
    (question (st.issued ≡ 0 → GoodStart e.fields.details) 18
    (question (e.fields.chain ≡ st.chain) 19
    (question (Counted (settings_now st) st.key st.width st.counter e) 20 asked_all)))

-- the bytes of one entry: 6, 16, and then those questions of the entry that they spell
pub record EntryAnswers (st : State) (text : List ℕ) : Type 0 where
  pub six : (ReadyFor st (2 + length text) → ⊥) → entry_checked (key_schedule st.key) st text ≡ stopped 6 st
  pub unspelled : ReadyFor st (2 + length text) → ((e : Entry) → Spells (settings_now st) st.width text e → ⊥)
      → entry_checked (key_schedule st.key) st text ≡ stopped 16 st
  pub spelled : ReadyFor st (2 + length text) → (e : Entry) → Spells (settings_now st) st.width text e
      → GivesFirstNo (entry_checked (key_schedule st.key) st text).number (entry_row st e)

abbrev pub EntryIsAsked : Type 0
EntryIsAsked = (st : State) (text : List ℕ) → TypedState st → TypedSettings (settings_now st) → AllBytes text → EntryAnswers st text

-- the serial of a pair: 6, "21 for bytes that start no good serial", 30 and 31
abbrev pub serial_row : State → Name → Row
serial_row st serial =
    question (ReadyFor st (8 + serial.len)) 6
    (question (GoodSerial serial) 21
    (question (OneOf serial (used st.serials) → ⊥) 30 (question (length (used st.serials) < 8) 31 asked_all)))

abbrev pub SerialIsAsked : Type 0
SerialIsAsked =
    (st : State) (serial : Name) → TypedState st → length serial.bytes ≡ 32 → GivesFirstNo (serial_checked st serial).number (serial_row st serial)

-- the settings of a head: "N from 5 to 8? 4. Head .. good by 1 to 3? 14"
abbrev pub SettingsAreAsked : Type 0
SettingsAreAsked =
    (s : Settings) (key : List ℕ) (n : ℕ) → SettingsLengths s
    → GivesFirstNo (settings_checked s key n).number (question (GoodWidth n) 4 (question (AllGood s) 14 asked_all))

-- the step at a state's place in a journal
pub record StepAnswers (st : State) (j : List ℕ) : Type 0 where
  pub six : (SoundIn st (length j) → ⊥) → step_checked (key_schedule st.key) st j ≡ stopped 6 st
  -- the journal counts one more entry than the state has: "length and bytes all there? 15", and then what is asked of the entry
  pub cut : SoundIn st (length j) → st.since < count_at j st.place 4 → ((text more : List ℕ) → EntryThere (drop st.length j) text more → ⊥)
      → step_checked (key_schedule st.key) st j ≡ stopped 15 st
  pub entry : SoundIn st (length j) → st.since < count_at j st.place 4 → (text more : List ℕ) → EntryThere (drop st.length j) text more
      → step_checked (key_schedule st.key) st j ≡ entry_checked (key_schedule st.key) st text
  -- it counts no more: the end, or 21, or what is asked of a pair's serial
  pub end : SoundIn st (length j) → count_at j st.place 4 ≤ st.since → length j ≤ st.length → step_checked (key_schedule st.key) st j ≡ stopped 0 st
  pub left : SoundIn st (length j) → count_at j st.place 4 ≤ st.since → st.length < length j
      → ((serial : Name) (k : ℕ) (more : List ℕ) → StartThere (drop st.length j) serial k more → ⊥) → step_checked (key_schedule st.key) st j ≡ stopped 21 st
  pub start : SoundIn st (length j) → count_at j st.place 4 ≤ st.since → (serial : Name) (k : ℕ) (more : List ℕ)
      → StartThere (drop st.length j) serial k more → step_checked (key_schedule st.key) st j ≡ serial_checked st serial

abbrev pub StepIsAsked : Type 0
StepIsAsked = (st : State) (j : List ℕ) → TypedState st → AllBytes j → length j < 18446744073709551616 → StepAnswers st j
