-- What the calls of a register answer and leave, from the bytes that they are given.
use Rattle.std.specs.Prelude.{ℕ, Bool, cond, List, leb, eqb, ℤ, length, get_or}
use Rattle.primitives.specs.Answers.{Answer}
use Rattle.primitives.specs.Questions.{ask, ifZero}
use Rattle.receipt.specs.Settings.{name_text, name_of, settings_number}
use Rattle.receipt.specs.declared.settings.Name.{Name}
use Rattle.receipt.specs.declared.settings.Settings.{Settings}
use Rattle.receipt.specs.declared.details.Details.{Details}
use Rattle.journal.specs.State.{no_name, used, unopened, Opened, Issued, IssuedList, Changed}
use Rattle.journal.specs.declared.state.TakenOver.{TakenOver}
use Rattle.journal.specs.Opening.{opened, open_buffer}
use Rattle.journal.specs.Preparing.{prepare_answer, prepare_buffer}
use Rattle.journal.specs.Issuing.{issued, issue_buffer}
use Rattle.journal.specs.Listing.{issued_list, list_buffer}
use Rattle.journal.specs.Changing.{changed, change_buffer}
use Rattle.journal.specs.Calls.{Order}
use Rattle.journal.specs.Checking.{check_head, take_over}
use Rattle.journal.specs.Parts.{check_steps}
use Rattle.journal.specs.declared.state.State.{State}
use Rattle.device.specs.Layout.{settings_bytes, array_of, settings_of, width_of, key_of, state_of, kept}
use Rattle.device.specs.Details.{details_of, list_in}

-- ---- settings

unfoldable pub settings_from : List ℕ → List ℕ → List ℕ → Settings
settings_from csp id serial = record { csp = array_of 3 csp; id = name_of id; serial = name_of serial }

-- the width to use with a key: 0, which is not a valid width, if the key is not 32 bytes long
unfoldable pub width_with : List ℕ → ℕ → ℕ
width_with key n = cond (eqb (length key) 32) n 0

-- questions 1 to 4, then 23 for an output of this length
unfoldable pub settings_answer : Settings → ℕ → ℕ → ℕ
settings_answer s n room = settings_number s n (ask (eqb room 123) 23 0)

-- the output after the call
unfoldable pub settings_buffer : Settings → List ℕ → ℕ → List ℕ → List ℕ
settings_buffer s key n out = ifZero (settings_answer s (width_with key n) (length out)) (settings_bytes s n key) out

-- what ditgrux_settings returns
abbrev pub settings_returned : List ℕ → List ℕ → List ℕ → ℕ → List ℕ → List ℕ → ℕ
settings_returned csp id serial n key out = settings_answer (settings_from csp id serial) (width_with key n) (length out)

-- ---- what a state says: what ditgrux_counter, ditgrux_last_number, ditgrux_receipts, ditgrux_journal_length and ditgrux_serials return for these bytes

abbrev pub counter_in : List ℕ → ℤ
counter_in state = (state_of state).counter

abbrev pub last_number_in : List ℕ → ℕ
last_number_in state = (state_of state).last

abbrev pub receipt_count_in : List ℕ → ℕ
receipt_count_in state = (state_of state).issued

abbrev pub journal_length_in : List ℕ → ℕ
journal_length_in state = (state_of state).length

abbrev pub serial_count_in : List ℕ → ℕ
serial_count_in state = length (used (state_of state).serials)

-- ---- what a state says of its serials

-- one of those used, from 0; the empty name if there is no such serial
unfoldable pub serial_in : State → ℕ → Name
serial_in st which = get_or (used st.serials) which no_name

-- its text, in an output of this length: 23 if it is too short
unfoldable pub serial_answer : List ℕ → ℕ → Answer
serial_answer text room = record { number = ask (leb (length text) room) 23 0; length = ifZero (ask (leb (length text) room) 23 0) (length text) 0 }

-- the text that ditgrux_serial writes
abbrev pub serial_text_in : List ℕ → ℕ → List ℕ
serial_text_in state which = name_text (serial_in (state_of state) which)

-- the settings that the receipts under it are spelled with
unfoldable pub settings_in : State → ℕ → Settings
settings_in st which = record { csp = st.csp; id = st.id; serial = serial_in st which }

-- the output after the call
unfoldable pub settings_in_buffer : State → ℕ → List ℕ → List ℕ
settings_in_buffer st which out = cond (eqb (length out) 123) (settings_bytes (settings_in st which) st.width st.key) out

-- what ditgrux_settings_in returns for an output that holds these bytes
abbrev pub settings_in_returned : List ℕ → ℕ
settings_in_returned out = ask (eqb (length out) 123) 23 0

-- and what it leaves in it
abbrev pub settings_in_left : List ℕ → ℕ → List ℕ → List ℕ
settings_in_left state which out = settings_in_buffer (state_of state) which out

-- ---- what a program holds: the bytes of a state, and the buffer of a journal

pub record Slices : Type 0 where
  pub state : List ℕ
  pub journal : List ℕ

abbrev pub slices_with : List ℕ → List ℕ → Slices
slices_with state journal = record { state = state; journal = journal }

-- ---- open

-- `shared` is false for ditgrux_open and true for ditgrux_open_shared

-- the answer for a state's slice of this length: 6, and then the questions of Open
unfoldable pub open_answer : List ℕ → Bool → ℕ → ℕ → Opened
open_answer settings shared room size =
    cond (eqb size 447) (opened (settings_of settings) (key_of settings) shared (width_of settings) room) (record { number = 6; state = unopened })

-- what the two functions return
unfoldable pub opened_number : List ℕ → Bool → Slices → ℕ
opened_number settings shared g = (open_answer settings shared (length g.journal) (length g.state)).number

-- what the two functions leave; nothing is written if the state's slice is not 447 bytes long
unfoldable pub opened_slices : List ℕ → Bool → Slices → Slices
opened_slices settings shared g =
    record {
      state = kept g.state (open_answer settings shared (length g.journal) (length g.state)).state;
      journal = cond (eqb (length g.state) 447) (open_buffer (settings_of settings) shared (width_of settings) g.journal) g.journal;
    }

-- ---- issue

-- what a call of ditgrux_issue gets besides state and journal
pub record IssueCall : Type 0 where
  pub number : ℕ
  pub year : ℕ
  pub month : ℕ
  pub day : ℕ
  pub hour : ℕ
  pub minute : ℕ
  pub second : ℕ
  pub standard : ℤ
  pub reduced1 : ℤ
  pub reduced2 : ℤ
  pub zero : ℤ
  pub special : ℤ
  pub kind : ℕ
  pub signature : List ℕ

abbrev pub call_with : ℕ → ℕ → ℕ → ℕ → ℕ → ℕ → ℕ → ℤ → ℤ → ℤ → ℤ → ℤ → ℕ → List ℕ → IssueCall
call_with number year month day hour minute second a b c d e kind signature =
    record {
      number = number;
      year = year;
      month = month;
      day = day;
      hour = hour;
      minute = minute;
      second = second;
      standard = a;
      reduced1 = b;
      reduced2 = c;
      zero = d;
      special = e;
      kind = kind;
      signature = signature;
    }

-- the details that it gives to Issue and to Prepare
abbrev pub details_given : IssueCall → Details
details_given c =
    details_of c.number c.year c.month c.day c.hour c.minute c.second c.standard c.reduced1 c.reduced2 c.zero c.special c.kind

-- what it gives to Issue
unfoldable pub order_in : IssueCall → Order
order_in c = record { details = details_given c; signature = c.signature }

-- what ditgrux_prepare returns for such a call, whose signature it does not get, and an output of this length, and the length that it gives
abbrev pub prepared_from_c : List ℕ → IssueCall → ℕ → Answer
prepared_from_c state c room = prepare_answer (state_of state) (details_given c) room

-- what it leaves in an output that holds these bytes
abbrev pub prepared_output : List ℕ → IssueCall → List ℕ → List ℕ
prepared_output state c out = prepare_buffer (state_of state) (details_given c) out

-- what the journal answers: questions 6 to 13
unfoldable pub issue_answer : Slices → IssueCall → Issued
issue_answer g c = issued (state_of g.state) (order_in c).details c.signature (length g.journal)

-- what ditgrux_issue returns
unfoldable pub issued_number : Slices → IssueCall → ℕ
issued_number g c = (issue_answer g c).number

-- what it leaves
unfoldable pub issued_slices : Slices → IssueCall → Slices
issued_slices g c =
    record {
      state = kept g.state (issue_answer g c).state;
      journal = issue_buffer (state_of g.state) (order_in c).details c.signature g.journal;
    }

-- ---- a list of receipts, all with a failed device

-- what the journal answers for the list that these bytes stand for: the number of the first one that is refused, and how many are issued before it
unfoldable pub list_answer : Slices → List ℕ → IssuedList
list_answer g list = issued_list (state_of g.state) (list_in list) g.journal

-- what ditgrux_issue_list returns
unfoldable pub listed_number : Slices → List ℕ → ℕ
listed_number g list = (list_answer g list).number

-- how many it says are issued
unfoldable pub listed_count : Slices → List ℕ → ℕ
listed_count g list = (list_answer g list).count

-- what it leaves
unfoldable pub listed_slices : Slices → List ℕ → Slices
listed_slices g list =
    record { state = kept g.state (list_answer g list).state; journal = list_buffer (state_of g.state) (list_in list) g.journal }

-- ---- change

-- what the journal answers for a serial of these bytes: questions 6, 3, 30, 31 and 13
unfoldable pub change_answer : Slices → List ℕ → Changed
change_answer g serial = changed (state_of g.state) (name_of serial) (length g.journal)

-- what ditgrux_change returns
unfoldable pub changed_number : Slices → List ℕ → ℕ
changed_number g serial = (change_answer g serial).number

-- what it leaves
unfoldable pub changed_slices : Slices → List ℕ → Slices
changed_slices g serial =
    record { state = kept g.state (change_answer g serial).state; journal = change_buffer (state_of g.state) (name_of serial) g.journal }

-- ---- take over

-- the answer for a state's slice of this length: 6 with index 0, and then questions 4 and 14 to 21, 30 and 31
unfoldable pub take_over_answer : List ℕ → List ℕ → ℕ → ℕ → TakenOver
take_over_answer journal key n size =
    cond (eqb size 447) (take_over journal (array_of 32 key) (width_with key n)) (record { number = 6; index = 0; state = unopened })

-- ---- a check in parts

-- the answer for a state's slice of this length: 6, and then questions 4 and 14
unfoldable pub head_answer : List ℕ → List ℕ → ℕ → ℕ → TakenOver
head_answer journal key n size =
    cond (eqb size 447) (check_head journal (array_of 32 key) (width_with key n)) (record { number = 6; index = 0; state = unopened })

-- the answer for the state that these bytes stand for: questions 6, 15 to 21, 30 and 31
unfoldable pub steps_answer : List ℕ → List ℕ → ℕ → TakenOver
steps_answer state journal steps = check_steps (state_of state) journal steps
