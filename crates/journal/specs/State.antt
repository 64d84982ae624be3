-- The state of a register, and its serials.
use Rattle.std.specs.Prelude.{Option, Some, None, Result, Ok, Err, ℕ, ◌-◌, ◌<◌, ◌≡◌, Bool, true, false, cond, ◌&&◌, ◌||◌, List, [], ◌∷◌, ◌++◌, leb, eqb, pos, length, drop, get_or, replicate}
use Rattle.primitives.specs.Bytes.{AllBytes, same}
use Rattle.primitives.specs.Counter.{fits_in}
use Rattle.primitives.specs.Refusals.{number_of}
use Rattle.primitives.specs.declared.refusal.Refusal.{Refusal}
use Rattle.receipt.specs.Settings.{serial_good, SettingsLengths}
use Rattle.receipt.specs.declared.settings.Name.{Name}
use Rattle.receipt.specs.declared.settings.Settings.{Settings}
use Rattle.journal.specs.Head.{head_length}
use Rattle.journal.specs.declared.state.State.{State}
use Rattle.journal.specs.declared.state.RefusedAt.{RefusedAt}
use Rattle.journal.specs.declared.state.IssuedList.{IssuedList as ListAnswer}
use Rattle.journal.specs.declared.state.TakenOver.{TakenOver}

-- ---- names

-- the name that is all zero
abbrev pub no_name : Name
no_name = record { bytes = replicate 32 0; len = 0 }

-- the same length and the same array
unfoldable pub same_name : Name → Name → Bool
same_name a b = eqb a.len b.len && same a.bytes b.bytes

-- ---- the serials of a state: "up to eight serials used (newest last, zeros behind)"

-- those used: up to the first that is empty
unfoldable pub used : List Name → List Name
used [] = []
used (n ∷ ns) = cond (eqb n.len 0) [] (n ∷ used ns)

-- serials in eight places, with zeros after them
unfoldable pub in_eight : List Name → List Name
in_eight ns = ns ++ replicate (8 - length ns) no_name

-- one more, the newest
unfoldable pub added : List Name → Name → List Name
added slots serial = in_eight (used slots ++ (serial ∷ []))

-- the last of a list
unfoldable pub last_from : Name → List Name → Name
last_from n [] = n
last_from n (m ∷ ms) = last_from m ms

-- the newest; the empty name if none is used
unfoldable pub newest : List Name → Name
newest slots = last_from no_name (used slots)

-- one of a list
unfoldable pub is_in : Name → List Name → Bool
is_in s [] = false
is_in s (n ∷ ns) = same_name s n || is_in s ns

unfoldable pub all_good : List Name → Bool
all_good [] = true
all_good (n ∷ ns) = serial_good n && all_good ns

unfoldable pub all_empty : List Name → Bool
all_empty [] = true
all_empty (n ∷ ns) = same_name n no_name && all_empty ns

-- "one to eight good serials with zeros behind"
unfoldable pub serials_good : List Name → Bool
serials_good slots = leb 1 (length (used slots)) && (all_good (used slots) && all_empty (drop (length (used slots)) slots))

-- ---- states

-- "The unopened state is all zero."
unfoldable pub unopened : State
unopened =
    record {
      csp = replicate 3 0;
      id = no_name;
      serials = replicate 8 no_name;
      width = 0;
      key = replicate 32 0;
      counter = pos 0;
      last = 0;
      issued = 0;
      chain = replicate 8 0;
      length = 0;
      since = 0;
      place = 0;
    }

-- ---- what a state says of its journal

-- the settings in force, with the newest serial: the next receipt is spelled with them
abbrev pub settings_now : State → Settings
settings_now st = record { csp = st.csp; id = st.id; serial = newest st.serials }

-- the settings of the head, with the first serial
abbrev pub settings_first : State → Settings
settings_first st = record { csp = st.csp; id = st.id; serial = get_or st.serials 0 no_name }

-- the length of the journal's head: "Question 6 takes the head by the first serial"
abbrev pub head_length_now : State → ℕ
head_length_now st = head_length (settings_first st)

-- the place of the open section's count, which Issue rewrites and a step reads
abbrev pub count_place_now : State → ℕ
count_place_now st = st.place

-- ---- what the calls answer, each as one record. The number is 0, or that of the first question answered no. `as_..` reads the code's answers so; each
-- tells all answers apart

pub record Opened : Type 0 where
  pub number : ℕ
  pub state : State

abbrev pub as_opened : Result State Refusal → Opened
as_opened (Ok st) = record { number = 0; state = st }
as_opened (Err refusal) = record { number = number_of refusal; state = unopened }

pub record Issued : Type 0 where
  pub number : ℕ
  pub state : State

-- a refused call leaves the state that it was given
abbrev pub as_issued : State → Result State Refusal → Issued
as_issued st (Ok after) = record { number = 0; state = after }
as_issued st (Err refusal) = record { number = number_of refusal; state = st }

-- the count is the number of receipts issued, all of them before the refused one
pub record IssuedList : Type 0 where
  pub number : ℕ
  pub count : ℕ
  pub state : State

abbrev pub number_refused : Option Refusal → ℕ
number_refused None = 0
number_refused (Some refusal) = number_of refusal

abbrev pub as_issued_list : ListAnswer → IssuedList
as_issued_list a = record { number = number_refused a.refused; count = a.count; state = a.state }

pub record Changed : Type 0 where
  pub number : ℕ
  pub state : State

abbrev pub as_changed : State → Result State Refusal → Changed
as_changed st (Ok after) = record { number = 0; state = after }
as_changed st (Err refusal) = record { number = number_of refusal; state = st }

-- refused: the unopened state
abbrev pub as_taken_over : Result State RefusedAt → TakenOver
as_taken_over (Ok st) = record { number = 0; index = 0; state = st }
as_taken_over (Err r) = record { number = number_of r.question; index = r.index; state = unopened }

-- refused: the state that the check was given
abbrev pub as_part : State → Result State RefusedAt → TakenOver
as_part st (Ok after) = record { number = 0; index = 0; state = after }
as_part st (Err r) = record { number = number_of r.question; index = r.index; state = st }

-- ---- what the code's types say

-- a name: an array of 32 bytes, and a length of 64 bits
pub record TypedName (n : Name) : Type 0 where
  pub long : length n.bytes ≡ 32
  pub bytes : AllBytes n.bytes
  pub small : n.len < 18446744073709551616

-- settings, width and key: arrays of fixed lengths, and numbers of 64 bits
pub record TypedRegister (s : Settings) (n : ℕ) (key : List ℕ) : Type 0 where
  pub settings : SettingsLengths s
  pub id : s.id.len < 18446744073709551616
  pub serial : s.serial.len < 18446744073709551616
  pub width : n < 18446744073709551616
  pub key_length : length key ≡ 32
  pub key_bytes : AllBytes key

pub record TypedState (st : State) : Type 0 where
  pub csp : length st.csp ≡ 3
  pub id : TypedName st.id
  pub eight : length st.serials ≡ 8
  pub serials : (i : ℕ) → i < 8 → TypedName (get_or st.serials i no_name)
  pub width : st.width < 18446744073709551616
  pub key_length : length st.key ≡ 32
  pub key_bytes : AllBytes st.key
  pub counter : fits_in 8 st.counter ≡ true
  pub last : st.last < 4294967296
  pub issued : st.issued < 4294967296
  pub chain : length st.chain ≡ 8
  pub chain_bytes : AllBytes st.chain
  pub in_journal : st.length < 18446744073709551616
  pub since : st.since < 4294967296
  pub place : st.place < 18446744073709551616
