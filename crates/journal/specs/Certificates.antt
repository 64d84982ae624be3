-- Changing the certificate: what Change asks, writes and leaves, and that journals with one certificate are checked as before.
use Rattle.std.specs.Prelude.{ℕ, zero, suc, ◌+◌, ◌≤◌, ◌<◌, ◌≡◌, true, cond, List, [], ◌∷◌, ◌++◌, leb, length, take, get_or}
use Rattle.primitives.specs.Aes.{key_schedule}
use Rattle.primitives.specs.Questions.{ask, ifZero}
use Rattle.receipt.specs.Settings.{serial_good}
use Rattle.receipt.specs.declared.settings.Name.{Name}
use Rattle.receipt.specs.declared.details.Details.{Details}
use Rattle.journal.specs.Head.{head_settings, pair_start, start_there}
use Rattle.journal.specs.State.{no_name, used, in_eight, serials_good, settings_now}
use Rattle.journal.specs.declared.state.TakenOver.{TakenOver}
use Rattle.journal.specs.Step.{fresh, sound}
use Rattle.journal.specs.Issuing.{issue_number}
use Rattle.journal.specs.Changing.{change_number, changed, change_buffer}
use Rattle.journal.specs.Checking.{stopped, place_checked, full, one_step, refused, head_number, last_answer, take_over, Checked}
use Rattle.journal.specs.declared.checking.Step.{Step}
use Rattle.journal.specs.Valid.{Pair, Valid}
use Rattle.journal.specs.declared.state.State.{State}

-- ---- the serials of a state

-- every name of a list is a good serial
abbrev pub EachGood : List Name → Type 0
EachGood ns = (i : ℕ) → i < length ns → serial_good (get_or ns i no_name) ≡ true

-- "one to eight good serials with zeros behind": eight places are good exactly if they hold such serials, which are then those used
pub record GoodSerials (slots ns : List Name) : Type 0 where
  pub some : 0 < length ns
  pub most : length ns ≤ 8
  pub good : EachGood ns
  pub places : slots ≡ in_eight ns

pub record SerialsGoodExactly : Type 0 where
  pub only : (slots : List Name) → length slots ≡ 8 → serials_good slots ≡ true → GoodSerials slots (used slots)
  pub always : (slots ns : List Name) → GoodSerials slots ns → (serials_good slots ≡ true) × (used slots ≡ ns)

-- ---- what Change asks

-- "Change undergoes 6 .. as Issue would": either gets 6 with the states and buffers with which the other gets 6
abbrev pub ChangeAsks6AsIssue : Type 0
ChangeAsks6AsIssue =
    (st : State) (serial : Name) (d : Details) (sig : List ℕ) (room : ℕ)
    → (change_number st serial room ≡ 6 → issue_number st d sig room ≡ 6) × (issue_number st d sig room ≡ 6 → change_number st serial room ≡ 6)

-- 3 for a serial that is not good, with a sound state, and for nothing else
pub record BadSerialGets3 : Type 0 where
  pub only : (st : State) (serial : Name) (room : ℕ) → change_number st serial room ≡ 3 → (sound st room ≡ true) × (serial_good serial ≡ true → ⊥)
  pub always : (st : State) (serial : Name) (room : ℕ) → sound st room ≡ true → (serial_good serial ≡ true → ⊥) → change_number st serial room ≡ 3

-- a name is at a place of a list
pub record OneOf (s : Name) (ns : List Name) : Type 0 where
  pub before : List Name
  pub later : List Name
  pub is : ns ≡ before ++ (s ∷ later)

-- 30 for a good serial that a sound state has had, and for nothing else
pub record UsedSerialGets30 : Type 0 where
  pub only : (st : State) (serial : Name) (room : ℕ) → change_number st serial room ≡ 30
      → (sound st room ≡ true) × (serial_good serial ≡ true) × OneOf serial (used st.serials)
  pub always : (st : State) (serial : Name) (room : ℕ) → sound st room ≡ true → serial_good serial ≡ true → OneOf serial (used st.serials)
      → change_number st serial room ≡ 30

-- 31 for a good serial that a sound state with eight serials has not had, and for nothing else
pub record NinthSerialGets31 : Type 0 where
  pub only : (st : State) (serial : Name) (room : ℕ) → change_number st serial room ≡ 31
      → (sound st room ≡ true) × (serial_good serial ≡ true) × (OneOf serial (used st.serials) → ⊥) × (8 ≤ length (used st.serials))
  pub always : (st : State) (serial : Name) (room : ℕ) → sound st room ≡ true → serial_good serial ≡ true → (OneOf serial (used st.serials) → ⊥)
      → 8 ≤ length (used st.serials) → change_number st serial room ≡ 31

-- 13 for a good serial that a sound state has not had, with room for one more serial in the state but not in the buffer, and for nothing else
pub record NoRoomGets13 : Type 0 where
  pub only : (st : State) (serial : Name) (room : ℕ) → change_number st serial room ≡ 13
      → (sound st room ≡ true) × (serial_good serial ≡ true) × (OneOf serial (used st.serials) → ⊥) × (length (used st.serials) < 8)
      × (room < st.length + (8 + serial.len))
  pub always : (st : State) (serial : Name) (room : ℕ) → sound st room ≡ true → serial_good serial ≡ true → (OneOf serial (used st.serials) → ⊥)
      → length (used st.serials) < 8 → room < st.length + (8 + serial.len) → change_number st serial room ≡ 13

-- ---- what Change writes and leaves

-- not refused, the journal is longer by the section of the serial and an empty receipts section
abbrev pub ChangeAppends : Type 0
ChangeAppends =
    (st : State) (serial : Name) (buf : List ℕ) → length serial.bytes ≡ 32 → change_number st serial (length buf) ≡ 0
    → take (changed st serial (length buf)).state.length (change_buffer st serial buf) ≡ take st.length buf ++ pair_start serial 0

-- no other byte is touched
abbrev pub ChangeTouchesNoOther : Type 0
ChangeTouchesNoOther =
    (st : State) (serial : Name) (buf : List ℕ) (i : ℕ) → length serial.bytes ≡ 32 → (st.length ≤ i → i < st.length + 8 + serial.len → ⊥)
    → get_or (change_buffer st serial buf) i 0 ≡ get_or buf i 0

-- from then on the new serial is in force: Prepare and Issue spell it
abbrev pub ChangedSerialIsSpelled : Type 0
ChangedSerialIsSpelled =
    (st : State) (serial : Name) (room : ℕ) → change_number st serial room ≡ 0
    → settings_now (changed st serial room).state ≡ record { csp = st.csp; id = st.id; serial = serial }

-- the serials are those that were used, and the new one; its section is empty, and its count ends the journal
pub record SerialAdded (before : State) (serial : Name) (after : State) : Type 0 where
  pub serials : used after.serials ≡ used before.serials ++ (serial ∷ [])
  pub empty : after.since ≡ 0
  pub last : after.place + 4 ≡ after.length

abbrev pub ChangeAddsSerial : Type 0
ChangeAddsSerial = (st : State) (serial : Name) (room : ℕ) → change_number st serial room ≡ 0 → SerialAdded st serial (changed st serial room).state

-- "Counter, numbers and chain run on", and CSP, ID, width and key stay
pub record RunsOn (before after : State) : Type 0 where
  pub csp : after.csp ≡ before.csp
  pub id : after.id ≡ before.id
  pub width : after.width ≡ before.width
  pub key : after.key ≡ before.key
  pub counter : after.counter ≡ before.counter
  pub last : after.last ≡ before.last
  pub issued : after.issued ≡ before.issued
  pub chain : after.chain ≡ before.chain

abbrev pub ChangeRunsOn : Type 0
ChangeRunsOn = (st : State) (serial : Name) (room : ℕ) → RunsOn st (changed st serial room).state

-- ---- Take over from before there were pairs

-- a step: after the last entry there must be no byte left
unfoldable pub one_step_before : List (List ℕ) → State → List ℕ → Checked
one_step_before schedule st j = cond (full st j) (stopped (ask (leb (length j) st.length) 21 0) st) (place_checked schedule st j)

unfoldable pub steps_before : List (List ℕ) → ℕ → State → List ℕ → Step
steps_before schedule zero st j = record { number = 0; state = st }
steps_before schedule (suc n) st j =
    ifZero (one_step_before schedule st j).number (steps_before schedule n (one_step_before schedule st j).state j)
    (record { number = (one_step_before schedule st j).number; state = st })

unfoldable pub take_over_before : List ℕ → List ℕ → ℕ → TakenOver
take_over_before j key n =
    ifZero (head_number j n) (last_answer (steps_before (key_schedule key) (length j) (fresh (head_settings j) n key) j)) (refused (head_number j n) 0)

-- a journal of one pair is accepted exactly as before, and no answer but 21 has changed
pub record OneSectionAsBefore : Type 0 where
  -- a step is the same, unless bytes follow a whole section and start a pair
  pub steps : (schedule : List (List ℕ)) (st : State) (j : List ℕ) → (full st j ≡ true → st.length < length j → start_there j st.length ≡ true → ⊥)
      → one_step schedule st j ≡ one_step_before schedule st j
  -- every answer but 21 is the same: number, index and state
  pub answers : (j key : List ℕ) (n : ℕ) → ((take_over_before j key n).number ≡ 21 → ⊥) → take_over j key n ≡ take_over_before j key n
  -- a journal of one pair has the same answer
  pub pair : (j key : List ℕ) (n : ℕ) (v : Valid j key n) (p : Pair) → v.pairs ≡ p ∷ [] → take_over j key n ≡ take_over_before j key n
  -- and what was accepted before has one pair
  pub one : (j key : List ℕ) (n : ℕ) (v : Valid j key n) → (take_over_before j key n).number ≡ 0 → length v.pairs ≡ 1
