-- A journal checked in parts from C: what a program has after ditgrux_check_head and calls of ditgrux_check_steps, and what ditgrux_take_over
-- gives for the same journal. Proved in proofs/PartsInC.antt.
use Rattle.std.specs.Prelude.{ℕ, suc, ◌≤◌, ◌<◌, ◌≡◌, Bool, List, [], ◌∷◌, ◌++◌, length}
use Rattle.primitives.specs.Bytes.{AllBytes}
use Rattle.primitives.specs.Questions.{ifZero}
use Rattle.journal.specs.State.{unopened, TypedState}
use Rattle.journal.specs.Parts.{check_steps, total}
use Rattle.journal.specs.Valid.{Owner, Pair, state_after}
use Rattle.journal.specs.FirstNo.{SoFar}
use Rattle.journal.specs.declared.state.State.{State}
use Rattle.device.specs.Layout.{state_bytes, state_of, kept}
use Rattle.device.specs.Calls.{Slices, opened_number, opened_slices, take_over_answer, head_answer, steps_answer}
use Rattle.device.specs.Demand.{CallFromC, TypedCallsFromC, slices_after_all, journal_in}

-- ---- what a C program has after a call

-- what was returned, the index, and the bytes of the state
pub record LeftByCheck : Type 0 where
  pub number : ℕ
  pub index : ℕ
  pub state : List ℕ

-- after ditgrux_check_head: it gives no index; 0 stands for it
unfoldable pub head_from_c : List ℕ → List ℕ → ℕ → List ℕ → LeftByCheck
head_from_c journal key width state =
    record {
      number = (head_answer journal key width (length state)).number;
      index = 0;
      state = kept state (head_answer journal key width (length state)).state;
    }

-- after ditgrux_check_steps
unfoldable pub steps_from_c : List ℕ → List ℕ → ℕ → LeftByCheck
steps_from_c state journal steps =
    record {
      number = (steps_answer state journal steps).number;
      index = (steps_answer state journal steps).index;
      state = kept state (steps_answer state journal steps).state;
    }

-- after calls of ditgrux_check_steps with these step counts, each from the bytes that the call before it left, up to the first refusal
unfoldable pub checks_from_c : LeftByCheck → List ℕ → List ℕ → LeftByCheck
checks_from_c c journal [] = c
checks_from_c c journal (count ∷ counts) = ifZero c.number (checks_from_c (steps_from_c c.state journal count) journal counts) c

-- after ditgrux_check_head and these calls, all on the same journal
unfoldable pub in_parts_from_c : List ℕ → List ℕ → ℕ → List ℕ → List ℕ → LeftByCheck
in_parts_from_c journal key width state counts = checks_from_c (head_from_c journal key width state) journal counts

-- ---- the whole journal

-- the calls return and write what ditgrux_take_over returns and writes
pub record SameAsTakeOverInC (journal key : List ℕ) (width : ℕ) (state counts : List ℕ) : Type 0 where
  pub number : (in_parts_from_c journal key width state counts).number ≡ (take_over_answer journal key width (length state)).number
  pub index : (in_parts_from_c journal key width state counts).index ≡ (take_over_answer journal key width (length state)).index
  -- where it returns 0, the very bytes that it writes
  pub written : (take_over_answer journal key width (length state)).number ≡ 0
      → (in_parts_from_c journal key width state counts).state ≡ kept state (take_over_answer journal key width (length state)).state

-- "For every list of step counts, zeros among them, whose sum is at least the journal's length in bytes"; for keys and states of every length
abbrev pub ChecksAreTakeOverInC : Type 0
ChecksAreTakeOverInC =
    (journal key : List ℕ) (width : ℕ) (state counts : List ℕ) → AllBytes journal → AllBytes key → length journal < 18446744073709551616
    → length journal ≤ total counts → SameAsTakeOverInC journal key width state counts

-- the end is seen sooner: if a check of one step or more returns 0 and leaves what ditgrux_journal_length returns as it was, ditgrux_take_over returns 0
-- and writes the bytes from which that check started
abbrev pub EndIsSeenInC : Type 0
EndIsSeenInC =
    (journal key : List ℕ) (width : ℕ) (state counts b : List ℕ) (m : ℕ) → AllBytes journal → AllBytes key → length journal < 18446744073709551616
    → (in_parts_from_c journal key width state counts).number ≡ 0 → (in_parts_from_c journal key width state counts).state ≡ b
    → (steps_from_c b journal (suc m)).number ≡ 0 → (state_of (steps_from_c b journal (suc m)).state).length ≡ (state_of b).length
    → ((take_over_answer journal key width (length state)).number ≡ 0) × (kept state (take_over_answer journal key width (length state)).state ≡ b)

-- a refusal is that of ditgrux_take_over, however few the steps
abbrev pub RefusalIsTakeOversInC : Type 0
RefusalIsTakeOversInC =
    (journal key : List ℕ) (width : ℕ) (state counts : List ℕ) → AllBytes journal → AllBytes key → length journal < 18446744073709551616
    → ((in_parts_from_c journal key width state counts).number ≡ 0 → ⊥) → SameAsTakeOverInC journal key width state counts

-- ---- one call

-- from the stored bytes of a state: the journal's check of that state, and the bytes of its state
pub record CheckOfState (st : State) (journal : List ℕ) (steps : ℕ) : Type 0 where
  pub number : (steps_from_c (state_bytes st) journal steps).number ≡ (check_steps st journal steps).number
  pub index : (steps_from_c (state_bytes st) journal steps).index ≡ (check_steps st journal steps).index
  pub state : (steps_from_c (state_bytes st) journal steps).state ≡ state_bytes (check_steps st journal steps).state

abbrev pub StoredStateIsChecked : Type 0
StoredStateIsChecked = (st : State) (journal : List ℕ) (steps : ℕ) → TypedState st → CheckOfState st journal steps

-- ---- month by month: "The journal may grow in between by receipts and changes that a register appends: pass its new length then."

-- after calls of ditgrux_check_steps with these step counts from the bytes of a state on, up to the first refusal
abbrev pub checks_from_bytes : List ℕ → List ℕ → List ℕ → LeftByCheck
checks_from_bytes bytes journal counts = checks_from_c (record { number = 0; index = 0; state = bytes }) journal counts

-- the number, the index and the very bytes that ditgrux_take_over returns and writes for the journal
pub record GoesOnInC (bytes journal key : List ℕ) (n : ℕ) (counts : List ℕ) : Type 0 where
  pub number : (checks_from_bytes bytes journal counts).number ≡ (take_over_answer journal key n 447).number
  pub index : (checks_from_bytes bytes journal counts).index ≡ (take_over_answer journal key n 447).index
  pub written : (take_over_answer journal key n 447).number ≡ 0 → (out : List ℕ) → length out ≡ 447
      → (checks_from_bytes bytes journal counts).state ≡ kept out (take_over_answer journal key n 447).state

-- the stored bytes of the state of the entries up to a place are bytes to go on from in every journal whose answers are yes up to there
abbrev pub GrownJournalGoesOnInC : Type 0
GrownJournalGoesOnInC =
    (grown key : List ℕ) (n : ℕ) (o : Owner) (ps : List Pair) (p : Pair) (k : ℕ) (rest : List ℕ) → AllBytes grown → length grown < 18446744073709551616
    → AllBytes key → length key ≡ 32 → SoFar grown key n o ps p k rest → (counts : List ℕ) → length grown ≤ total counts
    → GoesOnInC (state_bytes (state_after o key n (ps ++ (p ∷ [])))) grown key n counts

-- the same of a register: what its slice holds after some calls are bytes to go on from in the journal that further calls leave, and the end is what its slice
-- holds then
abbrev pub RegisterGoesOnInC : Type 0
RegisterGoesOnInC =
    (settings : List ℕ) (shared : Bool) (g : Slices) → AllBytes settings → length g.journal < 18446744073709551616 → opened_number settings shared g ≡ 0
    → (cs ds : List CallFromC) → TypedCallsFromC cs → TypedCallsFromC ds → (counts : List ℕ)
    → length (journal_in (slices_after_all (opened_slices settings shared g) (cs ++ ds))) ≤ total counts
    → checks_from_bytes (slices_after_all (opened_slices settings shared g) cs).state (journal_in (slices_after_all (opened_slices settings shared g) (cs ++ ds))) counts
    ≡ record { number = 0; index = 0; state = (slices_after_all (opened_slices settings shared g) (cs ++ ds)).state }

-- ---- a refused call

-- ditgrux_check_steps leaves the bytes of the state as they were, also where they are not 447
abbrev pub RefusedCheckKeepsState : Type 0
RefusedCheckKeepsState =
    (state journal : List ℕ) (steps : ℕ) → AllBytes state → ((steps_from_c state journal steps).number ≡ 0 → ⊥) → (steps_from_c state journal steps).state ≡ state

-- ditgrux_check_head leaves the unopened state; if the state's slice is not 447 bytes long, it is as it was
abbrev pub RefusedHeadIsUnopened : Type 0
RefusedHeadIsUnopened =
    (journal key : List ℕ) (width : ℕ) (state : List ℕ) → ((head_from_c journal key width state).number ≡ 0 → ⊥)
    → (head_from_c journal key width state).state ≡ kept state unopened
