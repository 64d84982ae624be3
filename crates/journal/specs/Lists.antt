-- A list of receipts that are issued with a failed device: what it does, said by single calls of Issue.
use Rattle.std.specs.Prelude.{ℕ, ◌+◌, ◌≤◌, ◌<◌, ◌≡◌, List, [], ◌∷◌, ◌++◌, map, length, replicate, get_or}
use Rattle.receipt.specs.declared.details.Details.{Details}
use Rattle.journal.specs.State.{count_place_now}
use Rattle.journal.specs.Listing.{issued_list, list_buffer}
use Rattle.journal.specs.Calls.{Call, issue, failed_order, Register, number_of, calls, numbers_of}
use Rattle.journal.specs.declared.state.State.{State}

-- the single calls: one Issue for each receipt, with a failed device
abbrev pub single_call : Details → Call
single_call d = issue (failed_order d)

abbrev pub single_calls : List Details → List Call
single_calls ds = map single_call ds

-- none of the single calls is refused
abbrev pub NoneRefused : Register → List Details → Type 0
NoneRefused g ds = numbers_of g (single_calls ds) ≡ replicate (length ds) 0

-- the single call for d is refused, after those before it, none of which is
pub record FirstRefused (g : Register) (before : List Details) (d : Details) : Type 0 where
  pub none : NoneRefused g before
  pub refused : number_of (calls g (single_calls before)) (single_call d) ≡ 0 → ⊥

-- the two ways in which the single calls for a list can end
pub data Ends (g : Register) (ds : List Details) : Type 0 where
  whole : NoneRefused g ds → Ends g ds
  early : (before : List Details) (d : Details) (later : List Details) → ds ≡ before ++ (d ∷ later) → FirstRefused g before d → Ends g ds

-- the call answers with this number and as many issued as `done` has, and leaves what the single calls for `done` leave: their state and their buffer
pub record ListLeaves (g : Register) (ds done : List Details) (number : ℕ) : Type 0 where
  pub answer : issued_list g.state ds g.buf ≡ record { number = number; count = length done; state = (calls g (single_calls done)).state }
  pub buffer : list_buffer g.state ds g.buf ≡ (calls g (single_calls done)).buf

-- "It equals the single calls in that order up to the first that is refused. It returns the state, how many were issued, and the refusing number or 0.
-- State and buffer are those that the last issued one left, or as given if none was"
pub record ListEqualsSingleCalls : Type 0 where
  -- where none of the single calls is refused, it does them all, with number 0
  pub all : (g : Register) (ds : List Details) → NoneRefused g ds → ListLeaves g ds ds 0
  -- where one is refused, it does those before the first such one, with its number
  pub until : (g : Register) (before : List Details) (d : Details) (later : List Details) → FirstRefused g before d
      → ListLeaves g (before ++ (d ∷ later)) before (number_of (calls g (single_calls before)) (single_call d))
  -- there is no third case
  pub either : (g : Register) (ds : List Details) → Ends g ds

-- an empty list changes nothing and gets 0, whatever the state is
abbrev pub EmptyListChangesNothing : Type 0
EmptyListChangesNothing =
    (st : State) (buf : List ℕ) → (issued_list st [] buf ≡ record { number = 0; count = 0; state = st }) × (list_buffer st [] buf ≡ buf)

-- the device has failed, so a signature is never asked for
abbrev pub ListNeverGets12 : Type 0
ListNeverGets12 = (st : State) (ds : List Details) (buf : List ℕ) → (issued_list st ds buf).number ≡ 12 → ⊥

-- 6 is answered of the state that was given: no later receipt gets it, since each that is issued leaves a sound state
abbrev pub SixIssuesNone : Type 0
SixIssuesNone = (st : State) (ds : List Details) (buf : List ℕ) → (issued_list st ds buf).number ≡ 6 → (issued_list st ds buf).count ≡ 0

-- it writes the new entries, rewrites the count of the open section, and touches no other byte
abbrev pub ListTouchesNoOther : Type 0
ListTouchesNoOther =
    (st : State) (ds : List Details) (buf : List ℕ) (i : ℕ) → (count_place_now st ≤ i → i < count_place_now st + 4 → ⊥)
    → (st.length ≤ i → i < (issued_list st ds buf).state.length → ⊥) → get_or (list_buffer st ds buf) i 0 ≡ get_or buf i 0
