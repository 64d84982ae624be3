-- A list of receipts from C: what ditgrux_issue_list does, said by single calls of ditgrux_issue. Proved in proofs/ListCalls.antt.
use Rattle.std.specs.Prelude.{ℕ, ◌<◌, ◌≡◌, List, [], ◌∷◌, ◌++◌, map, length, replicate}
use Rattle.primitives.specs.Bytes.{AllBytes}
use Rattle.receipt.specs.declared.details.Details.{Details}
use Rattle.journal.specs.Calls.{failed_order}
use Rattle.device.specs.Details.{number_in, amount_in, details_in, list_in}
use Rattle.device.specs.Calls.{Slices, call_with, order_in, issued_number, listed_number, listed_count, listed_slices}
use Rattle.device.specs.Demand.{CallFromC, issuing, call_with_details, slices_after_all, numbers_from_c}

-- the details that 72 bytes stand for are those that ditgrux_issue makes of their thirteen numbers, also where the kind is unknown
abbrev pub ListReadsAsIssue : Type 0
ListReadsAsIssue =
    (b : List ℕ)
    → order_in (call_with (number_in b 0) (number_in b 1) (number_in b 2) (number_in b 3) (number_in b 4) (number_in b 5) (number_in b 6) (amount_in b 0) (amount_in b 1) (amount_in b 2)
    (amount_in b 3) (amount_in b 4) (number_in b 7) [])
    ≡ failed_order (details_in b)

-- the single calls: one ditgrux_issue for each receipt, with a signature of length 0
abbrev pub single_calls_from_c : List Details → List CallFromC
single_calls_from_c ds = map (λ (d : Details). issuing (call_with_details d [])) ds

-- what the single call for d returns after those for `before`
abbrev pub single_number_after : Slices → List Details → Details → ℕ
single_number_after g before d = issued_number (slices_after_all g (single_calls_from_c before)) (call_with_details d [])

-- each of the single calls returns 0
abbrev pub AllReturnZero : Slices → List Details → Type 0
AllReturnZero g ds = numbers_from_c g (single_calls_from_c ds) ≡ replicate (length ds) 0

-- the one for d does not, and each before it does
pub record FirstNonzero (g : Slices) (before : List Details) (d : Details) : Type 0 where
  pub zeros : AllReturnZero g before
  pub nonzero : single_number_after g before d ≡ 0 → ⊥

-- the two ways in which the single calls for a list can end
pub data EndsInC (g : Slices) (ds : List Details) : Type 0 where
  whole : AllReturnZero g ds → EndsInC g ds
  early : (before : List Details) (d : Details) (later : List Details) → ds ≡ before ++ (d ∷ later) → FirstNonzero g before d → EndsInC g ds

-- ditgrux_issue_list returns this number, says that so many are issued, and leaves the bytes that the single calls for `done` leave
pub record ListLeavesInC (g : Slices) (list : List ℕ) (done : List Details) (number : ℕ) : Type 0 where
  pub returned : listed_number g list ≡ number
  pub issued : listed_count g list ≡ length done
  pub left : listed_slices g list ≡ slices_after_all g (single_calls_from_c done)

-- what holds of a program's state and journal and of the bytes of a list
pub record Lent (g : Slices) (list : List ℕ) : Type 0 where
  pub size : length g.state ≡ 447
  pub state : AllBytes g.state
  pub room : length g.journal < 18446744073709551616
  pub bytes : AllBytes list

-- "It equals the single calls in that order up to the first that is refused", for every state of 447 bytes, sound or not; for a state of another length
-- `lists` of OtherLengthsGetSix says what is returned and left
pub record ListEqualsSingleCallsInC : Type 0 where
  pub all : (g : Slices) (list : List ℕ) → Lent g list → AllReturnZero g (list_in list) → ListLeavesInC g list (list_in list) 0
  pub until : (g : Slices) (list : List ℕ) → Lent g list → (before : List Details) (d : Details) (later : List Details) → list_in list ≡ before ++ (d ∷ later)
      → FirstNonzero g before d → ListLeavesInC g list before (single_number_after g before d)
  pub either : (g : Slices) (list : List ℕ) → Lent g list → EndsInC g (list_in list)
