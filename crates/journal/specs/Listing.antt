-- A list of receipts: "One call shall take a lent list of receipt details, all issued with a failed device. It equals the single calls in that order up to
-- the first that is refused."
use Rattle.std.specs.Prelude.{ℕ, ◌+◌, List, [], ◌∷◌, length}
use Rattle.primitives.specs.Questions.{ifZero}
use Rattle.receipt.specs.Amount.{amount_limit}
use Rattle.receipt.specs.declared.details.Details.{Details}
use Rattle.journal.specs.Issuing.{issue_number_within, issued_within, issue_buffer_within}
use Rattle.journal.specs.declared.state.State.{State}
use Rattle.journal.specs.State.{IssuedList}

-- the answer with so many receipts issued before
abbrev pub counted_from : ℕ → IssuedList → IssuedList
counted_from k r = record { number = r.number; count = k + r.count; state = r.state }

-- ---- the call, with the limit of an amount as a parameter

-- "It returns the state, how many were issued, and the refusing number or 0": a failed device is an empty signature
unfoldable pub issued_list_within : ℕ → State → List Details → List ℕ → IssuedList
issued_list_within limit st [] buf = record { number = 0; count = 0; state = st }
issued_list_within limit st (d ∷ ds) buf =
    ifZero (issue_number_within limit st d [] (length buf))
    (counted_from 1 (issued_list_within limit (issued_within limit st d [] (length buf)).state ds (issue_buffer_within limit st d [] buf)))
    (record { number = issue_number_within limit st d [] (length buf); count = 0; state = st })

-- "State and buffer are those that the last issued one left, or as given if none was"
unfoldable pub list_buffer_within : ℕ → State → List Details → List ℕ → List ℕ
list_buffer_within limit st [] buf = buf
list_buffer_within limit st (d ∷ ds) buf =
    ifZero (issue_number_within limit st d [] (length buf))
    (list_buffer_within limit (issued_within limit st d [] (length buf)).state ds (issue_buffer_within limit st d [] buf)) buf

-- ---- the call, under the limit that it has

abbrev pub issued_list : State → List Details → List ℕ → IssuedList
issued_list st ds buf = issued_list_within amount_limit st ds buf

abbrev pub list_buffer : State → List Details → List ℕ → List ℕ
list_buffer st ds buf = list_buffer_within amount_limit st ds buf
