-- The code's answers and the records that are stated of them determine each other: each reading tells all answers apart. The proofs are in proofs/.
use Rattle.std.specs.Prelude.{◌≡◌, Option, Result}
use Rattle.primitives.specs.declared.refusal.Refusal.{Refusal}
use Rattle.receipt.specs.declared.entry.Entry.{Entry}
use Rattle.journal.specs.State.{as_opened, as_issued, as_issued_list, as_changed, as_taken_over, as_part}
use Rattle.receipt.specs.Compact.{as_found}
use Rattle.journal.specs.Checking.{as_checked, as_unread, as_step}
use Rattle.journal.specs.declared.state.State.{State}
use Rattle.journal.specs.declared.state.IssuedList.{IssuedList as ListAnswer}
use Rattle.journal.specs.declared.state.RefusedAt.{RefusedAt}
use Rattle.journal.specs.declared.state.Stop.{Stop}
use Rattle.journal.specs.declared.checking.Checked.{Checked}

abbrev pub OpenedTold : Type 0
OpenedTold = (r s : Result State Refusal) → as_opened r ≡ as_opened s → r ≡ s

abbrev pub IssuedTold : Type 0
IssuedTold = (st : State) (r s : Result State Refusal) → as_issued st r ≡ as_issued st s → r ≡ s

abbrev pub IssuedListTold : Type 0
IssuedListTold = (a b : ListAnswer) → as_issued_list a ≡ as_issued_list b → a ≡ b

abbrev pub ChangedTold : Type 0
ChangedTold = (st : State) (r s : Result State Refusal) → as_changed st r ≡ as_changed st s → r ≡ s

abbrev pub TakenOverTold : Type 0
TakenOverTold = (r s : Result State RefusedAt) → as_taken_over r ≡ as_taken_over s → r ≡ s

abbrev pub PartTold : Type 0
PartTold = (st : State) (r s : Result State RefusedAt) → as_part st r ≡ as_part st s → r ≡ s

abbrev pub FoundTold : Type 0
FoundTold = (r s : Option Entry) → as_found r ≡ as_found s → r ≡ s

abbrev pub CheckedTold : Type 0
CheckedTold = (st : State) (r s : Result Checked Refusal) → as_checked st r ≡ as_checked st s → r ≡ s

abbrev pub UnreadTold : Type 0
UnreadTold = (st : State) (r s : Result State Refusal) → as_unread st r ≡ as_unread st s → r ≡ s

abbrev pub StepTold : Type 0
StepTold = (r s : Result State Stop) → as_step r ≡ as_step s → r ≡ s
