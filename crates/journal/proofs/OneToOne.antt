-- Each reading of the code's answers tells all answers apart.
use Rattle.std.proofs.Common.{◌≡◌, ℕ, refl, sym, ap, ◌∙◌}
use Rattle.std.specs.Prelude.{Option, Some, None, Ok, Err}
use Rattle.primitives.specs.Refusals.{number_of}
use Rattle.primitives.specs.declared.refusal.Refusal.{Refusal}
use Rattle.primitives.proofs.Rows.{true-is-not-false}
use Rattle.primitives.proofs.Refusals.{numbers_are_not_zero, numbers_differ}
use Rattle.receipt.specs.Compact.{Found}
use Rattle.receipt.proofs.Entries.{none_found}
use Rattle.journal.specs.State.{Opened, Issued, IssuedList, number_refused, Changed}
use Rattle.journal.specs.declared.state.TakenOver.{TakenOver}
use Rattle.journal.specs.Checking.{Checked}
use Rattle.journal.specs.declared.checking.Step.{Step}
use Rattle.journal.specs.OneToOne.{OpenedTold, IssuedTold, IssuedListTold, ChangedTold, TakenOverTold, PartTold, FoundTold, CheckedTold, UnreadTold, StepTold}

-- an answer is no refusal
not_both {ℓ} : {X : Type ℓ} (q : Refusal) {n m : ℕ} → n ≡ m → n ≡ 0 → m ≡ number_of q → X
not_both q e z m = absurd (numbers_are_not_zero q (sym m ∙ (sym e ∙ z)))

pub opened_told : OpenedTold
opened_told (Ok a) (Ok b) e = ap Ok (ap (λ (x : Opened). x.state) e)
opened_told (Ok a) (Err q) e = not_both q (ap (λ (x : Opened). x.number) e) refl refl
opened_told (Err p) (Ok b) e = not_both p (ap (λ (x : Opened). x.number) (sym e)) refl refl
opened_told (Err p) (Err q) e = ap Err (numbers_differ p q (ap (λ (x : Opened). x.number) e))

pub issued_told : IssuedTold
issued_told st (Ok a) (Ok b) e = ap Ok (ap (λ (x : Issued). x.state) e)
issued_told st (Ok a) (Err q) e = not_both q (ap (λ (x : Issued). x.number) e) refl refl
issued_told st (Err p) (Ok b) e = not_both p (ap (λ (x : Issued). x.number) (sym e)) refl refl
issued_told st (Err p) (Err q) e = ap Err (numbers_differ p q (ap (λ (x : Issued). x.number) e))

refusals_told : (r s : Option Refusal) → number_refused r ≡ number_refused s → r ≡ s
refusals_told None None e = refl
refusals_told None (Some q) e = not_both q e refl refl
refusals_told (Some p) None e = not_both p (sym e) refl refl
refusals_told (Some p) (Some q) e = ap Some (numbers_differ p q e)

pub issued_list_told : IssuedListTold
issued_list_told a b e =
    λ i. record { refused = refusals_told a.refused b.refused (ap (λ (x : IssuedList). x.number) e) i; count = (e i).count; state = (e i).state }

pub changed_told : ChangedTold
changed_told st (Ok a) (Ok b) e = ap Ok (ap (λ (x : Changed). x.state) e)
changed_told st (Ok a) (Err q) e = not_both q (ap (λ (x : Changed). x.number) e) refl refl
changed_told st (Err p) (Ok b) e = not_both p (ap (λ (x : Changed). x.number) (sym e)) refl refl
changed_told st (Err p) (Err q) e = ap Err (numbers_differ p q (ap (λ (x : Changed). x.number) e))

pub taken_over_told : TakenOverTold
taken_over_told (Ok a) (Ok b) e = ap Ok (ap (λ (x : TakenOver). x.state) e)
taken_over_told (Ok a) (Err q) e = not_both q.question (ap (λ (x : TakenOver). x.number) e) refl refl
taken_over_told (Err p) (Ok b) e = not_both p.question (ap (λ (x : TakenOver). x.number) (sym e)) refl refl
taken_over_told (Err p) (Err q) e =
    λ i. Err (record { question = numbers_differ p.question q.question (ap (λ (x : TakenOver). x.number) e) i; index = (e i).index })

pub part_told : PartTold
part_told st (Ok a) (Ok b) e = ap Ok (ap (λ (x : TakenOver). x.state) e)
part_told st (Ok a) (Err q) e = not_both q.question (ap (λ (x : TakenOver). x.number) e) refl refl
part_told st (Err p) (Ok b) e = not_both p.question (ap (λ (x : TakenOver). x.number) (sym e)) refl refl
part_told st (Err p) (Err q) e =
    λ i. Err (record { question = numbers_differ p.question q.question (ap (λ (x : TakenOver). x.number) e) i; index = (e i).index })

pub found_told : FoundTold
found_told None None e = refl
found_told None (Some b) e = true-is-not-false (sym none_found ∙ ap (λ (x : Found). x.ok) e)
found_told (Some a) None e = true-is-not-false (sym none_found ∙ ap (λ (x : Found). x.ok) (sym e))
found_told (Some a) (Some b) e = ap Some (ap (λ (x : Found). x.entry) e)

pub checked_told : CheckedTold
checked_told st (Ok a) (Ok b) e =
    λ i. Ok (record { entry = found_told a.entry b.entry (ap (λ (x : Checked). x.found) e) i; state = (e i).state })
checked_told st (Ok a) (Err q) e = not_both q (ap (λ (x : Checked). x.number) e) refl refl
checked_told st (Err p) (Ok b) e = not_both p (ap (λ (x : Checked). x.number) (sym e)) refl refl
checked_told st (Err p) (Err q) e = ap Err (numbers_differ p q (ap (λ (x : Checked). x.number) e))

pub unread_told : UnreadTold
unread_told st (Ok a) (Ok b) e = ap Ok (ap (λ (x : Checked). x.state) e)
unread_told st (Ok a) (Err q) e = not_both q (ap (λ (x : Checked). x.number) e) refl refl
unread_told st (Err p) (Ok b) e = not_both p (ap (λ (x : Checked). x.number) (sym e)) refl refl
unread_told st (Err p) (Err q) e = ap Err (numbers_differ p q (ap (λ (x : Checked). x.number) e))

pub step_told : StepTold
step_told (Ok a) (Ok b) e = ap Ok (ap (λ (x : Step). x.state) e)
step_told (Ok a) (Err q) e = not_both q.question (ap (λ (x : Step). x.number) e) refl refl
step_told (Err p) (Ok b) e = not_both p.question (ap (λ (x : Step). x.number) (sym e)) refl refl
step_told (Err p) (Err q) e =
    λ i. Err (record { question = numbers_differ p.question q.question (ap (λ (x : Step). x.number) e) i; state = (e i).state })
