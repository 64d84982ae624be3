-- The readings of the code's answers, part by part.
use Rattle.std.proofs.Common.{◌≡◌, ℕ, List, refl, ap, ◌∙◌}
use Rattle.std.specs.Prelude.{Result, Ok, Err}
use Rattle.std.specs.Result.{result_unwrap_or, result_err}
use Rattle.primitives.specs.Answers.{as_answer}
use Rattle.primitives.specs.Refusals.{answer_number}
use Rattle.primitives.specs.declared.refusal.Refusal.{Refusal}
use Rattle.journal.specs.State.{unopened, as_opened, as_issued, as_changed, number_refused, as_taken_over, as_part}
use Rattle.journal.specs.declared.state.TakenOver.{TakenOver}
use Rattle.journal.specs.declared.state.State.{State}
use Rattle.journal.specs.declared.state.RefusedAt.{RefusedAt}
use Rattle.device.specs.Layout.{kept}
use Rattle.device.specs.Answers.{without_index, index_in}

-- ---- what the two writers give

pub length_is : (r : Result ℕ Refusal) → result_unwrap_or r 0 ≡ (as_answer r).length
length_is (Ok n) = refl
length_is (Err _) = refl

pub number_is : (r : Result ℕ Refusal) → answer_number r ≡ (as_answer r).number
number_is (Ok n) = refl
number_is (Err _) = refl

pub state_is : (st : State) (r : Result State Refusal) → result_unwrap_or r st ≡ (as_issued st r).state
state_is st (Ok _) = refl
state_is st (Err _) = refl

pub issued_is : (st : State) (r : Result State Refusal) → answer_number r ≡ (as_issued st r).number
issued_is st (Ok _) = refl
issued_is st (Err _) = refl

-- ---- the other readings of an answer with a state

pub opened_number : (r : Result State Refusal) → (as_issued unopened r).number ≡ (as_opened r).number
opened_number (Ok _) = refl
opened_number (Err _) = refl

pub opened_state : (r : Result State Refusal) → (as_issued unopened r).state ≡ (as_opened r).state
opened_state (Ok _) = refl
opened_state (Err _) = refl

pub changed_number : (st : State) (r : Result State Refusal) → (as_issued st r).number ≡ (as_changed st r).number
changed_number st (Ok _) = refl
changed_number st (Err _) = refl

pub changed_state : (st : State) (r : Result State Refusal) → (as_issued st r).state ≡ (as_changed st r).state
changed_state st (Ok _) = refl
changed_state st (Err _) = refl

-- a list's answer, where its one receipt is refused
pub refused_number : (st : State) (r : Result State Refusal) → number_refused (result_err r) ≡ (as_issued st r).number
refused_number st (Ok _) = refl
refused_number st (Err _) = refl

-- ---- an answer with an index: the number, the slice of the state and the index that the two writers leave

module _ (b : List ℕ) (st : State) (r : Result State RefusedAt) {m : Result State Refusal} {index n : ℕ} {b₁ : List ℕ}
    (t : (m ≡ without_index r) × (index ≡ index_in r)) where
  pub from_part : (n ≡ (as_issued st m).number) × (b₁ ≡ kept b (as_issued st m).state)
      → (n ≡ (as_part st r).number) × (b₁ ≡ kept b (as_part st r).state) × (index ≡ (as_part st r).index)
  from_part k = (
    k.0 ∙ ap (λ (x : Result State Refusal). (as_issued st x).number) t.0 ∙ number r,
    k.1 ∙ ap (λ (x : Result State Refusal). kept b (as_issued st x).state) t.0 ∙ ap (kept b) (state r),
    t.1 ∙ place r,
  )
    where
      number : (x : Result State RefusedAt) → (as_issued st (without_index x)).number ≡ (as_part st x).number
      number (Ok _) = refl
      number (Err _) = refl

      state : (x : Result State RefusedAt) → (as_issued st (without_index x)).state ≡ (as_part st x).state
      state (Ok _) = refl
      state (Err _) = refl

      place : (x : Result State RefusedAt) → index_in x ≡ (as_part st x).index
      place (Ok _) = refl
      place (Err _) = refl

taken_part : (r : Result State RefusedAt) → as_part unopened r ≡ as_taken_over r
taken_part (Ok _) = refl
taken_part (Err _) = refl

-- the same where the state before is the unopened one
pub from_unopened : (b : List ℕ) {st : State} (r : Result State RefusedAt) {m : Result State Refusal} {index n : ℕ} {b₁ : List ℕ} → st ≡ unopened
    → (m ≡ without_index r) × (index ≡ index_in r) → (n ≡ (as_issued st m).number) × (b₁ ≡ kept b (as_issued st m).state)
    → (n ≡ (as_taken_over r).number) × (b₁ ≡ kept b (as_taken_over r).state) × (index ≡ (as_taken_over r).index)
from_unopened b {st} r e t k =
    let p = from_part b st r t k in
    let q : as_part st r ≡ as_taken_over r = ap (λ (x : State). as_part x r) e ∙ taken_part r in (
      p.0 ∙ ap (λ (x : TakenOver). x.number) q,
      p.1 ∙ ap (λ (x : TakenOver). kept b x.state) q,
      p.2 ∙ ap (λ (x : TakenOver). x.index) q,
    )
