-- What the functions of a check in parts show at their returns, over plain variables.
use Rattle.std.proofs.Common.{ℕ, ◌≡◌, sym, ap, ◌∙◌, true, List, leb, length}
use Rattle.primitives.specs.Number.{count_at}
use Rattle.primitives.specs.Aes.{key_schedule}
use Rattle.std.specs.Prelude.{Result, Ok, Err}
use Rattle.primitives.specs.Refusals.{number_of}
use Rattle.primitives.specs.Questions.{ifZero}
use Rattle.primitives.proofs.Refusals.{numbers_are_not_zero}
use Rattle.primitives.proofs.Rows.{both, and_yes, ifZero-no}
use Rattle.journal.specs.Step.{sound}
use Rattle.journal.specs.Checking.{Steady, as_step, steps, accepted, refused, last_answer}
use Rattle.journal.specs.declared.checking.Step.{Step}
use Rattle.journal.specs.Parts.{ready, handed_back, part_answer, check_steps}
use Rattle.journal.specs.declared.state.State.{State}
use Rattle.journal.specs.declared.state.Stop.{Stop}
use Rattle.journal.specs.declared.state.RefusedAt.{RefusedAt}
use Rattle.journal.specs.State.{as_taken_over, as_part}
use Rattle.journal.specs.declared.state.TakenOver.{TakenOver}
use Rattle.journal.proofs.CheckCalls.{sound_step}

-- ---- question 6

module _ (st : State) (j : List ℕ) where
  pub count_asked : {count : ℕ} → sound st (length j) ≡ true → count ≡ count_at j st.place 4 → leb st.since count ≡ ready st j
  unfolding ready
  count_asked h e = and_yes _ _ _ h (ap (leb st.since) e)

  pub ready_sound : ready st j ≡ true → sound st (length j) ≡ true
  unfolding ready
  ready_sound r = (both _ _ r).0

  pub ready_steady : ready st j ≡ true → Steady st j
  ready_steady r = sound_step st j (ready_sound r)

-- ---- the answer

-- a check answers what Take over answers after these steps, and leaves the state that it was given where one is refused
pub part_is : (st : State) (steps : Result State Stop) (answer : Result State RefusedAt)
    → as_taken_over answer ≡ last_answer (as_step steps) → as_part st answer ≡ part_answer st (as_step steps)
unfolding last_answer part_answer accepted refused handed_back ifZero
part_is st (Ok after) (Ok x) e = e
part_is st (Ok after) (Err r) e = absurd (numbers_are_not_zero r.question (ap (λ (t : TakenOver). t.number) e))
part_is st (Err stop) (Ok x) e =
    let p = e ∙ ifZero-no (number_of stop.question) _ _ (numbers_are_not_zero stop.question) in
    absurd (numbers_are_not_zero stop.question (sym (ap (λ (t : TakenOver). t.number) p)))
part_is st (Err stop) (Err r) e =
    let p = e ∙ ifZero-no (number_of stop.question) _ _ (numbers_are_not_zero stop.question) in
    (λ i. record { number = (p i).number; index = (p i).index; state = st })
    ∙ sym (ifZero-no (number_of stop.question) _ _ (numbers_are_not_zero stop.question))

-- ---- the call

module _ (st : State) (j : List ℕ) (n : ℕ) where
  pub when_ready : {x : Step} {r : TakenOver} → ready st j ≡ true → x ≡ steps (key_schedule st.key) n st j → r ≡ part_answer st x → r ≡ check_steps st j n
  unfolding check_steps
  when_ready h e q = q ∙ (ap (part_answer st) e ∙ sym (rw h))
