-- What the two calls of a check in parts show at their returns, over plain variables.
use Rattle.std.proofs.Common.{ℕ, ◌≡◌, sym, ap, ◌∙◌, List, eq-eqb, ne_eqb, length}
use Rattle.journal.specs.State.{unopened}
use Rattle.journal.specs.declared.state.TakenOver.{TakenOver}
use Rattle.journal.specs.Checking.{check_head}
use Rattle.journal.specs.Parts.{check_steps}
use Rattle.journal.specs.declared.state.State.{State}
use Rattle.device.specs.Layout.{array_of, state_of, kept}
use Rattle.device.specs.Calls.{width_with, head_answer, steps_answer}
use Rattle.device.proofs.Sizes.{kept_not}

-- ---- the head

module _ (journal key : List ℕ) (n size : ℕ) where
  pub head_six : (size ≡ 447 → ⊥) → head_answer journal key n size ≡ record { number = 6; index = 0; state = unopened }
  unfolding head_answer
  head_six h = rw (ne_eqb size 447 h)

  pub head_answer_lem : size ≡ 447 → head_answer journal key n size ≡ check_head journal (array_of 32 key) (width_with key n)
  unfolding head_answer
  head_answer_lem h = rw (eq-eqb size 447 h)

module _ (journal key : List ℕ) (n : ℕ) (state : List ℕ) where
  pub head_none : (length state ≡ 447 → ⊥)
      → (6 ≡ (head_answer journal key n (length state)).number) × (state ≡ kept state (head_answer journal key n (length state)).state)
  head_none h =
      let e = head_six journal key n (length state) h in
      (sym (ap (λ (x : TakenOver). x.number) e), sym (kept_not state (head_answer journal key n (length state)).state h))

  pub head_some : {k : List ℕ} {w : ℕ} {a : TakenOver} {b : List ℕ} → length state ≡ 447 → k ≡ array_of 32 key → w ≡ width_with key n → a ≡ check_head journal k w
      → b ≡ kept state a.state
      → (a.number ≡ (head_answer journal key n (length state)).number) × (b ≡ kept state (head_answer journal key n (length state)).state)
  head_some {a = a} h ek ew p q =
      let e : a ≡ head_answer journal key n (length state) = p ∙ (λ i. check_head journal (ek i) (ew i)) ∙ sym (head_answer_lem journal key n (length state) h) in
      (ap (λ (x : TakenOver). x.number) e, q ∙ ap (λ (x : TakenOver). kept state x.state) e)

-- ---- steps

pub steps_is : (state journal : List ℕ) (steps : ℕ) {st : State} {a : TakenOver} {b : List ℕ} → st ≡ state_of state → a ≡ check_steps st journal steps → b ≡ kept state a.state
    → (a.number ≡ (steps_answer state journal steps).number) × (b ≡ kept state (steps_answer state journal steps).state)
    × (a.index ≡ (steps_answer state journal steps).index)
unfolding steps_answer
steps_is state journal steps {a = a} es p q =
    let e : a ≡ steps_answer state journal steps = p ∙ ap (λ (x : State). check_steps x journal steps) es in
    (ap (λ (x : TakenOver). x.number) e, q ∙ ap (λ (x : TakenOver). kept state x.state) e, ap (λ (x : TakenOver). x.index) e)
