-- A check in parts is a take-over: the same steps, counted.
use Rattle.std.proofs.Common.{ℕ, zero, suc, ◌+◌, ◌-◌, ◌≤◌, ◌<◌, ◌≡◌, refl, sym, ap, ◌∙◌, subst, Bool, true, false, cond, List, [], ◌∷◌, arith, zero-add, leb-true, le-leb, length}
use Rattle.primitives.specs.Number.{count_at}
use Rattle.primitives.specs.Bytes.{AllBytes}
use Rattle.primitives.specs.Counter.{counter_fits}
use Rattle.primitives.specs.Aes.{key_schedule}
use Rattle.primitives.proofs.Rows.{both, ask_zero, ifZero-yes, ifZero-no}
use Rattle.receipt.specs.Details.{After}
use Rattle.journal.specs.Head.{head_settings, head_length, text_at, serial_at}
use Rattle.journal.specs.Step.{fresh, new_counter, next, renewed, sound}
use Rattle.journal.specs.Checking.{found, context_number, counter_right, text_number, after, entry_number, stopped, one_step, steps, refused, accepted, last_answer, head_number, take_over, Checked}
use Rattle.journal.specs.declared.checking.Step.{Step}
use Rattle.journal.specs.Parts.{ready, handed_back, part_answer, check_steps, checks_after, check_in_parts, total}
use Rattle.journal.specs.PartLaws.{SameAnswer, StepsAreTakeOver, EndIsSeen, ChecksAdd, NoStepsAskSix, CheckedIsReady}
use Rattle.journal.specs.declared.state.State.{State}
use Rattle.journal.specs.declared.state.TakenOver.{TakenOver}
use Rattle.journal.proofs.Answers.{Sound, sound-true}
use Rattle.journal.proofs.Check.{new_fits, new_is}
use Rattle.journal.proofs.Heads.{good_head, read_length, read_typed}
use Rattle.journal.proofs.Stepping.{full_false, after_within, Starts, Case, an_entry, at_end_lem, a_start, step_case, idle, passed_step}
use Rattle.journal.proofs.Passing.{renewed_length, renewed_section, state_of_lem}
use Rattle.journal.proofs.CheckCalls.{Passed, passed, stopped_at, above_of}
use Rattle.journal.proofs.Registers.{empty_work}
use Rattle.journal.proofs.Accepting.{owner_in}
use Rattle.journal.proofs.ReadBySteps.{sound_renewed, sound_here, fresh_sound}

-- ---- a state that a check goes on from

pub record Ready (st : State) (j : List ℕ) : Type 0 where
  pub alone : Sound st
  pub inside : st.length ≤ length j
  pub few : st.since ≤ count_at j st.place 4

pub ready_yes : (st : State) (j : List ℕ) → Ready st j → ready st j ≡ true
unfolding ready
ready_yes st j r = rw (sound_here st j r.alone r.inside, le-leb _ _ r.few)

pub ready_true : (st : State) (j : List ℕ) → ready st j ≡ true → Ready st j
unfolding ready sound
ready_true st j e =
    let p = both _ _ e in
    let q = both _ _ p.0 in
    record { alone = sound-true st q.0; inside = leb-true _ _ q.1; few = leb-true _ _ p.1 }

-- after an entry that passed
sound_after : (k : List (List ℕ)) (st : State) (text : List ℕ) → text_number k st text ≡ 0 → Sound st → Sound (after st text)
unfolding after next text_number context_number counter_right
sound_after k st text z s =
    let d = (found st text).entry.fields.details in
    let c = (ask_zero _ _ _ z).1 in
    let p = (ask_zero _ _ _ (ask_zero _ _ _ (ask_zero _ _ _ c).1).1).1 in
    let fits : (new_counter st d).fits ≡ true = (both _ _ (ask_zero _ _ _ p).0).0 in
    let e = ap (λ (x : After). x.counter) (new_is st d fits) in
    let above = above_of k st (found st text).entry.fields c in
    record {
      csp = s.csp;
      id = s.id;
      serials = s.serials;
      width = s.width;
      counter = ap (counter_fits st.width) e ∙ (new_fits st d fits).fits;
      issued = omega (arith, s.issued, above);
      since = omega (arith, s.since);
      place = omega (arith, s.place);
      head = omega (arith, s.head);
    }

text_zero : (k : List (List ℕ)) (st : State) (j : List ℕ) → entry_number k st j ≡ 0 → text_number k st (text_at j st.length) ≡ 0
unfolding entry_number
text_zero k st j z = (ask_zero _ _ _ z).1

after_section : (st : State) (text : List ℕ) → ((after st text).since ≡ st.since + 1) × ((after st text).place ≡ st.place)
unfolding after next
after_section st text = (refl, refl)

ready_after : (k : List (List ℕ)) (st : State) (j : List ℕ) → entry_number k st j ≡ 0 → st.since < count_at j st.place 4 → Ready st j → Ready (after st (text_at j st.length)) j
ready_after k st j z less r =
    let text = text_at j st.length in
    let a = after_section st text in
    record {
      alone = sound_after k st text (text_zero k st j z) r.alone;
      inside = (after_within k st j z).0;
      few = omega (arith, less, a.0, ap (λ (p : ℕ). count_at j p 4) a.1);
    }

ready_start : (st : State) (j : List ℕ) → Starts st j → Ready st j → Ready (renewed st (serial_at j st.length)) j
ready_start st j x r =
    let s = serial_at j st.length in
    record {
      alone = sound_renewed st s x.good r.alone;
      inside = omega (arith, renewed_length st s, x.fits);
      few = omega (arith, renewed_section st s);
    }

-- ---- more steps than bytes change nothing

module _ (k : List (List ℕ)) (j : List ℕ) where
  pub ready_step : (st : State) → (one_step k st j).number ≡ 0 → Ready st j → Ready (one_step k st j).state j
  ready_step st z r = go (step_case k st j z)
    where
      go : Case k st j → Ready (one_step k st j).state j
      go (an_entry f e q) = subst (λ (x : State). Ready x j) (sym (ap (λ (c : Checked). c.state) q)) (ready_after k st j e (full_false st j f) r)
      go (at_end_lem f l q) = subst (λ (x : State). Ready x j) (sym (ap (λ (c : Checked). c.state) q ∙ state_of_lem 0 st)) r
      go (a_start f l x q) =
          subst (λ (y : State). Ready y j) (sym (ap (λ (c : Checked). c.state) q ∙ state_of_lem 0 (renewed st (serial_at j st.length)))) (ready_start st j x r)

  data Progress (st : State) : Type 0 where
    on : st.length < (one_step k st j).state.length → (one_step k st j).state.length ≤ length j → Progress st
    over : one_step k st j ≡ stopped 0 st → Progress st

  progress : (st : State) → (one_step k st j).number ≡ 0 → Progress st
  progress st z = go (step_case k st j z)
    where
      go : Case k st j → Progress st
      go (an_entry f e q) =
          let w = after_within k st j e in
          let l = ap (λ (c : Checked). c.state.length) q in
          on (omega (arith, w.1, l)) (omega (arith, w.0, l))
      go (at_end_lem f l q) = over q
      go (a_start f l x q) =
          let s = serial_at j st.length in
          let e = ap (λ (y : State). y.length) (ap (λ (c : Checked). c.state) q ∙ state_of_lem 0 (renewed st s)) ∙ renewed_length st s in
          on (omega (arith, e)) (omega (arith, e, x.fits))

  -- a step that is passed, and one that is refused
  pub turn : (n : ℕ) (st : State) → (one_step k st j).number ≡ 0 → steps k (suc n) st j ≡ steps k n (one_step k st j).state j
  turn n st z = passed_step k j n st z refl

  pub stuck : (n : ℕ) (st : State) {m : ℕ} → (one_step k st j).number ≡ suc m → steps k (suc n) st j ≡ record { number = suc m; state = st }
  unfolding steps
  stuck n st {m} e =
      ifZero-no (one_step k st j).number _ _ (λ z. omega (arith, e, z)) ∙ (λ i. record { number = e i; state = st })

  pub no_steps : (st : State) → steps k zero st j ≡ record { number = 0; state = st }
  unfolding steps
  no_steps st = refl

  pub steps_zero : (n : ℕ) (st : State) → (steps k (suc n) st j).number ≡ 0 → ((one_step k st j).number ≡ 0) × ((steps k n (one_step k st j).state j).number ≡ 0)
  steps_zero n st z = go (one_step k st j).number refl
    where
      go : (m : ℕ) → (one_step k st j).number ≡ m → ((one_step k st j).number ≡ 0) × ((steps k n (one_step k st j).state j).number ≡ 0)
      go zero e = (e, sym (ap (λ (x : Step). x.number) (turn n st e)) ∙ z)
      go (suc m) e = absurd (omega (arith, z, ap (λ (x : Step). x.number) (stuck n st e)))

  pub ready_steps : (n : ℕ) (st : State) → Ready st j → (steps k n st j).number ≡ 0 → Ready (steps k n st j).state j
  ready_steps zero st r z = subst (λ (x : Step). Ready x.state j) (sym (no_steps st)) r
  ready_steps (suc n) st r z =
      let w = steps_zero n st z in
      subst (λ (x : Step). Ready x.state j) (sym (turn n st w.0)) (ready_steps n (one_step k st j).state (ready_step st w.0 r) w.1)

  pub enough : (n m : ℕ) (st : State) → st.length ≤ length j → length j < n + st.length → steps k (n + m) st j ≡ steps k n st j
  enough zero m st l h = absurd (omega arith)
  enough (suc n) m st l h = go (one_step k st j).number refl (λ z a b. enough n m (one_step k st j).state a b)
    where
      e : suc n + m ≡ suc (n + m)
      e = omega arith

      on_on : (one_step k st j).number ≡ 0
          → ((one_step k st j).number ≡ 0 → (one_step k st j).state.length ≤ length j → length j < n + (one_step k st j).state.length
          → steps k (n + m) (one_step k st j).state j ≡ steps k n (one_step k st j).state j)
          → Progress st → steps k (suc (n + m)) st j ≡ steps k (suc n) st j
      on_on z rec (on a b) = turn (n + m) st z ∙ (rec z b (omega arith) ∙ sym (turn n st z))
      on_on z rec (over q) = idle k j (suc (n + m)) st q ∙ sym (idle k j (suc n) st q)

      go : (i : ℕ) → (one_step k st j).number ≡ i
          → ((one_step k st j).number ≡ 0 → (one_step k st j).state.length ≤ length j → length j < n + (one_step k st j).state.length
          → steps k (n + m) (one_step k st j).state j ≡ steps k n (one_step k st j).state j)
          → steps k (suc n + m) st j ≡ steps k (suc n) st j
      go zero z rec = ap (λ (i : ℕ). steps k i st j) e ∙ on_on z rec (progress st z)
      go (suc i) z rec = ap (λ (x : ℕ). steps k x st j) e ∙ (stuck (n + m) st z ∙ sym (stuck n st z))

  -- ---- steps and more steps

  pub steps_add : (m n : ℕ) (st : State) → (steps k m st j).number ≡ 0 → steps k (m + n) st j ≡ steps k n (steps k m st j).state j
  steps_add zero n st z = (λ i. steps k (zero-add n i) st j) ∙ ap (λ (x : Step). steps k n x.state j) (sym (no_steps st))
  steps_add (suc m) n st z =
      let e : suc m + n ≡ suc (m + n) = omega arith in
      let w = steps_zero m st z in
      ap (λ (i : ℕ). steps k i st j) e
      ∙ (turn (m + n) st w.0 ∙ (steps_add m n (one_step k st j).state w.1 ∙ ap (λ (x : Step). steps k n x.state j) (sym (turn m st w.0))))

  pub steps_stuck : (m n : ℕ) (st : State) {i : ℕ} → (steps k m st j).number ≡ suc i → steps k (m + n) st j ≡ steps k m st j
  steps_stuck zero n st z = absurd (let q = ap (λ (x : Step). x.number) (no_steps st) in omega (arith, q, z))
  steps_stuck (suc m) n st {i} z = go (one_step k st j).number refl (λ q. steps_stuck m n (one_step k st j).state q)
    where
      e : suc m + n ≡ suc (m + n)
      e = omega arith

      go : (x : ℕ) → (one_step k st j).number ≡ x
          → ((steps k m (one_step k st j).state j).number ≡ suc i → steps k (m + n) (one_step k st j).state j ≡ steps k m (one_step k st j).state j)
          → steps k (suc m + n) st j ≡ steps k (suc m) st j
      go zero q rec =
          ap (λ (x : ℕ). steps k x st j) e
          ∙ (turn (m + n) st q ∙ (rec (sym (ap (λ (x : Step). x.number) (turn m st q)) ∙ z) ∙ sym (turn m st q)))
      go (suc x) q rec = ap (λ (y : ℕ). steps k y st j) e ∙ (stuck (m + n) st q ∙ sym (stuck m st q))

  -- the length does not fall
  grown : (st : State) → (one_step k st j).number ≡ 0 → st.length ≤ (one_step k st j).state.length
  grown st z = go (progress st z)
    where
      go : Progress st → st.length ≤ (one_step k st j).state.length
      go (on a b) = omega (arith, a)
      go (over q) = omega (arith, ap (λ (c : Checked). c.state.length) q, ap (λ (x : State). x.length) (state_of_lem 0 st))

  pub grows : (n : ℕ) (st : State) → (steps k n st j).number ≡ 0 → st.length ≤ (steps k n st j).state.length
  grows zero st z = omega (arith, ap (λ (x : Step). x.state.length) (no_steps st))
  grows (suc n) st z =
      let w = steps_zero n st z in
      omega (arith, grown st w.0, grows n (one_step k st j).state w.1, ap (λ (x : Step). x.state.length) (turn n st w.0))

  -- the key stays
  pub key_step : (st : State) → (one_step k st j).number ≡ 0 → (one_step k st j).state.key ≡ st.key
  unfolding stopped after next renewed
  key_step st z = go (step_case k st j z)
    where
      go : Case k st j → (one_step k st j).state.key ≡ st.key
      go (an_entry f e q) = ap (λ (c : Checked). c.state.key) q
      go (at_end_lem f l q) = ap (λ (c : Checked). c.state.key) q
      go (a_start f l x q) = ap (λ (c : Checked). c.state.key) q

  pub key_steps : (n : ℕ) (st : State) → (steps k n st j).number ≡ 0 → (steps k n st j).state.key ≡ st.key
  key_steps zero st z = ap (λ (x : Step). x.state.key) (no_steps st)
  key_steps (suc n) st z =
      let w = steps_zero n st z in
      ap (λ (x : Step). x.state.key) (turn n st w.0) ∙ (key_steps n (one_step k st j).state w.1 ∙ key_step st w.0)

-- ---- one check

module _ (st : State) (j : List ℕ) (n : ℕ) where
  pub check_ready : Ready st j → check_steps st j n ≡ part_answer st (steps (key_schedule st.key) n st j)
  unfolding check_steps
  check_ready r = rw (ready_yes st j r)

  pub check_six : ready st j ≡ false → check_steps st j n ≡ handed_back 6 0 st
  unfolding check_steps
  check_six h = rw h

pub part_yes : (st : State) (x : Step) → x.number ≡ 0 → part_answer st x ≡ accepted x.state
unfolding part_answer
part_yes st x z = ifZero-yes _ _ z

pub part_no : (st : State) (x : Step) → (x.number ≡ 0 → ⊥) → part_answer st x ≡ handed_back x.number x.state.issued st
unfolding part_answer
part_no st x h = ifZero-no x.number _ _ h

answer_yes : (x : Step) → x.number ≡ 0 → last_answer x ≡ accepted x.state
unfolding last_answer
answer_yes x z = ifZero-yes _ _ z

answer_no : (x : Step) → (x.number ≡ 0 → ⊥) → last_answer x ≡ refused x.number x.state.issued
unfolding last_answer
answer_no x h = ifZero-no x.number _ _ h

pub accepted_number : (st : State) → (accepted st).number ≡ 0
unfolding accepted
accepted_number st = refl

pub accepted_state : (st : State) → (accepted st).state ≡ st
unfolding accepted
accepted_state st = refl

pub handed_number : (m i : ℕ) (st : State) → (handed_back m i st).number ≡ m
unfolding handed_back
handed_number m i st = refl

pub handed_state : (m i : ℕ) (st : State) → (handed_back m i st).state ≡ st
unfolding handed_back
handed_state m i st = refl

pub part_number : (st : State) (x : Step) → (part_answer st x).number ≡ x.number
part_number st x = go x.number refl
  where
    go : (m : ℕ) → x.number ≡ m → (part_answer st x).number ≡ x.number
    go zero z = ap (λ (t : TakenOver). t.number) (part_yes st x z) ∙ (accepted_number x.state ∙ sym z)
    go (suc m) z = ap (λ (t : TakenOver). t.number) (part_no st x (λ q. omega (arith, q, z))) ∙ handed_number x.number x.state.issued st

-- a check that is not refused starts from a state that is ready, and its steps are passed
pub record Went (st : State) (j : List ℕ) (n : ℕ) : Type 0 where
  pub start : Ready st j
  pub number : (steps (key_schedule st.key) n st j).number ≡ 0
  pub state : check_steps st j n ≡ accepted (steps (key_schedule st.key) n st j).state

pub went : (st : State) (j : List ℕ) (n : ℕ) → (check_steps st j n).number ≡ 0 → Went st j n
went st j n z = go (ready st j) refl
  where
    go : (t : Bool) → ready st j ≡ t → Went st j n
    go false h = absurd (omega (arith, z, ap (λ (t : TakenOver). t.number) (check_six st j n h), handed_number 6 0 st))
    go true h =
        let r = ready_true st j h in
        let c = check_ready st j n r in
        let x = steps (key_schedule st.key) n st j in
        let m = sym (part_number st x) ∙ (sym (ap (λ (t : TakenOver). t.number) c) ∙ z) in
        record { start = r; number = m; state = c ∙ part_yes st x m }

-- ---- checks one after the other

pub checks_none : (t : TakenOver) (j : List ℕ) → checks_after t j [] ≡ t
unfolding checks_after
checks_none t j = refl

pub checks_on : (t : TakenOver) (j : List ℕ) (n : ℕ) (ns : List ℕ) → t.number ≡ 0 → checks_after t j (n ∷ ns) ≡ checks_after (check_steps t.state j n) j ns
unfolding checks_after
checks_on t j n ns z = ifZero-yes _ _ z

pub checks_stuck : (t : TakenOver) (j : List ℕ) (ns : List ℕ) → (t.number ≡ 0 → ⊥) → checks_after t j ns ≡ t
unfolding checks_after
checks_stuck t j [] h = refl
checks_stuck t j (n ∷ ns) h = ifZero-no t.number _ _ h

pub total_more : (n : ℕ) (ns : List ℕ) → total (n ∷ ns) ≡ n + total ns
unfolding total
total_more n ns = refl

pub total_none : total [] ≡ 0
unfolding total
total_none = refl

pub same_refl : (t : TakenOver) → SameAnswer t t
same_refl t = record { number = refl; index = refl; state = λ z. refl }

-- the answers of two calls to the same steps: handed back, or unopened
same_no : (m i : ℕ) (st : State) → (m ≡ 0 → ⊥) → SameAnswer (handed_back m i st) (refused m i)
unfolding handed_back refused
same_no m i st h = record { number = refl; index = refl; state = λ z. absurd (h z) }

same_answers : (st : State) (x : Step) → SameAnswer (part_answer st x) (last_answer x)
same_answers st x = go x.number refl
  where
    go : (m : ℕ) → x.number ≡ m → SameAnswer (part_answer st x) (last_answer x)
    go zero z = subst (SameAnswer (part_answer st x)) (part_yes st x z ∙ sym (answer_yes x z)) (same_refl (part_answer st x))
    go (suc m) z =
        let h : x.number ≡ 0 → ⊥ = λ q. omega (arith, q, z) in
        subst (λ (t : TakenOver). SameAnswer t (last_answer x)) (sym (part_no st x h))
        (subst (SameAnswer (handed_back x.number x.state.issued st)) (sym (answer_no x h)) (same_no x.number x.state.issued st h))

pub same_both : {a b c : TakenOver} → SameAnswer a b → SameAnswer b c → SameAnswer a c
same_both p q =
    record { number = p.number ∙ q.number; index = p.index ∙ q.index; state = λ z. p.state (q.number ∙ z) ∙ q.state z }

same_handed : (m i : ℕ) (a b : State) → (m ≡ 0 → ⊥) → SameAnswer (handed_back m i a) (handed_back m i b)
unfolding handed_back
same_handed m i a b h = record { number = refl; index = refl; state = λ z. absurd (h z) }

-- the answer does not depend on the state that is handed back
same_parts : (a b : State) (x : Step) → SameAnswer (part_answer a x) (part_answer b x)
same_parts a b x = go x.number refl
  where
    go : (m : ℕ) → x.number ≡ m → SameAnswer (part_answer a x) (part_answer b x)
    go zero z = subst (SameAnswer (part_answer a x)) (part_yes a x z ∙ sym (part_yes b x z)) (same_refl (part_answer a x))
    go (suc m) z =
        let h : x.number ≡ 0 → ⊥ = λ q. omega (arith, q, z) in
        subst (λ (t : TakenOver). SameAnswer t (part_answer b x)) (sym (part_no a x h))
        (subst (SameAnswer (handed_back x.number x.state.issued a)) (sym (part_no b x h)) (same_handed x.number x.state.issued a b h))

pub checks_steps : (ns : List ℕ) (st : State) (j : List ℕ) → Ready st j → SameAnswer (checks_after (accepted st) j ns) (part_answer st (steps (key_schedule st.key) (total ns) st j))
checks_steps [] st j r =
    let k = key_schedule st.key in
    let e : part_answer st (steps k (total []) st j) ≡ accepted st =
    ap (λ (m : ℕ). part_answer st (steps k m st j)) total_none ∙ (ap (part_answer st) (no_steps k j st) ∙ part_yes st (record { number = 0; state = st }) refl) in
    subst (SameAnswer (checks_after (accepted st) j [])) (checks_none (accepted st) j ∙ sym e) (same_refl (checks_after (accepted st) j []))
checks_steps (n ∷ ns) st j r =
    go (steps k n st j).number refl (λ z. checks_steps ns (steps k n st j).state j (ready_steps k j n st r z))
  where
    k : List (List ℕ)
    k = key_schedule st.key

    x : Step
    x = steps k n st j

    to : checks_after (accepted st) j (n ∷ ns) ≡ checks_after (part_answer st x) j ns
    to =
        checks_on (accepted st) j n ns (accepted_number st)
        ∙ (ap (λ (s : State). checks_after (check_steps s j n) j ns) (accepted_state st) ∙ ap (λ (t : TakenOver). checks_after t j ns) (check_ready st j n r))

    sum : steps k (total (n ∷ ns)) st j ≡ steps k (n + total ns) st j
    sum = ap (λ (m : ℕ). steps k m st j) (total_more n ns)

    go : (m : ℕ) → x.number ≡ m
        → (x.number ≡ 0 → SameAnswer (checks_after (accepted x.state) j ns) (part_answer x.state (steps (key_schedule x.state.key) (total ns) x.state j)))
        → SameAnswer (checks_after (accepted st) j (n ∷ ns)) (part_answer st (steps k (total (n ∷ ns)) st j))
    go zero z rec =
        let q : steps (key_schedule x.state.key) (total ns) x.state j ≡ steps k (total (n ∷ ns)) st j =
        ap (λ (y : List ℕ). steps (key_schedule y) (total ns) x.state j) (key_steps k j n st z) ∙ sym (sum ∙ steps_add k j n (total ns) st z) in
        let a = rec z in
        let y = steps k (total (n ∷ ns)) st j in
        let b : SameAnswer (checks_after (accepted x.state) j ns) (part_answer x.state y) = subst (λ (s : Step). SameAnswer (checks_after (accepted x.state) j ns) (part_answer x.state s)) q a in
        subst (λ (t : TakenOver). SameAnswer t (part_answer st y)) (sym (to ∙ ap (λ (t : TakenOver). checks_after t j ns) (part_yes st x z))) (same_both b (same_parts x.state st y))
    go (suc m) z rec =
        let h : (part_answer st x).number ≡ 0 → ⊥ = λ q. omega (arith, q, part_number st x, z) in
        let q : part_answer st x ≡ part_answer st (steps k (total (n ∷ ns)) st j) = ap (part_answer st) (sym (sum ∙ steps_stuck k j n (total ns) st z)) in
        subst (λ (t : TakenOver). SameAnswer t (part_answer st (steps k (total (n ∷ ns)) st j))) (sym (to ∙ checks_stuck (part_answer st x) j ns h))
        (subst (SameAnswer (part_answer st x)) q (same_refl (part_answer st x)))

-- ---- from any state on

pub checks_add : ChecksAdd
checks_add st j n ns = go (ready st j) refl
  where
    k : List (List ℕ)
    k = key_schedule st.key

    go : (t : Bool) → ready st j ≡ t → SameAnswer (checks_after (check_steps st j n) j ns) (check_steps st j (n + total ns))
    go false h =
        let e = check_six st j n h in
        let f : (check_steps st j n).number ≡ 0 → ⊥ = λ z. omega (arith, z, ap (λ (t : TakenOver). t.number) e, handed_number 6 0 st) in
        subst (SameAnswer (checks_after (check_steps st j n) j ns)) (checks_stuck (check_steps st j n) j ns f ∙ (e ∙ sym (check_six st j (n + total ns) h))) (same_refl (checks_after (check_steps st j n) j ns))
    go true h =
        let r = ready_true st j h in
        let a = checks_steps (n ∷ ns) st j r in
        let e = checks_on (accepted st) j n ns (accepted_number st) ∙ ap (λ (s : State). checks_after (check_steps s j n) j ns) (accepted_state st) in
        subst (λ (t : TakenOver). SameAnswer t (check_steps st j (n + total ns))) e
        (subst (SameAnswer (checks_after (accepted st) j (n ∷ ns))) (ap (λ (m : ℕ). part_answer st (steps k m st j)) (total_more n ns) ∙ sym (check_ready st j (n + total ns) r)) a)

pub no_steps_ask_six : NoStepsAskSix
no_steps_ask_six st j = go (ready st j) refl
  where
    go : (t : Bool) → ready st j ≡ t → check_steps st j 0 ≡ cond (ready st j) (accepted st) (handed_back 6 0 st)
    go false h = check_six st j 0 h ∙ ap (λ (t : Bool). cond t (accepted st) (handed_back 6 0 st)) (sym h)
    go true h =
        check_ready st j 0 (ready_true st j h)
        ∙ (ap (part_answer st) (no_steps (key_schedule st.key) j st) ∙ (part_yes st (record { number = 0; state = st }) refl ∙ ap (λ (t : Bool). cond t (accepted st) (handed_back 6 0 st)) (sym h)))

pub checked_is_ready : CheckedIsReady
checked_is_ready st j n z =
    let w = went st j n z in
    let x = steps (key_schedule st.key) n st j in
    ready_yes (check_steps st j n).state j
    (subst (λ (y : State). Ready y j) (sym (ap (λ (t : TakenOver). t.state) w.state ∙ accepted_state x.state)) (ready_steps (key_schedule st.key) j n st w.start w.number))

-- ---- from the head on

-- the state without receipts, after a head that is good
module _ (j key : List ℕ) (n : ℕ) (b : AllBytes j) (p : Passed j key n) where
  abbrev pub start : State
  start = fresh (head_settings j) n key

  start_length : start.length ≡ head_length (head_settings j)
  unfolding fresh
  start_length = refl

  start_section : start.since ≡ 0
  unfolding fresh
  start_section = refl

  start_key : start.key ≡ key
  unfolding fresh
  start_key = refl

  head_some : 0 < head_length (head_settings j)
  unfolding head_length
  head_some = omega arith

  pub start_ready : Ready start j
  start_ready =
      let g = good_head j b p.good in
      let s = head_settings j in
      record {
        alone = fresh_sound (owner_in s) key n s.serial (empty_work key n s (read_typed j b p.good) g.good p.width);
        inside = omega (arith, start_length, g.room, read_length j b p.good);
        few = omega (arith, start_section);
      }

  -- as many steps as there are bytes, or more
  start_enough : (m : ℕ) → length j ≤ m → steps (key_schedule start.key) m start j ≡ steps (key_schedule key) (length j) start j
  start_enough m h =
      let d = m - length j in
      let e : m ≡ length j + d = omega (arith, h) in
      (λ i. steps (key_schedule (start_key i)) (e i) start j)
      ∙ enough (key_schedule key) j (length j) d start start_ready.inside (omega (arith, start_length, head_some))

  pub parts_passed : (ns : List ℕ) → check_in_parts j key n ns ≡ checks_after (accepted start) j ns
  unfolding check_in_parts
  parts_passed ns = ap (λ (t : TakenOver). checks_after t j ns) p.head

  pub steps_passed : (ns : List ℕ) → length j ≤ total ns → SameAnswer (check_in_parts j key n ns) (take_over j key n)
  steps_passed ns h =
      let x = steps (key_schedule key) (length j) start j in
      let a = checks_steps ns start j start_ready in
      let c : SameAnswer (checks_after (accepted start) j ns) (part_answer start x) =
      subst (λ (s : Step). SameAnswer (checks_after (accepted start) j ns) (part_answer start s)) (start_enough (total ns) h) a in
      subst (λ (t : TakenOver). SameAnswer t (take_over j key n)) (sym (parts_passed ns))
      (subst (SameAnswer (checks_after (accepted start) j ns)) (sym p.whole) (same_both c (same_answers start x)))

pub refused_number : (m i : ℕ) → (refused m i).number ≡ m
unfolding refused
refused_number m i = refl

pub parts_stopped : (j key : List ℕ) (n : ℕ) (ns : List ℕ) → (head_number j n ≡ 0 → ⊥) → check_in_parts j key n ns ≡ take_over j key n
unfolding check_in_parts
parts_stopped j key n ns h =
    let s = stopped_at j key n h in
    ap (λ (t : TakenOver). checks_after t j ns) s.head
    ∙ (checks_stuck (refused (head_number j n) 0) j ns (λ z. h (sym (refused_number (head_number j n) 0) ∙ z)) ∙ sym s.whole)

pub steps_are_take_over : StepsAreTakeOver
steps_are_take_over j key n b ns h = go (head_number j n) refl
  where
    go : (m : ℕ) → head_number j n ≡ m → SameAnswer (check_in_parts j key n ns) (take_over j key n)
    go zero e = steps_passed j key n b (passed j key n e) ns h
    go (suc m) e = subst (SameAnswer (check_in_parts j key n ns)) (parts_stopped j key n ns (λ z. omega (arith, z, e))) (same_refl (check_in_parts j key n ns))

-- ---- the end

-- a check of one step or more that leaves the length as it was has nothing more to read
unmoved : (st : State) (j : List ℕ) (m : ℕ) → (check_steps st j (suc m)).number ≡ 0 → (check_steps st j (suc m)).state.length ≡ st.length
    → one_step (key_schedule st.key) st j ≡ stopped 0 st
unmoved st j m z l =
    let k = key_schedule st.key in
    let w = went st j (suc m) z in
    let s = steps_zero k j m st w.number in
    go (progress k j st s.0) (grows k j m (one_step k st j).state s.1) (ap (λ (t : TakenOver). t.state.length) w.state ∙ (ap (λ (x : State). x.length) (accepted_state (steps k (suc m) st j).state) ∙ ap (λ (x : Step). x.state.length) (turn k j m st s.0)))
  where
    go : Progress (key_schedule st.key) j st → (one_step (key_schedule st.key) st j).state.length ≤ (steps (key_schedule st.key) m (one_step (key_schedule st.key) st j).state j).state.length
        → (check_steps st j (suc m)).state.length ≡ (steps (key_schedule st.key) m (one_step (key_schedule st.key) st j).state j).state.length
        → one_step (key_schedule st.key) st j ≡ stopped 0 st
    go (over q) g e = q
    go (on a b) g e = absurd (omega (arith, a, g, e, l))

-- checks that were not refused made all their steps
pub record Made (st : State) (j : List ℕ) (ns : List ℕ) (end : State) : Type 0 where
  pub number : (steps (key_schedule st.key) (total ns) st j).number ≡ 0
  pub state : (steps (key_schedule st.key) (total ns) st j).state ≡ end

pub made : (ns : List ℕ) (st end : State) (j : List ℕ) → Ready st j → checks_after (accepted st) j ns ≡ accepted end → Made st j ns end
made ns st end j r e =
    let x = steps (key_schedule st.key) (total ns) st j in
    let a = checks_steps ns st j r in
    let z : x.number ≡ 0 = sym (part_number st x) ∙ (sym a.number ∙ (ap (λ (t : TakenOver). t.number) e ∙ accepted_number end)) in
    let q = part_yes st x z in
    let s : (checks_after (accepted st) j ns).state ≡ (part_answer st x).state = a.state (part_number st x ∙ z) in
    record {
      number = z;
      state = sym (accepted_state x.state) ∙ (sym (ap (λ (t : TakenOver). t.state) q) ∙ (sym s ∙ (ap (λ (t : TakenOver). t.state) e ∙ accepted_state end)));
    }

-- where nothing more is read, the answer is that of all steps
ends : (j key : List ℕ) (n : ℕ) (b : AllBytes j) (p : Passed j key n) (ns : List ℕ) (st : State) → checks_after (accepted (fresh (head_settings j) n key)) j ns ≡ accepted st
    → one_step (key_schedule st.key) st j ≡ stopped 0 st → take_over j key n ≡ accepted st
ends j key n b p ns st e q =
    let s₀ = fresh (head_settings j) n key in
    let k = key_schedule s₀.key in
    let w = made ns s₀ st j (start_ready j key n b p) e in
    let ks : st.key ≡ s₀.key = sym (ap (λ (x : State). x.key) w.state) ∙ key_steps k j (total ns) s₀ w.number in
    let idles : steps k (length j) st j ≡ record { number = 0; state = st } = idle k j (length j) st (ap (λ (y : List ℕ). one_step (key_schedule y) st j) (sym ks) ∙ q) in
    let h : length j ≤ total ns + length j = omega arith in
    let a = steps_add k j (total ns) (length j) s₀ w.number ∙ (ap (λ (x : State). steps k (length j) x j) w.state ∙ idles) in
    p.whole ∙ (ap last_answer (sym (start_enough j key n b p (total ns + length j) h) ∙ a) ∙ answer_yes (record { number = 0; state = st }) refl)

pub end_is_seen : EndIsSeen
end_is_seen j key n b ns st e m z l = go (head_number j n) refl
  where
    stays : (p : Passed j key n) → take_over j key n ≡ accepted st
    stays p = ends j key n b p ns st (sym (parts_passed j key n b p ns) ∙ e) (unmoved st j m z l)

    go : (i : ℕ) → head_number j n ≡ i → take_over j key n ≡ accepted st
    go zero q = stays (passed j key n q)
    go (suc i) q = sym (parts_stopped j key n ns (λ y. omega (arith, y, q))) ∙ e
