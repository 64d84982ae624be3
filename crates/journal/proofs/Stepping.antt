-- One step of a take-over, and steps one after the other.
use Rattle.std.proofs.lemmas.Bool.{lt-leb}
use Rattle.std.proofs.Common.{ℕ, zero, suc, ◌+◌, ◌≤◌, ◌<◌, ◌≡◌, refl, sym, ap, ◌∙◌, subst, Bool, true, false, cond, List, arith, ltb-true, leb-true, leb-false, le-leb, leb, length, take, drop, length-take, length-drop}
use Rattle.primitives.specs.Number.{count_at}
use Rattle.primitives.proofs.Rows.{both, ask_zero, ifZero-yes, ifZero-no}
use Rattle.receipt.specs.Settings.{serial_good}
use Rattle.receipt.specs.declared.settings.Name.{Name}
use Rattle.receipt.proofs.Entries.{len_of}
use Rattle.journal.specs.Head.{length_at, there, text_at, section_text, section_end, serial_at, start_there}
use Rattle.journal.specs.State.{used, is_in, count_place_now}
use Rattle.journal.specs.Step.{number_above, next, renewed}
use Rattle.journal.specs.Checking.{found, context_number, text_number, after, entry_number, stopped, checked, place_checked, start_number, start_checked, end_checked, full, one_step, Steady, steps, refused, accepted, last_answer, Checked}
use Rattle.journal.specs.declared.state.State.{State}
use Rattle.journal.proofs.Places.{length_entry}
use Rattle.journal.proofs.Serials.{added_good}
use Rattle.journal.proofs.Answers.{serial-zero}

-- ---- the count of the open section

module _ (st : State) (j : List ℕ) where
  pub full_yes : count_at j (count_place_now st) 4 ≤ st.since → full st j ≡ true
  unfolding full
  full_yes h = le-leb _ _ h

  pub full_no : st.since < count_at j (count_place_now st) 4 → full st j ≡ false
  unfolding full
  full_no h = lt-leb _ _ h

  pub full_true : full st j ≡ true → count_at j (count_place_now st) 4 ≤ st.since
  unfolding full
  full_true e = leb-true _ _ e

  pub full_false : full st j ≡ false → st.since < count_at j (count_place_now st) 4
  unfolding full
  full_false e = leb-false _ _ e

-- ---- one step

module _ (k : List (List ℕ)) (st : State) (j : List ℕ) where
  -- after the last entry of a section
  module _ (f : full st j ≡ true) where
    pub step_end : one_step k st j ≡ end_checked st j
    unfolding one_step
    step_end = rw f

    pub end_none : length j ≤ st.length → one_step k st j ≡ stopped 0 st
    unfolding end_checked
    end_none h = step_end ∙ ap (λ (t : Bool). cond t (stopped 0 st) (start_checked st j)) (le-leb (length j) st.length h)

    pub end_start : st.length < length j → one_step k st j ≡ start_checked st j
    unfolding end_checked
    end_start h = step_end ∙ ap (λ (t : Bool). cond t (stopped 0 st) (start_checked st j)) (lt-leb (length j) st.length h)

    pub start_passed : st.length < length j → start_number st j ≡ 0 → one_step k st j ≡ stopped 0 (renewed st (serial_at j st.length))
    unfolding start_checked
    start_passed h z = end_start h ∙ ifZero-yes _ _ z

    pub start_refused : st.length < length j → (start_number st j ≡ 0 → ⊥) → one_step k st j ≡ stopped (start_number st j) st
    unfolding start_checked
    start_refused h z = end_start h ∙ ifZero-no (start_number st j) _ _ z

  module _ (f : full st j ≡ false) where
    pub step_entry : one_step k st j ≡ place_checked k st j
    unfolding one_step
    step_entry = rw f

    pub entry_refused : (entry_number k st j ≡ 0 → ⊥) → one_step k st j ≡ stopped (entry_number k st j) st
    unfolding place_checked checked
    entry_refused h = step_entry ∙ ifZero-no (entry_number k st j) _ _ h

    pub entry_passed : entry_number k st j ≡ 0
        → one_step k st j ≡ record { number = 0; found = found st (text_at j st.length); state = after st (text_at j st.length) }
    unfolding place_checked checked
    entry_passed z = step_entry ∙ ifZero-yes _ _ z

  -- an entry that passed lies within the journal
  pub after_within : entry_number k st j ≡ 0 → ((after st (text_at j st.length)).length ≤ length j) × (st.length < (after st (text_at j st.length)).length)
  unfolding entry_number there after next text_at
  after_within z =
      let p = both (leb (st.length + 2) (length j)) (leb (st.length + 2 + length_at j st.length) (length j)) (ask_zero _ _ _ z).0 in
      let a = leb-true (st.length + 2 + length_at j st.length) (length j) p.1 in
      let l = length_entry (take (length_at j st.length) (drop (st.length + 2) j)) in
      let m = length-take (length_at j st.length) (drop (st.length + 2) j) in
      (omega (arith, a, l, m), omega (arith, l))

-- ---- the start of a pair

-- the length of the serial in a complete section
pub serial_len : (j : List ℕ) (at : ℕ) → section_end j at ≤ length j → (serial_at j at).len ≡ count_at j at 4
unfolding serial_at section_text section_end
serial_len j at h =
    len_of (take (count_at j at 4) (drop (at + 4) j))
    ∙ omega (arith, h, length-take (count_at j at 4) (drop (at + 4) j), length-drop (at + 4) j)

pub record Starts (st : State) (j : List ℕ) : Type 0 where
  pub there : start_there j st.length ≡ true
  pub good : serial_good (serial_at j st.length) ≡ true
  pub new : is_in (serial_at j st.length) (used st.serials) ≡ false
  pub few : length (used st.serials) < 8
  -- it lies within the journal
  pub fits : st.length + 8 + (serial_at j st.length).len ≤ length j

pub start_within : (j : List ℕ) (at : ℕ) → start_there j at ≡ true → (at + 8 + (serial_at j at).len ≤ length j) × (serial_good (serial_at j at) ≡ true)
unfolding start_there section_end
start_within j at e =
    let p = both (leb (section_end j at + 4) (length j)) (serial_good (serial_at j at)) e in
    let h = leb-true (section_end j at + 4) (length j) p.0 in
    let l = serial_len j at (omega arith) in
    (omega (arith, h, l), p.1)

pub starts : (st : State) (j : List ℕ) → start_number st j ≡ 0 → Starts st j
unfolding start_number
starts st j z =
    let p = ask_zero _ _ _ z in
    let w = start_within j st.length p.0 in
    let s = serial-zero st (serial_at j st.length) 0 p.1 in
    record { there = p.0; good = w.1; new = s.0; few = s.1; fits = w.0 }

renewed_length : (st : State) (s : Name) → (renewed st s).length ≡ st.length + 8 + s.len
unfolding renewed
renewed_length st s = refl

-- ---- what a step that passes was

pub data Case (k : List (List ℕ)) (st : State) (j : List ℕ) : Type 0 where
  an_entry : full st j ≡ false → entry_number k st j ≡ 0
      → one_step k st j ≡ record { number = 0; found = found st (text_at j st.length); state = after st (text_at j st.length) } → Case k st j
  at_end_lem : full st j ≡ true → length j ≤ st.length → one_step k st j ≡ stopped 0 st → Case k st j
  a_start : full st j ≡ true → st.length < length j → Starts st j → one_step k st j ≡ stopped 0 (renewed st (serial_at j st.length)) → Case k st j

stopped_number : (n : ℕ) (st : State) → (stopped n st).number ≡ n
unfolding stopped
stopped_number n st = refl

pub step_case : (k : List (List ℕ)) (st : State) (j : List ℕ) → (one_step k st j).number ≡ 0 → Case k st j
step_case k st j z = go (full st j) (leb (length j) st.length) refl refl
  where
    entry : full st j ≡ false → (n : ℕ) → entry_number k st j ≡ n → Case k st j
    entry f zero e = an_entry f e (entry_passed k st j f e)
    entry f (suc n) e =
        let h : entry_number k st j ≡ 0 → ⊥ = λ y. omega (arith, e, y) in
        absurd (omega (arith, z, e, ap (λ (c : Checked). c.number) (entry_refused k st j f h), stopped_number (entry_number k st j) st))

    start : full st j ≡ true → st.length < length j → (n : ℕ) → start_number st j ≡ n → Case k st j
    start f l zero e = a_start f l (starts st j e) (start_passed k st j f l e)
    start f l (suc n) e =
        let h : start_number st j ≡ 0 → ⊥ = λ y. omega (arith, e, y) in
        absurd (omega (arith, z, e, ap (λ (c : Checked). c.number) (start_refused k st j f l h), stopped_number (start_number st j) st))

    go : (t u : Bool) → full st j ≡ t → leb (length j) st.length ≡ u → Case k st j
    go false u f e = entry f (entry_number k st j) refl
    go true true f e = at_end_lem f (leb-true _ _ e) (end_none k st j f (leb-true _ _ e))
    go true false f e = start f (leb-false _ _ e) (start_number st j) refl

-- ---- what the states of a take-over keep

after_below : (k : List (List ℕ)) (st : State) (text : List ℕ) → context_number k st (found st text).entry.fields ≡ 0 → st.issued ≤ st.last
    → (after st text).issued ≤ (after st text).last
unfolding after next context_number number_above
after_below k st text z h = let a = ltb-true st.last (found st text).entry.fields.details.number (ask_zero _ _ _ z).0 in omega arith

zero_fields : (k : List (List ℕ)) (st : State) (j : List ℕ) → entry_number k st j ≡ 0 → context_number k st (found st (text_at j st.length)).entry.fields ≡ 0
unfolding entry_number text_number
zero_fields k st j z = (ask_zero _ _ _ (ask_zero _ _ _ z).1).1

steady_after : (k : List (List ℕ)) (st : State) (j : List ℕ) → entry_number k st j ≡ 0 → Steady st j → Steady (after st (text_at j st.length)) j
unfolding after next
steady_after k st j z s =
    record {
      serials = s.serials;
      issued = after_below k st (text_at j st.length) (zero_fields k st j z) s.issued;
      since = omega (arith, s.since);
      place = s.place;
    }

steady_start : (st : State) (j : List ℕ) → Starts st j → Steady st j → Steady (renewed st (serial_at j st.length)) j
unfolding renewed
steady_start st j x s =
    record {
      serials = added_good st.serials (serial_at j st.length) s.serials x.good;
      issued = s.issued;
      since = omega arith;
      place = omega (arith, x.fits);
    }

state_of_lem : (n : ℕ) (st : State) → (stopped n st).state ≡ st
unfolding stopped
state_of_lem n st = refl

pub steady_step : (k : List (List ℕ)) (st : State) (j : List ℕ) → (one_step k st j).number ≡ 0 → Steady st j → Steady (one_step k st j).state j
steady_step k st j z s = go (step_case k st j z)
  where
    go : Case k st j → Steady (one_step k st j).state j
    go (an_entry f e q) = subst (λ (x : State). Steady x j) (sym (ap (λ (c : Checked). c.state) q)) (steady_after k st j e s)
    go (at_end_lem f l q) = subst (λ (x : State). Steady x j) (sym (ap (λ (c : Checked). c.state) q ∙ state_of_lem 0 st)) s
    go (a_start f l x q) = subst (λ (y : State). Steady y j) (sym (ap (λ (c : Checked). c.state) q ∙ state_of_lem 0 (renewed st (serial_at j st.length)))) (steady_start st j x s)

-- ---- all steps

module _ (k : List (List ℕ)) (j : List ℕ) where
  -- once there is nothing more to read, no step changes anything
  pub idle : (n : ℕ) (st : State) → one_step k st j ≡ stopped 0 st → steps k n st j ≡ record { number = 0; state = st }
  unfolding steps stopped
  idle zero st e = refl
  idle (suc n) st e =
      let z : (one_step k st j).number ≡ 0 = ap (λ (c : Checked). c.number) e in
      let s : (one_step k st j).state ≡ st = ap (λ (c : Checked). c.state) e in
      ifZero-yes _ _ z ∙ (ap (λ (x : State). steps k n x j) s ∙ idle n st e)

  -- a step that is refused ends them
  pub refused_step : (n : ℕ) (st : State) {m : ℕ} → (m ≡ 0 → ⊥) → one_step k st j ≡ stopped m st → steps k (suc n) st j ≡ record { number = m; state = st }
  unfolding steps stopped
  refused_step n st {m} h e =
      let q : (one_step k st j).number ≡ m = ap (λ (c : Checked). c.number) e in
      ifZero-no (one_step k st j).number _ _ (λ z. h (sym q ∙ z)) ∙ (λ i. record { number = q i; state = st })

  pub passed_step : (n : ℕ) (st : State) {x : State} → (one_step k st j).number ≡ 0 → (one_step k st j).state ≡ x → steps k (suc n) st j ≡ steps k n x j
  unfolding steps
  passed_step n st z s = ifZero-yes _ _ z ∙ ap (λ (x : State). steps k n x j) s

  -- a step that does not move has nothing more to read
  pub stays : (n : ℕ) (st : State) → (one_step k st j).number ≡ 0 → (one_step k st j).state.length ≡ st.length → steps k n st j ≡ record { number = 0; state = st }
  stays n st z l = go (step_case k st j z)
    where
      go : Case k st j → steps k n st j ≡ record { number = 0; state = st }
      go (an_entry f e q) = absurd (omega (arith, (after_within k st j e).1, ap (λ (c : Checked). c.state.length) q, l))
      go (at_end_lem f h q) = idle n st q
      go (a_start f h x q) =
          let s = serial_at j st.length in
          absurd (omega (arith, l, ap (λ (c : Checked). c.state.length) q, ap (λ (y : State). y.length) (state_of_lem 0 (renewed st s)), renewed_length st s))

pub answer_zero : (st : State) → last_answer (record { number = 0; state = st }) ≡ accepted st
unfolding last_answer
answer_zero st = ifZero-yes _ _ refl

pub answer_no : (m : ℕ) (st : State) → (m ≡ 0 → ⊥) → last_answer (record { number = m; state = st }) ≡ refused m st.issued
unfolding last_answer
answer_no m st h = ifZero-no m _ _ h
