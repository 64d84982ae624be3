-- What a check asks: 6 of the state, the head alone in the first call, and 21 after the last entry.
use Rattle.std.proofs.Common.{ℕ, zero, suc, ◌≤◌, ◌<◌, ◌≡◌, refl, sym, ap, ◌∙◌, Bool, true, false, List, arith, leb-true, leb-false, leb, length, drop}
use Rattle.primitives.specs.Bytes.{AllBytes}
use Rattle.primitives.specs.Counter.{width_good}
use Rattle.primitives.specs.Aes.{key_schedule}
use Rattle.primitives.specs.Questions.{ask}
use Rattle.primitives.proofs.Rows.{ask_no, ifZero-yes}
use Rattle.receipt.specs.declared.settings.Settings.{Settings}
use Rattle.journal.specs.Head.{head_settings, head_good, head_length, start_there, serial_at, text_at}
use Rattle.journal.specs.Step.{fresh, renewed, renew_number, sound}
use Rattle.journal.specs.Opening.{open_number, opened}
use Rattle.journal.specs.Checking.{context_number, text_number, entry_number, stopped, start_number, full, one_step, steps, accepted, check_head, step_checked, Checked}
use Rattle.journal.specs.declared.checking.Step.{Step}
use Rattle.journal.specs.Parts.{ready, handed_back, part_answer, check_steps}
use Rattle.journal.specs.PartLaws.{HeadIsReadAlone, FreshIsOpened, OneStepIsCheckStep, SixIsNotReady, OnlyAsks21}
use Rattle.journal.specs.FirstNo.{Headed}
use Rattle.journal.specs.declared.state.State.{State}
use Rattle.journal.specs.declared.state.TakenOver.{TakenOver}
use Rattle.journal.proofs.Heads.{head_good_lem, good_head, read_typed, read_few, read_back, read_settings, count_of}
use Rattle.journal.proofs.FirstNo.{bool_no}
use Rattle.journal.proofs.Stepping.{end_none, entry_refused, start_refused, entry_passed, start_passed, idle, refused_step}
use Rattle.journal.proofs.CheckCalls.{head_width, head_bad, head_fresh}
use Rattle.journal.proofs.OpenCalls.{open_zero}
use Rattle.journal.proofs.ReadBySteps.{sound_here}
use Rattle.journal.proofs.PartSteps.{Ready, ready_true, accepted_number, accepted_state, handed_state, check_ready, check_six, part_yes, part_no, part_number, handed_number, turn, stuck, no_steps}

number_21 : (st : State) (j : List ℕ) → start_there j st.length ≡ false → start_number st j ≡ 21
unfolding start_number
number_21 st j h = ask_no 21 _ h

-- ---- no step gives 6

-- a row of questions that gives a number, given by the rest if not by the first
ask_later : (b : Bool) (n rest m : ℕ) → (n ≡ m → ⊥) → ask b n rest ≡ m → rest ≡ m
unfolding ask
ask_later true n rest m h e = e
ask_later false n rest m h e = absurd (h e)

context_six : (k : List (List ℕ)) (st : State) (f : _) → context_number k st f ≡ 6 → ⊥
unfolding context_number
context_six k st f e =
    let q = ask_later _ 20 0 6 (λ z. omega (arith, z)) (ask_later _ 19 _ 6 (λ z. omega (arith, z)) (ask_later _ 18 _ 6 (λ z. omega (arith, z)) (ask_later _ 17 _ 6 (λ z. omega (arith, z)) e))) in
    omega (arith, q)

text_six : (k : List (List ℕ)) (st : State) (text : List ℕ) → text_number k st text ≡ 6 → ⊥
unfolding text_number
text_six k st text e = context_six k st _ (ask_later _ 16 _ 6 (λ z. omega (arith, z)) e)

entry_six : (k : List (List ℕ)) (st : State) (j : List ℕ) → entry_number k st j ≡ 6 → ⊥
unfolding entry_number
entry_six k st j e = text_six k st (text_at j st.length) (ask_later _ 15 _ 6 (λ z. omega (arith, z)) e)

start_six : (st : State) (j : List ℕ) → start_number st j ≡ 6 → ⊥
unfolding start_number renew_number
start_six st j e =
    let q = ask_later _ 31 0 6 (λ z. omega (arith, z)) (ask_later _ 30 _ 6 (λ z. omega (arith, z)) (ask_later _ 21 _ 6 (λ z. omega (arith, z)) e)) in
    omega (arith, q)

stopped_number : (m : ℕ) (st : State) → (stopped m st).number ≡ m
unfolding stopped
stopped_number m st = refl

step_six : (k : List (List ℕ)) (st : State) (j : List ℕ) → (one_step k st j).number ≡ 6 → ⊥
step_six k st j e = go (full st j) (leb (length j) st.length) refl refl
  where
    number : (m : ℕ) (x : State) → one_step k st j ≡ stopped m x → m ≡ 6
    number m x q = sym (ap (λ (c : Checked). c.number) q ∙ stopped_number m x) ∙ e

    entry : full st j ≡ false → (m : ℕ) → entry_number k st j ≡ m → ⊥
    entry f zero z = omega (arith, e, ap (λ (c : Checked). c.number) (entry_passed k st j f z))
    entry f (suc m) z = entry_six k st j (number (entry_number k st j) st (entry_refused k st j f (λ q. omega (arith, q, z))))

    start : full st j ≡ true → st.length < length j → (m : ℕ) → start_number st j ≡ m → ⊥
    start f l zero z = omega (arith, number 0 (renewed st (serial_at j st.length)) (start_passed k st j f l z))
    start f l (suc m) z = start_six st j (number (start_number st j) st (start_refused k st j f l (λ q. omega (arith, q, z))))

    go : (t u : Bool) → full st j ≡ t → leb (length j) st.length ≡ u → ⊥
    go false u f q = entry f (entry_number k st j) refl
    go true true f q = omega (arith, number 0 st (end_none k st j f (leb-true _ _ q)))
    go true false f q = start f (leb-false _ _ q) (start_number st j) refl

steps_six : (k : List (List ℕ)) (j : List ℕ) (n : ℕ) (st : State) → (steps k n st j).number ≡ 6 → ⊥
steps_six k j zero st e = omega (arith, e, ap (λ (x : Step). x.number) (no_steps k j st))
steps_six k j (suc n) st e = go (one_step k st j).number refl (steps_six k j n (one_step k st j).state)
  where
    go : (m : ℕ) → (one_step k st j).number ≡ m → ((steps k n (one_step k st j).state j).number ≡ 6 → ⊥) → ⊥
    go zero z rec = rec (sym (ap (λ (x : Step). x.number) (turn k j n st z)) ∙ e)
    go (suc m) z rec = step_six k st j (z ∙ (sym (ap (λ (x : Step). x.number) (stuck k j n st z)) ∙ e))

pub six_is_not_ready : SixIsNotReady
six_is_not_ready st j n = (λ e. bool_no (ready st j) (not_six e), check_six st j n)
  where
    not_six : (check_steps st j n).number ≡ 6 → ready st j ≡ true → ⊥
    not_six e r =
        let x = steps (key_schedule st.key) n st j in
        steps_six (key_schedule st.key) j n st (sym (part_number st x) ∙ (sym (ap (λ (t : TakenOver). t.number) (check_ready st j n (ready_true st j r))) ∙ e))

-- ---- one step

stopped_state : (k : List (List ℕ)) (st : State) (j : List ℕ) → ((one_step k st j).number ≡ 0 → ⊥) → (one_step k st j).state ≡ st
unfolding stopped
stopped_state k st j h = go (full st j) (leb (length j) st.length) refl refl
  where
    entry : full st j ≡ false → (m : ℕ) → entry_number k st j ≡ m → (one_step k st j).state ≡ st
    entry f zero z = absurd (h (ap (λ (c : Checked). c.number) (entry_passed k st j f z)))
    entry f (suc m) z = ap (λ (c : Checked). c.state) (entry_refused k st j f (λ q. omega (arith, q, z)))

    start : full st j ≡ true → st.length < length j → (m : ℕ) → start_number st j ≡ m → (one_step k st j).state ≡ st
    start f l zero z = absurd (h (ap (λ (c : Checked). c.number) (start_passed k st j f l z)))
    start f l (suc m) z = ap (λ (c : Checked). c.state) (start_refused k st j f l (λ q. omega (arith, q, z)))

    go : (t u : Bool) → full st j ≡ t → leb (length j) st.length ≡ u → (one_step k st j).state ≡ st
    go false u f q = entry f (entry_number k st j) refl
    go true true f q = ap (λ (c : Checked). c.state) (end_none k st j f (leb-true _ _ q))
    go true false f q = start f (leb-false _ _ q) (start_number st j) refl

step_checked_lem : (k : List (List ℕ)) (st : State) (j : List ℕ) → sound st (length j) ≡ true → step_checked k st j ≡ one_step k st j
unfolding step_checked
step_checked_lem k st j h = rw h

pub one_step_is_check_step : OneStepIsCheckStep
one_step_is_check_step st j h = go (one_step k st j).number refl
  where
    k : List (List ℕ)
    k = key_schedule st.key

    r : Ready st j
    r = ready_true st j h

    c : step_checked k st j ≡ one_step k st j
    c = step_checked_lem k st j (sound_here st j r.alone r.inside)

    go : (m : ℕ) → (one_step k st j).number ≡ m → ((check_steps st j 1).number ≡ (step_checked k st j).number) × ((check_steps st j 1).state ≡ (step_checked k st j).state)
    go zero z =
        let s = (one_step k st j).state in
        let x = turn k j 0 st z ∙ no_steps k j s in
        let a = check_ready st j 1 r ∙ (ap (part_answer st) x ∙ part_yes st (record { number = 0; state = s }) refl) in (
          ap (λ (t : TakenOver). t.number) a ∙ (accepted_number s ∙ sym (ap (λ (y : Checked). y.number) c ∙ z)),
          ap (λ (t : TakenOver). t.state) a ∙ (accepted_state s ∙ sym (ap (λ (y : Checked). y.state) c)),
        )
    go (suc m) z =
        let x : Step = record { number = suc m; state = st } in
        let q : suc m ≡ 0 → ⊥ = λ y. omega (arith, y) in
        let a = check_ready st j 1 r ∙ (ap (part_answer st) (stuck k j 0 st z) ∙ part_no st x q) in (
          ap (λ (t : TakenOver). t.number) a ∙ (handed_number (suc m) st.issued st ∙ sym (ap (λ (y : Checked). y.number) c ∙ z)),
          ap (λ (t : TakenOver). t.state) a ∙ (handed_state (suc m) st.issued st ∙ sym (ap (λ (y : Checked). y.state) c ∙ stopped_state k st j (λ y. omega (arith, y, z)))),
        )

-- ---- after the last entry

-- bytes that start no pair
pub no_start : (k : List (List ℕ)) (st : State) (j : List ℕ) → full st j ≡ true → st.length < length j → start_there j st.length ≡ false → one_step k st j ≡ stopped 21 st
no_start k st j f l h =
    let e = number_21 st j h in
    start_refused k st j f l (λ z. omega (arith, z, e)) ∙ ap (λ (m : ℕ). stopped m st) e

pub only_asks_21 : OnlyAsks21
only_asks_21 st j r f = record { none_left = none; bytes_left = left }
  where
    k : List (List ℕ)
    k = key_schedule st.key

    none : length j ≤ st.length → (n : ℕ) → check_steps st j n ≡ accepted st
    none l n =
        check_ready st j n (ready_true st j r)
        ∙ (ap (part_answer st) (idle k j n st (end_none k st j f l)) ∙ part_yes st (record { number = 0; state = st }) refl)

    left : st.length < length j → start_there j st.length ≡ false → (n : ℕ) → check_steps st j (suc n) ≡ handed_back 21 st.issued st
    left l h n =
        check_ready st j (suc n) (ready_true st j r)
        ∙ (ap (part_answer st) (refused_step k j n st (λ z. omega (arith, z)) (no_start k st j f l h)) ∙ part_no st (record { number = 21; state = st }) (λ z. omega (arith, z)))

-- ---- the head alone

module _ (j key : List ℕ) (n : ℕ) (b : AllBytes j) where
  pub headed : head_good j ≡ true → Headed j (head_settings j) (count_of j) (drop (head_length (head_settings j)) j)
  headed g = record { typed = read_typed j b g; good = (good_head j b g).good; few = read_few j b g; bytes = read_back j b g }

  good_of : (s : Settings) (k : ℕ) (more : List ℕ) → Headed j s k more → head_good j ≡ true
  good_of s k more h = ap head_good h.bytes ∙ head_good_lem s h.typed.lengths h.good k h.few more

  settings_of_lem : (s : Settings) (k : ℕ) (more : List ℕ) → Headed j s k more → head_settings j ≡ s
  settings_of_lem s k more h = ap head_settings h.bytes ∙ read_settings s h.typed.lengths h.good k h.few more

  pub fresh_headed : width_good n ≡ true → (s : Settings) (k : ℕ) (more : List ℕ) → Headed j s k more → check_head j key n ≡ accepted (fresh s n key)
  fresh_headed w s k more h = sym (head_fresh j key n w (good_of s k more h) (sym (settings_of_lem s k more h)) refl refl)

pub head_is_read_alone : HeadIsReadAlone
head_is_read_alone j key n b =
    record {
      width = λ h. head_width j key n (bool_no (width_good n) h);
      none = λ w h. head_bad j key n w (bool_no (head_good j) (λ g. h (head_settings j) (count_of j) (drop (head_length (head_settings j)) j) (headed j key n b g)));
      good = λ w s k more h. fresh_headed j key n b w s k more h;
    }

opened_fresh : (s : Settings) (key : List ℕ) (shared : Bool) (n room : ℕ) → open_number s shared n room ≡ 0 → (opened s key shared n room).state ≡ fresh s n key
unfolding opened
opened_fresh s key shared n room z = ifZero-yes _ _ z

pub fresh_is_opened : FreshIsOpened
fresh_is_opened j key n b s k more h shared room z =
    fresh_headed j key n b (open_zero s shared n room z).1 s k more h ∙ ap accepted (sym (opened_fresh s key shared n room z))
