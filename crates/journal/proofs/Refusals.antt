-- What a refused call leaves.
use Rattle.std.proofs.Common.{ℕ, zero, suc, arith, Bool, true, false, cond, ◌≡◌, refl, List, [], ◌∷◌, leb, length}
use Rattle.receipt.specs.declared.settings.Name.{Name}
use Rattle.receipt.specs.declared.settings.Settings.{Settings}
use Rattle.receipt.specs.declared.details.Details.{Details}
use Rattle.journal.specs.State.{unopened, IssuedList}
use Rattle.journal.specs.declared.state.TakenOver.{TakenOver}
use Rattle.journal.specs.Step.{fresh, sound, renewed}
use Rattle.primitives.specs.Questions.{ask, ifZero}
use Rattle.primitives.specs.Counter.{width_good}
use Rattle.receipt.specs.Settings.{settings_good}
use Rattle.receipt.specs.Compact.{no_entry}
use Rattle.journal.specs.Opening.{open_number, opened, open_buffer}
use Rattle.journal.specs.Issuing.{issue_number, issued, issued_within, issue_buffer, issue_buffer_within}
use Rattle.journal.specs.Listing.{issued_list, list_buffer, issued_list_within, list_buffer_within, counted_from}
use Rattle.journal.specs.Changing.{change_number, changed, change_buffer}
use Rattle.journal.specs.Preparing.{prepare_number, prepare_answer, prepare_buffer}
use Rattle.journal.specs.Checking.{text_number, entry_number, stopped, checked, text_checked, place_checked, start_number, start_checked, end_checked, full, one_step, head_number, refused, accepted, check_head, take_over, last_answer, steps, entry_ready, entry_checked, serial_ready, serial_number, serial_checked, settings_checked, step_checked, Checked}
use Rattle.journal.specs.declared.checking.Step.{Step}
use Rattle.journal.specs.Parts.{ready, handed_back, part_answer, check_steps}
use Rattle.journal.specs.Head.{head_settings, text_at, serial_at}
use Rattle.journal.specs.Demands.{RefusedChangesNothing}
use Rattle.journal.specs.declared.state.State.{State}
use Rattle.primitives.proofs.Rows.{ifZero-no}
use Rattle.primitives.specs.Aes.{key_schedule}

open_refused : (s : Settings) (key : List ℕ) (shared : Bool) (n : ℕ) (buf : List ℕ) → ((opened s key shared n (length buf)).number ≡ 0 → ⊥)
    → ((opened s key shared n (length buf)).state ≡ unopened) × (open_buffer s shared n buf ≡ buf)
unfolding opened open_buffer
open_refused s key shared n buf h = (ifZero-no (open_number s shared n (length buf)) _ _ h, ifZero-no (open_number s shared n (length buf)) _ _ h)

pub issue_refused : (st : State) (d : Details) (sig buf : List ℕ) → ((issued st d sig (length buf)).number ≡ 0 → ⊥)
    → ((issued st d sig (length buf)).state ≡ st) × (issue_buffer st d sig buf ≡ buf)
unfolding issued_within issue_buffer_within
issue_refused st d sig buf h = (ifZero-no (issue_number st d sig (length buf)) _ _ h, ifZero-no (issue_number st d sig (length buf)) _ _ h)

-- none is issued: the list is empty, or its first receipt is refused
list_refused : (st : State) (ds : List Details) (buf : List ℕ) → (issued_list st ds buf).count ≡ 0 → ((issued_list st ds buf).state ≡ st) × (list_buffer st ds buf ≡ buf)
unfolding issued_list_within list_buffer_within ifZero
list_refused st [] buf z = (refl, refl)
list_refused st (d ∷ ds) buf z = go (issue_number st d [] (length buf)) z
  where
    r : IssuedList
    r = issued_list (issued st d [] (length buf)).state ds (issue_buffer st d [] buf)

    go : (m : ℕ) → (ifZero m (counted_from 1 r) (record { number = m; count = 0; state = st })).count ≡ 0
        → ((ifZero m (counted_from 1 r) (record { number = m; count = 0; state = st })).state ≡ st)
        × (ifZero m (list_buffer (issued st d [] (length buf)).state ds (issue_buffer st d [] buf)) buf ≡ buf)
    go zero q = absurd (omega (arith, q))
    go (suc m) q = (refl, refl)

change_refused : (st : State) (serial : Name) (buf : List ℕ) → ((changed st serial (length buf)).number ≡ 0 → ⊥)
    → ((changed st serial (length buf)).state ≡ st) × (change_buffer st serial buf ≡ buf)
unfolding changed change_buffer
change_refused st serial buf h = (ifZero-no (change_number st serial (length buf)) _ _ h, ifZero-no (change_number st serial (length buf)) _ _ h)

prepare_refused : (st : State) (d : Details) (out : List ℕ) → ((prepare_answer st d (length out)).number ≡ 0 → ⊥)
    → ((prepare_answer st d (length out)).length ≡ 0) × (prepare_buffer st d out ≡ out)
unfolding prepare_answer prepare_buffer
prepare_refused st d out h = (ifZero-no (prepare_number st d (length out)) _ _ h, ifZero-no (prepare_number st d (length out)) _ _ h)

-- a refusal has the unopened state
refused_state : (k i : ℕ) → (refused k i).state ≡ unopened
unfolding refused
refused_state k i = refl

-- a number picks the refusal, or the answer that is left
pick : (k i : ℕ) (t : TakenOver) → ((t.number ≡ 0 → ⊥) → t.state ≡ unopened) → ((ifZero k t (refused k i)).number ≡ 0 → ⊥) → (ifZero k t (refused k i)).state ≡ unopened
unfolding ifZero
pick zero i t f h = f h
pick (suc k) i t f h = refused_state (suc k) i

zero_number : (st : State) → (accepted st).number ≡ 0
unfolding accepted
zero_number st = refl

answer_refused : (s : Step) → ((last_answer s).number ≡ 0 → ⊥) → (last_answer s).state ≡ unopened
unfolding last_answer
answer_refused s = pick s.number s.state.issued (accepted s.state) (λ h. absurd (h (zero_number s.state)))

take_refused : (j key : List ℕ) (n : ℕ) → ((take_over j key n).number ≡ 0 → ⊥) → (take_over j key n).state ≡ unopened
unfolding take_over
take_refused j key n =
    let s = steps (key_schedule key) (length j) (fresh (head_settings j) n key) j in
    pick (head_number j n) 0 (last_answer s) (answer_refused s)

head_refused : (j key : List ℕ) (n : ℕ) → ((check_head j key n).number ≡ 0 → ⊥) → (check_head j key n).state ≡ unopened
unfolding check_head
head_refused j key n =
    let st = fresh (head_settings j) n key in
    pick (head_number j n) 0 (accepted st) (λ h. absurd (h (zero_number st)))

keep : (m i : ℕ) (st : State) (x : State) → ((ifZero m (accepted x) (handed_back m i st)).number ≡ 0 → ⊥) → (ifZero m (accepted x) (handed_back m i st)).state ≡ st
unfolding ifZero handed_back
keep zero i st x h = absurd (h (zero_number x))
keep (suc m) i st x h = refl

given : (m i : ℕ) (st : State) → (handed_back m i st).state ≡ st
unfolding handed_back
given m i st = refl

check_refused : (st : State) (j : List ℕ) (n : ℕ) → ((check_steps st j n).number ≡ 0 → ⊥) → (check_steps st j n).state ≡ st
unfolding check_steps part_answer
check_refused st j n = go (ready st j)
  where
    s : Step
    s = steps (key_schedule st.key) n st j

    go : (t : Bool) → ((cond t (ifZero s.number (accepted s.state) (handed_back s.number s.state.issued st)) (handed_back 6 0 st)).number ≡ 0 → ⊥)
        → (cond t (ifZero s.number (accepted s.state) (handed_back s.number s.state.issued st)) (handed_back 6 0 st)).state ≡ st
    go true h = keep s.number s.state.issued st s.state h
    go false h = given 6 0 st

-- ---- the steps for other readers

-- a step that stops hands back the state, and has found no entry
pub record Stops (st : State) (c : Checked) : Type 0 where
  pub keeps : (c.number ≡ 0 → ⊥) → (c.state ≡ st) × (c.found ≡ no_entry)

stopped_stops : (m : ℕ) (st : State) → Stops st (stopped m st)
unfolding stopped
stopped_stops m st = record { keeps = λ h. (refl, refl) }

-- with the number 0 there is nothing to hand back
zero_stops : (st : State) (c : Checked) → c.number ≡ 0 → Stops st c
zero_stops st c e = record { keeps = λ h. absurd (h e) }

either_stops : (b : Bool) (st : State) (x y : Checked) → Stops st x → Stops st y → Stops st (cond b x y)
either_stops true st x y f g = f
either_stops false st x y f g = g

number_stops : (m : ℕ) (st : State) (x y : Checked) → Stops st x → Stops st y → Stops st (ifZero m x y)
unfolding ifZero
number_stops zero st x y f g = f
number_stops (suc m) st x y f g = g

zero_is : (st : State) → (stopped 0 st).number ≡ 0
unfolding stopped
zero_is st = refl

checked_stops : (m : ℕ) (st : State) (text : List ℕ) → Stops st (checked m st text)
unfolding checked
checked_stops m st text = number_stops m st _ _ (zero_stops st _ refl) (stopped_stops m st)

start_stops : (st : State) (j : List ℕ) → Stops st (start_checked st j)
unfolding start_checked
start_stops st j = number_stops (start_number st j) st _ _ (zero_stops st _ (zero_is (renewed st (serial_at j st.length)))) (stopped_stops (start_number st j) st)

one_stops : (k : List (List ℕ)) (st : State) (j : List ℕ) → Stops st (one_step k st j)
unfolding one_step end_checked place_checked
one_stops k st j =
    either_stops (full st j) st _ _ (either_stops (leb (length j) st.length) st _ _ (stopped_stops 0 st) (start_stops st j))
    (checked_stops (entry_number k st j) st (text_at j st.length))

entry_stops : (k : List (List ℕ)) (st : State) (text : List ℕ) → Stops st (entry_checked k st text)
unfolding entry_checked text_checked
entry_stops k st text = either_stops (entry_ready st text) st _ _ (checked_stops (text_number k st text) st text) (stopped_stops 6 st)

serial_stops : (st : State) (serial : Name) → Stops st (serial_checked st serial)
unfolding serial_checked
serial_stops st serial =
    either_stops (serial_ready st serial) st _ _
    (number_stops (serial_number st serial) st _ _ (zero_stops st _ (zero_is (renewed st serial))) (stopped_stops (serial_number st serial) st)) (stopped_stops 6 st)

step_stops : (k : List (List ℕ)) (st : State) (j : List ℕ) → Stops st (step_checked k st j)
unfolding step_checked
step_stops k st j = either_stops (sound st (length j)) st _ _ (one_stops k st j) (stopped_stops 6 st)

settings_refused : (s : Settings) (key : List ℕ) (n : ℕ) → ((settings_checked s key n).number ≡ 0 → ⊥) → (settings_checked s key n).state ≡ unopened
unfolding settings_checked
settings_refused s key n =
    let st = fresh s n key in
    pick (ask (width_good n) 4 (ask (settings_good s) 14 0)) 0 (accepted st) (λ h. absurd (h (zero_number st)))

pub refused_changes_nothing : RefusedChangesNothing
refused_changes_nothing =
    record {
      opens = open_refused;
      issues = issue_refused;
      lists = list_refused;
      changes = change_refused;
      prepares = prepare_refused;
      takes = take_refused;
      heads = head_refused;
      checks = check_refused;
      settings = settings_refused;
      entries = λ k st text. (entry_stops k st text).keeps;
      serials = λ st serial. (serial_stops st serial).keeps;
      steps = λ k st j. (step_stops k st j).keeps;
    }
