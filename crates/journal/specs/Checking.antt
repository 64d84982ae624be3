-- Take over: "(journal, key, N) returns the state, or a number, the index of the entry from 0 and the unopened state".
use Rattle.std.specs.Prelude.{Result, Ok, Err, ℕ, zero, suc, ◌+◌, ◌≤◌, ◌≡◌, Bool, true, cond, not, ◌&&◌, ◌||◌, List, [], ◌∷◌, leb, ℤ, length}
use Rattle.std.specs.Int.Signed.{le_z}
use Rattle.primitives.specs.Bytes.{same}
use Rattle.primitives.specs.Number.{count_at}
use Rattle.primitives.specs.Counter.{width_good}
use Rattle.primitives.specs.Aes.{key_schedule}
use Rattle.primitives.specs.Refusals.{number_of}
use Rattle.primitives.specs.declared.refusal.Refusal.{Refusal}
use Rattle.receipt.specs.Settings.{serial_good, settings_good}
use Rattle.receipt.specs.Details.{standard}
use Rattle.receipt.specs.Chain.{decrypted_counter}
use Rattle.receipt.specs.Compact.{Found, no_entry, as_found, read_entry}
use Rattle.receipt.specs.declared.settings.Name.{Name}
use Rattle.receipt.specs.declared.settings.Settings.{Settings}
use Rattle.receipt.specs.declared.payload.PayloadFields.{PayloadFields}
use Rattle.receipt.specs.declared.entry.Entry.{Entry}
use Rattle.journal.specs.State.{unopened, serials_good, settings_now, count_place_now}
use Rattle.journal.specs.declared.state.TakenOver.{TakenOver}
use Rattle.journal.specs.Head.{head_settings, head_good, entry_text, there, text_at, serial_at, start_there}
use Rattle.journal.specs.Step.{fresh, sound_alone, sound, number_above, first_good, new_counter, next, renewed, renew_number}
use Rattle.primitives.specs.Questions.{ask, ifZero}
use Rattle.journal.specs.declared.state.State.{State}
use Rattle.journal.specs.declared.state.Stop.{Stop}
use Rattle.journal.specs.declared.checking.Checked.{Checked as Passed}
use Rattle.journal.specs.declared.checking.Step.{Step}

-- ---- what the steps answer, each as one record. The number is 0, or that of the first question answered no. `as_..` reads the code's answers so; each
-- tells all answers apart

-- one step: what it read, and the state after it
pub record Checked : Type 0 where
  pub number : ℕ
  pub found : Found
  pub state : State

-- refused: no entry, and the state that the step was given
abbrev pub as_checked : State → Result Passed Refusal → Checked
as_checked st (Ok c) = record { number = 0; found = as_found c.entry; state = c.state }
as_checked st (Err refusal) = record { number = number_of refusal; found = no_entry; state = st }

-- a step that reads no entry
abbrev pub as_unread : State → Result State Refusal → Checked
as_unread st (Ok after) = record { number = 0; found = no_entry; state = after }
as_unread st (Err refusal) = record { number = number_of refusal; found = no_entry; state = st }

-- several steps: the state after them; refused, the state before the refused one
abbrev pub as_step : Result State Stop → Step
as_step (Ok st) = record { number = 0; state = st }
as_step (Err stop) = record { number = number_of stop.question; state = stop.state }

-- "each entry with its pair's serial". 16: "spelled as above, with the head's CSP, ID and serial, number, date with its time and amounts within limits, a counter field of U1RP, VFJB or N bytes, a chain field of 8 bytes?"
unfoldable pub found : State → List ℕ → Found
found st text = read_entry (settings_now st) st.width text

-- the same number: neither is below the other
unfoldable pub equal : ℤ → ℤ → Bool
equal a b = le_z a b && le_z b a

-- 20: "Running sum fits N bytes, and on a standard receipt equals the decrypted counter?", under the key's schedule
unfoldable pub counter_right : List (List ℕ) → State → PayloadFields → Bool
counter_right schedule st f =
    (new_counter st f.details).fits
    && (not (standard f.details.kind)
    || equal (decrypted_counter schedule st.id f.details.number st.width f.counter) (new_counter st f.details).counter)

-- 17: "Number above the last?" 18: "First one standard with five zeros?" 19: "Chain field right?" 20
unfoldable pub context_number : List (List ℕ) → State → PayloadFields → ℕ
context_number schedule st f =
    ask (number_above st f.details) 17
    (ask (first_good st f.details) 18 (ask (same f.chain st.chain) 19 (ask (counter_right schedule st f) 20 0)))

-- 16 to 20, asked of a state and the bytes of one entry
unfoldable pub text_number : List (List ℕ) → State → List ℕ → ℕ
text_number schedule st text = ask (found st text).ok 16 (context_number schedule st (found st text).entry.fields)

-- the state after an entry
unfoldable pub after : State → List ℕ → State
after st text = next st (found st text).entry.fields.details text

-- ---- one step: an entry, the start of a pair, or nothing. The state's journal length is the place, its receipts issued are the index

-- 15 to 20, asked of the entry at the state's place
unfoldable pub entry_number : List (List ℕ) → State → List ℕ → ℕ
entry_number schedule st j = ask (there j st.length) 15 (text_number schedule st (text_at j st.length))

-- a step that reads no entry: refused, at the end, or at the start of a pair
unfoldable pub stopped : ℕ → State → Checked
stopped number st = record { number = number; found = no_entry; state = st }

-- the answer for a text whose questions gave this number
unfoldable pub checked : ℕ → State → List ℕ → Checked
checked number st text = ifZero number (record { number = 0; found = found st text; state = after st text }) (stopped number st)

unfoldable pub text_checked : List (List ℕ) → State → List ℕ → Checked
text_checked schedule st text = checked (text_number schedule st text) st text

unfoldable pub place_checked : List (List ℕ) → State → List ℕ → Checked
place_checked schedule st j = checked (entry_number schedule st j) st (text_at j st.length)

-- ---- after the last entry of a section

-- "21 for bytes that start no good serial with a whole receipts count", then 30 and 31
unfoldable pub start_number : State → List ℕ → ℕ
start_number st j = ask (start_there j st.length) 21 (renew_number st (serial_at j st.length) 0)

-- the start of a pair: no entry is read, and its serial is the newest
unfoldable pub start_checked : State → List ℕ → Checked
start_checked st j = ifZero (start_number st j) (stopped 0 (renewed st (serial_at j st.length))) (stopped (start_number st j) st)

-- "reads such pairs to the end": no byte left, or the start of a pair
unfoldable pub end_checked : State → List ℕ → Checked
end_checked st j = cond (leb (length j) st.length) (stopped 0 st) (start_checked st j)

-- the open section has as many entries as its count says
unfoldable pub full : State → List ℕ → Bool
full st j = leb (count_at j (count_place_now st) 4) st.since

unfoldable pub one_step : List (List ℕ) → State → List ℕ → Checked
one_step schedule st j = cond (full st j) (end_checked st j) (place_checked schedule st j)

-- what the states of a take-over or a check keep, so that no step traps
pub record Steady (st : State) (j : List ℕ) : Type 0 where
  pub serials : serials_good st.serials ≡ true
  pub issued : st.issued ≤ st.last
  pub since : st.since ≤ st.issued
  pub place : st.place + 4 ≤ length j

-- n steps, up to the first that is refused: its number, and the state before it
unfoldable pub steps : List (List ℕ) → ℕ → State → List ℕ → Step
steps schedule zero st j = record { number = 0; state = st }
steps schedule (suc n) st j =
    ifZero (one_step schedule st j).number (steps schedule n (one_step schedule st j).state j)
    (record { number = (one_step schedule st j).number; state = st })

-- ---- the call

unfoldable pub refused : ℕ → ℕ → TakenOver
refused number index = record { number = number; index = index; state = unopened }

-- an answer without a number; the paper leaves its index open, and here it is 0
unfoldable pub accepted : State → TakenOver
accepted st = record { number = 0; index = 0; state = st }

-- "Every index counts all receipts before it."
unfoldable pub last_answer : Step → TakenOver
last_answer s = ifZero s.number (accepted s.state) (refused s.number s.state.issued)

-- "N from 5 to 8? 4. Head whole and good by 1 to 3? 14 (both with index 0)."
unfoldable pub head_number : List ℕ → ℕ → ℕ
head_number j n = ask (width_good n) 4 (ask (head_good j) 14 0)

-- "A first call reads the head alone and answers 4, 14 or the fresh state.", whatever the journal's count says
unfoldable pub check_head : List ℕ → List ℕ → ℕ → TakenOver
check_head j key n = ifZero (head_number j n) (accepted (fresh (head_settings j) n key)) (refused (head_number j n) 0)

-- an entry takes at least two bytes and the start of a pair nine, so as many steps as the journal has bytes cover all of it
unfoldable pub take_over : List ℕ → List ℕ → ℕ → TakenOver
take_over j key n =
    ifZero (head_number j n) (last_answer (steps (key_schedule key) (length j) (fresh (head_settings j) n key) j)) (refused (head_number j n) 0)

-- ---- steps for other readers: State sound? 6. Then the questions of the step

-- the journal length after the entry fits 64 bits
unfoldable pub entry_ready : State → List ℕ → Bool
entry_ready st text = sound_alone st && leb (st.length + length (entry_text text)) 18446744073709551615

unfoldable pub entry_checked : List (List ℕ) → State → List ℕ → Checked
entry_checked schedule st text = cond (entry_ready st text) (text_checked schedule st text) (stopped 6 st)

-- 4 and 14, asked of a width and the settings of a head; else the state of a register without receipts
unfoldable pub settings_checked : Settings → List ℕ → ℕ → TakenOver
settings_checked s key n =
    ifZero (ask (width_good n) 4 (ask (settings_good s) 14 0)) (accepted (fresh s n key)) (refused (ask (width_good n) 4 (ask (settings_good s) 14 0)) 0)

-- the journal length after the start of a pair fits 64 bits
unfoldable pub serial_ready : State → Name → Bool
serial_ready st serial = sound_alone st && leb (st.length + 8 + serial.len) 18446744073709551615

-- 21, 30 and 31, asked of the serial that starts a pair
unfoldable pub serial_number : State → Name → ℕ
serial_number st serial = ask (serial_good serial) 21 (renew_number st serial 0)

unfoldable pub serial_checked : State → Name → Checked
serial_checked st serial =
    cond (serial_ready st serial)
    (ifZero (serial_number st serial) (stopped 0 (renewed st serial)) (stopped (serial_number st serial) st)) (stopped 6 st)

unfoldable pub step_checked : List (List ℕ) → State → List ℕ → Checked
step_checked schedule st j = cond (sound st (length j)) (one_step schedule st j) (stopped 6 st)

-- the entries that these steps read; a step that is refused, that starts a pair or that finds the end reads none
unfoldable pub read_by_steps : List (List ℕ) → ℕ → State → List ℕ → List Entry
read_by_steps schedule zero st j = []
read_by_steps schedule (suc n) st j =
    cond (step_checked schedule st j).found.ok
    ((step_checked schedule st j).found.entry ∷ read_by_steps schedule n (step_checked schedule st j).state j)
    (read_by_steps schedule n (step_checked schedule st j).state j)
