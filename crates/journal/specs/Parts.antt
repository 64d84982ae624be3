-- "Checking month by month": the steps of Take over, counted, from a state on.
use Rattle.std.specs.Prelude.{ℕ, ◌+◌, Bool, cond, ◌&&◌, List, [], ◌∷◌, leb, length}
use Rattle.primitives.specs.Number.{count_at}
use Rattle.primitives.specs.Aes.{key_schedule}
use Rattle.primitives.specs.Questions.{ifZero}
use Rattle.journal.specs.State.{count_place_now}
use Rattle.journal.specs.declared.state.TakenOver.{TakenOver}
use Rattle.journal.specs.Step.{sound}
use Rattle.journal.specs.Checking.{steps, accepted, check_head}
use Rattle.journal.specs.declared.checking.Step.{Step}
use Rattle.journal.specs.declared.state.State.{State}

-- 6: "A state that isn't sound for the journal as its buffer, or has more receipts in the open section than the journal's count there, gets 6."
unfoldable pub ready : State → List ℕ → Bool
ready st j = sound st (length j) && leb st.since (count_at j (count_place_now st) 4)

-- refused: "a refused call hands back the state it was given"
unfoldable pub handed_back : ℕ → ℕ → State → TakenOver
handed_back number index st = record { number = number; index = index; state = st }

-- the state after the steps; or the number, with an index that "counts all receipts before it"
unfoldable pub part_answer : State → Step → TakenOver
part_answer st s = ifZero s.number (accepted s.state) (handed_back s.number s.state.issued st)

-- "A check then starts from a state, reads the journal behind its length through a given number of steps and returns the state after them."
-- Key and width are the state's
unfoldable pub check_steps : State → List ℕ → ℕ → TakenOver
check_steps st j count = cond (ready st j) (part_answer st (steps (key_schedule st.key) count st j)) (handed_back 6 0 st)

-- ---- several checks

-- "all on the same journal and each from the state before it, up to the first refusal", after an answer
unfoldable pub checks_after : TakenOver → List ℕ → List ℕ → TakenOver
checks_after t j [] = t
checks_after t j (count ∷ counts) = ifZero t.number (checks_after (check_steps t.state j count) j counts) t

-- "the first call and these checks", with these step counts
unfoldable pub check_in_parts : List ℕ → List ℕ → ℕ → List ℕ → TakenOver
check_in_parts j key n counts = checks_after (check_head j key n) j counts

-- the sum of step counts
unfoldable pub total : List ℕ → ℕ
total [] = 0
total (count ∷ counts) = count + total counts
