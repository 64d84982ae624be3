-- Prepare: "(state, details, output) writes the compact form up to its second '.', without it".
use Rattle.std.specs.Prelude.{ℕ, List, leb, length}
use Rattle.primitives.specs.Place.{overwrite}
use Rattle.receipt.specs.Compact.{signing_input}
use Rattle.receipt.specs.declared.details.Details.{Details}
use Rattle.primitives.specs.Answers.{Answer}
use Rattle.primitives.specs.Questions.{ask, ifZero}
use Rattle.journal.specs.Step.{sound_alone, details_number, fields_of}
use Rattle.journal.specs.declared.state.State.{State}
use Rattle.journal.specs.State.{settings_now}

-- the text for the device to sign
unfoldable pub prepared_text : State → Details → List ℕ
prepared_text st d = signing_input (settings_now st) st.width (fields_of st d)

-- "questions 6 (with the journal length alone at least the head), 7 to 11, then 13 for the output"
unfoldable pub prepare_number : State → Details → ℕ → ℕ
prepare_number st d room = ask (sound_alone st) 6 (details_number st d (ask (leb (length (prepared_text st d)) room) 13 0))

-- "the length is returned, 0 when refused"
unfoldable pub prepare_answer : State → Details → ℕ → Answer
prepare_answer st d room =
    record { number = prepare_number st d room; length = ifZero (prepare_number st d room) (length (prepared_text st d)) 0 }

-- "The state and the output behind that text are unchanged"
unfoldable pub prepare_buffer : State → Details → List ℕ → List ℕ
prepare_buffer st d out = ifZero (prepare_number st d (length out)) (overwrite out 0 (prepared_text st d)) out
