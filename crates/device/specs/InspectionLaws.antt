-- What holds of the export over bytes.
use Rattle.std.specs.Prelude.{ℕ, ◌≤◌, ◌≡◌, true, List, length, take}
use Rattle.primitives.specs.Bytes.{AllBytes}
use Rattle.primitives.specs.Place.{overwrite}
use Rattle.journal.specs.State.{unopened}
use Rattle.exports.specs.Text.{every}
use Rattle.exports.specs.Spelled.{pairs_of}
use Rattle.exports.specs.Promises.{has_text}
use Rattle.device.specs.Layout.{kept}
use Rattle.device.specs.Calls.{take_over_answer}
use Rattle.device.specs.Inspection.{export_answer, export_output, read_answer, read_output}

-- the text that ditgrux_export leaves in an output
abbrev pub text_left : List ℕ → List ℕ → ℕ → List ℕ → List ℕ → List ℕ
text_left journal key n certificates out = take (export_answer journal key n certificates out).length (export_output journal key n certificates out)

-- what ditgrux_read_export gives for a text of a journal: the journal at the start of the output, its length, and the state bytes of ditgrux_take_over
pub record ReadBack (journal key : List ℕ) (n : ℕ) (text out bytes : List ℕ) : Type 0 where
  pub number : (read_answer text key n out bytes).number ≡ 0
  pub index : (read_answer text key n out bytes).index ≡ 0
  pub length : (read_answer text key n out bytes).length ≡ length journal
  pub output : read_output text key n out bytes ≡ overwrite out 0 journal
  pub state : kept bytes (read_answer text key n out bytes).state ≡ kept bytes (take_over_answer journal key n 447).state

-- a journal whose every pair has a receipt: the text of ditgrux_export is read back
abbrev pub ExportReadsBackInC : Type 0
ExportReadsBackInC =
    (journal key : List ℕ) (n : ℕ) (certificates first second state : List ℕ) → AllBytes journal → AllBytes certificates → length state ≡ 447
    → (export_answer journal key n certificates first).number ≡ 0 → every has_text (pairs_of journal) ≡ true → length journal ≤ length second
    → ReadBack journal key n (text_left journal key n certificates first) second state

-- ditgrux_export first answers what ditgrux_take_over answers
abbrev pub ExportTakesOver : Type 0
ExportTakesOver =
    (journal key : List ℕ) (n : ℕ) (certificates out : List ℕ) → ((take_over_answer journal key n 447).number ≡ 0 → ⊥)
    → ((export_answer journal key n certificates out).number ≡ (take_over_answer journal key n 447).number)
    × ((export_answer journal key n certificates out).index ≡ (take_over_answer journal key n 447).index)

-- a refused call changes no byte of the output and returns the length 0; the state is the unopened one, or as it was with 6
pub record RefusedExportInC : Type 0 where
  pub writes : (journal key : List ℕ) (n : ℕ) (certificates out : List ℕ) → ((export_answer journal key n certificates out).number ≡ 0 → ⊥)
      → (export_output journal key n certificates out ≡ out) × ((export_answer journal key n certificates out).length ≡ 0)
  pub reads : (text key : List ℕ) (n : ℕ) (out state : List ℕ) → ((read_answer text key n out state).number ≡ 0 → ⊥)
      → (read_output text key n out state ≡ out) × ((read_answer text key n out state).length ≡ 0) × ((read_answer text key n out state).state ≡ unopened)
  pub six : (text key : List ℕ) (n : ℕ) (out state : List ℕ) → (length state ≡ 447 → ⊥)
      → ((read_answer text key n out state).number ≡ 6) × (kept state (read_answer text key n out state).state ≡ state)
