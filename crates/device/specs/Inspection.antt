-- The export for an inspector over bytes.
use Rattle.std.specs.Prelude.{ℕ, cond, List, eqb, length}
use Rattle.exports.specs.Writing.{exported, export_buffer, Exported}
use Rattle.exports.specs.Reading.{not_read, restored, restored_buffer, Restored}
use Rattle.device.specs.Layout.{array_of}
use Rattle.device.specs.Calls.{width_with}

-- ---- written: the questions of Take over, then 28 and 23

unfoldable pub export_answer : List ℕ → List ℕ → ℕ → List ℕ → List ℕ → Exported
export_answer journal key n certificates out = exported journal (array_of 32 key) (width_with key n) certificates out

unfoldable pub export_output : List ℕ → List ℕ → ℕ → List ℕ → List ℕ → List ℕ
export_output journal key n certificates out = export_buffer journal (array_of 32 key) (width_with key n) certificates out

-- ---- read: 6 with index 0 for a state's slice of another length, then the questions of the text and those of Take over

unfoldable pub read_answer : List ℕ → List ℕ → ℕ → List ℕ → List ℕ → Restored
read_answer text key n out state =
    cond (eqb (length state) 447) (restored text (array_of 32 key) (width_with key n) (length out)) (not_read 6 0)

unfoldable pub read_output : List ℕ → List ℕ → ℕ → List ℕ → List ℕ → List ℕ
read_output text key n out state =
    cond (eqb (length state) 447) (restored_buffer text (array_of 32 key) (width_with key n) out) out
