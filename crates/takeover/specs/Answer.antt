-- The line that answers an input.
use Rattle.std.specs.Prelude.{ℕ, List, length, take, drop, slice_index, nat_lt, ◌==◌, if◌then◌else◌}
use Rattle.journal.specs.declared.state.TakenOver.{TakenOver}
use Rattle.journal.specs.Checking.{take_over}
use Rattle.printing.specs.Line.{accepted_line, refused_line}

-- the line of what a take-over answers
abbrev pub line_of : TakenOver → List ℕ
line_of t = if t.number == 0 then accepted_line t.state.issued t.state.counter else refused_line t.number t.index

-- the line for an input: one byte N, 32 bytes of key, then the journal; refused with 25 where it is shorter
abbrev pub answer_to : List ℕ → List ℕ
answer_to input = if nat_lt (length input) 33 then refused_line 25 0
    else line_of (take_over (drop 33 input) (take 32 (drop 1 input)) (slice_index input 0))
