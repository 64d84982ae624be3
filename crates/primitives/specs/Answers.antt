-- The answer of a call that writes a text, and the output after it.
use Rattle.std.specs.Prelude.{◌≡◌, ℕ, cond, List, length, Result, Ok, Err}
use Rattle.std.proofs.Math.Option.{Option, none, some}
use Rattle.primitives.specs.Place.{room, placed}
use Rattle.primitives.specs.Refusals.{number_of}
use Rattle.primitives.specs.declared.refusal.Refusal.{Refusal}

-- 0 and the text's length, or the number of the question answered "no" and 0
pub record Answer : Type 0 where
  pub number : ℕ
  pub length : ℕ

-- the same of a call's result
abbrev pub as_answer : Result ℕ Refusal → Answer
as_answer (Ok length) = record { number = 0; length = length }
as_answer (Err refusal) = record { number = number_of refusal; length = 0 }

-- it determines the result; proved in proofs/Refusals.antt
abbrev pub AnswerDeterminesResult : Type 0
AnswerDeterminesResult = (a b : Result ℕ Refusal) → as_answer a ≡ as_answer b → a ≡ b

-- a text to be written: its length, or 23 if it does not fit
unfoldable pub written : List ℕ → List ℕ → Answer
written out text = cond (room out 0 text) (record { number = 0; length = length text }) (record { number = 23; length = 0 })

-- a refused call, or one that has a text to write
abbrev pub answer_with : ℕ → Option (List ℕ) → List ℕ → Answer
answer_with refused none out = record { number = refused; length = 0 }
answer_with refused (some text) out = written out text

abbrev pub bufferWith : Option (List ℕ) → List ℕ → List ℕ
bufferWith none out = out
bufferWith (some text) out = placed out 0 text
