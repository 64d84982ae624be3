-- Calls that write a text at the start of their output.
use Rattle.std.proofs.Common.{◌≡◌, ℕ, ◌<◌, ◌≤◌, cond, List, length, refl, arith}
use Rattle.primitives.specs.Place.{room}
use Rattle.primitives.specs.Answers.{written}
use Rattle.primitives.proofs.Over.{room_true, room_false}

-- the answer of a call that writes a text at the start of its output
module _ (out text : List ℕ) where
  pub written_room : length text ≤ length out → written out text ≡ record { number = 0; length = length text }
  unfolding written
  written_room h = rw (room_true out 0 text (omega arith))

  pub written_full : length out < length text → written out text ≡ record { number = 23; length = 0 }
  unfolding written
  written_full h = rw (room_false out 0 text (omega arith))

  -- depending on whether there is room
  pub written_is : written out text ≡ cond (room out 0 text) (record { number = 0; length = length text }) (record { number = 23; length = 0 })
  unfolding written
  written_is = refl
