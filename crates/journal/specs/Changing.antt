-- Change: "closes the receipts section and appends a new serial section and an empty receipts section".
use Rattle.std.specs.Prelude.{ℕ, ◌+◌, List, leb, length}
use Rattle.primitives.specs.Place.{overwrite}
use Rattle.primitives.specs.Questions.{ask, ifZero}
use Rattle.receipt.specs.Settings.{serial_good}
use Rattle.receipt.specs.declared.settings.Name.{Name}
use Rattle.journal.specs.Head.{pair_start}
use Rattle.journal.specs.Step.{sound, renew_number, renewed}
use Rattle.journal.specs.declared.state.State.{State}
use Rattle.journal.specs.State.{Changed}

-- "Change undergoes 6, 3 and 13 as Issue would", with 30 and 31 "between 3 and 13"
unfoldable pub change_number : State → Name → ℕ → ℕ
change_number st serial room =
    ask (sound st room) 6 (ask (serial_good serial) 3 (renew_number st serial (ask (leb (st.length + (8 + serial.len)) room) 13 0)))

-- a refused call returns the state that it was given
unfoldable pub changed : State → Name → ℕ → Changed
changed st serial room =
    record { number = change_number st serial room; state = ifZero (change_number st serial room) (renewed st serial) st }

unfoldable pub change_buffer : State → Name → List ℕ → List ℕ
change_buffer st serial buf = ifZero (change_number st serial (length buf)) (overwrite buf st.length (pair_start serial 0)) buf
