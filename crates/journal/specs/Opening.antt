-- Open: "(settings, buffer) writes a head with count 0 and nothing behind it". It also takes "a mark for a shared key, not stored".
use Rattle.std.specs.Prelude.{ℕ, Bool, List, leb, length}
use Rattle.primitives.specs.Place.{overwrite}
use Rattle.receipt.specs.Settings.{settings_number_for}
use Rattle.receipt.specs.declared.settings.Settings.{Settings}
use Rattle.journal.specs.Head.{head, head_length}
use Rattle.journal.specs.State.{unopened, Opened}
use Rattle.journal.specs.Step.{fresh}
use Rattle.primitives.specs.Questions.{ask, ifZero}

-- "CSP good? 1. ID good? 2. Serial good? 3. N from 5 to 8? 4. Head fits the buffer? 5.", and "32 for a marked ID ending in a digit, between 2 and 3"
unfoldable pub open_number : Settings → Bool → ℕ → ℕ → ℕ
open_number s shared n room = settings_number_for s shared n (ask (leb (head_length s) room) 5 0)

-- "A refusal returns the unopened state."
unfoldable pub opened : Settings → List ℕ → Bool → ℕ → ℕ → Opened
opened s key shared n room =
    record { number = open_number s shared n room; state = ifZero (open_number s shared n room) (fresh s n key) unopened }

unfoldable pub open_buffer : Settings → Bool → ℕ → List ℕ → List ℕ
open_buffer s shared n buf = ifZero (open_number s shared n (length buf)) (overwrite buf 0 (head s 0)) buf
