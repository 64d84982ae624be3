-- How many bytes are enough for the output of an export: the sum that docs/EMBEDDING.md gives, from the state and the groups.
use Rattle.std.specs.Prelude.{ℕ, ◌+◌, ◌*◌, ◌/◌, ◌≤◌, ◌≡◌, true, List, [], ◌∷◌, length}
use Rattle.primitives.specs.Bytes.{AllBytes}
use Rattle.journal.specs.State.{used}
use Rattle.journal.specs.Checking.{take_over}
use Rattle.journal.specs.declared.state.State.{State}
use Rattle.exports.specs.Text.{every}
use Rattle.exports.specs.Spelled.{pairs_of}
use Rattle.exports.specs.Groups.{Group, groups_text, group_good}
use Rattle.exports.specs.Writing.{elements_for, export_text, exported}

-- for each certificate: 3 bytes, and 4 for each 3 bytes of it, rounded up
unfoldable pub certificates_room : List (List ℕ) → ℕ
certificates_room [] = 0
certificates_room (c ∷ cs) = 3 + 4 * ((length c + 2) / 3) + certificates_room cs

unfoldable pub groups_room : List Group → ℕ
groups_room [] = 0
groups_room (g ∷ gs) = certificates_room (g.certificate ∷ g.issuers) + groups_room gs

-- 8, the length of the journal, 1 for each receipt, 63 for each serial, and the certificates
unfoldable pub export_room : State → List Group → ℕ
export_room st gs = 8 + st.length + st.issued + 63 * length (used st.serials) + groups_room gs

-- "This is enough for every journal and all certificates": an output so long never gets 23, but the text. "And never too large by more than 32 bytes and 34 for
-- each pair."
pub record ExportRoomIsEnough : Type 0 where
  pub fits : (j key : List ℕ) (n : ℕ) (gs : List Group) → AllBytes j → (take_over j key n).number ≡ 0 → length gs ≡ length (pairs_of j)
      → length (export_text (elements_for (pairs_of j) gs)) ≤ export_room (take_over j key n).state gs
  pub close : (j key : List ℕ) (n : ℕ) (gs : List Group) → AllBytes j → (take_over j key n).number ≡ 0 → length gs ≡ length (pairs_of j)
      → export_room (take_over j key n).state gs ≤ length (export_text (elements_for (pairs_of j) gs)) + 32 + 34 * length (pairs_of j)
  pub written : (j key : List ℕ) (n : ℕ) (gs : List Group) (out : List ℕ) → AllBytes j → (take_over j key n).number ≡ 0 → length gs ≡ length (pairs_of j)
      → every group_good gs ≡ true → export_room (take_over j key n).state gs ≤ length out → (exported j key n (groups_text gs) out).number ≡ 0
