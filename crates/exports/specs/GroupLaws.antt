-- What is read from a buffer of groups and from a journal: exactly what was spelled there.
use Rattle.std.specs.Prelude.{ℕ, ◌≡◌, true, List, map, ◌↔◌, length}
use Rattle.std.proofs.Math.Option.{none, some}
use Rattle.receipt.specs.Compact.{compact}
use Rattle.journal.specs.Valid.{Owner, Pair, settings_for, GoodOwner, Valid}
use Rattle.exports.specs.Text.{every}
use Rattle.exports.specs.Spelled.{TextPair, journal_spelled, GoodPairs, pairs_of}
use Rattle.exports.specs.Groups.{Group, groups_text, group_good, groups_of}
use Rattle.exports.specs.Passing.{GroupsThere}

-- ---- groups

-- k groups are read exactly where the buffer is the bytes of k groups that fit
abbrev pub GroupsExactly : Type 0
GroupsExactly = (k : ℕ) (buf : List ℕ) (gs : List Group) → (groups_of k buf ≡ some gs) ↔ ((length gs ≡ k) × (every group_good gs ≡ true) × (buf ≡ groups_text gs))

-- a buffer is the bytes of one list of groups only
abbrev pub OneListOfGroups : Type 0
OneListOfGroups = (gs hs : List Group) → every group_good gs ≡ true → every group_good hs ≡ true → groups_text gs ≡ groups_text hs → gs ≡ hs

-- the groups that are there are read, and where there are none, none are
abbrev pub GroupsOfThere : Type 0
GroupsOfThere = (k : ℕ) (buf : List ℕ) (t : GroupsThere k buf) → groups_of k buf ≡ some t.groups

abbrev pub NoGroupsThere : Type 0
NoGroupsThere = (k : ℕ) (buf : List ℕ) → (GroupsThere k buf → ⊥) → groups_of k buf ≡ none

-- ---- pairs

-- the pairs of a journal that was spelled are those that it was spelled with
abbrev pub PairsAreThose : Type 0
PairsAreThose = (o : Owner) (ps : List TextPair) → GoodOwner o → GoodPairs ps → pairs_of (journal_spelled o ps) ≡ ps

-- a pair with its entries as texts
unfoldable pub text_pair : Owner → ℕ → Pair → TextPair
text_pair o n p = record { serial = p.serial; texts = map (compact (settings_for o p.serial) n) p.entries }

-- the pairs of a valid journal are those that it is valid with
abbrev pub PairsOfValid : Type 0
PairsOfValid = (j key : List ℕ) (n : ℕ) (v : Valid j key n) → pairs_of j ≡ map (text_pair v.owner n) v.pairs
