-- Certificates: "a lent buffer of groups: a byte with the number of certificates, 1 or more, then each after a two-byte big-endian length, the
-- signing one first, its issuers behind it".
use Rattle.std.specs.Prelude.{ℕ, zero, suc, Bool, cond, ◌&&◌, List, [], ◌∷◌, ◌++◌, leb, length, drop, get_or}
use Rattle.std.proofs.Math.Option.{Option, none, some}
use Rattle.primitives.specs.Bytes.{same}
use Rattle.exports.specs.Text.{every}
use Rattle.exports.specs.Spelled.{sized_texts, texts_in, after_texts, short}

pub record Group : Type 0 where
  pub certificate : List ℕ
  pub issuers : List (List ℕ)

-- ---- their bytes

unfoldable pub group_text : Group → List ℕ
group_text g = suc (length g.issuers) ∷ sized_texts (g.certificate ∷ g.issuers)

unfoldable pub groups_text : List Group → List ℕ
groups_text [] = []
groups_text (g ∷ gs) = group_text g ++ groups_text gs

-- the number fits a byte, and each length two bytes
unfoldable pub group_good : Group → Bool
group_good g = leb (length g.issuers) 254 && (short g.certificate && every short g.issuers)

-- ---- reading: loosely, and then spelled again and compared

abbrev pub group_of : List (List ℕ) → Group
group_of [] = record { certificate = []; issuers = [] }
group_of (c ∷ cs) = record { certificate = c; issuers = cs }

unfoldable pub groups_in : ℕ → List ℕ → List Group
groups_in zero buf = []
groups_in (suc k) buf = group_of (texts_in (get_or buf 0 0) (drop 1 buf)) ∷ groups_in k (after_texts (get_or buf 0 0) (drop 1 buf))

unfoldable pub are_groups : List Group → List ℕ → Bool
are_groups gs buf = every group_good gs && same (groups_text gs) buf

-- the groups in a buffer of exactly k groups
unfoldable pub groups_of : ℕ → List ℕ → Option (List Group)
groups_of k buf = cond (are_groups (groups_in k buf) buf) (some (groups_in k buf)) none
