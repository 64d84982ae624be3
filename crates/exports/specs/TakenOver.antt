-- What must hold of a journal that is taken over where its parts lie, as a statement; the proof is in proofs/TakenAsSpelled.antt.
use Rattle.std.specs.Prelude.{ℕ, ◌<◌, ◌≡◌, true, cond, List, ◌∷◌, length}
use Rattle.primitives.specs.Counter.{width_good}
use Rattle.primitives.specs.Aes.{key_schedule}
use Rattle.receipt.specs.Settings.{csp_good, id_good}
use Rattle.journal.specs.Step.{fresh}
use Rattle.journal.specs.Valid.{Owner, settings_for}
use Rattle.journal.specs.Checking.{refused, last_answer, take_over}
use Rattle.journal.specs.declared.state.TakenOver.{TakenOver}
use Rattle.exports.specs.Spelled.{TextPair, GoodPairs, journal_spelled}
use Rattle.exports.specs.Running.{run_pairs}

-- ---- parts that a journal can have

-- good CSP and ID, good pairs, and a journal whose length fits 64 bits
pub record GoodParts (o : Owner) (ps : List TextPair) : Type 0 where
  pub three : length o.csp ≡ 3
  pub csp : csp_good o.csp ≡ true
  pub long : length o.id.bytes ≡ 32
  pub id : id_good o.id ≡ true
  pub pairs : GoodPairs ps
  pub fits : length (journal_spelled o ps) < 18446744073709551616

-- ---- taken over where they lie

-- 4; then each text as an entry and each later serial as the start of a pair, up to the first that is refused
unfoldable pub parts_taken : Owner → TextPair → List TextPair → List ℕ → ℕ → TakenOver
parts_taken o p ps key n =
    cond (width_good n) (last_answer (run_pairs (key_schedule key) true (fresh (settings_for o p.serial) n key) (p ∷ ps))) (refused 4 0)

-- Number, index and state are those of Take over on the journal that the parts spell, whether or not it is written; for every key and every width, good or
-- not, and whatever the texts say: of them `GoodPairs` asks only that each has at most 65,535 bytes, and that a pair has fewer than 2^32.
abbrev pub ReadIsTakenOver : Type 0
ReadIsTakenOver =
    (o : Owner) (p : TextPair) (ps : List TextPair) (key : List ℕ) (n : ℕ) → GoodParts o (p ∷ ps)
    → parts_taken o p ps key n ≡ take_over (journal_spelled o (p ∷ ps)) key n
