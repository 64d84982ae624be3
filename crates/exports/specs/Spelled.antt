-- Journals by their parts: the texts of each pair, whatever they are.
use Rattle.std.specs.Prelude.{ℕ, zero, suc, ◌+◌, ◌<◌, ◌≡◌, Bool, true, false, cond, not, List, [], ◌∷◌, ◌++◌, leb, length, drop}
use Rattle.primitives.specs.Number.{count_at}
use Rattle.receipt.specs.Settings.{serial_good}
use Rattle.receipt.specs.declared.settings.Name.{Name}
use Rattle.journal.specs.Head.{pair_start, section_end, serial_at, serial_place, entry_text, length_at, text_at}
use Rattle.journal.specs.Valid.{Owner, owner_text}
use Rattle.exports.specs.Text.{every}

-- ---- texts, each after its length in two bytes: entries of a journal, and certificates of a group

unfoldable pub sized_texts : List (List ℕ) → List ℕ
sized_texts [] = []
sized_texts (t ∷ ts) = entry_text t ++ sized_texts ts

-- the first k of them in a buffer, and what follows them
unfoldable pub texts_in : ℕ → List ℕ → List (List ℕ)
texts_in zero buf = []
texts_in (suc k) buf = text_at buf 0 ∷ texts_in k (drop (2 + length_at buf 0) buf)

unfoldable pub after_texts : ℕ → List ℕ → List ℕ
after_texts zero buf = buf
after_texts (suc k) buf = after_texts k (drop (2 + length_at buf 0) buf)

-- a length of two bytes
unfoldable pub short : List ℕ → Bool
short w = leb (length w) 65535

-- ---- pairs

-- a serial, and the texts of its receipts
pub record TextPair : Type 0 where
  pub serial : Name
  pub texts : List (List ℕ)

unfoldable pub pair_spelled : TextPair → List ℕ
pair_spelled p = pair_start p.serial (length p.texts) ++ sized_texts p.texts

unfoldable pub pairs_spelled : List TextPair → List ℕ
pairs_spelled [] = []
pairs_spelled (p ∷ ps) = pair_spelled p ++ pairs_spelled ps

unfoldable pub journal_spelled : Owner → List TextPair → List ℕ
journal_spelled o ps = owner_text o ++ pairs_spelled ps

-- ---- pairs that a journal can have

-- a good serial, texts whose lengths fit two bytes, and not more of them than four bytes can count
pub record GoodPair (p : TextPair) : Type 0 where
  pub long : length p.serial.bytes ≡ 32
  pub good : serial_good p.serial ≡ true
  pub short : every short p.texts ≡ true
  pub few : length p.texts < 4294967296

pub data GoodPairs : List TextPair → Type 0 where
  nothing : GoodPairs []
  also : {p : TextPair} {ps : List TextPair} → GoodPair p → GoodPairs ps → GoodPairs (p ∷ ps)

-- ---- the pairs of a journal

abbrev pub is_empty : {A : Type 0} → List A → Bool
is_empty [] = true
is_empty (x ∷ xs) = false

abbrev pub some_of : {A : Type 0} → List A → Bool
some_of xs = not (is_empty xs)

-- the pair at the start of a buffer: its serial, its count and its texts
unfoldable pub pair_in : List ℕ → TextPair
pair_in buf = record { serial = serial_at buf 0; texts = texts_in (count_at buf (section_end buf 0) 4) (drop (section_end buf 0 + 4) buf) }

unfoldable pub after_pair : List ℕ → List ℕ
after_pair buf = after_texts (count_at buf (section_end buf 0) 4) (drop (section_end buf 0 + 4) buf)

-- at most so many, up to the end
unfoldable pub pairs_in : ℕ → List ℕ → List TextPair
pairs_in zero buf = []
pairs_in (suc k) buf = cond (is_empty buf) [] (pair_in buf ∷ pairs_in k (after_pair buf))

-- a pair takes at least eight bytes, so there are not more pairs than bytes
unfoldable pub pairs_of : List ℕ → List TextPair
pairs_of j = pairs_in (length j) (drop (serial_place j) j)
