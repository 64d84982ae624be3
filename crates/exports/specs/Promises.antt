-- What holds of the two calls, as statements.
use Rattle.std.specs.Prelude.{ℕ, ◌≤◌, ◌<◌, ◌≡◌, Bool, true, false, ◌||◌, List, [], ◌∷◌, map, eqb, length, take, get_or}
use Rattle.std.proofs.Math.Option.{some}
use Rattle.primitives.specs.Bytes.{AllBytes}
use Rattle.primitives.specs.Place.{overwrite}
use Rattle.journal.specs.State.{unopened}
use Rattle.journal.specs.Checking.{take_over}
use Rattle.exports.specs.Text.{every}
use Rattle.exports.specs.Shape.{Element, Shape, plain_element, plain_text}
use Rattle.exports.specs.Spelled.{some_of, TextPair, pairs_of}
use Rattle.exports.specs.Groups.{Group, groups_text, group_good}
use Rattle.exports.specs.Writing.{in_base64, elements_for, export_text, export_of, exported, export_buffer}
use Rattle.exports.specs.Reading.{element_good, has_receipt, names_register, journal_of_elements, not_read, restored_by, restored, restored_buffer}

-- ---- written

-- an accepted journal and one group for each pair are written exactly: the text, from the start of the output on, if it fits; 23 if it does not; and 28
-- for certificates that are no such groups
pub record WrittenExactly : Type 0 where
  pub always : (j key : List ℕ) (n : ℕ) (gs : List Group) (out : List ℕ) → (take_over j key n).number ≡ 0 → length gs ≡ length (pairs_of j)
      → every group_good gs ≡ true → length (export_text (elements_for (pairs_of j) gs)) ≤ length out
      → (exported j key n (groups_text gs) out ≡ record { number = 0; index = 0; length = length (export_text (elements_for (pairs_of j) gs)) })
      × (export_buffer j key n (groups_text gs) out ≡ overwrite out 0 (export_text (elements_for (pairs_of j) gs)))
  pub short : (j key : List ℕ) (n : ℕ) (gs : List Group) (out : List ℕ) → (take_over j key n).number ≡ 0 → length gs ≡ length (pairs_of j)
      → every group_good gs ≡ true → length out < length (export_text (elements_for (pairs_of j) gs))
      → exported j key n (groups_text gs) out ≡ record { number = 23; index = 0; length = 0 }
  pub other : (j key : List ℕ) (n : ℕ) (certificates out : List ℕ) → (take_over j key n).number ≡ 0
      → ((gs : List Group) → length gs ≡ length (pairs_of j) → every group_good gs ≡ true → certificates ≡ groups_text gs → ⊥)
      → exported j key n certificates out ≡ record { number = 28; index = 0; length = 0 }

-- "without blanks": the text is that of its tokens, one after the other
abbrev pub ExportIsPlain : Type 0
ExportIsPlain = (es : List Element) → export_text es ≡ plain_text es

-- ---- written and read back

-- the text that the writer leaves in an output
abbrev pub text_written : List ℕ → List ℕ → ℕ → List ℕ → List ℕ → List ℕ
text_written j key n certificates out = take (exported j key n certificates out).length (export_buffer j key n certificates out)

unfoldable pub has_text : TextPair → Bool
has_text p = some_of p.texts

-- "It reads back to the journal if every pair has a receipt": byte by byte, with the state that Take over gives, whatever output the text was written to, and read
-- into every output that the journal fits
abbrev pub ExportReadsBack : Type 0
ExportReadsBack =
    (j key : List ℕ) (n : ℕ) (certificates first second : List ℕ) → AllBytes j → AllBytes certificates
    → (exported j key n certificates first).number ≡ 0 → every has_text (pairs_of j) ≡ true → length j ≤ length second
    → (restored (text_written j key n certificates first) key n (length second) ≡ record { number = 0; index = 0; length = length j; state = (take_over j key n).state })
    × (restored_buffer (text_written j key n certificates first) key n second ≡ overwrite second 0 j)

-- a journal with a pair without receipts is written, and its text then gets 29
abbrev pub EmptyPairGets29 : Type 0
EmptyPairGets29 =
    (j key : List ℕ) (n : ℕ) (certificates out : List ℕ) (size : ℕ) → AllBytes j → AllBytes certificates
    → (exported j key n certificates out).number ≡ 0 → every has_text (pairs_of j) ≡ false
    → restored (text_written j key n certificates out) key n size ≡ not_read 29 0

-- the certificates of elements are those of groups, in BASE64
pub data SameCertificates : List Element → List Group → Type 0 where
  nothing : SameCertificates [] []
  also : {e : Element} {g : Group} {es : List Element} {gs : List Group} → e.certificate ≡ in_base64 g.certificate → e.issuers ≡ map in_base64 g.issuers
      → SameCertificates es gs → SameCertificates (e ∷ es) (g ∷ gs)

-- whatever text spells the elements: what is read of it and exported again, with the same certificates, is their text without blanks
abbrev pub ReadIsExportedAgain : Type 0
ReadIsExportedAgain =
    (text key : List ℕ) (n : ℕ) (out : List ℕ) (es : List Element) (gs : List Group) → Shape text es → (restored text key n (length out)).number ≡ 0
    → length out < 18446744073709551616 → every group_good gs ≡ true → SameCertificates es gs → export_of (journal_of_elements es) (groups_text gs) ≡ some (export_text es)

-- and so the same text, if it has no blanks and the order in which elements are written
abbrev pub SameTextAgain : Type 0
SameTextAgain =
    (text key : List ℕ) (n : ℕ) (out : List ℕ) (fs : List Element) (gs : List Group) → every plain_element fs ≡ true → text ≡ export_text fs
    → (restored text key n (length out)).number ≡ 0 → length out < 18446744073709551616 → every group_good gs ≡ true → SameCertificates fs gs
    → export_of (journal_of_elements fs) (groups_text gs) ≡ some text

-- ---- which texts are read

-- the answer and the output are those of the elements, however the text spells them: with blanks, in another order of names, with the escape
pub record AnswerOfShape : Type 0 where
  pub answer : (text key : List ℕ) (n size : ℕ) (es : List Element) → Shape text es → restored text key n size ≡ restored_by (some es) key n size
  pub alike : (a b key : List ℕ) (n : ℕ) (out : List ℕ) (es : List Element) → Shape a es → Shape b es
      → (restored a key n (length out) ≡ restored b key n (length out)) × (restored_buffer a key n out ≡ restored_buffer b key n out)

-- a text that is read: it spells elements, each is good, has a receipt and names the register by its first one, and the journal that they spell fits the output
-- and is accepted by Take over
pub record ReadsAs (text key : List ℕ) (n room : ℕ) (es : List Element) : Type 0 where
  pub shape : Shape text es
  pub some : es ≡ [] → ⊥
  pub good : every element_good es ≡ true
  pub receipts : every has_receipt es ≡ true
  pub names : every names_register es ≡ true
  pub fits : length (journal_of_elements es) ≤ room
  pub taken : (take_over (journal_of_elements es) key n).number ≡ 0

-- exactly these texts are read, and what stands in the output is the journal that they spell
pub record ReadExactly : Type 0 where
  pub only : (text key : List ℕ) (n : ℕ) (out : List ℕ) → (restored text key n (length out)).number ≡ 0
      → (es : List Element) × ReadsAs text key n (length out) es × (restored_buffer text key n out ≡ overwrite out 0 (journal_of_elements es))
      × ((restored text key n (length out)).length ≡ length (journal_of_elements es)) × ((restored text key n (length out)).state ≡ (take_over (journal_of_elements es) key n).state)
  pub always : (text key : List ℕ) (n : ℕ) (out : List ℕ) (es : List Element) → ReadsAs text key n (length out) es
      → (restored text key n (length out)).number ≡ 0

-- a text that spells no elements gets 28
abbrev pub OtherTextsGet28 : Type 0
OtherTextsGet28 =
    (text key : List ℕ) (n size : ℕ) → ((es : List Element) → Shape text es → ⊥) → restored text key n size ≡ not_read 28 0

-- an output as long as the text is always enough: the journal that a text spells is not longer, and with a longer output the answer is the same
pub record TextIsRoomEnough : Type 0 where
  pub fits : (text : List ℕ) (es : List Element) → Shape text es → (es ≡ [] → ⊥) → every names_register es ≡ true → length (journal_of_elements es) ≤ length text
  pub same : (text key : List ℕ) (n size : ℕ) → length text ≤ size → restored text key n size ≡ restored text key n (length text)

-- ---- which numbers come

unfoldable pub among : List ℕ → ℕ → Bool
among [] m = false
among (k ∷ ks) m = eqb m k || among ks m

-- Take over's 14, 15 and 21 cannot come from a text: its journal is whole
abbrev pub NumbersOfReading : Type 0
NumbersOfReading =
    (text key : List ℕ) (n size : ℕ) → size < 18446744073709551616
    → among (0 ∷ 4 ∷ 16 ∷ 17 ∷ 18 ∷ 19 ∷ 20 ∷ 23 ∷ 28 ∷ 29 ∷ 30 ∷ 31 ∷ []) (restored text key n size).number ≡ true

-- ---- refused calls, and what follows the text

-- a refused call changes no byte, returns no length, and hands back the unopened state
pub record RefusedExportChangesNothing : Type 0 where
  pub writes : (j key : List ℕ) (n : ℕ) (certificates out : List ℕ) → ((exported j key n certificates out).number ≡ 0 → ⊥)
      → (export_buffer j key n certificates out ≡ out) × ((exported j key n certificates out).length ≡ 0)
  pub reads : (text key : List ℕ) (n : ℕ) (out : List ℕ) → ((restored text key n (length out)).number ≡ 0 → ⊥)
      → (restored_buffer text key n out ≡ out) × ((restored text key n (length out)).length ≡ 0) × ((restored text key n (length out)).state ≡ unopened)

-- "writes nothing behind it"; the output stays as long as it was
pub record NothingAfterLength : Type 0 where
  pub kept : (j key : List ℕ) (n : ℕ) (certificates out : List ℕ) → length (export_buffer j key n certificates out) ≡ length out
  pub kept_read : (text key : List ℕ) (n : ℕ) (out : List ℕ) → length (restored_buffer text key n out) ≡ length out
  pub writes : (j key : List ℕ) (n : ℕ) (certificates out : List ℕ) (i : ℕ) → (exported j key n certificates out).length ≤ i
      → get_or (export_buffer j key n certificates out) i 0 ≡ get_or out i 0
  pub reads : (text key : List ℕ) (n : ℕ) (out : List ℕ) (i : ℕ) → (restored text key n (length out)).length ≤ i
      → get_or (restored_buffer text key n out) i 0 ≡ get_or out i 0

-- "passes on number and index": a journal that Take over refuses is refused with its number and index
abbrev pub RefusedByTakeOver : Type 0
RefusedByTakeOver =
    (j key : List ℕ) (n : ℕ) (certificates out : List ℕ) → ((take_over j key n).number ≡ 0 → ⊥)
    → ((exported j key n certificates out).number ≡ (take_over j key n).number) × ((exported j key n certificates out).index ≡ (take_over j key n).index)
