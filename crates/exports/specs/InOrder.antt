-- The questions of both calls in the order of the paper, said of the elements that a text spells and of the groups in a buffer. The tests of Reading.antt and of
-- Groups.antt, and the rows of questions there, are not run.
use Rattle.std.specs.Prelude.{ℕ, ◌≤◌, ◌≡◌, true, List, [], ◌∷◌, ◌++◌, ◌↔◌, length}
use Rattle.primitives.specs.Bytes.{AllBytes}
use Rattle.primitives.specs.Place.{overwrite}
use Rattle.primitives.specs.Base64.{encoding}
use Rattle.primitives.specs.Questions.{Row, asked_all, question, AllYes, FirstNoIs, GivesFirstNo}
use Rattle.primitives.specs.declared.base64.Alphabet.TheVariants.{Standard}
use Rattle.receipt.specs.declared.settings.Settings.{Settings}
use Rattle.journal.specs.Checking.{take_over}
use Rattle.journal.specs.declared.state.TakenOver.{TakenOver}
use Rattle.exports.specs.Shape.{Element, Shape}
use Rattle.exports.specs.Spelled.{TextPair, journal_spelled, pairs_of}
use Rattle.exports.specs.Groups.{Group, groups_text}
use Rattle.exports.specs.Names.{NamesRegister}
use Rattle.exports.specs.Reading.{canonical, not_read, restored, restored_buffer}
use Rattle.exports.specs.Writing.{elements_for, export_text, exported, export_buffer}

-- at each place of a list
abbrev pub AtEach : {A : Type 0} → (A → Type 0) → List A → Type 0
AtEach {A} P xs = (before : List A) (x : A) (after : List A) → xs ≡ before ++ (x ∷ after) → P x

-- ---- 28: what is asked of each element

-- "canonical BASE64": the padded BASE64 of some bytes
pub record InBase64 (w : List ℕ) : Type 0 where
  pub bytes : List ℕ
  pub typed : AllBytes bytes
  pub is : w ≡ encoding Standard bytes

-- the test that the definitions run is this
abbrev pub CanonicalIsEncoding : Type 0
CanonicalIsEncoding = (w : List ℕ) → AllBytes w → (canonical w ≡ true) ↔ InBase64 w

abbrev pub UpTo65535 : List ℕ → Type 0
UpTo65535 w = length w ≤ 65535

-- "certificates not in canonical BASE64 and receipts over 65,535 bytes or too many for their four-byte count get 28"
pub record GoodElement (e : Element) : Type 0 where
  pub certificate : InBase64 e.certificate
  pub issuers : AtEach InBase64 e.issuers
  pub receipts : AtEach UpTo65535 e.receipts
  pub count : length e.receipts ≤ 4294967295

-- "Text of another shape", "an empty outer array too": the text spells elements, there is one, and each is good
pub record GoodText (text : List ℕ) : Type 0 where
  pub elements : List Element
  pub shape : Shape text elements
  pub some : elements ≡ [] → ⊥
  pub good : AtEach GoodElement elements

-- ---- 29: "an element without one gets 29"

pub record HasReceipt (e : Element) : Type 0 where
  pub first : List ℕ
  pub later : List (List ℕ)
  pub are : e.receipts ≡ first ∷ later

-- ---- 28: "the rule for the first receipt holds in each element"

-- the first receipt of an element names these settings
pub record FirstNames (e : Element) (s : Settings) : Type 0 where
  pub first : List ℕ
  pub later : List (List ℕ)
  pub are : e.receipts ≡ first ∷ later
  pub names : NamesRegister first s

abbrev pub NamesSome : Element → Type 0
NamesSome e = (s : Settings) × FirstNames e s

-- ---- 23: "It rebuilds the journal, with the head from the first receipt"

-- what the first receipts of elements name, one after the other
pub data NamedBy : List Element → List Settings → Type 0 where
  nothing : NamedBy [] []
  also : {e : Element} {s : Settings} {es : List Element} {ss : List Settings} → FirstNames e s → NamedBy es ss → NamedBy (e ∷ es) (s ∷ ss)

-- a pair for each element: the serial that its first receipt names, and its receipts
unfoldable pub pairs_by : List Element → List Settings → List TextPair
pairs_by [] ss = []
pairs_by (e ∷ es) [] = []
pairs_by (e ∷ es) (s ∷ ss) = record { serial = s.serial; texts = e.receipts } ∷ pairs_by es ss

-- these elements spell this journal: CSP and ID are those of the first receipt of the first element
pub record SpellJournal (es : List Element) (j : List ℕ) : Type 0 where
  pub first : Settings
  pub later : List Settings
  pub named : NamedBy es (first ∷ later)
  pub bytes : j ≡ journal_spelled (record { csp = first.csp; id = first.id }) (pairs_by es (first ∷ later))

-- ---- the row: "28, a text without receipts 29, a first receipt that isn't .. 28, then 23 and then the numbers of Take over", "and each question before 23 goes
-- through all elements first"

-- up to 23; a text spells one list of elements only (`OneReading`), and these one journal
abbrev pub questions_before : List ℕ → ℕ → Row → Row
questions_before text room rest =
    question (GoodText text) 28
    (question ((es : List Element) → Shape text es → AtEach HasReceipt es) 29
    (question ((es : List Element) → Shape text es → AtEach NamesSome es) 28
    (question ((es : List Element) (j : List ℕ) → Shape text es → SpellJournal es j → length j ≤ room) 23 rest)))

-- and all, where Take over answers t
abbrev pub questions_of_reading : List ℕ → ℕ → TakenOver → Row
questions_of_reading text room t = questions_before text room (question (t.number ≡ 0) t.number asked_all)

-- t is what Take over answers for the journal that the text spells
abbrev pub TakenAs : List ℕ → List ℕ → ℕ → TakenOver → Type 0
TakenAs text key n t = (es : List Element) (j : List ℕ) → Shape text es → SpellJournal es j → t ≡ take_over j key n

-- For every text, key, width and length of an output: the number is that of the first no; 28, 29 and 23 come with index 0, and Take over's number with its index;
-- and a text to which every answer is yes is read as the journal that it spells.
pub record ReadingAnswers : Type 0 where
  pub number : (text key : List ℕ) (n room : ℕ) (t : TakenOver) → TakenAs text key n t
      → GivesFirstNo (restored text key n room).number (questions_of_reading text room t)
  pub before : (text key : List ℕ) (n room k : ℕ) → FirstNoIs (questions_before text room asked_all) k → restored text key n room ≡ not_read k 0
  pub after : (text key : List ℕ) (n room : ℕ) (t : TakenOver) → TakenAs text key n t → AllYes (questions_before text room asked_all) → (t.number ≡ 0 → ⊥)
      → restored text key n room ≡ not_read t.number t.index
  pub read : (text key : List ℕ) (n : ℕ) (out : List ℕ) (es : List Element) (j : List ℕ) → Shape text es → SpellJournal es j
      → AllYes (questions_before text (length out) asked_all) → (take_over j key n).number ≡ 0
      → (restored text key n (length out) ≡ record { number = 0; index = 0; length = length j; state = (take_over j key n).state })
      × (restored_buffer text key n out ≡ overwrite out 0 j)

-- ---- writing

-- "a byte with the number of certificates, 1 or more, then each after a two-byte big-endian length"
pub record GroupFits (g : Group) : Type 0 where
  pub count : length g.issuers ≤ 254
  pub certificate : length g.certificate ≤ 65535
  pub issuers : AtEach UpTo65535 g.issuers

-- "one group a pair": the certificates are the bytes of these groups
pub record GroupsFor (j certificates : List ℕ) (gs : List Group) : Type 0 where
  pub count : length gs ≡ length (pairs_of j)
  pub fit : AtEach GroupFits gs
  pub bytes : certificates ≡ groups_text gs

-- "The writer first takes the journal over and .. passes on number and index; then comes 28 for any other buffer, then 23."
abbrev pub questions_of_writing : List ℕ → List ℕ → List ℕ → TakenOver → Row
questions_of_writing j certificates out t =
    question (t.number ≡ 0) t.number
    (question ((gs : List Group) × GroupsFor j certificates gs) 28
    (question ((gs : List Group) → GroupsFor j certificates gs → length (export_text (elements_for (pairs_of j) gs)) ≤ length out) 23 asked_all))

-- For every journal, key, width, buffer of certificates and output: the number is that of the first no; the index is Take over's, and 0 with every other number;
-- and where every answer is yes, the text is written.
pub record WritingAnswers : Type 0 where
  pub number : (j key : List ℕ) (n : ℕ) (certificates out : List ℕ)
      → GivesFirstNo (exported j key n certificates out).number (questions_of_writing j certificates out (take_over j key n))
  pub refused : (j key : List ℕ) (n : ℕ) (certificates out : List ℕ) → ((take_over j key n).number ≡ 0 → ⊥)
      → exported j key n certificates out ≡ record { number = (take_over j key n).number; index = (take_over j key n).index; length = 0 }
  pub index : (j key : List ℕ) (n : ℕ) (certificates out : List ℕ) → (take_over j key n).number ≡ 0 → (exported j key n certificates out).index ≡ 0
  pub written : (j key : List ℕ) (n : ℕ) (certificates out : List ℕ) (gs : List Group) → GroupsFor j certificates gs
      → AllYes (questions_of_writing j certificates out (take_over j key n))
      → (exported j key n certificates out ≡ record { number = 0; index = 0; length = length (export_text (elements_for (pairs_of j) gs)) })
      × (export_buffer j key n certificates out ≡ overwrite out 0 (export_text (elements_for (pairs_of j) gs)))
