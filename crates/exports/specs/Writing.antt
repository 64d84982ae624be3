-- Writing an export: "Write a journal as {"Belege-Gruppe":[{"Signaturzertifikat":"","Zertifizierungsstellen":[],"Belege-kompakt":[]}]}, without blanks,
-- with the certificate, its issuers and the compact forms filled in as strings."
use Rattle.std.specs.Prelude.{ℕ, Bool, true, false, cond, List, [], ◌∷◌, ◌++◌, map, length, Result, Ok, Err}
use Rattle.std.proofs.Math.Option
use Rattle.std.proofs.Math.Option.{Option}
use Rattle.primitives.specs.Text.{ascii}
use Rattle.primitives.specs.Answers.{answer_with, bufferWith}
use Rattle.primitives.specs.Questions.{ifZero}
use Rattle.primitives.specs.Base64.{encoding}
use Rattle.primitives.specs.declared.base64.Alphabet.TheVariants.{Standard}
use Rattle.primitives.specs.Answers.{Answer}
use Rattle.journal.specs.Checking.{take_over}
use Rattle.primitives.specs.Refusals.{number_of}
use Rattle.journal.specs.declared.state.RefusedAt.{RefusedAt}
use Rattle.journal.specs.declared.state.TakenOver.{TakenOver}
use Rattle.exports.specs.Shape.{Element}
use Rattle.exports.specs.Spelled.{TextPair, pairs_of}
use Rattle.exports.specs.Groups.{Group, groups_of}

-- ---- the text of elements

unfoldable pub quoted : List ℕ → List ℕ
quoted w = 34 ∷ (w ++ (34 ∷ []))

-- a "," if other items precede
abbrev pub comma : Bool → List ℕ
comma more = cond more (44 ∷ []) []

-- items with "," between them, and one before the first if other items precede it
module _ {A : Type 0} (item : A → List ℕ) where
  unfoldable pub listed : Bool → List A → List ℕ
  listed more [] = []
  listed more (x ∷ xs) = comma more ++ (item x ++ listed true xs)

unfoldable pub opening : List ℕ
unfolding ascii
opening = ascii "{\"Belege-Gruppe\":["

unfoldable pub before_certificate : List ℕ
unfolding ascii
before_certificate = ascii "{\"Signaturzertifikat\":"

unfoldable pub before_issuers : List ℕ
unfolding ascii
before_issuers = ascii ",\"Zertifizierungsstellen\":["

unfoldable pub before_receipts : List ℕ
unfolding ascii
before_receipts = ascii "],\"Belege-kompakt\":["

unfoldable pub ending : List ℕ
unfolding ascii
ending = ascii "]}"

-- an element up to its receipts, and from there on
unfoldable pub certificates_part : List ℕ → List (List ℕ) → List ℕ
certificates_part certificate issuers =
    before_certificate ++ (quoted certificate ++ (before_issuers ++ (listed quoted false issuers ++ before_receipts)))

unfoldable pub receipts_part : List (List ℕ) → List ℕ
receipts_part receipts = listed quoted false receipts ++ ending

unfoldable pub element_text : Element → List ℕ
element_text e = certificates_part e.certificate e.issuers ++ receipts_part e.receipts

-- the whole text
unfoldable pub export_text : List Element → List ℕ
export_text es = opening ++ (listed element_text false es ++ ending)

-- ---- the elements of a journal

abbrev pub in_base64 : List ℕ → List ℕ
in_base64 xs = encoding Standard xs

-- "Certificates .. leave in BASE64."
unfoldable pub element_for : TextPair → Group → Element
element_for p g = record { certificate = in_base64 g.certificate; issuers = map in_base64 g.issuers; receipts = p.texts }

-- "one array element and one group a pair"
unfoldable pub elements_for : List TextPair → List Group → List Element
elements_for [] gs = []
elements_for (p ∷ ps) [] = []
elements_for (p ∷ ps) (g ∷ gs) = element_for p g ∷ elements_for ps gs

-- the text for a journal and certificates, if there is one group for each pair
unfoldable pub export_of : List ℕ → List ℕ → Option (List ℕ)
export_of j certificates = Option.map (λ (gs : List Group). export_text (elements_for (pairs_of j) gs)) (groups_of (length (pairs_of j)) certificates)

-- ---- the call: "The writer first takes the journal over and .. passes on number and index; then comes 28 for any other buffer, then 23."

-- the answer: the number of the first question answered no, and Take over's index, or 0 for 28 and 23; or 0 and the length of the text
pub record Exported : Type 0 where
  pub number : ℕ
  pub index : ℕ
  pub length : ℕ

abbrev pub as_exported : Result ℕ RefusedAt → Exported
as_exported (Ok n) = record { number = 0; index = 0; length = n }
as_exported (Err r) = record { number = number_of r.question; index = r.index; length = 0 }

abbrev pub answered : Answer → Exported
answered a = record { number = a.number; index = 0; length = a.length }

abbrev pub not_written : TakenOver → Exported
not_written t = record { number = t.number; index = t.index; length = 0 }

unfoldable pub exported : List ℕ → List ℕ → ℕ → List ℕ → List ℕ → Exported
exported j key n certificates out =
    ifZero (take_over j key n).number (answered (answer_with 28 (export_of j certificates) out)) (not_written (take_over j key n))

unfoldable pub export_buffer : List ℕ → List ℕ → ℕ → List ℕ → List ℕ → List ℕ
export_buffer j key n certificates out = ifZero (take_over j key n).number (bufferWith (export_of j certificates) out) out
