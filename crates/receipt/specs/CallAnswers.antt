-- What Code, Uncode, the optical line and the way back answer and write, for every text of bytes and every output, said by the parts that a text is made
-- of and not by the readers that search for them; the proofs are in proofs/AnsweredCalls.antt.
use Rattle.std.specs.Prelude.{ℕ, ◌≤◌, ◌≡◌, List, ◌++◌, ◌⊎◌, length, take, drop}
use Rattle.primitives.specs.Bytes.{AllBytes}
use Rattle.primitives.specs.Text.{ascii}
use Rattle.primitives.specs.Base64.{encoding}
use Rattle.primitives.specs.declared.base64.Alphabet.TheVariants.{Standard, UrlSafe}
use Rattle.primitives.specs.Questions.{Row, asked_all, question, GivesFirstNo}
use Rattle.primitives.specs.Answers.{Answer}
use Rattle.receipt.specs.Form.{Parts, parts_good, signed_form}
use Rattle.receipt.specs.Code.{code_text, code_answer, code_buffer, uncode_answer, uncode_buffer}
use Rattle.receipt.specs.CodeLaws.{MadeOf}
use Rattle.receipt.specs.Line.{line_answer, line_buffer, unline_answer, unline_buffer}
use Rattle.receipt.specs.LineLaws.{ImageOf, HasCode, HasLine}
use Rattle.receipt.specs.SettingsWords.{Means}

-- ---- good parts, and the texts that are made of them

-- "payload of 4 to 200 bytes beginning '_R1-', signature 64 bytes or the failure text"
pub record GoodParts (p : Parts) : Type 0 where
  pub least : 4 ≤ length p.payload
  pub most : length p.payload ≤ 200
  pub begins : take 4 p.payload ≡ ascii "_R1-"
  pub signature : (length p.signature ≡ 64) ⊎ (p.signature ≡ ascii "Sicherheitseinrichtung ausgefallen")

abbrev pub PartsGoodMeans : Type 0
PartsGoodMeans = (p : Parts) → Means (parts_good p) (GoodParts p)

-- "BASE64-URL of {"alg":"ES256"}, '.', of the payload, '.', of the signature"; "the header element is eyJhbGciOiJFUzI1NiJ9"
abbrev pub FormIsThreeElements : Type 0
FormIsThreeElements =
    (p : Parts) → signed_form p ≡ ascii "eyJhbGciOiJFUzI1NiJ9" ++ ascii "." ++ encoding UrlSafe p.payload ++ ascii "." ++ encoding UrlSafe p.signature

-- "payload, '_', BASE64 of the signature"
abbrev pub CodeIsPayloadAndSignature : Type 0
CodeIsPayloadAndSignature = (p : Parts) → code_text p ≡ p.payload ++ ascii "_" ++ encoding Standard p.signature

-- ---- the answers

-- "Output long enough? 23": the text that the call has to write fits the output
abbrev pub room_for : (List ℕ → Type 0) → List ℕ → Row
room_for Text out = question ((text : List ℕ) → Text text → length text ≤ length out) 23 asked_all

-- The answer and the output of a call with these questions that writes such a text: its number is that of the first "no";
-- "both return the length, 0 when refused, and write nothing behind it"
pub record Answered (row : Row) (Text : List ℕ → Type 0) (answer : Answer) (out after : List ℕ) : Type 0 where
  pub number : GivesFirstNo answer.number row
  pub refused : (answer.number ≡ 0 → ⊥) → (answer.length ≡ 0) × (after ≡ out)
  pub made : (text : List ℕ) → Text text → answer.number ≡ 0 → (answer.length ≡ length text) × (after ≡ text ++ drop (length text) out)

-- there are good parts that a text is made of
pub record MadeOfSome (write : Parts → List ℕ) (text : List ℕ) : Type 0 where
  pub parts : Parts
  pub is : MadeOf write text parts

-- what one spelling makes of the parts that a text in the other spelling is made of
pub record Respelled (read write : Parts → List ℕ) (text other : List ℕ) : Type 0 where
  pub parts : Parts
  pub made : MadeOf read text parts
  pub is : other ≡ write parts

-- "three canonical elements, first fixed, payload of 4 to 200 bytes beginning '_R1-', signature 64 bytes or the failure text? 22. Output long enough? 23.
-- It writes payload, '_', BASE64 of the signature."
abbrev pub CodeAnswers : Type 0
CodeAnswers =
    (form out : List ℕ) → AllBytes form
    → Answered (question (MadeOfSome signed_form form) 22 (room_for (Respelled signed_form code_text form) out)) (Respelled signed_form code_text form)
    (code_answer form out) out (code_buffer form out)

-- "Uncode reverses it at the last '_': such a payload and signature? 24. Long enough? 23."
abbrev pub UncodeAnswers : Type 0
UncodeAnswers =
    (code out : List ℕ) → AllBytes code
    → Answered (question (MadeOfSome code_text code) 24 (room_for (Respelled code_text signed_form code) out)) (Respelled code_text signed_form code)
    (uncode_answer code out) out (uncode_buffer code out)

-- the line of a code
abbrev pub LineFor : List ℕ → List ℕ → Type 0
LineFor code line = ImageOf line code

-- "A code that passes Uncode's 24 but lacks twelve fields with counter and chain in canonical BASE64, of any length or empty, gets 26", "before 23"
abbrev pub LineAnswers : Type 0
LineAnswers =
    (code out : List ℕ) → AllBytes code
    → Answered (question (MadeOfSome code_text code) 24 (question (HasLine code) 26 (room_for (LineFor code) out))) (LineFor code)
    (line_answer code out) out (line_buffer code out)

-- "a line that is no image of a code gets 27", "before 23"
abbrev pub UnlineAnswers : Type 0
UnlineAnswers =
    (line out : List ℕ) → AllBytes line
    → Answered (question (HasCode line) 27 (room_for (ImageOf line) out)) (ImageOf line) (unline_answer line out) out (unline_buffer line out)
