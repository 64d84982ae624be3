-- The optical line of a code in the paper's words, and apart from the definitions that the code follows; the proofs are in proofs/LineWords.antt.
use Rattle.std.specs.Prelude.{ℕ, ◌<◌, ◌≡◌, List, [], ◌∷◌, ◌++◌, ◌↔◌, length, get_or}
use Prim.Native.Char.{code}
use Rattle.primitives.specs.Bytes.{AllBytes}
use Rattle.primitives.specs.Text.{ascii}
use Rattle.primitives.specs.Base64.{encoding}
use Rattle.primitives.specs.Base32.{encoding32}
use Rattle.primitives.specs.Questions.{question}
use Rattle.primitives.specs.declared.base64.Alphabet.TheVariants.{Standard}
use Rattle.receipt.specs.Form.{Without, parts}
use Rattle.receipt.specs.PayloadWords.{joined}
use Rattle.receipt.specs.Line.{line_answer, line_buffer, unline_answer, unline_buffer}
use Rattle.receipt.specs.LineLaws.{ImageOf}
use Rattle.receipt.specs.CallAnswers.{GoodParts, room_for, Answered}

-- a field that stays as it is: bytes, of any number, and none of them is "_"
pub record PlainField (field : List ℕ) : Type 0 where
  pub bytes : AllBytes field
  pub unmarked : Without (code "_") field

-- "'_', then twelve fields joined by '_'": nine fields; counter field; serial; chain field
abbrev pub twelve_fields : List (List ℕ) → List ℕ → List ℕ → List ℕ → List ℕ
twelve_fields nine counter serial chain = code "_" ∷ joined (nine ++ (counter ∷ serial ∷ chain ∷ []))

-- The line of a code: "Annex 14 and 15 replace the BASE64 of the counter field (marks too), chain field and signature with padded BASE32". The code has
-- "twelve fields with counter and chain in canonical BASE64, of any length or empty", and its payload and signature are good ones
pub record LineOfCode (line code : List ℕ) : Type 0 where
  pub nine : List (List ℕ)
  pub counter : List ℕ
  pub serial : List ℕ
  pub chain : List ℕ
  pub signature : List ℕ
  pub count : length nine ≡ 9
  pub plain_nine : (i : ℕ) → i < 9 → PlainField (get_or nine i [])
  pub plain_serial : PlainField serial
  pub counter_bytes : AllBytes counter
  pub chain_bytes : AllBytes chain
  pub signature_bytes : AllBytes signature
  pub good : GoodParts (parts (twelve_fields nine (encoding Standard counter) serial (encoding Standard chain)) signature)
  pub code_is : code ≡ twelve_fields nine (encoding Standard counter) serial (encoding Standard chain) ++ ascii "_" ++ encoding Standard signature
  pub line_is : line ≡ twelve_fields nine (encoding32 counter) serial (encoding32 chain) ++ ascii "_" ++ encoding32 signature

-- the images that the calls' answers are said by are exactly these lines
abbrev pub ImageMeans : Type 0
ImageMeans = (line code : List ℕ) → ImageOf line code ↔ LineOfCode line code

-- ---- the answers, in these words alone

-- "such a payload and signature", with "payload, '_', BASE64 of the signature"
pub record GoodCode (code : List ℕ) : Type 0 where
  pub payload : List ℕ
  pub signature : List ℕ
  pub payload_bytes : AllBytes payload
  pub signature_bytes : AllBytes signature
  pub good : GoodParts (parts payload signature)
  pub code_is : code ≡ payload ++ ascii "_" ++ encoding Standard signature

-- the code has a line
pub record LineThere (code : List ℕ) : Type 0 where
  pub line : List ℕ
  pub is : LineOfCode line code

-- the line is that of a code
pub record CodeThere (line : List ℕ) : Type 0 where
  pub code : List ℕ
  pub is : LineOfCode line code

abbrev pub LineTo : List ℕ → List ℕ → Type 0
LineTo code line = LineOfCode line code

-- "A code that passes Uncode's 24 but lacks twelve fields with counter and chain in canonical BASE64, of any length or empty, gets 26", "before 23"; else the
-- line of that code is written
abbrev pub LineAnswersInWords : Type 0
LineAnswersInWords =
    (code out : List ℕ) → AllBytes code
    → Answered (question (GoodCode code) 24 (question (LineThere code) 26 (room_for (LineTo code) out))) (LineTo code) (line_answer code out) out (line_buffer code out)

-- "a line that is no image of a code gets 27", "before 23"; else the code of that line is written
abbrev pub UnlineAnswersInWords : Type 0
UnlineAnswersInWords =
    (line out : List ℕ) → AllBytes line
    → Answered (question (CodeThere line) 27 (room_for (LineOfCode line) out)) (LineOfCode line) (unline_answer line out) out (unline_buffer line out)
