-- The optical line of a code, for printers that cannot draw a square code (annex, 14 and 15), and the way back: counter field, chain
-- field and signature are spelled in BASE32 in place of BASE64, and the other fields stay.
use Rattle.std.specs.Prelude.{ℕ, suc, ◌+◌, Bool, cond, ◌&&◌, List, [], ◌∷◌, ◌++◌, ltb, eqb, length, take, drop}
use Rattle.std.proofs.Math.Option.{Option, none, some, map}
use Rattle.primitives.specs.Answers.{answer_with, bufferWith}
use Rattle.primitives.specs.Bytes.{AllBytes}
use Rattle.primitives.specs.Base64.{encoding, decoding}
use Rattle.primitives.specs.Base32.{encoding32, decoding32, encoded_length32}
use Rattle.primitives.specs.declared.base64.Alphabet.TheVariants.{Standard}
use Rattle.primitives.specs.Answers.{Answer}
use Rattle.receipt.specs.Payload.{longest_payload}
use Rattle.receipt.specs.Form.{part, Parts, parts, parts_good}
use Rattle.receipt.specs.Code.{last_at, parts_of_code}
use Rattle.receipt.specs.Texts.{separator}
use Rattle.receipt.specs.declared.optical_line.Spelling.{Spelling}
use Rattle.receipt.specs.declared.optical_line.Spelling.TheVariants.{Base64, Base32}

-- ---- the two spellings: a code has the three fields in BASE64, a line in BASE32

abbrev pub spell : Spelling → List ℕ → List ℕ
spell Base64 xs = encoding Standard xs
spell Base32 xs = encoding32 xs

abbrev pub unspell : Spelling → List ℕ → Option (List ℕ)
unspell Base64 text = decoding Standard text
unspell Base32 text = decoding32 text

-- ---- the fields of a code

-- the counter field, the chain field and the signature as bytes, and the rest as it is spelled: "_" and the first nine fields of the
-- payload, joined by "_"; and the eleventh field, the serial
pub record CodeFields : Type 0 where
  pub start : List ℕ
  pub counter : List ℕ
  pub serial : List ℕ
  pub chain : List ℕ
  pub signature : List ℕ

pub record FieldsOfBytes (f : CodeFields) : Type 0 where
  pub start : AllBytes f.start
  pub counter : AllBytes f.counter
  pub serial : AllBytes f.serial
  pub chain : AllBytes f.chain
  pub signature : AllBytes f.signature

-- how often b occurs
unfoldable pub count_of : ℕ → List ℕ → ℕ
count_of b [] = 0
count_of b (x ∷ xs) = cond (eqb x b) (suc (count_of b xs)) (count_of b xs)

-- "twelve fields": a "_" stands before each of the first nine, and none in the serial. The two spelled fields have none
unfoldable pub twelve : CodeFields → Bool
twelve f = eqb (count_of separator f.start) 9 && eqb (count_of separator f.serial) 0

-- ---- their text

-- the payload: tenth, eleventh and twelfth field after the first nine
unfoldable pub payload_in : Spelling → CodeFields → List ℕ
payload_in s f =
    f.start ++ (separator ∷ []) ++ spell s f.counter ++ (separator ∷ []) ++ f.serial ++ (separator ∷ []) ++ spell s f.chain

-- the code in BASE64, the line in BASE32
unfoldable pub text_in : Spelling → CodeFields → List ℕ
text_in s f = payload_in s f ++ (separator ∷ []) ++ spell s f.signature

-- "a code that passes Uncode's 24", and so the limit of the payload, is asked of the code, for a line too
unfoldable pub code_fields_good : CodeFields → Bool
code_fields_good f = twelve f && parts_good (parts (payload_in Base64 f) f.signature)

-- the longest line of a receipt: counter field and chain field grow by 4 bytes each, and "_" and the signature follow the payload
abbrev pub longest_line : ℕ
longest_line = longest_payload + 8 + 1 + encoded_length32 64

-- the longest line of any code, whose counter and chain fields may be longer
abbrev pub longest_any_line : ℕ
longest_any_line = longest_payload + 48 + 1 + encoded_length32 64

-- ---- reading them

-- the places of the last four "_": before the signature, the chain field, the serial and the counter field
unfoldable pub signature_mark : List ℕ → ℕ
signature_mark text = last_at separator text

unfoldable pub chain_mark : List ℕ → ℕ
chain_mark text = last_at separator (take (signature_mark text) text)

unfoldable pub serial_mark : List ℕ → ℕ
serial_mark text = last_at separator (take (chain_mark text) text)

unfoldable pub counter_mark : List ℕ → ℕ
counter_mark text = last_at separator (take (serial_mark text) text)

-- all four are there
unfoldable pub marks_there : List ℕ → Bool
marks_there text =
    ltb (signature_mark text) (length text) && (ltb (chain_mark text) (signature_mark text)
    && (ltb (serial_mark text) (chain_mark text) && ltb (counter_mark text) (serial_mark text)))

-- the fields, if the three spelled ones are canonical and all are good
abbrev pub good_fields : CodeFields → Option CodeFields
good_fields f = cond (code_fields_good f) (some f) none

abbrev pub with_fields : List ℕ → Option (List ℕ) → List ℕ → Option (List ℕ) → Option (List ℕ) → Option CodeFields
with_fields start (some counter) serial (some chain) (some signature) =
    good_fields (record { start = start; counter = counter; serial = serial; chain = chain; signature = signature })
with_fields start (some counter) serial (some chain) none = none
with_fields start (some counter) serial none signature = none
with_fields start none serial chain signature = none

-- the fields of a code or of a line
unfoldable pub fields_of : Spelling → List ℕ → Option CodeFields
fields_of s text =
    cond (marks_there text)
    (with_fields (take (counter_mark text) text) (unspell s (part (counter_mark text + 1) (serial_mark text) text)) (part (serial_mark text + 1) (chain_mark text) text)
    (unspell s (part (chain_mark text + 1) (signature_mark text) text)) (unspell s (drop (signature_mark text + 1) text)))
    none

-- ---- what the calls answer, and the output after them

-- a code that has no line: 24 where Uncode refuses it, else 26
abbrev pub refusal_of : Option Parts → ℕ
refusal_of none = 24
refusal_of (some p) = 26

-- code to line: a code? 24. Twelve fields, counter and chain in canonical BASE64? 26. Output long enough? 23
unfoldable pub line_answer : List ℕ → List ℕ → Answer
line_answer code out = answer_with (refusal_of (parts_of_code code)) (map (text_in Base32) (fields_of Base64 code)) out

unfoldable pub line_buffer : List ℕ → List ℕ → List ℕ
line_buffer code out = bufferWith (map (text_in Base32) (fields_of Base64 code)) out

-- line to code: the line of a code? 27. Output long enough? 23
unfoldable pub unline_answer : List ℕ → List ℕ → Answer
unline_answer line out = answer_with 27 (map (text_in Base64) (fields_of Base32 line)) out

unfoldable pub unline_buffer : List ℕ → List ℕ → List ℕ
unline_buffer line out = bufferWith (map (text_in Base64) (fields_of Base32 line)) out

-- what the calls wrote
abbrev pub line_made : List ℕ → List ℕ → List ℕ
line_made code out = take (line_answer code out).length (line_buffer code out)

abbrev pub code_remade : List ℕ → List ℕ → List ℕ
code_remade line out = take (unline_answer line out).length (unline_buffer line out)
