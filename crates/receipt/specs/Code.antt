-- The machine-readable code of a receipt, the way back to the compact form, and the ID field of a code.
use Rattle.std.specs.Prelude.{ℕ, zero, suc, ◌+◌, Bool, cond, ◌&&◌, List, [], ◌∷◌, ◌++◌, ltb, eqb, length, get_or, take, drop}
use Rattle.std.proofs.Math.Option.{Option, none, some, map}
use Rattle.primitives.specs.Answers.{answer_with, bufferWith}
use Rattle.primitives.specs.Base64.{encoding, decoding}
use Rattle.primitives.specs.declared.base64.Alphabet.TheVariants.{Standard}
use Rattle.receipt.specs.Form.{next_at, part, Parts, good_parts, signed_form, parts_of_form}
use Rattle.receipt.specs.Texts.{separator}
use Rattle.primitives.specs.Answers.{Answer}
use Rattle.receipt.specs.declared.machine_code.Part.{Part}

-- ---- the text

-- the place of the last b among the first n bytes; the length if there is none
unfoldable pub last_before : ℕ → List ℕ → ℕ → ℕ
last_before b text zero = length text
last_before b text (suc n) = cond (eqb (get_or text n 0) b) n (last_before b text n)

-- the place of the last b; the length if there is none
unfoldable pub last_at : ℕ → List ℕ → ℕ
last_at b text = last_before b text (length text)

-- code: payload, "_", BASE64 of the signature
unfoldable pub code_text : Parts → List ℕ
code_text p = p.payload ++ (separator ∷ []) ++ encoding Standard p.signature

-- split at the last "_": the payload, and canonical BASE64 of the signature
unfoldable pub parts_of_code : List ℕ → Option Parts
parts_of_code text =
    cond (ltb (last_at separator text) (length text))
    (good_parts (some (take (last_at separator text) text)) (decoding Standard (drop (last_at separator text + 1) text))) none

-- ---- what the calls answer, and the output after them

-- Code: good parts? 22. Output long enough? 23
unfoldable pub code_answer : List ℕ → List ℕ → Answer
code_answer form out = answer_with 22 (map code_text (parts_of_form form)) out

unfoldable pub code_buffer : List ℕ → List ℕ → List ℕ
code_buffer form out = bufferWith (map code_text (parts_of_form form)) out

-- Uncode: good parts? 24. Output long enough? 23
unfoldable pub uncode_answer : List ℕ → List ℕ → Answer
uncode_answer code out = answer_with 24 (map signed_form (parts_of_code code)) out

unfoldable pub uncode_buffer : List ℕ → List ℕ → List ℕ
uncode_buffer code out = bufferWith (map signed_form (parts_of_code code)) out

-- what the calls wrote
abbrev pub code_made : List ℕ → List ℕ → List ℕ
code_made form out = take (code_answer form out).length (code_buffer form out)

abbrev pub form_made : List ℕ → List ℕ → List ℕ
form_made code out = take (uncode_answer code out).length (uncode_buffer code out)

-- ---- the ID field

-- of a payload, whose first "_" stands at 0: the ID starts after the second "_" and ends before the third
unfoldable pub id_start : List ℕ → ℕ
id_start p = next_at separator p 1 + 1

unfoldable pub id_end : List ℕ → ℕ
id_end p = next_at separator p (id_start p)

-- "with a second and third '_' in the payload and something between them"
unfoldable pub id_there : List ℕ → Bool
id_there p = ltb (id_end p) (length p) && ltb (id_start p) (id_end p)

-- the place of the ID field in a code, which starts with the payload; 0 and 0 if the code is refused or has no such field
abbrev pub nowhere : Part
nowhere = record { start = 0; end = 0 }

abbrev pub id_place_of : Option Parts → Part
id_place_of none = nowhere
id_place_of (some p) = cond (id_there p.payload) (record { start = id_start p.payload; end = id_end p.payload }) nowhere

unfoldable pub id_place : List ℕ → Part
id_place code = id_place_of (parts_of_code code)

-- Fields: what stands at that place of the code
unfoldable pub id_field : List ℕ → List ℕ
id_field code = part (id_place code).start (id_place code).end code
