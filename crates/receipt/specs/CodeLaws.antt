-- Laws of compact form, code and ID field, as statements; the proofs are in proofs/Forms.antt, proofs/Codes.antt and proofs/IdFields.antt.
use Rattle.std.specs.Prelude.{ℕ, ◌+◌, ◌≤◌, ◌<◌, ◌≡◌, true, List, [], ◌∷◌, ◌++◌, length}
use Rattle.std.proofs.Math.Option.{Option, none, some}
use Rattle.primitives.specs.Place.{overwrite}
use Rattle.primitives.specs.Bytes.{AllBytes}
use Rattle.primitives.specs.Base64.{encoded_length}
use Rattle.primitives.specs.declared.base64.Alphabet.TheVariants.{Standard}
use Rattle.receipt.specs.Payload.{longest_payload}
use Rattle.receipt.specs.Texts.{separator}
use Rattle.receipt.specs.Compact.{longest_compact}
use Rattle.receipt.specs.Form.{Without, Parts, parts_good, PartsOfBytes, signed_form, parts_of_form}
use Rattle.receipt.specs.Code.{code_text, parts_of_code, code_answer, code_buffer, code_made, uncode_answer, uncode_buffer, form_made, id_place, id_field, nowhere}

-- ---- the readers

-- the text is what `write` makes of good parts of bytes
pub record MadeOf (write : Parts → List ℕ) (text : List ℕ) (p : Parts) : Type 0 where
  pub good : parts_good p ≡ true
  pub bytes : PartsOfBytes p
  pub is : text ≡ write p

-- what a reader finds in a text: parts exactly if the text is made of them, and nothing exactly if there are no such parts
pub record Exactly (write : Parts → List ℕ) (text : List ℕ) (found : Option Parts) : Type 0 where
  pub only : (p : Parts) → found ≡ some p → MadeOf write text p
  pub all : (p : Parts) → MadeOf write text p → found ≡ some p
  pub refused : found ≡ none → (p : Parts) → MadeOf write text p → ⊥
  pub nothing : ((p : Parts) → MadeOf write text p → ⊥) → found ≡ none

-- questions 22 and 24, on the parts, are exact for every text of bytes
abbrev pub FormIsExact : Type 0
FormIsExact = (text : List ℕ) → AllBytes text → Exactly signed_form text (parts_of_form text)

abbrev pub CodeIsExact : Type 0
CodeIsExact = (text : List ℕ) → AllBytes text → Exactly code_text text (parts_of_code text)

-- ---- the ID field

-- the code is that of good parts whose payload is "_" x "_" id "_" z, with no "_" in x and none in id, and id is not empty
pub record IdPart (code x id z : List ℕ) : Type 0 where
  pub parts : Parts
  pub made : MadeOf code_text code parts
  pub payload : parts.payload ≡ (separator ∷ x) ++ ((separator ∷ id) ++ (separator ∷ z))
  pub first : Without separator x
  pub second : Without separator id
  pub some : 0 < length id

-- a code that has an ID part
pub record HasId (code : List ℕ) : Type 0 where
  pub before : List ℕ
  pub id : List ℕ
  pub after : List ℕ
  pub is : IdPart code before id after

pub record IdExactly (code : List ℕ) : Type 0 where
  -- the place of an ID part is found: after the two "_" and what stands between them
  pub place : (x id z : List ℕ) → IdPart code x id z → id_place code ≡ record { start = 2 + length x; end = 2 + length x + length id }
  -- and what stands there in the code is the ID
  pub stands : (x id z : List ℕ) → IdPart code x id z → id_field code ≡ id
  -- a place whose end is after its start is that of an ID part
  pub only : (id_place code).start < (id_place code).end → HasId code
  -- in all other cases the place is 0 and 0, and the part is empty
  pub nothing : (HasId code → ⊥) → (id_place code ≡ nowhere) × (id_field code ≡ [])

-- question 24, on the ID field, is exact for every code of bytes
abbrev pub IdFieldIsExact : Type 0
IdFieldIsExact = (code : List ℕ) → AllBytes code → IdExactly code

-- ---- lengths

abbrev pub FormIsShort : Type 0
FormIsShort = (p : Parts) → parts_good p ≡ true → length (signed_form p) ≤ longest_compact

abbrev pub CodeIsShort : Type 0
CodeIsShort = (p : Parts) → parts_good p ≡ true → length (code_text p) ≤ longest_payload + 1 + encoded_length Standard 64

-- ---- the calls undo each other

-- Uncode turns the code that Code made from a compact form back into that compact form
abbrev pub UncodeAfterCode : Type 0
UncodeAfterCode =
    (form out again : List ℕ) → AllBytes form → (code_answer form out).number ≡ 0 → length form ≤ length again
    → (uncode_answer (code_made form out) again ≡ record { number = 0; length = length form }) × (uncode_buffer (code_made form out) again ≡ overwrite again 0 form)

-- Code turns the compact form that Uncode made from a code back into that code
abbrev pub CodeAfterUncode : Type 0
CodeAfterUncode =
    (code out again : List ℕ) → AllBytes code → (uncode_answer code out).number ≡ 0 → length code ≤ length again
    → (code_answer (form_made code out) again ≡ record { number = 0; length = length code }) × (code_buffer (form_made code out) again ≡ overwrite again 0 code)
