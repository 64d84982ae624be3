-- Laws of the optical line, as statements; the proofs are in proofs/Lines.antt and proofs/ReceiptLines.antt.
use Rattle.std.specs.Prelude.{ℕ, ◌≤◌, ◌≡◌, true, List, length}
use Rattle.std.proofs.Math.Option.{none, some}
use Rattle.primitives.specs.Place.{overwrite, placed}
use Rattle.primitives.specs.Bytes.{AllBytes}
use Rattle.primitives.specs.Answers.{written}
use Rattle.receipt.specs.Settings.{SettingsLengths, SettingsBytes, settings_good}
use Rattle.receipt.specs.Payload.{payload}
use Rattle.receipt.specs.Form.{Parts, parts}
use Rattle.receipt.specs.Compact.{TypedEntry, signature_text, compact, spellable}
use Rattle.receipt.specs.Code.{code_text, parts_of_code, code_answer, code_buffer}
use Rattle.receipt.specs.Texts.{separator}
use Rattle.receipt.specs.Line.{CodeFields, FieldsOfBytes, count_of, twelve, code_fields_good, payload_in, text_in, longest_line, longest_any_line, fields_of, line_answer, line_buffer, line_made, unline_answer, unline_buffer, code_remade}
use Rattle.receipt.specs.declared.settings.Settings.{Settings}
use Rattle.receipt.specs.declared.entry.Entry.{Entry}
use Rattle.receipt.specs.declared.optical_line.Spelling.{Spelling}
use Rattle.receipt.specs.declared.optical_line.Spelling.TheVariants.{Base64, Base32}

-- ---- the reader, of codes and of lines

-- the text is the spelling of good fields
pub record SpelledAs (s : Spelling) (text : List ℕ) (f : CodeFields) : Type 0 where
  pub good : code_fields_good f ≡ true
  pub bytes : FieldsOfBytes f
  pub is : text ≡ text_in s f

-- fields are found exactly if the text is their spelling, and nothing exactly if there are no such fields
pub record FieldsExactly (s : Spelling) (text : List ℕ) : Type 0 where
  pub only : (f : CodeFields) → fields_of s text ≡ some f → SpelledAs s text f
  pub all : (f : CodeFields) → SpelledAs s text f → fields_of s text ≡ some f
  pub refused : fields_of s text ≡ none → (f : CodeFields) → SpelledAs s text f → ⊥
  pub nothing : ((f : CodeFields) → SpelledAs s text f → ⊥) → fields_of s text ≡ none

abbrev pub FieldsAreExact : Type 0
FieldsAreExact = (s : Spelling) (text : List ℕ) → AllBytes text → FieldsExactly s text

-- "twelve fields": each payload of good fields has exactly twelve "_", in a code and in a line
abbrev pub TwelveSeparators : Type 0
TwelveSeparators = (s : Spelling) (f : CodeFields) → twelve f ≡ true → count_of separator (payload_in s f) ≡ 12

-- ---- which texts the calls take, said without the reader

-- a line is the image of a code: both are spellings of the same good fields
pub record ImageOf (line code : List ℕ) : Type 0 where
  pub fields : CodeFields
  pub as_code : SpelledAs Base64 code fields
  pub as_line : SpelledAs Base32 line fields

pub record HasCode (line : List ℕ) : Type 0 where
  pub code : List ℕ
  pub is : ImageOf line code

pub record HasLine (code : List ℕ) : Type 0 where
  pub line : List ℕ
  pub is : ImageOf line code

-- line to code: the image of a code is turned into that code; 27 exactly where there is no such code
pub record CodeExactly (line : List ℕ) : Type 0 where
  pub given : (code : List ℕ) → ImageOf line code → (out : List ℕ) → (unline_answer line out ≡ written out code) × (unline_buffer line out ≡ placed out 0 code)
  pub refused : (HasCode line → ⊥) → (out : List ℕ) → (unline_answer line out ≡ record { number = 27; length = 0 }) × (unline_buffer line out ≡ out)
  pub image : (out : List ℕ) → ((unline_answer line out).number ≡ 27 → ⊥) → HasCode line

abbrev pub LineIsImage : Type 0
LineIsImage = (line : List ℕ) → AllBytes line → CodeExactly line

-- code to line: a code that has a line is turned into it; 24 where Uncode refuses the code, and 26 exactly where it has no line
pub record LineExactly (code : List ℕ) : Type 0 where
  pub given : (line : List ℕ) → ImageOf line code → (out : List ℕ) → (line_answer code out ≡ written out line) × (line_buffer code out ≡ placed out 0 line)
  pub no_code : parts_of_code code ≡ none → (out : List ℕ) → (line_answer code out ≡ record { number = 24; length = 0 }) × (line_buffer code out ≡ out)
  pub no_line : (p : Parts) → parts_of_code code ≡ some p → (HasLine code → ⊥) → (out : List ℕ) → (line_answer code out ≡ record { number = 26; length = 0 }) × (line_buffer code out ≡ out)
  pub image : (p : Parts) → parts_of_code code ≡ some p → (out : List ℕ) → ((line_answer code out).number ≡ 26 → ⊥) → HasLine code

abbrev pub CodeHasLine : Type 0
CodeHasLine = (code : List ℕ) → AllBytes code → LineExactly code

-- ---- the calls undo each other

-- the line that was made of a code is turned back into that code
abbrev pub CodeAfterLine : Type 0
CodeAfterLine =
    (code out again : List ℕ) → AllBytes code → (line_answer code out).number ≡ 0 → length code ≤ length again
    → (unline_answer (line_made code out) again ≡ record { number = 0; length = length code }) × (unline_buffer (line_made code out) again ≡ overwrite again 0 code)

-- the code that was made of a line is turned back into that line
abbrev pub LineAfterCode : Type 0
LineAfterCode =
    (line out again : List ℕ) → AllBytes line → (unline_answer line out).number ≡ 0 → length line ≤ length again
    → (line_answer (code_remade line out) again ≡ record { number = 0; length = length line }) × (line_buffer (code_remade line out) again ≡ overwrite again 0 line)

-- ---- lengths

-- the numbers that the header names
abbrev pub LongestLinesAre : Type 0
LongestLinesAre = (longest_line ≡ 313) × (longest_any_line ≡ 353)

-- no code has a longer line
abbrev pub LineIsShort : Type 0
LineIsShort = (line code : List ℕ) → ImageOf line code → length line ≤ longest_any_line

-- ---- receipts

-- the code of every receipt has a line
abbrev pub ReceiptHasLine : Type 0
ReceiptHasLine =
    (s : Settings) (n : ℕ) (e : Entry) → SettingsLengths s → SettingsBytes s → settings_good s ≡ true → TypedEntry e → spellable s n e ≡ true
    → HasLine (code_text (parts (payload s n e.fields) (signature_text e.signature)))

-- of a compact form: Code makes this code of it and then this line is made, which is turned back into that code; and the line is short
pub record LineOf (form : List ℕ) : Type 0 where
  pub code : List ℕ
  pub line : List ℕ
  pub coded : (out : List ℕ) → (code_answer form out ≡ written out code) × (code_buffer form out ≡ placed out 0 code)
  pub lined : (out : List ℕ) → (line_answer code out ≡ written out line) × (line_buffer code out ≡ placed out 0 line)
  pub back : (out : List ℕ) → (unline_answer line out ≡ written out code) × (unline_buffer line out ≡ placed out 0 code)
  pub short : length line ≤ longest_line

-- so for the compact form of every receipt
abbrev pub FormHasLine : Type 0
FormHasLine =
    (s : Settings) (n : ℕ) (e : Entry) → SettingsLengths s → SettingsBytes s → settings_good s ≡ true → TypedEntry e → spellable s n e ≡ true
    → LineOf (compact s n e)
