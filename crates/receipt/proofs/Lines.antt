-- The optical line of a code: the reader is exact, a line is the image of a code, and the calls undo each other.
use Rattle.std.proofs.Common.{ℕ, ◌+◌, ◌*◌, ◌/◌, ◌≤◌, ◌≡◌, refl, sym, ap, ◌∙◌, List, [], ◌∷◌, arith, length, length-append}
use mathlib.Core.Option.{Option, none, some, map}
use Rattle.primitives.specs.Place.{placed}
use Rattle.primitives.specs.Answers.{written, answer_with, bufferWith}
use Rattle.primitives.specs.Bytes.{AllBytes}
use Rattle.primitives.specs.Base32.{encoded_length32}
use Rattle.primitives.proofs.ByteLists.{bytes_nil, bytes_cons, bytes_append}
use Rattle.receipt.specs.Form.{Parts}
use Rattle.receipt.specs.Code.{parts_of_code}
use Rattle.receipt.specs.Line.{spell, CodeFields, FieldsOfBytes, payload_in, text_in, fields_of, refusal_of, line_answer, line_buffer, unline_answer, unline_buffer, code_remade}
use Rattle.receipt.specs.LineLaws.{SpelledAs, FieldsAreExact, TwelveSeparators, ImageOf, HasCode, HasLine, LineIsImage, CodeHasLine, LongestLinesAre, LineIsShort, CodeAfterLine, LineAfterCode}
use Rattle.receipt.specs.declared.optical_line.Spelling.{Spelling}
use Rattle.receipt.specs.declared.optical_line.Spelling.TheVariants.{Base64, Base32}
use Rattle.receipt.proofs.Codes.{code_back}
use Rattle.receipt.proofs.MarkCounts.{one_mark, count_append, count_most, count_none}
use Rattle.receipt.proofs.Spellings.{spell_bytes, spell_none, spelled_length, length_spell}
use Rattle.receipt.proofs.LineFields.{good_twelve, good_parts_lem, good_most, start_nine, serial_none, fields_back, fields_only, code_of_lem, parts_in}
use Rattle.receipt.proofs.Undoing.{round}

-- ---- the reader

pub fields_exact : FieldsAreExact
fields_exact s text b =
    record {
      only = λ f. fields_only s text f b;
      all = all;
      refused = λ e f w. clash f e (all f w);
      nothing = none_found (fields_of s text) refl;
    }
  where
    all : (f : CodeFields) → SpelledAs s text f → fields_of s text ≡ some f
    all f w = ap (fields_of s) w.is ∙ fields_back s f w.good w.bytes

    clash : (f : CodeFields) → fields_of s text ≡ none → fields_of s text ≡ some f → ⊥
    clash f e q = let z : ◌≡◌ {A = ℕ} 0 1 = cc in omega arith

    none_found : (o : Option CodeFields) → fields_of s text ≡ o → ((f : CodeFields) → SpelledAs s text f → ⊥) → fields_of s text ≡ none
    none_found none e h = e
    none_found (some f) e h = absurd (h f (fields_only s text f b e))

-- ---- twelve "_", and lengths

pub twelve_separators : TwelveSeparators
unfolding payload_in
twelve_separators s f t =
    simp count_append
    (omega (arith, one_mark, start_nine f t, count_none 95 f.serial (serial_none f t), count_none 95 (spell s f.counter) (spell_none s f.counter), count_none 95 (spell s f.chain) (spell_none s f.chain)))

length_payload : (s : Spelling) (f : CodeFields)
    → length (payload_in s f) ≡ length f.start + 1 + spelled_length s (length f.counter) + 1 + length f.serial + 1 + spelled_length s (length f.chain)
unfolding payload_in
length_payload s f = simp length-append (omega (arith, length_spell s f.counter, length_spell s f.chain))

pub payload_length : (f : CodeFields)
    → length (payload_in Base64 f) ≡ length f.start + 1 + (length f.counter + 2) / 3 * 4 + 1 + length f.serial + 1 + (length f.chain + 2) / 3 * 4
payload_length f = length_payload Base64 f

pub line_length : (f : CodeFields)
    → length (text_in Base32 f)
    ≡ length f.start + 1 + encoded_length32 (length f.counter) + 1 + length f.serial + 1 + encoded_length32 (length f.chain) + 1 + encoded_length32 (length f.signature)
unfolding text_in
line_length f = simp length-append (omega (arith, length_payload Base32 f, length_spell Base32 f.signature))

pub longest_lines : LongestLinesAre
unfolding encoded_length32
longest_lines = (refl, refl)

-- two texts of c and h bytes take at most 48 letters more in BASE32 than in BASE64, if BASE64 takes at most 48 groups of four
growth : (c h : ℕ) → (c + 2) / 3 + (h + 2) / 3 ≤ 48 → encoded_length32 c + encoded_length32 h ≤ (c + 2) / 3 * 4 + (h + 2) / 3 * 4 + 48
unfolding encoded_length32
growth c h l = omega arith

pub line_is_short : LineIsShort
unfolding encoded_length32
line_is_short line code w =
    let f = w.fields in
    let m = good_most f w.as_line.good in
    let nine = start_nine f (good_twelve f w.as_line.good) in
    let some = count_most 95 f.start in
    let more = growth (length f.counter) (length f.chain) (omega (arith, payload_length f, m.0, nine, some)) in
    omega (arith, ap length w.as_line.is, line_length f, payload_length f, m.0, m.1, more)

-- ---- a code and its fields

payload_bytes_lem : (s : Spelling) (f : CodeFields) → FieldsOfBytes f → AllBytes (payload_in s f)
unfolding payload_in
payload_bytes_lem s f b =
    let mark : AllBytes (95 ∷ []) = bytes_cons (omega arith) bytes_nil in
    bytes_append (bytes_append (bytes_append (bytes_append (bytes_append (bytes_append b.start mark) (spell_bytes s f.counter)) mark) b.serial) mark) (spell_bytes s f.chain)

pub text_bytes : (s : Spelling) (f : CodeFields) → FieldsOfBytes f → AllBytes (text_in s f)
unfolding text_in
text_bytes s f b = bytes_append (bytes_append (payload_bytes_lem s f b) (bytes_cons (omega arith) bytes_nil)) (spell_bytes s f.signature)

-- the spelling of good fields in BASE64 is the code of good parts
pub spelled_parts : (code : List ℕ) (f : CodeFields) → SpelledAs Base64 code f → parts_of_code code ≡ some (parts_in f)
spelled_parts code f w =
    ap parts_of_code (w.is ∙ code_of_lem f)
    ∙ code_back (parts_in f) (good_parts_lem f w.good) (record { payload = payload_bytes_lem Base64 f w.bytes; signature = w.bytes.signature })

no_fields : (code : List ℕ) → AllBytes code → parts_of_code code ≡ none → fields_of Base64 code ≡ none
no_fields code b e = (fields_exact Base64 code b).nothing (λ f w. clash f (spelled_parts code f w))
  where
    clash : (f : CodeFields) → parts_of_code code ≡ some (parts_in f) → ⊥
    clash f q = let z : ◌≡◌ {A = ℕ} 0 1 = cc in omega arith

-- ---- line to code

module _ (line : List ℕ) (b : AllBytes line) where
  code_there : (f : CodeFields) → fields_of Base32 line ≡ some f → HasCode line
  code_there f e =
      let w = fields_only Base32 line f b e in
      record { code = text_in Base64 f; is = record { fields = f; as_code = record { good = w.good; bytes = w.bytes; is = refl }; as_line = w } }

  no_code : (HasCode line → ⊥) → fields_of Base32 line ≡ none
  no_code n = go (fields_of Base32 line) refl
    where
      go : (o : Option CodeFields) → fields_of Base32 line ≡ o → fields_of Base32 line ≡ none
      go none e = e
      go (some f) e = absurd (n (code_there f e))

  to_code : (code : List ℕ) → ImageOf line code → map (text_in Base64) (fields_of Base32 line) ≡ some code
  to_code code w = ap (map (text_in Base64)) ((fields_exact Base32 line b).all w.fields w.as_line) ∙ ap some (sym w.as_code.is)

  code_given : (code : List ℕ) → ImageOf line code → (out : List ℕ) → (unline_answer line out ≡ written out code) × (unline_buffer line out ≡ placed out 0 code)
  unfolding unline_answer unline_buffer
  code_given code w out =
      (ap (λ (o : Option (List ℕ)). answer_with 27 o out) (to_code code w), ap (λ (o : Option (List ℕ)). bufferWith o out) (to_code code w))

  code_refused : (HasCode line → ⊥) → (out : List ℕ) → (unline_answer line out ≡ record { number = 27; length = 0 }) × (unline_buffer line out ≡ out)
  unfolding unline_answer unline_buffer
  code_refused n out = (rw (no_code n), rw (no_code n))

  code_image : (out : List ℕ) → ((unline_answer line out).number ≡ 27 → ⊥) → HasCode line
  unfolding unline_answer
  code_image out h = go (fields_of Base32 line) refl h
    where
      go : (o : Option CodeFields) → fields_of Base32 line ≡ o → ((answer_with 27 (map (text_in Base64) o) out).number ≡ 27 → ⊥) → HasCode line
      go none e k = absurd (k refl)
      go (some f) e k = code_there f e

pub line_is_image : LineIsImage
line_is_image line b = record { given = code_given line b; refused = code_refused line b; image = code_image line b }

-- ---- code to line

module _ (code : List ℕ) (b : AllBytes code) where
  line_there : (f : CodeFields) → fields_of Base64 code ≡ some f → HasLine code
  line_there f e =
      let w = fields_only Base64 code f b e in
      record { line = text_in Base32 f; is = record { fields = f; as_code = w; as_line = record { good = w.good; bytes = w.bytes; is = refl } } }

  no_line : (HasLine code → ⊥) → fields_of Base64 code ≡ none
  no_line n = go (fields_of Base64 code) refl
    where
      go : (o : Option CodeFields) → fields_of Base64 code ≡ o → fields_of Base64 code ≡ none
      go none e = e
      go (some f) e = absurd (n (line_there f e))

  to_line : (line : List ℕ) → ImageOf line code → map (text_in Base32) (fields_of Base64 code) ≡ some line
  to_line line w = ap (map (text_in Base32)) ((fields_exact Base64 code b).all w.fields w.as_code) ∙ ap some (sym w.as_line.is)

  line_given : (line : List ℕ) → ImageOf line code → (out : List ℕ) → (line_answer code out ≡ written out line) × (line_buffer code out ≡ placed out 0 line)
  unfolding line_answer line_buffer
  line_given line w out = (
    ap (λ (o : Option (List ℕ)). answer_with (refusal_of (parts_of_code code)) o out) (to_line line w),
    ap (λ (o : Option (List ℕ)). bufferWith o out) (to_line line w),
  )

  line_no_code : parts_of_code code ≡ none → (out : List ℕ) → (line_answer code out ≡ record { number = 24; length = 0 }) × (line_buffer code out ≡ out)
  unfolding line_answer line_buffer
  line_no_code e out = (rw (no_fields code b e, e), rw (no_fields code b e))

  line_refused : (p : Parts) → parts_of_code code ≡ some p → (HasLine code → ⊥) → (out : List ℕ)
      → (line_answer code out ≡ record { number = 26; length = 0 }) × (line_buffer code out ≡ out)
  unfolding line_answer line_buffer
  line_refused p e n out = (rw (no_line n, e), rw (no_line n))

  line_image : (p : Parts) → parts_of_code code ≡ some p → (out : List ℕ) → ((line_answer code out).number ≡ 26 → ⊥) → HasLine code
  unfolding line_answer
  line_image p q out h = go (fields_of Base64 code) refl h
    where
      go : (o : Option CodeFields) → fields_of Base64 code ≡ o → ((answer_with (refusal_of (parts_of_code code)) (map (text_in Base32) o) out).number ≡ 26 → ⊥) → HasLine code
      go none e k = absurd (k (ap refusal_of q))
      go (some f) e k = line_there f e

pub code_has_line : CodeHasLine
code_has_line code b = record { given = line_given code b; no_code = line_no_code code b; no_line = line_refused code b; image = line_image code b }

-- ---- the calls undo each other

refused_some : (o : Option Parts) → refusal_of o ≡ 0 → ⊥
refused_some none e = omega arith
refused_some (some p) e = omega arith

pub code_after_line : CodeAfterLine
unfolding line_answer line_buffer unline_answer unline_buffer
code_after_line code out again b accepted room =
    round (refusal_of (parts_of_code code)) 27 (text_in Base32) (text_in Base64) (fields_of Base64 code) (fields_of Base32) code out again (refused_some (parts_of_code code))
    (λ f e. (fields_only Base64 code f b e).is)
    (λ f e. fields_back Base32 f (fields_only Base64 code f b e).good (fields_only Base64 code f b e).bytes) accepted room

pub line_after_code : LineAfterCode
unfolding line_answer line_buffer unline_answer unline_buffer
line_after_code line out again b accepted room =
    round 27 (refusal_of (parts_of_code (code_remade line out))) (text_in Base64) (text_in Base32) (fields_of Base32 line) (fields_of Base64) line out again (λ e. absurd (omega arith))
    (λ f e. (fields_only Base32 line f b e).is)
    (λ f e. fields_back Base64 f (fields_only Base32 line f b e).good (fields_only Base32 line f b e).bytes) accepted room
