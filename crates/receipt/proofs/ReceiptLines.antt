-- Every receipt has a line, and how long it is at most.
use Rattle.std.proofs.Common.{ℕ, ◌≤◌, ◌≡◌, refl, sym, ap, subst, true, List, arith, length}
use mathlib.Core.Option.{Option, some, map}
use Rattle.primitives.specs.Answers.{written, answer_with, bufferWith}
use Rattle.primitives.specs.Bytes.{AllBytes}
use Rattle.primitives.specs.Place.{placed}
use Rattle.primitives.specs.Base32.{encoded_length32}
use Rattle.receipt.specs.Settings.{SettingsLengths, SettingsBytes, settings_good}
use Rattle.receipt.specs.Payload.{payload}
use Rattle.receipt.specs.Form.{Parts, parts, parts_of_form}
use Rattle.receipt.specs.Compact.{TypedEntry, signature_text, compact, spellable}
use Rattle.receipt.specs.Code.{code_text, code_answer, code_buffer}
use Rattle.receipt.specs.Line.{text_in, longest_line}
use Rattle.receipt.specs.LineLaws.{SpelledAs, ImageOf, ReceiptHasLine, FormHasLine}
use Rattle.receipt.specs.declared.settings.Settings.{Settings}
use Rattle.receipt.specs.declared.entry.Entry.{Entry}
use Rattle.receipt.specs.declared.optical_line.Spelling.TheVariants.{Base64, Base32}
use Rattle.receipt.proofs.ExactEntry.{parts_good_lem, parts_bytes}
use Rattle.receipt.proofs.Forms.{form_back}
use Rattle.receipt.proofs.Lines.{line_length, text_bytes, line_is_image, code_has_line}
use Rattle.receipt.proofs.ReceiptFields.{fields_in, code_of, receipt_fields}

module _ (s : Settings) (n : ℕ) (e : Entry) (l : SettingsLengths s) (b : SettingsBytes s) (g : settings_good s ≡ true) (te : TypedEntry e) (can : spellable s n e ≡ true) where
  spelled : SpelledAs Base64 (code_of s n e) (fields_in s n e)
  spelled = (receipt_fields s n e l b g te can).as_code

  line_of : List ℕ
  line_of = text_in Base32 (fields_in s n e)

  image : ImageOf line_of (code_of s n e)
  unfolding line_of
  image = record { fields = fields_in s n e; as_code = spelled; as_line = record { good = spelled.good; bytes = spelled.bytes; is = refl } }

  code_bytes : AllBytes (code_of s n e)
  code_bytes = subst AllBytes (sym spelled.is) (text_bytes Base64 (fields_in s n e) spelled.bytes)

  line_bytes : AllBytes line_of
  unfolding line_of
  line_bytes = text_bytes Base32 (fields_in s n e) spelled.bytes

  line_short : length line_of ≤ longest_line
  unfolding line_of encoded_length32
  line_short =
      let r = receipt_fields s n e l b g te can in
      omega (arith, line_length (fields_in s n e), r.start, r.counter, r.serial, r.chain, r.signature)

  found : parts_of_form (compact s n e) ≡ some (parts (payload s n e.fields) (signature_text e.signature))
  unfolding compact
  found = form_back (parts (payload s n e.fields) (signature_text e.signature)) (parts_good_lem s n e te l can) (parts_bytes s n e te l can b)

  coded : (out : List ℕ) → (code_answer (compact s n e) out ≡ written out (code_of s n e)) × (code_buffer (compact s n e) out ≡ placed out 0 (code_of s n e))
  unfolding code_answer code_buffer
  coded out = (
    ap (λ (o : Option Parts). answer_with 22 (map code_text o) out) found,
    ap (λ (o : Option Parts). bufferWith (map code_text o) out) found,
  )

pub receipt_has_line : ReceiptHasLine
receipt_has_line s n e l b g te can = record { line = line_of s n e l b g te can; is = image s n e l b g te can }

pub form_has_line : FormHasLine
form_has_line s n e l b g te can =
    let code : List ℕ = code_of s n e in
    let line : List ℕ = line_of s n e l b g te can in
    record {
      code = code;
      line = line;
      coded = coded s n e l b g te can;
      lined = (code_has_line code (code_bytes s n e l b g te can)).given line (image s n e l b g te can);
      back = (line_is_image line (line_bytes s n e l b g te can)).given code (image s n e l b g te can);
      short = line_short s n e l b g te can;
    }
