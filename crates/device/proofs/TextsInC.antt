-- What the calls on BASE64, BASE32 and SHA-256 answer and leave, in the header's words.
use Rattle.std.proofs.Common.{ℕ, ◌+◌, ◌-◌, ◌≡◌, refl, sym, ap, ◌∙◌, subst, Bool, cond, List, arith, ne_eqb, le-leb, eqb, length}
use Rattle.std.proofs.Math.Option.{Option, none, some}
use Rattle.std.proofs.lemmas.Bool.{lt-leb}
use Rattle.primitives.specs.Bytes.{AllBytes}
use Rattle.primitives.specs.Place.{placed}
use Rattle.primitives.specs.Answers.{Answer, written, answer_with, bufferWith}
use Rattle.primitives.specs.Questions.{ask, ifZero}
use Rattle.primitives.specs.Base32.{encoding32, decoding32}
use Rattle.primitives.specs.Base64.{encoding, decoding}
use Rattle.primitives.specs.declared.base64.Alphabet.{Alphabet}
use Rattle.primitives.specs.declared.base64.Alphabet.TheVariants.{Standard, UrlSafe}
use Rattle.primitives.proofs.Answers.{written_room, written_full}
use Rattle.primitives.proofs.Over.{placed_room, placed_full}
use Rattle.primitives.proofs.Laws.{decoding_is_exact, decoding_is_exact32}
use Rattle.receipt.specs.Code.{id_place, nowhere}
use Rattle.receipt.specs.declared.machine_code.Part.{Part}
use Rattle.receipt.proofs.IdFields.{id_field_exact}
use Rattle.device.specs.Texts.{fields_number, fields_length, hash_number, hash_buffer, alphabet_of, encode_answer, encode_buffer, decode_answer, decode_buffer, encode_answer32, encode_buffer32, decode_answer32, decode_buffer32}
use Rattle.device.specs.Calls.{serial_text_in, serial_answer}
use Rattle.device.specs.AskedInC.{WritesInC, ReadsInC, BasesAnswerInC, SerialAnswersInC, HashIsWrittenInC, FieldsAnswerInC}

writes : (out text : List ℕ) → WritesInC text out (written out text) (placed out 0 text)
writes out text =
    record {
      short = λ h. let e = written_full out text h in (ap (λ (x : Answer). x.number) e, ap (λ (x : Answer). x.length) e, placed_full out 0 text (omega arith));
      done = λ h. let e = written_room out text h in (ap (λ (x : Answer). x.number) e, ap (λ (x : Answer). x.length) e, placed_room out 0 text (omega arith));
    }

pub serial_answers_in_c : SerialAnswersInC
unfolding serial_answer ask ifZero
serial_answers_in_c state which out =
    let text = serial_text_in state which in
    record {
      short = λ h. let e = lt-leb (length text) (length out) h in (rw e, rw e, placed_full out 0 text (omega arith));
      done = λ h. let e = le-leb (length text) (length out) h in (rw e, rw e, placed_room out 0 text (omega arith));
    }

module _ (spell : List ℕ → List ℕ) (text out : List ℕ) where
  reads : (o : Option (List ℕ)) → ((xs : List ℕ) → (o ≡ some xs → AllBytes xs × (text ≡ spell xs)) × (AllBytes xs × (text ≡ spell xs) → o ≡ some xs))
      → ReadsInC spell text out (answer_with 22 o out) (bufferWith o out)
  reads o exact =
      record {
        bad = bad o (λ xs e. (exact xs).0 e);
        good = λ xs b e. subst (λ (q : Option (List ℕ)). WritesInC xs out (answer_with 22 q out) (bufferWith q out)) (sym ((exact xs).1 (b, e))) (writes out xs);
      }
    where
      bad : (o : Option (List ℕ)) → ((xs : List ℕ) → o ≡ some xs → AllBytes xs × (text ≡ spell xs)) → ((xs : List ℕ) → AllBytes xs → text ≡ spell xs → ⊥)
          → ((answer_with 22 o out).number ≡ 22) × ((answer_with 22 o out).length ≡ 0) × (bufferWith o out ≡ out)
      bad none f n = (refl, refl, refl)
      bad (some xs) f n = absurd (n xs (f xs refl).0 (f xs refl).1)

standard_is : alphabet_of 0 ≡ Standard
unfolding alphabet_of
standard_is = refl

url_is : (url : ℕ) → (url ≡ 0 → ⊥) → alphabet_of url ≡ UrlSafe
unfolding alphabet_of
url_is url h = ap (λ (t : Bool). cond t Standard UrlSafe) (ne_eqb url 0 h)

encodes : (url : ℕ) (a : Alphabet) → alphabet_of url ≡ a → (xs out : List ℕ) → WritesInC (encoding a xs) out (encode_answer url xs out) (encode_buffer url xs out)
unfolding encode_answer encode_buffer
encodes url a e xs out = subst (λ (b : Alphabet). WritesInC (encoding b xs) out (encode_answer url xs out) (encode_buffer url xs out)) e (writes out (encoding (alphabet_of url) xs))

decodes : (url : ℕ) (a : Alphabet) → alphabet_of url ≡ a → (text out : List ℕ) → AllBytes text → ReadsInC (encoding a) text out (decode_answer url text out) (decode_buffer url text out)
unfolding decode_answer decode_buffer
decodes url a e text out b =
    subst (λ (c : Alphabet). ReadsInC (encoding c) text out (decode_answer url text out) (decode_buffer url text out)) e
    (reads (encoding (alphabet_of url)) text out (decoding (alphabet_of url) text) (λ xs. decoding_is_exact (alphabet_of url) text xs b))

encodes32 : (xs out : List ℕ) → WritesInC (encoding32 xs) out (encode_answer32 xs out) (encode_buffer32 xs out)
unfolding encode_answer32 encode_buffer32
encodes32 xs out = writes out (encoding32 xs)

decodes32 : (text out : List ℕ) → AllBytes text → ReadsInC encoding32 text out (decode_answer32 text out) (decode_buffer32 text out)
unfolding decode_answer32 decode_buffer32
decodes32 text out b = reads encoding32 text out (decoding32 text) (λ xs. decoding_is_exact32 text xs b)

pub bases_answer_in_c : BasesAnswerInC
bases_answer_in_c =
    record {
      padded = encodes 0 Standard standard_is;
      plain = λ url xs out h. encodes url UrlSafe (url_is url h) xs out;
      unpadded = decodes 0 Standard standard_is;
      unplain = λ url text out b h. decodes url UrlSafe (url_is url h) text out b;
      thirtytwo = encodes32;
      unthirtytwo = decodes32;
    }

pub hash_is_written_in_c : HashIsWrittenInC
unfolding hash_number hash_buffer
hash_is_written_in_c m out =
    record { short = λ h. rw (lt-leb 32 (length out) h) (refl, refl); done = λ h. rw (le-leb 32 (length out) h) (refl, refl) }

-- ---- the ID field

field_at : (code : List ℕ) (p : Part) → id_place code ≡ p → (fields_number code ≡ cond (eqb p.start p.end) 24 0) × ((id_place code).start ≡ p.start) × (fields_length code ≡ p.end - p.start)
unfolding fields_number fields_length
field_at code p e = (ap (λ (x : Part). cond (eqb x.start x.end) 24 0) e, ap (λ (x : Part). x.start) e, ap (λ (x : Part). x.end - x.start) e)

pub fields_answer_in_c : FieldsAnswerInC
fields_answer_in_c code b =
    let w = id_field_exact code b in
    record {
      found = λ x id z h.
          let f = field_at code (record { start = 2 + length x; end = 2 + length x + length id }) (w.place x id z h) in
          let n = ne_eqb (2 + length x) (2 + length x + length id) (λ e. omega (arith, e, h.some)) in
          let l : 2 + length x + length id - (2 + length x) ≡ length id = omega arith in
          (f.0 ∙ ap (λ (t : Bool). cond t 24 0) n, f.1, f.2 ∙ l);
      none = λ h. field_at code nowhere (w.nothing h).0;
    }
