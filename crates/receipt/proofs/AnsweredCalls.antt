-- What Code, Uncode, the optical line and the way back answer and write, said by the parts that a text is made of.
use Rattle.std.proofs.Common.{ℕ, suc, ◌+◌, ◌≤◌, ◌<◌, ◌≡◌, refl, sym, ap, ◌∙◌, subst, Bool, true, false, ◌&&◌, ◌||◌, List, [], ◌∷◌, ◌++◌, ◌⊎◌, inl, inr, arith, le-leb, leb-true, leb-false, eq-eqb, eqb-true, leb, eqb, length, take, drop}
use mathlib.Core.Option.{Option, none, some, map}
use Rattle.primitives.specs.Bytes.{AllBytes, same}
use Rattle.primitives.specs.Text.{ascii}
use Rattle.primitives.specs.Base64.{encoding}
use Rattle.primitives.specs.declared.base64.Alphabet.TheVariants.{UrlSafe}
use Rattle.primitives.specs.Place.{overwrite}
use Rattle.primitives.specs.Answers.{written, answer_with, bufferWith}
use Rattle.primitives.specs.Questions.{ask, Row, asked_all, question, GivesFirstNo}
use Rattle.primitives.proofs.FirstNo.{gives_none, gives_ask, gives_same}
use Rattle.primitives.proofs.ByteLists.{same_refl, same_true}
use Rattle.primitives.proofs.Rows.{both, ask_yes, ask_no, true-is-not-false}
use Rattle.primitives.proofs.Over.{placed_room, placed_full}
use Rattle.primitives.proofs.Answers.{written_room, written_full}
use Rattle.receipt.specs.Form.{Parts, payload_good, signature_good, parts_good, failure_text, signed_form, parts_of_form}
use Rattle.receipt.specs.Texts.{beginning}
use Rattle.receipt.specs.Code.{code_text, parts_of_code, code_answer, code_buffer, uncode_answer, uncode_buffer}
use Rattle.receipt.specs.CodeLaws.{Exactly}
use Rattle.receipt.specs.Line.{CodeFields, text_in, fields_of, refusal_of, line_answer, line_buffer, unline_answer, unline_buffer}
use Rattle.receipt.specs.LineLaws.{SpelledAs, ImageOf, HasCode, HasLine}
use Rattle.receipt.specs.CallAnswers.{GoodParts, PartsGoodMeans, FormIsThreeElements, CodeIsPayloadAndSignature, room_for, Answered, MadeOfSome, Respelled, CodeAnswers, UncodeAnswers, LineFor, LineAnswers, UnlineAnswers}
use Rattle.receipt.specs.declared.optical_line.Spelling.TheVariants.{Base64, Base32}
use Rattle.receipt.proofs.CodeTexts.{payload_most, payload_starts}
use Rattle.receipt.proofs.PaperCases.{header_letters}
use Rattle.receipt.proofs.Forms.{form_exact}
use Rattle.receipt.proofs.Codes.{code_exact}
use Rattle.receipt.proofs.Lines.{fields_exact, spelled_parts}

-- ---- good parts, and the texts that are made of them

parts_only : (p : Parts) → parts_good p ≡ true → GoodParts p
unfolding payload_good signature_good beginning failure_text
parts_only p e =
    let a = both (payload_good p.payload) (signature_good p.signature) e in
    let b = both (leb 4 (length p.payload)) (leb (length p.payload) 200 && same (take 4 p.payload) beginning) a.0 in
    record {
      least = leb-true 4 (length p.payload) b.0;
      most = payload_most p.payload a.0;
      begins = payload_starts p.payload a.0;
      signature = go (eqb (length p.signature) 64) refl a.1;
    }
  where
    go : (t : Bool) → eqb (length p.signature) 64 ≡ t → t || same p.signature failure_text ≡ true
        → (length p.signature ≡ 64) ⊎ (p.signature ≡ ascii "Sicherheitseinrichtung ausgefallen")
    go true q h = inl (eqb-true (length p.signature) 64 q)
    go false q h = inr (same_true p.signature failure_text h)

signature_always : (s : List ℕ) → (length s ≡ 64) ⊎ (s ≡ ascii "Sicherheitseinrichtung ausgefallen") → signature_good s ≡ true
unfolding signature_good failure_text
signature_always s (inl e) = rw (eq-eqb (length s) 64 e)
signature_always s (inr e) = go (eqb (length s) 64)
  where
    go : (t : Bool) → t || same s failure_text ≡ true
    go true = refl
    go false = ap (λ (x : List ℕ). same x failure_text) e ∙ same_refl failure_text

parts_always : (p : Parts) → GoodParts p → parts_good p ≡ true
unfolding payload_good beginning
parts_always p g =
    let b : same (take 4 p.payload) beginning ≡ true = ap (λ (x : List ℕ). same x beginning) g.begins ∙ same_refl beginning in
    rw (le-leb 4 (length p.payload) g.least, le-leb (length p.payload) 200 g.most, b) (signature_always p.signature g.signature)

pub parts_mean : PartsGoodMeans
parts_mean p = record { only = parts_only p; always = parts_always p }

pub form_is_three_elements : FormIsThreeElements
unfolding signed_form ascii
form_is_three_elements p = ap (λ (h : List ℕ). h ++ (46 ∷ []) ++ encoding UrlSafe p.payload ++ (46 ∷ []) ++ encoding UrlSafe p.signature) header_letters

pub code_is_payload_and_signature : CodeIsPayloadAndSignature
unfolding code_text ascii
code_is_payload_and_signature p = refl

-- ---- one question more in front

asked_yes : (k : ℕ) {number : ℕ} (q : Type 0) (row : Row) → q → GivesFirstNo number row → GivesFirstNo number (question q (suc k) row)
unfolding ask
asked_yes k {number} q row y g = gives_ask true k number q row (λ e. y) (λ z. refl) (λ z. g)

asked_no : (k : ℕ) (q : Type 0) (row : Row) → (q → ⊥) → GivesFirstNo (suc k) (question q (suc k) row)
unfolding ask
asked_no k q row n = gives_ask false k 0 q row (λ e. true-is-not-false e) (λ z. absurd (n z)) (λ z. absurd (n z))

-- ---- a text at the start of an output

over_start : (out text : List ℕ) → overwrite out 0 text ≡ text ++ drop (length text) out
unfolding overwrite
over_start out text = let e : 0 + length text ≡ length text = omega arith in ap (λ (k : ℕ). text ++ drop k out) e

same_text : {text other : List ℕ} → some text ≡ some other → text ≡ other
same_text e = cc

module _ (out text : List ℕ) (Text : List ℕ → Type 0) (is : Text text) (one : (other : List ℕ) → Text other → text ≡ other) where
  room_number : (written out text).number ≡ ask (leb (length text) (length out)) 23 0
  room_number = go (leb (length text) (length out)) refl
    where
      go : (t : Bool) → leb (length text) (length out) ≡ t → (written out text).number ≡ ask t 23 0
      go true e = rw (written_room out text (leb-true (length text) (length out) e)) (sym (ask_yes 23 0 refl))
      go false e = rw (written_full out text (leb-false (length text) (length out) e)) (sym (ask_no 23 0 refl))

  room_asked : GivesFirstNo (written out text).number (room_for Text out)
  room_asked =
      gives_same (room_for Text out) room_number
      (gives_ask (leb (length text) (length out)) 22 0 ((other : List ℕ) → Text other → length other ≤ length out) asked_all
      (λ e other w. subst (λ (t : List ℕ). length t ≤ length out) (one other w) (leb-true (length text) (length out) e))
      (λ q. le-leb (length text) (length out) (q text is)) (λ q. gives_none))

  -- what such a call answers and leaves
  found_text : Answered (room_for Text out) Text (written out text) out (bufferWith (some text) out)
  found_text = go (leb (length text) (length out)) refl
    where
      go : (t : Bool) → leb (length text) (length out) ≡ t → Answered (room_for Text out) Text (written out text) out (bufferWith (some text) out)
      go true e =
          let h : length text ≤ length out = leb-true (length text) (length out) e in
          let w = written_room out text h in
          record {
            number = room_asked;
            refused = λ n. absurd (n (rw w));
            made = λ other t z. subst (λ (x : List ℕ). ((written out text).length ≡ length x) × (bufferWith (some text) out ≡ x ++ drop (length x) out)) (one other t) (rw w, placed_room out 0 text (omega arith) ∙ over_start out text);
          }
      go false e =
          let h : length out < length text = leb-false (length text) (length out) e in
          let w = written_full out text h in
          record {
            number = room_asked;
            refused = λ n. (rw w, placed_full out 0 text (omega arith));
            made = λ other t z. absurd (omega (arith, rw w at z));
          }

-- ---- a call that reads something and writes a text of it

module _ {X : Type 0} (n : ℕ) (f : X → List ℕ) (out : List ℕ) (Has : Type 0) (Text : List ℕ → Type 0) where
  answered : (o : Option X) → ((x : X) → o ≡ some x → Has × Text (f x)) → (o ≡ none → Has → ⊥) → ((text : List ℕ) → Text text → map f o ≡ some text)
      → Answered (question Has (suc n) (room_for Text out)) Text (answer_with (suc n) (map f o) out) out (bufferWith (map f o) out)
  answered none has nothing only =
      record {
        number = asked_no n Has (room_for Text out) (nothing refl);
        refused = λ h. (refl, refl);
        made = λ text t z. absurd (omega (arith, z));
      }
  answered (some x) has nothing only =
      let a = found_text out (f x) Text (has x refl).1 (λ other t. same_text (only other t)) in
      record { number = asked_yes n Has (room_for Text out) (has x refl).0 a.number; refused = a.refused; made = a.made }

-- ---- Code and Uncode

module _ (n : ℕ) (read write : Parts → List ℕ) (text out : List ℕ) (found : Option Parts) (e : Exactly read text found) where
  has : (p : Parts) → found ≡ some p → MadeOfSome read text × Respelled read write text (write p)
  has p q = (record { parts = p; is = e.only p q }, record { parts = p; made = e.only p q; is = refl })

  only : (other : List ℕ) → Respelled read write text other → map write found ≡ some other
  only other w = ap (map write) (e.all w.parts w.made) ∙ ap some (sym w.is)

  respelled : Answered (question (MadeOfSome read text) (suc n) (room_for (Respelled read write text) out)) (Respelled read write text)
      (answer_with (suc n) (map write found) out) out (bufferWith (map write found) out)
  respelled = answered n write out (MadeOfSome read text) (Respelled read write text) found has (λ q m. e.refused q m.parts m.is) only

pub code_answers : CodeAnswers
unfolding code_answer code_buffer
code_answers form out b = respelled 21 signed_form code_text form out (parts_of_form form) (form_exact form b)

pub uncode_answers : UncodeAnswers
unfolding uncode_answer uncode_buffer
uncode_answers code out b = respelled 23 code_text signed_form code out (parts_of_code code) (code_exact code b)

-- ---- the optical line

pub unline_answers : UnlineAnswers
unfolding unline_answer unline_buffer
unline_answers line out b =
    answered 26 (text_in Base64) out (HasCode line) (ImageOf line) (fields_of Base32 line) has_code
    (λ e h. (fields_exact Base32 line b).refused e h.is.fields h.is.as_line)
    (λ code w. ap (map (text_in Base64)) ((fields_exact Base32 line b).all w.fields w.as_line) ∙ ap some (sym w.as_code.is))
  where
    image : (f : CodeFields) → fields_of Base32 line ≡ some f → ImageOf line (text_in Base64 f)
    image f e =
        let w = (fields_exact Base32 line b).only f e in
        record { fields = f; as_code = record { good = w.good; bytes = w.bytes; is = refl }; as_line = w }

    has_code : (f : CodeFields) → fields_of Base32 line ≡ some f → HasCode line × ImageOf line (text_in Base64 f)
    has_code f e = (record { code = text_in Base64 f; is = image f e }, image f e)

module _ (code out : List ℕ) (b : AllBytes code) where
  image_of : (f : CodeFields) → fields_of Base64 code ≡ some f → ImageOf (text_in Base32 f) code
  image_of f e =
      let w = (fields_exact Base64 code b).only f e in
      record { fields = f; as_code = w; as_line = record { good = w.good; bytes = w.bytes; is = refl } }

  has_line : (f : CodeFields) → fields_of Base64 code ≡ some f → HasLine code × LineFor code (text_in Base32 f)
  has_line f e = (record { line = text_in Base32 f; is = image_of f e }, image_of f e)

  -- after a code, by the questions 26 and 23
  of_code : Answered (question (HasLine code) 26 (room_for (LineFor code) out)) (LineFor code)
      (answer_with 26 (map (text_in Base32) (fields_of Base64 code)) out) out (bufferWith (map (text_in Base32) (fields_of Base64 code)) out)
  of_code =
      answered 25 (text_in Base32) out (HasLine code) (LineFor code) (fields_of Base64 code) has_line
      (λ e h. (fields_exact Base64 code b).refused e h.is.fields h.is.as_code)
      (λ line w. ap (map (text_in Base32)) ((fields_exact Base64 code b).all w.fields w.as_code) ∙ ap some (sym w.as_line.is))

  -- a text that is no code has no fields
  none_of : parts_of_code code ≡ none → (f : CodeFields) → SpelledAs Base64 code f → ⊥
  none_of e f w = let q = spelled_parts code f w in let z : ◌≡◌ {A = ℕ} 0 1 = cc in omega arith

  LineGiven : Option Parts → Type 0
  LineGiven o =
      Answered (question (MadeOfSome code_text code) 24 (question (HasLine code) 26 (room_for (LineFor code) out))) (LineFor code)
      (answer_with (refusal_of o) (map (text_in Base32) (fields_of Base64 code)) out) out (bufferWith (map (text_in Base32) (fields_of Base64 code)) out)

  line_given : (o : Option Parts) → parts_of_code code ≡ o → LineGiven o
  unfolding LineGiven
  line_given none e =
      let q = (fields_exact Base64 code b).nothing (none_of e) in
      record {
        number = rw q (asked_no 23 (MadeOfSome code_text code) (question (HasLine code) 26 (room_for (LineFor code) out)) (λ m. (code_exact code b).refused e m.parts m.is));
        refused = λ h. (rw q, rw q);
        made = λ line w z. absurd (none_of e w.fields w.as_code);
      }
  line_given (some p) e =
      record {
        number = asked_yes 23 (MadeOfSome code_text code) (question (HasLine code) 26 (room_for (LineFor code) out)) (record { parts = p; is = (code_exact code b).only p e }) of_code.number;
        refused = of_code.refused;
        made = of_code.made;
      }

pub line_answers : LineAnswers
unfolding line_answer line_buffer LineGiven
line_answers code out b = line_given code out b (parts_of_code code) refl
