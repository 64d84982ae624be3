-- The optical line of a code in the paper's words: a text with nine "_" that begins with one is nine fields, each after its "_".
use Rattle.std.proofs.lemmas.Bool.{eqb-false}
use Rattle.std.proofs.Common.{ℕ, zero, suc, ◌≤◌, ◌<◌, ◌≡◌, refl, sym, ap, ◌∙◌, subst, Bool, true, false, List, [], ◌∷◌, ◌++◌, append_assoc, append-nil, ◌↔◌, inl, inr, arith, eq-eqb, eqb-true, eqb, length, get_or, take}
use Rattle.primitives.specs.Bytes.{AllBytes}
use Rattle.primitives.specs.Text.{ascii}
use Rattle.primitives.specs.Questions.{Row, asked_all, question, AllYes, FirstNoIs, GivesFirstNo}
use Rattle.primitives.specs.Answers.{Answer}
use Rattle.primitives.proofs.ByteLists.{bytes_nil, bytes_cons, bytes_head, bytes_tail, bytes_append}
use Rattle.receipt.specs.Form.{Parts, parts}
use Rattle.receipt.specs.Code.{code_text}
use Rattle.receipt.specs.Line.{spell, CodeFields, FieldsOfBytes, count_of, twelve, payload_in, text_in, code_fields_good, line_answer, line_buffer, unline_answer, unline_buffer}
use Rattle.receipt.specs.LineLaws.{ImageOf, HasCode, HasLine}
use Rattle.receipt.specs.PayloadWords.{joined}
use Rattle.receipt.specs.CallAnswers.{GoodParts, room_for, Answered, MadeOfSome, LineFor}
use Rattle.receipt.specs.LineWords.{PlainField, twelve_fields, LineOfCode, ImageMeans, GoodCode, LineThere, CodeThere, LineTo, LineAnswersInWords, UnlineAnswersInWords}
use Rattle.receipt.specs.declared.optical_line.Spelling.{Spelling}
use Rattle.receipt.specs.declared.optical_line.Spelling.TheVariants.{Base64, Base32}
use Rattle.receipt.proofs.MarkCounts.{count_append, count_none}
use Rattle.receipt.proofs.LineFields.{good_twelve, good_parts_lem, start_nine, serial_none}
use Rattle.receipt.proofs.AnsweredCalls.{parts_mean, code_is_payload_and_signature, line_answers, unline_answers}

-- ---- fields, each after its "_"

unfoldable marked : List (List ℕ) → List ℕ
marked [] = []
marked (t ∷ ts) = 95 ∷ (t ++ marked ts)

joined_marked : (t : List ℕ) (ts : List (List ℕ)) → 95 ∷ joined (t ∷ ts) ≡ marked (t ∷ ts)
unfolding joined marked
joined_marked t [] = simp append-nil
joined_marked t (u ∷ us) = ap (λ (l : List ℕ). 95 ∷ (t ++ l)) (joined_marked u us)

-- fields that end with some field
joined_some : (ts : List (List ℕ)) (u : List ℕ) (us : List (List ℕ)) → 95 ∷ joined (ts ++ (u ∷ us)) ≡ marked (ts ++ (u ∷ us))
joined_some [] u us = joined_marked u us
joined_some (t ∷ ts) u us = joined_marked t (ts ++ (u ∷ us))

marked_append : (ts us : List (List ℕ)) → marked (ts ++ us) ≡ marked ts ++ marked us
unfolding marked
marked_append [] us = refl
marked_append (t ∷ ts) us = ap (λ (l : List ℕ). 95 ∷ (t ++ l)) (marked_append ts us) ∙ ap (λ (l : List ℕ). 95 ∷ l) (sym (append_assoc t (marked ts) (marked us)))

-- ---- plain fields

plain_nil : PlainField []
plain_nil = record { bytes = bytes_nil; unmarked = record { at = λ i h e. absurd (omega arith) } }

module _ {x : ℕ} {xs : List ℕ} where
  plain_cons : x < 256 → (x ≡ 95 → ⊥) → PlainField xs → PlainField (x ∷ xs)
  plain_cons h n p = record { bytes = bytes_cons h p.bytes; unmarked = record { at = at } }
    where
      at : (i : ℕ) → i < suc (length xs) → get_or (x ∷ xs) i 0 ≡ 95 → ⊥
      at zero l e = n e
      at (suc i) l e = p.unmarked.at i (omega arith) e

data AllPlain : List (List ℕ) → Type 0 where
  no_field : AllPlain []
  one_field : {t : List ℕ} {ts : List (List ℕ)} → PlainField t → AllPlain ts → AllPlain (t ∷ ts)

plain_at : {ts : List (List ℕ)} → AllPlain ts → (i : ℕ) → i < length ts → PlainField (get_or ts i [])
plain_at no_field i h = absurd (omega arith)
plain_at (one_field p q) zero h = p
plain_at (one_field p q) (suc i) h = plain_at q i (omega arith)

at_plain : (ts : List (List ℕ)) → ((i : ℕ) → i < length ts → PlainField (get_or ts i [])) → AllPlain ts
at_plain [] h = no_field
at_plain (t ∷ ts) h = one_field (h 0 (omega arith)) (at_plain ts (λ i l. h (suc i) (omega arith)))

marked_bytes : {ts : List (List ℕ)} → AllPlain ts → AllBytes (marked ts)
unfolding marked
marked_bytes no_field = bytes_nil
marked_bytes (one_field p q) = bytes_cons (omega arith) (bytes_append p.bytes (marked_bytes q))

marked_count : {ts : List (List ℕ)} → AllPlain ts → count_of 95 (marked ts) ≡ length ts
unfolding marked count_of
marked_count no_field = refl
marked_count (one_field {t} {ts} p q) = ap suc (count_append 95 t (marked ts)) ∙ omega (arith, count_none 95 t p.unmarked, marked_count q)

-- ---- a text is split at each "_"

record Split (text : List ℕ) : Type 0 where
  first : List ℕ
  others : List (List ℕ)
  plain : PlainField first
  all_plain : AllPlain others
  count : length others ≡ count_of 95 text
  is : text ≡ first ++ marked others

split : (text : List ℕ) → AllBytes text → Split text
unfolding marked count_of
split [] b = record { first = []; others = []; plain = plain_nil; all_plain = no_field; count = refl; is = refl }
split (x ∷ xs) b = go (eqb x 95) refl (split xs (bytes_tail b))
  where
    go : (t : Bool) → eqb x 95 ≡ t → Split xs → Split (x ∷ xs)
    go true e s =
        let q : x ≡ 95 = eqb-true x 95 e in
        record {
          first = [];
          others = s.first ∷ s.others;
          plain = plain_nil;
          all_plain = one_field s.plain s.all_plain;
          count = rw e (ap suc s.count);
          is = (λ i. q i ∷ s.is i);
        }
    go false e s =
        record {
          first = x ∷ s.first;
          others = s.others;
          plain = plain_cons (bytes_head b) (eqb-false x 95 e) s.plain;
          all_plain = s.all_plain;
          count = rw e s.count;
          is = ap (λ (l : List ℕ). x ∷ l) s.is;
        }

-- nothing stands before the first "_" of a text that begins with "_"
nothing_first : (first rest : List ℕ) → PlainField first → (more : List ℕ) → take 4 (first ++ rest) ≡ 95 ∷ more → first ≡ []
nothing_first [] rest p more e = refl
nothing_first (x ∷ first) rest p more e = absurd (p.unmarked.at 0 (omega arith) (ap (λ (l : List ℕ). get_or l 0 0) e))

-- ---- the texts of fields

abbrev fields_from : List (List ℕ) → List ℕ → List ℕ → List ℕ → List ℕ → CodeFields
fields_from ts counter serial chain signature = record { start = marked ts; counter = counter; serial = serial; chain = chain; signature = signature }

module _ (s : Spelling) (ts : List (List ℕ)) (counter serial chain signature : List ℕ) where
  payload_words : payload_in s (fields_from ts counter serial chain signature) ≡ twelve_fields ts (spell s counter) serial (spell s chain)
  unfolding payload_in marked
  payload_words =
      sym (joined_some ts (spell s counter) (serial ∷ spell s chain ∷ []) ∙ marked_append ts (spell s counter ∷ serial ∷ spell s chain ∷ []) ∙ simp (append_assoc, append-nil))

  text_words : text_in s (fields_from ts counter serial chain signature) ≡ twelve_fields ts (spell s counter) serial (spell s chain) ++ ascii "_" ++ spell s signature
  unfolding text_in ascii
  text_words = ap (λ (p : List ℕ). p ++ (95 ∷ []) ++ spell s signature) payload_words

-- ---- an image is a line in the paper's words

-- what follows the first nine fields
abbrev ending : Spelling → CodeFields → List ℕ
ending s f = 95 ∷ (spell s f.counter ++ (95 ∷ (f.serial ++ (95 ∷ spell s f.chain))))

payload_ends : (s : Spelling) (f : CodeFields) → payload_in s f ≡ f.start ++ ending s f
unfolding payload_in
payload_ends s f = simp append_assoc

module _ (f : CodeFields) (good : code_fields_good f ≡ true) (b : FieldsOfBytes f) where
  found : Split f.start
  found = split f.start b.start

  good_payload : GoodParts (parts (payload_in Base64 f) f.signature)
  good_payload = (parts_mean (parts (payload_in Base64 f) f.signature)).only (good_parts_lem f good)

  begins : payload_in Base64 f ≡ found.first ++ (marked found.others ++ ending Base64 f)
  begins = payload_ends Base64 f ∙ ap (λ (l : List ℕ). l ++ ending Base64 f) found.is ∙ append_assoc found.first (marked found.others) (ending Base64 f)

  no_first : found.first ≡ []
  unfolding ascii
  no_first =
      nothing_first found.first (marked found.others ++ ending Base64 f) found.plain (82 ∷ 49 ∷ 45 ∷ [])
      (ap (take 4) (sym begins) ∙ good_payload.begins)

  fields_are : f ≡ fields_from found.others f.counter f.serial f.chain f.signature
  fields_are =
      let e : f.start ≡ marked found.others = found.is ∙ ap (λ (l : List ℕ). l ++ marked found.others) no_first in
      λ i. record { start = e i; counter = f.counter; serial = f.serial; chain = f.chain; signature = f.signature }

  nine_found : length found.others ≡ 9
  nine_found = found.count ∙ start_nine f (good_twelve f good)

  -- both texts
  in_words : (s : Spelling) → text_in s f ≡ twelve_fields found.others (spell s f.counter) f.serial (spell s f.chain) ++ ascii "_" ++ spell s f.signature
  in_words s = ap (text_in s) fields_are ∙ text_words s found.others f.counter f.serial f.chain f.signature

  line_of : (line code : List ℕ) → code ≡ text_in Base64 f → line ≡ text_in Base32 f → LineOfCode line code
  line_of line code e q =
      record {
        nine = found.others;
        counter = f.counter;
        serial = f.serial;
        chain = f.chain;
        signature = f.signature;
        count = nine_found;
        plain_nine = λ i h. plain_at found.all_plain i (omega (arith, nine_found));
        plain_serial = record { bytes = b.serial; unmarked = serial_none f (good_twelve f good) };
        counter_bytes = b.counter;
        chain_bytes = b.chain;
        signature_bytes = b.signature;
        good = subst (λ (p : List ℕ). GoodParts (parts p f.signature))
            (ap (payload_in Base64) fields_are ∙ payload_words Base64 found.others f.counter f.serial f.chain f.signature) good_payload;
        code_is = e ∙ in_words Base64;
        line_is = q ∙ in_words Base32;
      }

-- ---- and a line in the paper's words is an image

module _ (line code : List ℕ) (w : LineOfCode line code) where
  abbrev fields : CodeFields
  fields = fields_from w.nine w.counter w.serial w.chain w.signature

  all_plain : AllPlain w.nine
  all_plain = at_plain w.nine (λ i h. w.plain_nine i (omega (arith, w.count)))

  twelve_there : twelve fields ≡ true
  unfolding twelve
  twelve_there =
      rw (eq-eqb (count_of 95 (marked w.nine)) 9 (marked_count all_plain ∙ w.count), eq-eqb (count_of 95 w.serial) 0 (count_none 95 w.serial w.plain_serial.unmarked))

  fields_good_lem : code_fields_good fields ≡ true
  unfolding code_fields_good
  fields_good_lem =
      rw twelve_there
      ((parts_mean (parts (payload_in Base64 fields) w.signature)).always
      (subst (λ (p : List ℕ). GoodParts (parts p w.signature)) (sym (payload_words Base64 w.nine w.counter w.serial w.chain w.signature)) w.good))

  fields_bytes : FieldsOfBytes fields
  fields_bytes =
      record {
        start = marked_bytes all_plain;
        counter = w.counter_bytes;
        serial = w.plain_serial.bytes;
        chain = w.chain_bytes;
        signature = w.signature_bytes;
      }

  image_from : ImageOf line code
  image_from =
      record {
        fields = fields;
        as_code = record {
          good = fields_good_lem;
          bytes = fields_bytes;
          is = w.code_is ∙ sym (text_words Base64 w.nine w.counter w.serial w.chain w.signature);
        };
        as_line = record {
          good = fields_good_lem;
          bytes = fields_bytes;
          is = w.line_is ∙ sym (text_words Base32 w.nine w.counter w.serial w.chain w.signature);
        };
      }

pub image_means : ImageMeans
image_means line code = (λ w. line_of w.fields w.as_code.good w.as_code.bytes line code w.as_code.is w.as_line.is, image_from line code)

-- ---- rows of questions that mean the same

record SameRow (r r' : Row) : Type 0 where
  yes : AllYes r ↔ AllYes r'
  no : (k : ℕ) → FirstNoIs r k ↔ FirstNoIs r' k

same_end : SameRow asked_all asked_all
same_end = record { yes = (λ y. y, λ y. y); no = λ k. (λ n. n, λ n. n) }

same_question : (q q' : Type 0) (k : ℕ) (r r' : Row) → (q ↔ q') → SameRow r r' → SameRow (question q k r) (question q' k r')
same_question q q' k r r' e s =
    record {
      yes = (λ y. (e.0 y.0, s.yes.0 y.1), λ y. (e.1 y.0, s.yes.1 y.1));
      no = λ m. (there m, back m);
    }
  where
    there : (m : ℕ) → FirstNoIs (question q k r) m → FirstNoIs (question q' k r') m
    there m (inl n) = inl (λ y. n.0 (e.1 y), n.1)
    there m (inr n) = inr (e.0 n.0, (s.no m).0 n.1)

    back : (m : ℕ) → FirstNoIs (question q' k r') m → FirstNoIs (question q k r) m
    back m (inl n) = inl (λ y. n.0 (e.0 y), n.1)
    back m (inr n) = inr (e.1 n.0, (s.no m).1 n.1)

module _ (Text Text' : List ℕ → Type 0) (e : (text : List ℕ) → Text text ↔ Text' text) (out : List ℕ) where
  same_room : SameRow (room_for Text out) (room_for Text' out)
  same_room =
      same_question ((text : List ℕ) → Text text → length text ≤ length out) ((text : List ℕ) → Text' text → length text ≤ length out) 23 asked_all asked_all
      (λ h text t. h text ((e text).1 t), λ h text t. h text ((e text).0 t)) same_end

  same_answered : (r r' : Row) (answer : Answer) (after : List ℕ) → SameRow r r' → Answered r Text answer out after → Answered r' Text' answer out after
  same_answered r r' answer after s a =
      let g : GivesFirstNo answer.number r = a.number in
      record {
        number = record {
          none = λ z. s.yes.0 (g.none z);
          all = λ y. g.all (s.yes.1 y);
          some = λ h. (s.no answer.number).0 (g.some h);
          first = λ k n. g.first k ((s.no k).1 n);
        };
        refused = a.refused;
        made = λ text t z. a.made text ((e text).1 t) z;
      }

-- ---- the answers

good_code : (code : List ℕ) → MadeOfSome code_text code ↔ GoodCode code
good_code code = (there, back)
  where
    there : MadeOfSome code_text code → GoodCode code
    there m =
        let p : Parts = m.parts in
        record {
          payload = p.payload;
          signature = p.signature;
          payload_bytes = m.is.bytes.payload;
          signature_bytes = m.is.bytes.signature;
          good = (parts_mean p).only m.is.good;
          code_is = m.is.is ∙ code_is_payload_and_signature p;
        }

    back : GoodCode code → MadeOfSome code_text code
    back g =
        let p : Parts = parts g.payload g.signature in
        record {
          parts = p;
          is = record {
            good = (parts_mean p).always g.good;
            bytes = record { payload = g.payload_bytes; signature = g.signature_bytes };
            is = g.code_is ∙ sym (code_is_payload_and_signature p);
          };
        }

line_there : (code : List ℕ) → HasLine code ↔ LineThere code
line_there code =
    (λ h. record { line = h.line; is = (image_means h.line code).0 h.is }, λ h. record { line = h.line; is = (image_means h.line code).1 h.is })

code_there : (line : List ℕ) → HasCode line ↔ CodeThere line
code_there line =
    (λ h. record { code = h.code; is = (image_means line h.code).0 h.is }, λ h. record { code = h.code; is = (image_means line h.code).1 h.is })

pub line_answers_in_words : LineAnswersInWords
line_answers_in_words code out b =
    let e : (line : List ℕ) → LineFor code line ↔ LineTo code line = λ line. image_means line code in
    same_answered (LineFor code) (LineTo code) e out
    (question (MadeOfSome code_text code) 24 (question (HasLine code) 26 (room_for (LineFor code) out)))
    (question (GoodCode code) 24 (question (LineThere code) 26 (room_for (LineTo code) out))) (line_answer code out) (line_buffer code out)
    (same_question (MadeOfSome code_text code) (GoodCode code) 24 (question (HasLine code) 26 (room_for (LineFor code) out)) (question (LineThere code) 26 (room_for (LineTo code) out))
    (good_code code)
    (same_question (HasLine code) (LineThere code) 26 (room_for (LineFor code) out) (room_for (LineTo code) out) (line_there code) (same_room (LineFor code) (LineTo code) e out)))
    (line_answers code out b)

pub unline_answers_in_words : UnlineAnswersInWords
unline_answers_in_words line out b =
    same_answered (ImageOf line) (LineOfCode line) (image_means line) out (question (HasCode line) 27 (room_for (ImageOf line) out))
    (question (CodeThere line) 27 (room_for (LineOfCode line) out)) (unline_answer line out) (unline_buffer line out)
    (same_question (HasCode line) (CodeThere line) 27 (room_for (ImageOf line) out) (room_for (LineOfCode line) out) (code_there line)
    (same_room (ImageOf line) (LineOfCode line) (image_means line) out)) (unline_answers line out b)
