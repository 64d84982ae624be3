-- What holds of the two calls.
use Rattle.std.proofs.lemmas.List.{length-map}
use Rattle.std.proofs.lemmas.Bool.{lt-leb}
use Rattle.std.proofs.Common.{ℕ, zero, suc, ◌+◌, ◌≤◌, ◌<◌, ◌≡◌, refl, sym, ap, ◌∙◌, subst, Bool, true, false, cond, not, ◌&&◌, List, [], ◌∷◌, map, arith, le-leb, leb-true, leb, length, get_or}
use mathlib.Core.Option
use mathlib.Core.Option.{Option, none, some}
use Rattle.primitives.specs.Bytes.{AllBytes}
use Rattle.primitives.specs.Place.{overwrite, room, placed}
use Rattle.primitives.specs.Answers.{written, answer_with, bufferWith}
use Rattle.primitives.specs.Questions.{ask, ifZero}
use Rattle.primitives.specs.Answers.{Answer}
use Rattle.primitives.proofs.Rows.{both, true-is-not-false, ask_zero, ifZero-yes, ifZero-no}
use Rattle.primitives.proofs.Over.{placed_room, length_placed}
use Rattle.primitives.proofs.Laws.{writing_touches_no_other}
use Rattle.receipt.specs.Settings.{between, csp_good}
use Rattle.receipt.specs.declared.settings.Letters.TheVariants.{Id}
use Rattle.receipt.proofs.Names.{good_name}
use Rattle.journal.specs.State.{unopened}
use Rattle.journal.specs.Valid.{Owner, GoodOwner}
use Rattle.journal.specs.Checking.{take_over}
use Rattle.exports.specs.Text.{every}
use Rattle.exports.specs.Shape.{Element, Shape}
use Rattle.exports.specs.Parsed.{elements_of}
use Rattle.exports.specs.Spelled.{is_empty, TextPair, pairs_of, journal_spelled}
use Rattle.exports.specs.TakenOver.{GoodParts}
use Rattle.exports.specs.Groups.{Group, groups_text, group_good, groups_of}
use Rattle.exports.specs.Writing.{element_for, elements_for, export_text, export_of, answered, exported, export_buffer}
use Rattle.exports.specs.Reading.{element_good, has_receipt, names_register, pair_of, owner_of, journal_of_elements, survey_number, elements_number, restored_by, restored, restored_buffer, journal_by, not_read}
use Rattle.exports.specs.Promises.{WrittenExactly, ExportIsPlain, SameCertificates, nothing, also, ReadIsExportedAgain, SameTextAgain, AnswerOfShape, ReadsAs, ReadExactly, OtherTextsGet28, RefusedExportChangesNothing, NothingAfterLength, RefusedByTakeOver}
use Rattle.exports.specs.Writing.{Exported}
use Rattle.exports.specs.Reading.{Restored}
use Rattle.exports.proofs.Unique.{exact}
use Rattle.exports.proofs.GroupsBack.{groups_read, groups_exactly}
use Rattle.exports.proofs.PairsBack.{pairs_those}
use Rattle.exports.proofs.TakenAsSpelled.{name_bytes_lem}
use Rattle.exports.proofs.ElementsTaken.{Surveyed, owner_parts}
use Rattle.exports.proofs.ReadBack.{made, exported_taken, buffer_taken, exported_refused, buffer_refused, restored_is, restored_taken}
use Rattle.exports.proofs.PlainText.{plain_text_lem}
use Rattle.exports.proofs.RoomEnough.{some_element}
use Rattle.exports.proofs.Back.{export_shape}

-- ---- what was read

-- an answer without a number
pub record Read (o : Option (List Element)) (key : List ℕ) (n size : ℕ) : Type 0 where
  pub elements : List Element
  pub is : o ≡ some elements
  pub asked : elements_number elements size ≡ 0
  pub taken : (take_over (journal_of_elements elements) key n).number ≡ 0
  pub answer : restored_by o key n size ≡ record { number = 0; index = 0; length = length (journal_of_elements elements); state = (take_over (journal_of_elements elements) key n).state }

-- an answer with a number
pub record Unread (r : Restored) : Type 0 where
  pub length : r.length ≡ 0
  pub state : r.state ≡ unopened

not_zero : {m k : ℕ} → m ≡ suc k → m ≡ 0 → ⊥
not_zero e z = omega (arith, e, z)

unread : (number index : ℕ) → Unread (not_read number index)
unfolding not_read
unread number index = record { length = refl; state = refl }

read_number : (number index : ℕ) → (not_read number index).number ≡ number
unfolding not_read
read_number number index = refl

module _ (key : List ℕ) (n size : ℕ) where
  read_of : (o : Option (List Element)) → (restored_by o key n size).number ≡ 0 → Read o key n size
  read_of none z = absurd (omega (arith, read_number 28 0, z))
  read_of (some es) z = go (elements_number es size) refl
    where
      last : elements_number es size ≡ 0 → (m : ℕ) → (take_over (journal_of_elements es) key n).number ≡ m → Read (some es) key n size
      last q zero t = record { elements = es; is = refl; asked = q; taken = t; answer = ifZero-yes _ _ q ∙ ifZero-yes _ _ t }
      last q (suc m) t =
          let e : restored_by (some es) key n size ≡ not_read (take_over (journal_of_elements es) key n).number (take_over (journal_of_elements es) key n).index
          = ifZero-yes _ _ q ∙ ifZero-no (take_over (journal_of_elements es) key n).number _ _ (not_zero t) in
          absurd (omega (arith, z, ap (λ (r : Restored). r.number) e, read_number (take_over (journal_of_elements es) key n).number (take_over (journal_of_elements es) key n).index, t))

      go : (m : ℕ) → elements_number es size ≡ m → Read (some es) key n size
      go zero q = last q (take_over (journal_of_elements es) key n).number refl
      go (suc m) q =
          let e : restored_by (some es) key n size ≡ not_read (elements_number es size) 0 = ifZero-no (elements_number es size) _ _ (not_zero q) in
          absurd (omega (arith, z, ap (λ (r : Restored). r.number) e, read_number (elements_number es size) 0, q))

  unread_of : (o : Option (List Element)) → ((restored_by o key n size).number ≡ 0 → ⊥) → Unread (restored_by o key n size)
  unread_of none h = unread 28 0
  unread_of (some es) h = go (elements_number es size) refl
    where
      last : elements_number es size ≡ 0 → (m : ℕ) → (take_over (journal_of_elements es) key n).number ≡ m → Unread (restored_by (some es) key n size)
      last q zero t =
          let e : restored_by (some es) key n size ≡ record { number = 0; index = 0; length = length (journal_of_elements es); state = (take_over (journal_of_elements es) key n).state }
          = ifZero-yes _ _ q ∙ ifZero-yes _ _ t in
          absurd (h (ap (λ (r : Restored). r.number) e))
      last q (suc m) t =
          subst Unread (sym (ifZero-yes _ _ q ∙ ifZero-no (take_over (journal_of_elements es) key n).number _ _ (not_zero t))) (unread (take_over (journal_of_elements es) key n).number (take_over (journal_of_elements es) key n).index)

      go : (m : ℕ) → elements_number es size ≡ m → Unread (restored_by (some es) key n size)
      go zero q = last q (take_over (journal_of_elements es) key n).number refl
      go (suc m) q = subst Unread (sym (ifZero-no (elements_number es size) _ _ (not_zero q))) (unread (elements_number es size) 0)

module _ (text key : List ℕ) (n : ℕ) (out : List ℕ) where
  pub read : (restored text key n (length out)).number ≡ 0 → Read (elements_of text) key n (length out)
  unfolding restored
  read z = read_of key n (length out) (elements_of text) z

  not_read_lem : ((restored text key n (length out)).number ≡ 0 → ⊥) → Unread (restored text key n (length out))
  unfolding restored
  not_read_lem h = unread_of key n (length out) (elements_of text) h

  answer_is : (r : Read (elements_of text) key n (length out)) → restored text key n (length out) ≡ record { number = 0; index = 0; length = length (journal_of_elements r.elements); state = (take_over (journal_of_elements r.elements) key n).state }
  unfolding restored
  answer_is r = r.answer

  buffer_is : (restored text key n (length out)).number ≡ 0 → (r : Read (elements_of text) key n (length out)) → restored_buffer text key n out ≡ overwrite out 0 (journal_of_elements r.elements)
  unfolding restored_buffer
  buffer_is z r = ifZero-yes _ _ z ∙ ap (overwrite out 0) (ap journal_by r.is)

  buffer_kept : ((restored text key n (length out)).number ≡ 0 → ⊥) → restored_buffer text key n out ≡ out
  unfolding restored_buffer
  buffer_kept h = ifZero-no (restored text key n (length out)).number _ _ h

-- ---- which texts are read

pub asked_survey : (es : List Element) (size : ℕ) → elements_number es size ≡ 0 → Surveyed es × (length (journal_of_elements es) ≤ size)
unfolding elements_number survey_number
asked_survey es size z =
    let a = ask_zero _ _ _ z in
    let b = ask_zero _ _ _ a.1 in
    let c = ask_zero _ _ _ b.1 in
    let d = both (not (is_empty es)) (every element_good es) a.0 in
    let e = ask_zero _ _ _ c.1 in
    (record { some = d.0; good = d.1; receipts = b.0; named = c.0 }, leb-true (length (journal_of_elements es)) size e.0)

not_empty : (es : List Element) → not (is_empty es) ≡ true → es ≡ [] → ⊥
not_empty [] h e = true-is-not-false h
not_empty (x ∷ es) h e = let z : ◌≡◌ {A = ℕ} 0 1 = cc in omega arith

survey_passed : (es : List Element) (rest : ℕ) → not (is_empty es) ≡ true → every element_good es ≡ true → every has_receipt es ≡ true → every names_register es ≡ true → survey_number es rest ≡ rest
unfolding survey_number ask
survey_passed es rest a b c d = rw (a, b, c, d)

pub read_exactly : ReadExactly
read_exactly = record { only = only; always = always }
  where
    only : (text key : List ℕ) (n : ℕ) (out : List ℕ) → (restored text key n (length out)).number ≡ 0
        → (es : List Element) × ReadsAs text key n (length out) es × (restored_buffer text key n out ≡ overwrite out 0 (journal_of_elements es))
        × ((restored text key n (length out)).length ≡ length (journal_of_elements es)) × ((restored text key n (length out)).state ≡ (take_over (journal_of_elements es) key n).state)
    only text key n out z =
        let r = read text key n out z in
        let a = asked_survey r.elements (length out) r.asked in
        let e = answer_is text key n out r in (
          r.elements,
          record {
            shape = (exact text r.elements).0 r.is;
            some = not_empty r.elements a.0.some;
            good = a.0.good;
            receipts = a.0.receipts;
            names = a.0.named;
            fits = a.1;
            taken = r.taken;
          },
          buffer_is text key n out z r,
          ap (λ (x : Restored). x.length) e,
          ap (λ (x : Restored). x.state) e,
        )

    always : (text key : List ℕ) (n : ℕ) (out : List ℕ) (es : List Element) → ReadsAs text key n (length out) es → (restored text key n (length out)).number ≡ 0
    always text key n out es r =
        ap (λ (x : Restored). x.number)
        (restored_taken text key n (length out) es ((exact text es).1 r.shape) (λ rest. survey rest) r.fits r.taken)
      where
        survey : (rest : ℕ) → survey_number es rest ≡ rest
        survey rest = survey_passed es rest (some_element es r.some) r.good r.receipts r.names

alike_of : (a b key : List ℕ) (n : ℕ) (out : List ℕ) → elements_of a ≡ elements_of b
    → (restored a key n (length out) ≡ restored b key n (length out)) × (restored_buffer a key n out ≡ restored_buffer b key n out)
unfolding restored restored_buffer
alike_of a b key n out e = (
  ap (λ (o : Option (List Element)). restored_by o key n (length out)) e,
  ap (λ (o : Option (List Element)). ifZero (restored_by o key n (length out)).number (overwrite out 0 (journal_by o)) out) e,
)

pub other_texts_get_28 : OtherTextsGet28
unfolding restored
other_texts_get_28 text key n size h = go (elements_of text) refl
  where
    go : (o : Option (List Element)) → elements_of text ≡ o → restored_by o key n size ≡ not_read 28 0
    go none q = refl
    go (some es) q = absurd (h es ((exact text es).0 q))

pub answer_of_shape : AnswerOfShape
answer_of_shape = record { answer = answer; alike = alike }
  where
    answer : (text key : List ℕ) (n size : ℕ) (es : List Element) → Shape text es → restored text key n size ≡ restored_by (some es) key n size
    answer text key n size es s = restored_is text key n size es ((exact text es).1 s)

    alike : (a b key : List ℕ) (n : ℕ) (out : List ℕ) (es : List Element) → Shape a es → Shape b es
        → (restored a key n (length out) ≡ restored b key n (length out)) × (restored_buffer a key n out ≡ restored_buffer b key n out)
    alike a b key n out es s t = alike_of a b key n out ((exact a es).1 s ∙ sym ((exact b es).1 t))

-- ---- refused calls

refused_answer : (o : Option (List ℕ)) (out : List ℕ) → ((answer_with 28 o out).number ≡ 0 → ⊥) → (bufferWith o out ≡ out) × ((answer_with 28 o out).length ≡ 0)
unfolding written placed room
refused_answer none out h = (refl, refl)
refused_answer (some text) out h = go (leb (0 + length text) (length out)) h
  where
    go : (t : Bool) → ((cond {A = Answer} t (record { number = 0; length = length text }) (record { number = 23; length = 0 })).number ≡ 0 → ⊥)
        → (cond t (overwrite out 0 text) out ≡ out) × ((cond {A = Answer} t (record { number = 0; length = length text }) (record { number = 23; length = 0 })).length ≡ 0)
    go true h = absurd (h refl)
    go false h = (refl, refl)

module _ (j key : List ℕ) (n : ℕ) (certificates out : List ℕ) where
  writes_nothing : ((exported j key n certificates out).number ≡ 0 → ⊥) → (export_buffer j key n certificates out ≡ out) × ((exported j key n certificates out).length ≡ 0)
  writes_nothing h = go (take_over j key n).number refl
    where
      go : (m : ℕ) → (take_over j key n).number ≡ m → (export_buffer j key n certificates out ≡ out) × ((exported j key n certificates out).length ≡ 0)
      go zero q =
          let e = exported_taken j key n certificates out q in
          let a = refused_answer (export_of j certificates) out (λ z. h (ap (λ (x : Exported). x.number) e ∙ z)) in
          (buffer_taken j key n certificates out q ∙ a.0, ap (λ (x : Exported). x.length) e ∙ a.1)
      go (suc m) q =
          (buffer_refused j key n certificates out (not_zero q), ap (λ (x : Exported). x.length) (exported_refused j key n certificates out (not_zero q)))

pub refused_export_changes_nothing : RefusedExportChangesNothing
refused_export_changes_nothing =
    record {
      writes = writes_nothing;
      reads = λ text key n out h. (buffer_kept text key n out h, (not_read_lem text key n out h).length, (not_read_lem text key n out h).state);
    }

pub refused_by_take_over : RefusedByTakeOver
refused_by_take_over j key n certificates out h =
    let e = exported_refused j key n certificates out h in
    (ap (λ (x : Exported). x.number) e, ap (λ (x : Exported). x.index) e)

-- ---- what follows the text

over_after : (out text : List ℕ) (i : ℕ) → length text ≤ length out → length text ≤ i → get_or (overwrite out 0 text) i 0 ≡ get_or out i 0
over_after out text i fits h =
    ap (λ (l : List ℕ). get_or l i 0) (sym (placed_room out 0 text (omega (arith, fits)))) ∙ (writing_touches_no_other out 0 text i).1 (omega (arith, h))

over_long : (out text : List ℕ) → length text ≤ length out → length (overwrite out 0 text) ≡ length out
over_long out text h = ap length (sym (placed_room out 0 text (omega (arith, h)))) ∙ length_placed out 0 text

pub nothing_after_length : NothingAfterLength
nothing_after_length = record { kept = kept; kept_read = kept_read; writes = writes; reads = reads }
  where
    kept : (j key : List ℕ) (n : ℕ) (certificates out : List ℕ) → length (export_buffer j key n certificates out) ≡ length out
    kept j key n certificates out = go (exported j key n certificates out).number refl
      where
        go : (m : ℕ) → (exported j key n certificates out).number ≡ m → length (export_buffer j key n certificates out) ≡ length out
        go zero q = let x = made j key n certificates out q in ap length x.buffer ∙ over_long out x.text x.fits
        go (suc m) q = ap length (writes_nothing j key n certificates out (not_zero q)).0

    kept_read : (text key : List ℕ) (n : ℕ) (out : List ℕ) → length (restored_buffer text key n out) ≡ length out
    kept_read text key n out = go (restored text key n (length out)).number refl
      where
        go : (m : ℕ) → (restored text key n (length out)).number ≡ m → length (restored_buffer text key n out) ≡ length out
        go zero q =
            let r = read text key n out q in
            ap length (buffer_is text key n out q r) ∙ over_long out (journal_of_elements r.elements) (asked_survey r.elements (length out) r.asked).1
        go (suc m) q = ap length (buffer_kept text key n out (not_zero q))

    writes : (j key : List ℕ) (n : ℕ) (certificates out : List ℕ) (i : ℕ) → (exported j key n certificates out).length ≤ i
        → get_or (export_buffer j key n certificates out) i 0 ≡ get_or out i 0
    writes j key n certificates out i h = go (exported j key n certificates out).number refl
      where
        go : (m : ℕ) → (exported j key n certificates out).number ≡ m → get_or (export_buffer j key n certificates out) i 0 ≡ get_or out i 0
        go zero q =
            let x = made j key n certificates out q in
            ap (λ (l : List ℕ). get_or l i 0) x.buffer ∙ over_after out x.text i x.fits (omega (arith, h, x.long))
        go (suc m) q = ap (λ (l : List ℕ). get_or l i 0) (writes_nothing j key n certificates out (not_zero q)).0

    reads : (text key : List ℕ) (n : ℕ) (out : List ℕ) (i : ℕ) → (restored text key n (length out)).length ≤ i
        → get_or (restored_buffer text key n out) i 0 ≡ get_or out i 0
    reads text key n out i h = go (restored text key n (length out)).number refl
      where
        go : (m : ℕ) → (restored text key n (length out)).number ≡ m → get_or (restored_buffer text key n out) i 0 ≡ get_or out i 0
        go zero q =
            let r = read text key n out q in
            let a = asked_survey r.elements (length out) r.asked in
            let l = ap (λ (x : Restored). x.length) (answer_is text key n out r) in
            ap (λ (l : List ℕ). get_or l i 0) (buffer_is text key n out q r) ∙ over_after out (journal_of_elements r.elements) i a.1 (omega (arith, h, l))
        go (suc m) q = ap (λ (l : List ℕ). get_or l i 0) (buffer_kept text key n out (not_zero q))

-- ---- exported again

csp_bytes : (csp : List ℕ) → length csp ≡ 3 → csp_good csp ≡ true → AllBytes csp
unfolding csp_good between
csp_bytes csp l e =
    let p = both (between 65 90 (get_or csp 0 0)) (between 65 90 (get_or csp 1 0) && between 48 57 (get_or csp 2 0)) e in
    let q = both (between 65 90 (get_or csp 1 0)) (between 48 57 (get_or csp 2 0)) p.1 in
    record { at = at csp l (both (leb 65 (get_or csp 0 0)) (leb (get_or csp 0 0) 90) p.0).1 (both (leb 65 (get_or csp 1 0)) (leb (get_or csp 1 0) 90) q.0).1 (both (leb 48 (get_or csp 2 0)) (leb (get_or csp 2 0) 57) q.1).1 }
  where
    at : (csp : List ℕ) → length csp ≡ 3 → leb (get_or csp 0 0) 90 ≡ true → leb (get_or csp 1 0) 90 ≡ true → leb (get_or csp 2 0) 57 ≡ true → (i : ℕ) → get_or csp i 0 < 256
    at [] l a b c i = absurd (omega arith)
    at (x ∷ []) l a b c i = absurd (omega arith)
    at (x ∷ y ∷ []) l a b c i = absurd (omega arith)
    at (x ∷ y ∷ z ∷ []) l a b c zero = omega (arith, leb-true x 90 a)
    at (x ∷ y ∷ z ∷ []) l a b c (suc zero) = omega (arith, leb-true y 90 b)
    at (x ∷ y ∷ z ∷ []) l a b c (suc (suc zero)) = omega (arith, leb-true z 57 c)
    at (x ∷ y ∷ z ∷ []) l a b c (suc (suc (suc i))) = omega arith
    at (x ∷ y ∷ z ∷ w ∷ rest) l a b c i = absurd (omega arith)

good_owner : (o : Owner) (ps : List TextPair) → GoodParts o ps → GoodOwner o
good_owner o ps g =
    record {
      typed_csp = g.three;
      csp_bytes = csp_bytes o.csp g.three g.csp;
      typed_id = record { long = g.long; bytes = name_bytes_lem Id o.id g.long g.id; small = omega (arith, (good_name Id o.id g.id).most) };
      csp = g.csp;
      id = g.id;
    }

same_elements : {es : List Element} {gs : List Group} → SameCertificates es gs → elements_for (map pair_of es) gs ≡ es
unfolding elements_for element_for pair_of
same_elements nothing = refl
same_elements (also {e = e} c d s) = λ i. record { certificate = sym c i; issuers = sym d i; receipts = e.receipts } ∷ same_elements s i

same_length : {es : List Element} {gs : List Group} → SameCertificates es gs → length gs ≡ length es
same_length nothing = refl
same_length (also c d s) = ap suc (same_length s)

pairs_spelled_lem : (o : Owner) (ps : List TextPair) → GoodParts o ps → pairs_of (journal_spelled o ps) ≡ ps
pairs_spelled_lem o ps g = pairs_those o (good_owner o ps g) ps g.pairs

pub read_is_exported_again : ReadIsExportedAgain
unfolding export_of journal_of_elements
read_is_exported_again text key n out es gs s z small good c =
    let r = read text key n out z in
    let same : some r.elements ≡ some es = sym r.is ∙ (exact text es).1 s in
    let q : r.elements ≡ es = cc in
    let a = asked_survey es (length out) (subst (λ (l : List Element). elements_number l (length out) ≡ 0) q r.asked) in
    let p = those es a.0 (omega (arith, a.1, small)) in
    let l : length (map pair_of es) ≡ length gs = length-map es pair_of ∙ sym (same_length c) in
    let g : groups_of (length (pairs_of (journal_of_elements es))) (groups_text gs) ≡ some gs
    = ap (λ (k : ℕ). groups_of k (groups_text gs)) (ap length p ∙ l) ∙ groups_read gs good in
    ap (Option.map (λ (hs : List Group). export_text (elements_for (pairs_of (journal_of_elements es)) hs))) g
    ∙ ap some (ap export_text (ap (λ (x : List TextPair). elements_for x gs) p ∙ same_elements c))
  where
    those : (es : List Element) → Surveyed es → length (journal_of_elements es) < 18446744073709551616 → pairs_of (journal_of_elements es) ≡ map pair_of es
    those [] v h = true-is-not-false v.some
    those (e ∷ es) v h =
        let g = owner_parts e es v h in
        pairs_spelled_lem (owner_of (e ∷ es)) (map pair_of (e ∷ es)) g

pub same_text_again : SameTextAgain
same_text_again text key n out fs gs plain is z small good c =
    read_is_exported_again text key n out fs gs (subst (λ (t : List ℕ). Shape t fs) (sym (plain_text_lem fs) ∙ sym is) (export_shape fs plain)) z small good c ∙ ap some (sym is)

pub export_is_plain : ExportIsPlain
export_is_plain es = plain_text_lem es

-- ---- written exactly

module _ (j : List ℕ) (gs : List Group) (count : length gs ≡ length (pairs_of j)) (good : every group_good gs ≡ true) where
  export_there : export_of j (groups_text gs) ≡ some (export_text (elements_for (pairs_of j) gs))
  unfolding export_of
  export_there =
      ap (Option.map (λ (hs : List Group). export_text (elements_for (pairs_of j) hs)))
      (ap (λ (k : ℕ). groups_of k (groups_text gs)) (sym count) ∙ groups_read gs good)

written_fits : (text out : List ℕ) → length text ≤ length out
    → (answer_with 28 (some text) out ≡ record { number = 0; length = length text }) × (bufferWith (some text) out ≡ overwrite out 0 text)
unfolding written placed room
written_fits text out h = let e : leb (0 + length text) (length out) ≡ true = le-leb (0 + length text) (length out) (omega (arith, h)) in (rw e, rw e)

written_short : (text out : List ℕ) → length out < length text → answer_with 28 (some text) out ≡ record { number = 23; length = 0 }
unfolding written room
written_short text out h = let e : leb (0 + length text) (length out) ≡ false = lt-leb (0 + length text) (length out) (omega (arith, h)) in rw e

no_groups : (j certificates : List ℕ) → ((gs : List Group) → length gs ≡ length (pairs_of j) → every group_good gs ≡ true → certificates ≡ groups_text gs → ⊥)
    → export_of j certificates ≡ none
unfolding export_of
no_groups j certificates h = go (groups_of (length (pairs_of j)) certificates) refl
  where
    go : (o : Option (List Group)) → groups_of (length (pairs_of j)) certificates ≡ o → Option.map (λ (hs : List Group). export_text (elements_for (pairs_of j) hs)) o ≡ none
    go none q = refl
    go (some gs) q = let g = (groups_exactly (length (pairs_of j)) certificates gs).0 q in absurd (h gs g.0 g.1 g.2)

pub written_exactly : WrittenExactly
written_exactly = record { always = always; short = short; other = other }
  where
    always : (j key : List ℕ) (n : ℕ) (gs : List Group) (out : List ℕ) → (take_over j key n).number ≡ 0 → length gs ≡ length (pairs_of j)
        → every group_good gs ≡ true → length (export_text (elements_for (pairs_of j) gs)) ≤ length out
        → (exported j key n (groups_text gs) out ≡ record { number = 0; index = 0; length = length (export_text (elements_for (pairs_of j) gs)) })
        × (export_buffer j key n (groups_text gs) out ≡ overwrite out 0 (export_text (elements_for (pairs_of j) gs)))
    always j key n gs out z c g h =
        let e = export_there j gs c g in
        let w = written_fits (export_text (elements_for (pairs_of j) gs)) out h in (
          exported_taken j key n (groups_text gs) out z ∙ ap (λ (o : Option (List ℕ)). answered (answer_with 28 o out)) e ∙ ap answered w.0,
          buffer_taken j key n (groups_text gs) out z ∙ ap (λ (o : Option (List ℕ)). bufferWith o out) e ∙ w.1,
        )

    short : (j key : List ℕ) (n : ℕ) (gs : List Group) (out : List ℕ) → (take_over j key n).number ≡ 0 → length gs ≡ length (pairs_of j)
        → every group_good gs ≡ true → length out < length (export_text (elements_for (pairs_of j) gs))
        → exported j key n (groups_text gs) out ≡ record { number = 23; index = 0; length = 0 }
    short j key n gs out z c g h =
        exported_taken j key n (groups_text gs) out z ∙ ap (λ (o : Option (List ℕ)). answered (answer_with 28 o out)) (export_there j gs c g)
        ∙ ap answered (written_short (export_text (elements_for (pairs_of j) gs)) out h)

    other : (j key : List ℕ) (n : ℕ) (certificates out : List ℕ) → (take_over j key n).number ≡ 0
        → ((gs : List Group) → length gs ≡ length (pairs_of j) → every group_good gs ≡ true → certificates ≡ groups_text gs → ⊥)
        → exported j key n certificates out ≡ record { number = 28; index = 0; length = 0 }
    other j key n certificates out z h =
        exported_taken j key n certificates out z ∙ ap (λ (o : Option (List ℕ)). answered (answer_with 28 o out)) (no_groups j certificates h)
