-- The export over bytes: what the two calls show at their returns, and what holds of them.
use Rattle.std.proofs.Common.{ℕ, ◌≡◌, refl, sym, ap, ◌∙◌, Bool, true, false, List, eq-eqb, ne_eqb, eqb-true, eqb, length}
use Rattle.std.proofs.lemmas.Bool.{eqb-false}
use Rattle.journal.specs.State.{unopened}
use Rattle.journal.specs.declared.state.TakenOver.{TakenOver}
use Rattle.journal.specs.Checking.{take_over}
use Rattle.journal.specs.declared.state.State.{State}
use Rattle.std.specs.Prelude.{Result, Ok, Err}
use Rattle.primitives.specs.Answers.{as_answer}
use Rattle.primitives.specs.declared.refusal.Refusal.{Refusal}
use Rattle.journal.specs.declared.state.RefusedAt.{RefusedAt}
use Rattle.device.specs.Answers.{without_index, index_in}
use Rattle.exports.specs.Writing.{as_exported, exported, export_buffer, Exported}
use Rattle.exports.specs.Reading.{not_read, restored, restored_buffer, Restored}
use Rattle.exports.proofs.ReadBack.{export_reads_back}
use Rattle.exports.proofs.Promising.{refused_export_changes_nothing, refused_by_take_over}
use Rattle.device.specs.Layout.{array_of, kept}
use Rattle.device.specs.Calls.{width_with, take_over_answer}
use Rattle.device.specs.Inspection.{export_answer, export_output, read_answer, read_output}
use Rattle.device.specs.InspectionLaws.{ExportReadsBackInC, ExportTakesOver, RefusedExportInC}

-- ---- written

-- what the writers of index and length leave, of an answer with both
pub from_exported : (r : Result ℕ RefusedAt) {m : Result ℕ Refusal} {index n l : ℕ} → (m ≡ without_index r) × (index ≡ index_in r)
    → (n ≡ (as_answer m).number) × (l ≡ (as_answer m).length) → (n ≡ (as_exported r).number) × (l ≡ (as_exported r).length) × (index ≡ (as_exported r).index)
from_exported r t k = (
  k.0 ∙ ap (λ (x : Result ℕ Refusal). (as_answer x).number) t.0 ∙ number r,
  k.1 ∙ ap (λ (x : Result ℕ Refusal). (as_answer x).length) t.0 ∙ long r,
  t.1 ∙ place r,
)
  where
    number : (x : Result ℕ RefusedAt) → (as_answer (without_index x)).number ≡ (as_exported x).number
    number (Ok _) = refl
    number (Err _) = refl

    long : (x : Result ℕ RefusedAt) → (as_answer (without_index x)).length ≡ (as_exported x).length
    long (Ok _) = refl
    long (Err _) = refl

    place : (x : Result ℕ RefusedAt) → index_in x ≡ (as_exported x).index
    place (Ok _) = refl
    place (Err _) = refl

module _ (journal key : List ℕ) (n : ℕ) (certificates out : List ℕ) where
  pub export_made : {k : List ℕ} {w : ℕ} {a : Exported} {b : List ℕ} → k ≡ array_of 32 key → w ≡ width_with key n
      → (a ≡ exported journal k w certificates out) × (b ≡ export_buffer journal k w certificates out)
      → (a.number ≡ (export_answer journal key n certificates out).number) × (b ≡ export_output journal key n certificates out)
      × (a.length ≡ (export_answer journal key n certificates out).length) × (a.index ≡ (export_answer journal key n certificates out).index)
  unfolding export_answer export_output
  export_made {a = a} ek ew p =
      let e : a ≡ exported journal (array_of 32 key) (width_with key n) certificates out = p.0 ∙ (λ i. exported journal (ek i) (ew i) certificates out) in
      (ap (λ (x : Exported). x.number) e, p.1 ∙ (λ i. export_buffer journal (ek i) (ew i) certificates out), ap (λ (x : Exported). x.length) e, ap (λ (x : Exported). x.index) e)

-- ---- read

kept_other : (state : List ℕ) (st : State) → (length state ≡ 447 → ⊥) → kept state st ≡ state
unfolding kept
kept_other state st h = rw (ne_eqb (length state) 447 h)

module _ (text key : List ℕ) (n : ℕ) (out state : List ℕ) where
  pub answer_six : (length state ≡ 447 → ⊥) → read_answer text key n out state ≡ not_read 6 0
  unfolding read_answer
  answer_six h = rw (ne_eqb (length state) 447 h)

  output_six : (length state ≡ 447 → ⊥) → read_output text key n out state ≡ out
  unfolding read_output
  output_six h = rw (ne_eqb (length state) 447 h)

  pub answer_read : length state ≡ 447 → read_answer text key n out state ≡ restored text (array_of 32 key) (width_with key n) (length out)
  unfolding read_answer
  answer_read h = rw (eq-eqb (length state) 447 h)

  pub output_read : length state ≡ 447 → read_output text key n out state ≡ restored_buffer text (array_of 32 key) (width_with key n) out
  unfolding read_output
  output_read h = rw (eq-eqb (length state) 447 h)

  pub read_none : (length state ≡ 447 → ⊥)
      → (6 ≡ (read_answer text key n out state).number) × (out ≡ read_output text key n out state) × (state ≡ kept state (read_answer text key n out state).state)
      × (0 ≡ (read_answer text key n out state).length) × (0 ≡ (read_answer text key n out state).index)
  unfolding not_read
  read_none h =
      let e = answer_six h in
      (sym (ap (λ (x : Restored). x.number) e), sym (output_six h), sym (kept_other state _ h), sym (ap (λ (x : Restored). x.length) e), sym (ap (λ (x : Restored). x.index) e))

  pub read_some : {k : List ℕ} {w : ℕ} {a : Restored} {b s : List ℕ} → length state ≡ 447 → k ≡ array_of 32 key → w ≡ width_with key n
      → (a ≡ restored text k w (length out)) × (b ≡ restored_buffer text k w out) → s ≡ kept state a.state
      → (a.number ≡ (read_answer text key n out state).number) × (b ≡ read_output text key n out state) × (s ≡ kept state (read_answer text key n out state).state)
      × (a.length ≡ (read_answer text key n out state).length) × (a.index ≡ (read_answer text key n out state).index)
  read_some {a = a} h ek ew p q =
      let e : a ≡ read_answer text key n out state = p.0 ∙ (λ i. restored text (ek i) (ew i) (length out)) ∙ sym (answer_read h) in (
        ap (λ (x : Restored). x.number) e,
        p.1 ∙ (λ i. restored_buffer text (ek i) (ew i) out) ∙ sym (output_read h),
        q ∙ ap (λ (x : Restored). kept state x.state) e,
        ap (λ (x : Restored). x.length) e,
        ap (λ (x : Restored). x.index) e,
      )

-- ---- what holds of them

take_over_whole : (journal key : List ℕ) (n : ℕ) → take_over_answer journal key n 447 ≡ take_over journal (array_of 32 key) (width_with key n)
unfolding take_over_answer
take_over_whole journal key n = refl

refused_written : (journal key : List ℕ) (n : ℕ) (certificates out : List ℕ) → ((export_answer journal key n certificates out).number ≡ 0 → ⊥)
    → (export_output journal key n certificates out ≡ out) × ((export_answer journal key n certificates out).length ≡ 0)
unfolding export_answer export_output
refused_written journal key n certificates out h = refused_export_changes_nothing.writes journal (array_of 32 key) (width_with key n) certificates out h

refused_read : (text key : List ℕ) (n : ℕ) (out state : List ℕ) (t : Bool) → eqb (length state) 447 ≡ t → ((read_answer text key n out state).number ≡ 0 → ⊥)
    → (read_output text key n out state ≡ out) × ((read_answer text key n out state).length ≡ 0) × ((read_answer text key n out state).state ≡ unopened)
unfolding not_read
refused_read text key n out state true q h =
    let l = eqb-true (length state) 447 q in
    let e = answer_read text key n out state l in
    let r = refused_export_changes_nothing.reads text (array_of 32 key) (width_with key n) out (λ z. h (ap (λ (x : Restored). x.number) e ∙ z)) in
    (output_read text key n out state l ∙ r.0, ap (λ (x : Restored). x.length) e ∙ r.1, ap (λ (x : Restored). x.state) e ∙ r.2)
refused_read text key n out state false q h =
    let l = eqb-false (length state) 447 q in
    let e = answer_six text key n out state l in
    (output_six text key n out state l, ap (λ (x : Restored). x.length) e, ap (λ (x : Restored). x.state) e)

pub export_reads_back_in_c : ExportReadsBackInC
unfolding export_answer export_output
export_reads_back_in_c journal key n certificates first second state bj bc h z each fits =
    let r = export_reads_back journal (array_of 32 key) (width_with key n) certificates first second bj bc z each fits in
    let e = answer_read _ key n second state h ∙ r.0 in
    record {
      number = ap (λ (x : Restored). x.number) e;
      index = ap (λ (x : Restored). x.index) e;
      length = ap (λ (x : Restored). x.length) e;
      output = output_read _ key n second state h ∙ r.1;
      state = ap (λ (x : Restored). kept state x.state) e ∙ ap (λ (x : TakenOver). kept state x.state) (sym (take_over_whole journal key n));
    }

pub export_takes_over : ExportTakesOver
unfolding export_answer
export_takes_over journal key n certificates out h =
    let t = take_over_whole journal key n in
    let r = refused_by_take_over journal (array_of 32 key) (width_with key n) certificates out (λ z. h (ap (λ (x : TakenOver). x.number) t ∙ z)) in
    (r.0 ∙ sym (ap (λ (x : TakenOver). x.number) t), r.1 ∙ sym (ap (λ (x : TakenOver). x.index) t))

pub refused_export_in_c : RefusedExportInC
refused_export_in_c = record { writes = writes; reads = reads; six = six }
  where
    writes : (journal key : List ℕ) (n : ℕ) (certificates out : List ℕ) → ((export_answer journal key n certificates out).number ≡ 0 → ⊥)
        → (export_output journal key n certificates out ≡ out) × ((export_answer journal key n certificates out).length ≡ 0)
    writes journal key n certificates out h = refused_written journal key n certificates out h

    reads : (text key : List ℕ) (n : ℕ) (out state : List ℕ) → ((read_answer text key n out state).number ≡ 0 → ⊥)
        → (read_output text key n out state ≡ out) × ((read_answer text key n out state).length ≡ 0) × ((read_answer text key n out state).state ≡ unopened)
    reads text key n out state h = refused_read text key n out state (eqb (length state) 447) refl h

    six : (text key : List ℕ) (n : ℕ) (out state : List ℕ) → (length state ≡ 447 → ⊥)
        → ((read_answer text key n out state).number ≡ 6) × (kept state (read_answer text key n out state).state ≡ state)
    six text key n out state h = let r = read_none text key n out state h in (sym r.0, sym r.2)
