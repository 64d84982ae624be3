-- What each return of the call that reads an export shows: the answer and the output.
use Rattle.std.proofs.Common.{Err, ℕ, ◌≤◌, ◌<◌, ◌≡◌, refl, sym, ap, ◌∙◌, Bool, true, false, not, ◌&&◌, List, ◌↔◌, arith, leb-true, leb, length}
use Rattle.primitives.specs.Refusals.{number_of}
use Rattle.primitives.specs.declared.refusal.Refusal.{Refusal}
use Rattle.journal.specs.declared.state.RefusedAt.{RefusedAt}
use mathlib.Core.Option.{Option, some}
use Rattle.primitives.specs.Place.{overwrite}
use Rattle.primitives.specs.Answers.{Answer}
use Rattle.primitives.specs.Questions.{ask}
use Rattle.primitives.proofs.Rows.{ask_zero, ifZero-yes, ifZero-no}
use Rattle.journal.specs.Checking.{take_over}
use Rattle.journal.specs.declared.state.TakenOver.{TakenOver}
use Rattle.exports.specs.Text.{every}
use Rattle.exports.specs.Shape.{Element, Shape, Shaped}
use Rattle.exports.specs.Parsed.{elements_of}
use Rattle.exports.specs.Spelled.{is_empty}
use Rattle.exports.specs.Reading.{as_restored, element_good, has_receipt, names_register, journal_of_elements, survey_number, elements_number, not_read, restored_from, restored_by, restored, journal_by, restored_buffer}
use Rattle.exports.specs.Passing.{SurveyedAs}
use Rattle.exports.specs.Running.{owner_settings, run_journal}
use Rattle.receipt.specs.declared.settings.Settings.{Settings}
use Rattle.exports.specs.Reading.{Restored}
use Rattle.exports.proofs.Unique.{decided, exact}
use Rattle.exports.proofs.ElementsTaken.{run_is_take_over}

-- a refusal as the answer
pub refusal_is : (r : RefusedAt) → as_restored (Err r) ≡ not_read (number_of r.question) r.index
unfolding not_read
refusal_is r = refl

pub refused_with : {r : RefusedAt} {question : Refusal} → r ≡ record { question = question; index = 0 } → as_restored (Err r) ≡ not_read (number_of question) 0
refused_with {r} e = refusal_is r ∙ ap (λ (x : RefusedAt). not_read (number_of x.question) x.index) e

-- ---- questions before 23, and those after

-- a row of three questions, and then the rest
row_zero : (a b c : Bool) (rest : ℕ) → ask a 28 (ask b 29 (ask c 28 rest)) ≡ 0 → (ask a 28 (ask b 29 (ask c 28 0)) ≡ 0) × (rest ≡ 0)
unfolding ask
row_zero false b c rest h = absurd (omega (arith, h))
row_zero true false c rest h = absurd (omega (arith, h))
row_zero true true false rest h = absurd (omega (arith, h))
row_zero true true true rest h = (refl, h)

-- nothing was answered no: so neither before 23, and the journal fits
elements_zero : (es : List Element) (size : ℕ) → elements_number es size ≡ 0 → (survey_number es 0 ≡ 0) × (length (journal_of_elements es) ≤ size)
unfolding elements_number survey_number
elements_zero es size z =
    let r = row_zero (not (is_empty es) && every element_good es) (every has_receipt es) (every names_register es) (ask (leb (length (journal_of_elements es)) size) 23 0) z in
    (r.0, leb-true (length (journal_of_elements es)) size (ask_zero _ _ _ r.1).0)

-- ---- the answer and the output

module _ (text key : List ℕ) (n : ℕ) (out : List ℕ) where
  -- a number that isn't 0 leaves the output as it is
  refusal : {r : Restored} {o : List ℕ} → r ≡ restored text key n (length out) → (r.number ≡ 0 → ⊥) → o ≡ out
      → (r ≡ restored text key n (length out)) × (o ≡ restored_buffer text key n out)
  unfolding restored_buffer
  refusal {r} {o} e h k =
      (e, k ∙ sym (ifZero-no (restored text key n (length out)).number (overwrite out 0 (journal_by (elements_of text))) out (λ z. h (ap (λ (x : Restored). x.number) e ∙ z))))

  by : {o : Option (List Element)} → elements_of text ≡ o → restored_by o key n (length out) ≡ restored text key n (length out)
  unfolding restored
  by e = sym (ap (λ (x : Option (List Element)). restored_by x key n (length out)) e)

  -- elements that get a number
  numbered : (es : List Element) (m : ℕ) → elements_of text ≡ some es → elements_number es (length out) ≡ m → (m ≡ 0 → ⊥) → not_read m 0 ≡ restored text key n (length out)
  numbered es m e k h =
      sym (ap (λ (x : ℕ). not_read x 0) k) ∙ sym (ifZero-no (elements_number es (length out)) _ _ (λ z. h (sym k ∙ z))) ∙ by e

  -- elements whose journal is taken over
  taken : (es : List Element) → elements_of text ≡ some es → elements_number es (length out) ≡ 0 → {t : TakenOver} → t ≡ take_over (journal_of_elements es) key n
      → restored_from t (length (journal_of_elements es)) ≡ restored text key n (length out)
  taken es e z k = ap (λ (x : TakenOver). restored_from x (length (journal_of_elements es))) k ∙ sym (ifZero-yes _ _ z) ∙ by e

  number_is : (m i : ℕ) → (not_read m i).number ≡ m
  unfolding not_read
  number_is m i = refl

  refused : {r : Restored} {o : List ℕ} (m i : ℕ) → r ≡ not_read m i → not_read m i ≡ restored text key n (length out) → (m ≡ 0 → ⊥) → o ≡ out
      → (r ≡ restored text key n (length out)) × (o ≡ restored_buffer text key n out)
  refused m i e k h o = refusal (e ∙ k) (λ z. h (sym (number_is m i) ∙ sym (ap (λ (x : Restored). x.number) e) ∙ z)) o

  module _ {s : Bool} (h : (s ≡ true) ↔ Shaped text) where
    pub read_none : {r : Restored} → r ≡ not_read 28 0 → s ≡ false → (r ≡ restored text key n (length out)) × (out ≡ restored_buffer text key n out)
    read_none e other = refused 28 0 e (by ((decided text s h).1 other)) (λ z. omega arith) refl

    module _ (shaped : s ≡ true) where
      found : (es : List Element) × (elements_of text ≡ some es) × (Shape text es)
      found = let d = (decided text s h).0 shaped in (d.0, d.1, (exact text d.0).0 d.1)

      module _ {n₀ : Settings} {a : Answer} (owner : (es : List Element) → Shape text es → n₀ ≡ owner_settings es)
          (v : (es : List Element) → Shape text es → n₀ ≡ owner_settings es → SurveyedAs (length out) es a) where
        surveyed : (es : List Element) → Shape text es → SurveyedAs (length out) es a
        surveyed es x = v es x (owner es x)

        pub read_survey : {r : Restored} → r ≡ not_read a.number 0 → (a.number ≡ 0 → ⊥) → (r ≡ restored text key n (length out)) × (out ≡ restored_buffer text key n out)
        read_survey e other =
            let f = found in
            refused a.number 0 e (numbered f.0 a.number f.1 (sym (surveyed f.0 f.2).number) other) other refl

        module _ (passed : a.number ≡ 0) (small : length out < 18446744073709551616) {t : TakenOver}
            (k : (es : List Element) → Shape text es → n₀ ≡ owner_settings es → t ≡ run_journal es key n) where
          over : (es : List Element) → Shape text es → (elements_number es (length out) ≡ 0) × (length (journal_of_elements es) ≤ length out) × (t ≡ take_over (journal_of_elements es) key n)
          over es x =
              let z = sym (surveyed es x).number ∙ passed in
              let q = elements_zero es (length out) z in
              (z, q.1, k es x (owner es x) ∙ run_is_take_over es key n q.0 (omega (arith, q.1)))

          pub read_refused : {r : Restored} → r ≡ not_read t.number t.index → (t.number ≡ 0 → ⊥) → (r ≡ restored text key n (length out)) × (out ≡ restored_buffer text key n out)
          read_refused e other =
              let f = found in
              let o = over f.0 f.2 in
              refused t.number t.index e (sym (ifZero-no t.number _ _ other) ∙ taken f.0 f.1 o.0 o.2) other refl

          pub read_all : {out₁ : List ℕ} {l : ℕ} → a.length ≡ l → t.number ≡ 0
              → ((es : List Element) → Shape text es → n₀ ≡ owner_settings es → length (journal_of_elements es) ≤ length out → out₁ ≡ overwrite out 0 (journal_of_elements es))
              → (record { number = 0; index = 0; length = l; state = t.state } ≡ restored text key n (length out)) × (out₁ ≡ restored_buffer text key n out)
          unfolding restored_buffer
          read_all {out₁} {l} i z w =
              let f = found in
              let o = over f.0 f.2 in
              let e : record { number = 0; index = 0; length = l; state = t.state } ≡ restored text key n (length out)
              = ap (λ (m : ℕ). record { number = 0; index = 0; length = m; state = t.state }) (sym i ∙ (surveyed f.0 f.2).length passed) ∙ sym (ifZero-yes _ _ z) ∙ taken f.0 f.1 o.0 o.2 in (
                e,
                w f.0 f.2 (owner f.0 f.2) o.1 ∙ ap (λ (x : Option (List Element)). overwrite out 0 (journal_by x)) (sym f.1)
                    ∙ sym (ifZero-yes _ _ (sym (ap (λ (x : Restored). x.number) e))),
              )
