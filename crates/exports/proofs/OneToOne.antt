-- Each reading of the code's answers tells all answers apart.
use Rattle.std.proofs.Common.{◌≡◌, ℕ, refl, sym, ap, ◌∙◌, Some, None, Ok, Err}
use Rattle.primitives.specs.Refusals.{number_of}
use Rattle.primitives.specs.declared.refusal.Refusal.{Refusal}
use Rattle.primitives.proofs.Rows.{true-is-not-false}
use Rattle.primitives.proofs.Refusals.{numbers_are_not_zero, numbers_differ}
use Rattle.exports.specs.Writing.{Exported}
use Rattle.exports.specs.Reading.{Restored}
use Rattle.exports.specs.Naming.{Named}
use Rattle.exports.specs.OneToOne.{ExportedTold, RestoredTold, NamedTold}

-- an answer is no refusal
not_both {ℓ} : {X : Type ℓ} (q : Refusal) {n m : ℕ} → n ≡ m → n ≡ 0 → m ≡ number_of q → X
not_both q e z m = absurd (numbers_are_not_zero q (sym m ∙ (sym e ∙ z)))

pub exported_told : ExportedTold
exported_told (Ok a) (Ok b) e = ap Ok (ap (λ (x : Exported). x.length) e)
exported_told (Ok a) (Err q) e = not_both q.question (ap (λ (x : Exported). x.number) e) refl refl
exported_told (Err p) (Ok b) e = not_both p.question (ap (λ (x : Exported). x.number) (sym e)) refl refl
exported_told (Err p) (Err q) e =
    λ i. Err (record { question = numbers_differ p.question q.question (ap (λ (x : Exported). x.number) e) i; index = (e i).index })

pub restored_told : RestoredTold
restored_told (Ok a) (Ok b) e = λ i. Ok (record { length = (e i).length; state = (e i).state })
restored_told (Ok a) (Err q) e = not_both q.question (ap (λ (x : Restored). x.number) e) refl refl
restored_told (Err p) (Ok b) e = not_both p.question (ap (λ (x : Restored). x.number) (sym e)) refl refl
restored_told (Err p) (Err q) e =
    λ i. Err (record { question = numbers_differ p.question q.question (ap (λ (x : Restored). x.number) e) i; index = (e i).index })

pub named_told : NamedTold
named_told None None e = refl
named_told None (Some s) e = true-is-not-false (ap (λ (n : Named). n.good) e)
named_told (Some r) None e = true-is-not-false (sym (ap (λ (n : Named). n.good) e))
named_told (Some r) (Some s) e = ap Some (ap (λ (n : Named). n.settings) e)
