-- What holds of ditgrux_open and of ditgrux_open_shared, whose key is shared.
use Rattle.std.proofs.Common.{ℕ, ◌≡◌, refl, sym, ap, ◌∙◌, Bool, true, false, cond, List, arith, eqb-true, eqb, length}
use Rattle.std.proofs.lemmas.Bool.{eqb-false}
use Rattle.journal.specs.Opening.{open_number, open_buffer}
use Rattle.journal.specs.SharedKey.{SharedDigit}
use Rattle.journal.specs.State.{unopened, Opened}
use Rattle.journal.proofs.Refusals.{refused_changes_nothing}
use Rattle.journal.proofs.SharedKey.{shared_key_never_repeats, shared_digit_gets_32, shared_is_not_stored}
use Rattle.device.specs.Layout.{settings_of, width_of, key_of, kept}
use Rattle.device.specs.Calls.{Slices, open_answer, opened_number, opened_slices}
use Rattle.device.specs.Laws.{SharedKeyNeverRepeatsInC, SharedDigitGets32InC, SharedIsNotStoredInC, RefusedOpenKeepsJournal}
use Rattle.device.proofs.Below.{opened_number_lem}
use Rattle.device.proofs.Sizes.{open_six, open_answer_lem}
use Rattle.device.proofs.CallsFromC.{open_accepted, opened_typed}

pub shared_key_never_repeats_in_c : SharedKeyNeverRepeatsInC
shared_key_never_repeats_in_c settings others g h p q z y a b =
    shared_key_never_repeats (settings_of settings) (settings_of others) (width_of settings) (width_of others) (length g.journal) (length h.journal)
    (opened_typed settings true g p z).0 (opened_typed others true h q y).0 (open_accepted settings true g z).1 (open_accepted others true h y).1 a b

-- ---- by the length of the state's slice

module _ (settings : List ℕ) (g : Slices) where
  abbrev answer : Bool → Opened
  answer shared = open_answer settings shared (length g.journal) (length g.state)

  abbrev number : Bool → ℕ
  number shared = open_number (settings_of settings) shared (width_of settings) (length g.journal)

  -- what is left of the journal, if the slice is long enough and if it is not
  abbrev journal : Bool → Bool → List ℕ
  journal long shared = cond long (open_buffer (settings_of settings) shared (width_of settings) g.journal) g.journal

  abbrev left : Bool → List ℕ
  left shared = journal (eqb (length g.state) 447) shared

  -- the number is that of Open, or 6
  number_is : (shared : Bool) → length g.state ≡ 447 → (answer shared).number ≡ number shared
  number_is shared l =
      ap (λ (x : Opened). x.number) (open_answer_lem settings shared (length g.journal) (length g.state) l)
      ∙ opened_number_lem (settings_of settings) (key_of settings) shared (width_of settings) (length g.journal)

  number_six : (shared : Bool) → (length g.state ≡ 447 → ⊥) → (answer shared).number ≡ 6
  number_six shared l = ap (λ (x : Opened). x.number) (open_six settings shared (length g.journal) (length g.state) l)

  at_32 : (shared : Bool) → (answer shared).number ≡ 32 → (length g.state ≡ 447) × SharedDigit (settings_of settings) shared
  at_32 shared z = go (eqb (length g.state) 447) refl
    where
      go : (t : Bool) → eqb (length g.state) 447 ≡ t → (length g.state ≡ 447) × SharedDigit (settings_of settings) shared
      go true e =
          let l = eqb-true (length g.state) 447 e in
          (l, (shared_digit_gets_32 (settings_of settings) shared (width_of settings) (length g.journal)).0 (sym (number_is shared l) ∙ z))
      go false e = absurd (omega (arith, z, number_six shared (eqb-false (length g.state) 447 e)))

  same : ((answer true).number ≡ 32 → ⊥) → (answer true ≡ answer false) × (left true ≡ left false)
  same h = go (eqb (length g.state) 447) refl
    where
      go : (t : Bool) → eqb (length g.state) 447 ≡ t → (answer true ≡ answer false) × (left true ≡ left false)
      go true e =
          let l = eqb-true (length g.state) 447 e in
          let a = open_answer_lem settings true (length g.journal) (length g.state) l in
          let b = open_answer_lem settings false (length g.journal) (length g.state) l in
          let m = shared_is_not_stored (settings_of settings) (key_of settings) true (width_of settings) g.journal (λ z. h (number_is true l ∙ z)) in
          (a ∙ m.0 ∙ sym b, ap (λ (x : List ℕ). cond (eqb (length g.state) 447) x g.journal) m.1)
      go false e =
          let l = eqb-false (length g.state) 447 e in (
            open_six settings true (length g.journal) (length g.state) l ∙ sym (open_six settings false (length g.journal) (length g.state) l),
            ap (λ (t : Bool). journal t true) e ∙ sym (ap (λ (t : Bool). journal t false) e),
          )

  refused : (shared : Bool) → ((answer shared).number ≡ 0 → ⊥) → (left shared ≡ g.journal) × ((answer shared).state ≡ unopened)
  refused shared h = go (eqb (length g.state) 447) refl
    where
      go : (t : Bool) → eqb (length g.state) 447 ≡ t → (left shared ≡ g.journal) × ((answer shared).state ≡ unopened)
      go true e =
          let l = eqb-true (length g.state) 447 e in
          let a = open_answer_lem settings shared (length g.journal) (length g.state) l in
          let r = refused_changes_nothing.opens (settings_of settings) (key_of settings) shared (width_of settings) g.journal (λ z. h (ap (λ (x : Opened). x.number) a ∙ z)) in
          (ap (λ (t : Bool). journal t shared) e ∙ r.1, ap (λ (x : Opened). x.state) a ∙ r.0)
      go false e =
          let a = open_six settings shared (length g.journal) (length g.state) (eqb-false (length g.state) 447 e) in
          (ap (λ (t : Bool). journal t shared) e, ap (λ (x : Opened). x.state) a)

-- ---- the statements

pub shared_digit_gets_32_in_c : SharedDigitGets32InC
unfolding opened_number
shared_digit_gets_32_in_c settings shared g =
    (at_32 settings g shared, λ l d. number_is settings g shared l ∙ (shared_digit_gets_32 (settings_of settings) shared (width_of settings) (length g.journal)).1 d)

pub shared_is_not_stored_in_c : SharedIsNotStoredInC
unfolding opened_number opened_slices
shared_is_not_stored_in_c settings g h =
    let p = same settings g h in
    (ap (λ (x : Opened). x.number) p.0, λ i. record { state = kept g.state (p.0 i).state; journal = p.1 i })

pub refused_open_keeps_journal : RefusedOpenKeepsJournal
unfolding opened_number opened_slices
refused_open_keeps_journal settings shared g h =
    let p = refused settings g shared h in
    (p.0, ap (kept g.state) p.1)
