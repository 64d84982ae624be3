-- What holds of the calls that take a state: a refused one, one with a state of another length, and the settings with one of its serials.
use Rattle.std.proofs.Common.{ℕ, ◌≡◌, refl, sym, ap, ◌∙◌, subst, Bool, true, false, List, [], arith, eq-eqb, ltb-true, ltb-false, ltb, length}
use Rattle.primitives.proofs.ByteLists.{bytes_replicate}
use Rattle.receipt.specs.Settings.{name_of}
use Rattle.journal.specs.State.{no_name, used, unopened, TypedName, TypedRegister, TypedState}
use Rattle.journal.specs.Issuing.{issued}
use Rattle.journal.specs.Changing.{changed}
use Rattle.journal.specs.Preparing.{prepare_number}
use Rattle.journal.specs.Parts.{check_steps}
use Rattle.journal.specs.declared.state.State.{State}
use Rattle.journal.proofs.Refusals.{refused_changes_nothing}
use Rattle.journal.proofs.Serials.{used_length}
use Rattle.journal.proofs.Answers.{issued-number}
use Rattle.device.specs.Layout.{state_of, kept}
use Rattle.device.specs.Details.{no_details}
use Rattle.device.specs.Calls.{Slices, serial_in, settings_in, settings_in_buffer, opened_number, opened_slices, IssueCall, order_in, issue_answer, issued_number, issued_slices, change_answer, changed_number, changed_slices, steps_answer}
use Rattle.device.specs.Laws.{RefusedIssueKeepsSlices, RefusedChangeKeepsSlices, OtherLengthsGetSix, SettingsOfSerial}
use Rattle.device.proofs.Below.{changed_number_lem}
use Rattle.device.proofs.Lists.{list_left, list_six}
use Rattle.device.proofs.Sizes.{state_none, kept_not, take_six}
use Rattle.device.proofs.Spelling.{settings_are_read, kept_as_it_was}
use Rattle.device.proofs.Zeros.{unopened_checked, unopened_gets_six}
use Rattle.device.proofs.CallAnswers.{serial_none, serial_some, open_none}
use Rattle.device.proofs.PartCalls.{head_six}

-- ---- refused

module _ (g : Slices) where
  issue_left : (c : IssueCall) → (issued_number g c ≡ 0 → ⊥) → kept g.state (state_of g.state) ≡ g.state → issued_slices g c ≡ g
  unfolding issued_number issued_slices issue_answer
  issue_left c h e =
      let r = refused_changes_nothing.issues (state_of g.state) (order_in c).details c.signature g.journal h in
      let q = ap (kept g.state) r.0 ∙ e in
      λ i. record { state = q i; journal = r.1 i }

  change_left : (serial : List ℕ) → (changed_number g serial ≡ 0 → ⊥) → kept g.state (state_of g.state) ≡ g.state → changed_slices g serial ≡ g
  unfolding changed_number changed_slices change_answer
  change_left serial h e =
      let r = refused_changes_nothing.changes (state_of g.state) (name_of serial) g.journal h in
      let q = ap (kept g.state) r.0 ∙ e in
      λ i. record { state = q i; journal = r.1 i }

pub refused_issue_keeps_slices : RefusedIssueKeepsSlices
refused_issue_keeps_slices g a c h = issue_left g c h (kept_as_it_was g.state a)

pub refused_change_keeps_slices : RefusedChangeKeepsSlices
refused_change_keeps_slices g a serial h = change_left g serial h (kept_as_it_was g.state a)

-- ---- a state that is not 447 bytes long

module _ (g : Slices) (not-long : length g.state ≡ 447 → ⊥) where
  open_six : (settings : List ℕ) (shared : Bool) → (opened_number settings shared g ≡ 6) × (opened_slices settings shared g ≡ g)
  open_six settings shared =
      let p = open_none settings shared g not-long in
      let s = sym p.2 in
      let j = sym p.1 in
      (sym p.0, λ i. record { state = s i; journal = j i })

  issue_six : (c : IssueCall) → issued_number g c ≡ 6
  unfolding issued_number issue_answer
  issue_six c =
      let d = (order_in c).details in
      let n = length g.journal in
      ap (λ (x : State). (issued x d c.signature n).number) (state_none g.state not-long) ∙ issued-number unopened d c.signature n
      ∙ (unopened_gets_six d c.signature no_name n).0

  change_six : (serial : List ℕ) → changed_number g serial ≡ 6
  unfolding changed_number change_answer
  change_six serial =
      let n = length g.journal in
      ap (λ (x : State). (changed x (name_of serial) n).number) (state_none g.state not-long) ∙ changed_number_lem unopened (name_of serial) n
      ∙ (unopened_gets_six no_details [] (name_of serial) n).2

  kept_old : kept g.state (state_of g.state) ≡ g.state
  kept_old = kept_not g.state (state_of g.state) not-long

check_six : (state j : List ℕ) (n : ℕ) → (length state ≡ 447 → ⊥) → steps_answer state j n ≡ record { number = 6; index = 0; state = unopened }
unfolding steps_answer
check_six state j n h = ap (λ (x : State). check_steps x j n) (state_none state h) ∙ unopened_checked j n

pub other_lengths_get_six : OtherLengthsGetSix
other_lengths_get_six =
    record {
      opens = λ settings shared g e. open_six g e settings shared;
      issues = λ g c e. (issue_six g e c, issue_left g c (λ z. omega (arith, z, issue_six g e c)) (kept_old g e));
      lists = λ g list e. let p = list_six g list e in (list_left g list p.0 (kept_old g e), p.0, p.1);
      changes = λ g serial e. (change_six g e serial, change_left g serial (λ z. omega (arith, z, change_six g e serial)) (kept_old g e));
      prepares = λ state d room e. ap (λ (x : State). prepare_number x d room) (state_none state e) ∙ (unopened_gets_six d [] no_name room).1;
      takes = λ j key n state e. (take_six j key n (length state) e, kept_not state unopened e);
      heads = λ j key n state e. (head_six j key n (length state) e, kept_not state unopened e);
      checks = λ state j n e. (check_six state j n e, kept_not state unopened e);
    }

-- ---- the settings with one of the serials

none_typed : TypedName no_name
none_typed = record { long = refl; bytes = bytes_replicate 32 (omega arith); small = omega arith }

pub serial_typed : {st : State} → TypedState st → (which : ℕ) → TypedName (serial_in st which)
serial_typed {st} t which = go (ltb which (length (used st.serials))) refl
  where
    go : (b : Bool) → ltb which (length (used st.serials)) ≡ b → TypedName (serial_in st which)
    go true e =
        let h = ltb-true _ _ e in
        subst TypedName (serial_some st which refl no_name h) (t.serials which (omega (arith, h, used_length st.serials, t.eight)))
    go false e = subst TypedName (serial_none st which refl (ltb-false _ _ e)) none_typed

settings_typed_in : {st : State} → TypedState st → (which : ℕ) → TypedRegister (settings_in st which) st.width st.key
unfolding settings_in
settings_typed_in {st} t which =
    let s = serial_typed t which in
    record {
      settings = record { csp = t.csp; id = t.id.long; serial = s.long };
      id = t.id.small;
      serial = s.small;
      width = t.width;
      key_length = t.key_length;
      key_bytes = t.key_bytes;
    }

pub settings_of_serial : SettingsOfSerial
unfolding settings_in_buffer
settings_of_serial st which out t l = rw (eq-eqb (length out) 123 l) (settings_are_read (settings_in st which) st.width st.key (settings_typed_in t which))
