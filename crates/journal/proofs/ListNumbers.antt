-- Numbers that a list does not give: 12 to none of its receipts, and 6 to none but the first, since an Issue that is not refused leaves a sound state.
use Rattle.std.proofs.Common.{ℕ, zero, suc, ◌≤◌, ◌≡◌, refl, sym, ap, ◌∙◌, subst, Bool, true, false, List, [], ◌∷◌, arith, le-leb, length}
use Rattle.primitives.specs.Counter.{counter_fits}
use Rattle.primitives.specs.Questions.{ask}
use Rattle.primitives.proofs.Rows.{true-is-not-false, ifZero-yes}
use Rattle.receipt.specs.Amount.{amount_limit}
use Rattle.receipt.specs.DateTime.{date_good}
use Rattle.receipt.specs.Details.{amounts_within, After}
use Rattle.receipt.specs.declared.details.Details.{Details}
use Rattle.journal.specs.Step.{sound, next, number_above, first_good, new_counter, details_number_within}
use Rattle.journal.specs.Issuing.{signature_sized, text_of, entry_fits, issue_number, issue_number_within, issued, issued_within, issue_buffer}
use Rattle.journal.specs.Listing.{issued_list}
use Rattle.journal.specs.Lists.{SixIssuesNone, ListNeverGets12}
use Rattle.journal.specs.declared.state.State.{State}
use Rattle.journal.specs.State.{IssuedList}
use Rattle.journal.proofs.Answers.{Sound, sound-yes, issue-zero}
use Rattle.journal.proofs.Check.{new_fits, new_is}
use Rattle.journal.proofs.Certificates.{issue_six}
use Rattle.journal.proofs.Touching.{issue_room, longer}
use Rattle.journal.proofs.ListSteps.{answer_none, answer_yes, answer_no}

sound_both : (st : State) (room : ℕ) → Sound st → st.length ≤ room → sound st room ≡ true
unfolding sound
sound_both st room s l = rw (sound-yes st s, le-leb st.length room l)

module _ (st : State) (d : Details) (sig buf : List ℕ) (z : issue_number st d sig (length buf) ≡ 0) where
  next_sound : Sound (next st d (text_of st d sig))
  unfolding next
  next_sound =
      let a = issue-zero st d sig (length buf) z in
      let s = a.sound in
      let e = ap (λ (x : After). x.counter) (new_is st d a.details.counter) in
      record {
        csp = s.csp;
        id = s.id;
        serials = s.serials;
        width = s.width;
        counter = ap (counter_fits st.width) e ∙ (new_fits st d a.details.counter).fits;
        issued = omega (arith, s.issued, a.details.above);
        since = omega (arith, s.since);
        place = omega (arith, s.place);
        head = omega (arith, s.head);
      }

  issued_sound : sound (issued st d sig (length buf)).state (length (issue_buffer st d sig buf)) ≡ true
  unfolding issued_within
  issued_sound =
      let a = issue-zero st d sig (length buf) z in
      let e = ifZero-yes (next st d (text_of st d sig)) st z in
      sound_both (issued st d sig (length buf)).state (length (issue_buffer st d sig buf)) (subst Sound (sym e) next_sound)
      (omega (arith, longer st d sig buf z, a.fits, issue_room st d sig buf))

-- a sound state gets another number, or none
not_six : (st : State) (d : Details) (room : ℕ) → sound st room ≡ true → issue_number st d [] room ≡ 6 → ⊥
not_six st d room s e = true-is-not-false (sym (issue_six st d [] room e) ∙ s)

sound_list : (ds : List Details) (st : State) (buf : List ℕ) → sound st (length buf) ≡ true → (issued_list st ds buf).number ≡ 6 → ⊥
sound_list [] st buf s e = omega (arith, ap (λ (r : IssuedList). r.number) (answer_none amount_limit st buf), e)
sound_list (d ∷ ds) st buf s e = go (issue_number st d [] (length buf)) refl (sound_list ds (issued st d [] (length buf)).state (issue_buffer st d [] buf))
  where
    go : (k : ℕ) → issue_number st d [] (length buf) ≡ k
        → (sound (issued st d [] (length buf)).state (length (issue_buffer st d [] buf)) ≡ true
        → (issued_list (issued st d [] (length buf)).state ds (issue_buffer st d [] buf)).number ≡ 6 → ⊥) → ⊥
    go zero z f = f (issued_sound st d [] buf z) (sym (ap (λ (r : IssuedList). r.number) (answer_yes amount_limit st d ds buf z)) ∙ e)
    go (suc k) z f = not_six st d (length buf) s (sym (ap (λ (r : IssuedList). r.number) (answer_no amount_limit st d ds buf (λ q. omega (arith, z, q)))) ∙ e)

six_none : (ds : List Details) (st : State) (buf : List ℕ) → (issued_list st ds buf).number ≡ 6 → (issued_list st ds buf).count ≡ 0
six_none [] st buf e = ap (λ (r : IssuedList). r.count) (answer_none amount_limit st buf)
six_none (d ∷ ds) st buf e = go (issue_number st d [] (length buf)) refl
  where
    go : (k : ℕ) → issue_number st d [] (length buf) ≡ k → (issued_list st (d ∷ ds) buf).count ≡ 0
    go zero z =
        absurd (sound_list ds (issued st d [] (length buf)).state (issue_buffer st d [] buf) (issued_sound st d [] buf z)
        (sym (ap (λ (r : IssuedList). r.number) (answer_yes amount_limit st d ds buf z)) ∙ e))
    go (suc k) z = ap (λ (r : IssuedList). r.count) (answer_no amount_limit st d ds buf (λ q. omega (arith, z, q)))

pub six_issues_none : SixIssuesNone
six_issues_none st ds buf e = six_none ds st buf e

-- ---- 12

-- in Issue's row the signature is good
no_twelve : (a b c d e f h : Bool) → ask a 6 (ask b 7 (ask c 8 (ask d 9 (ask e 10 (ask f 11 (ask h 13 0)))))) ≡ 12 → ⊥
unfolding ask
no_twelve false b c d e f h z = omega (arith, z)
no_twelve true false c d e f h z = omega (arith, z)
no_twelve true true false d e f h z = omega (arith, z)
no_twelve true true true false e f h z = omega (arith, z)
no_twelve true true true true false f h z = omega (arith, z)
no_twelve true true true true true false h z = omega (arith, z)
no_twelve true true true true true true false z = omega (arith, z)
no_twelve true true true true true true true z = omega (arith, z)

not_twelve : (st : State) (d : Details) (room : ℕ) → issue_number st d [] room ≡ 12 → ⊥
unfolding issue_number_within details_number_within signature_sized ask
not_twelve st d room z =
    no_twelve (sound st room) (number_above st d) (date_good d.date) (amounts_within amount_limit d.amounts) (first_good st d) (new_counter st d).fits
    (entry_fits st (text_of st d []) room) z

never_twelve : (ds : List Details) (st : State) (buf : List ℕ) → (issued_list st ds buf).number ≡ 12 → ⊥
never_twelve [] st buf e = omega (arith, ap (λ (r : IssuedList). r.number) (answer_none amount_limit st buf), e)
never_twelve (d ∷ ds) st buf e = go (issue_number st d [] (length buf)) refl (never_twelve ds (issued st d [] (length buf)).state (issue_buffer st d [] buf))
  where
    go : (k : ℕ) → issue_number st d [] (length buf) ≡ k → ((issued_list (issued st d [] (length buf)).state ds (issue_buffer st d [] buf)).number ≡ 12 → ⊥) → ⊥
    go zero z f = f (sym (ap (λ (r : IssuedList). r.number) (answer_yes amount_limit st d ds buf z)) ∙ e)
    go (suc k) z f = not_twelve st d (length buf) (sym (ap (λ (r : IssuedList). r.number) (answer_no amount_limit st d ds buf (λ q. omega (arith, z, q)))) ∙ e)

pub list_never_gets_12 : ListNeverGets12
list_never_gets_12 st ds buf e = never_twelve ds st buf e
