-- Issue and a list of receipts touch no byte but those of the new entries and of the open section's count, and Change none but those that it appends.
use Rattle.std.proofs.Common.{ℕ, zero, suc, ◌+◌, ◌≤◌, ◌<◌, ◌≡◌, refl, ap, ◌∙◌, Bool, true, false, List, [], ◌∷◌, arith, leb-true, leb-false, leb, length, get_or}
use Rattle.primitives.specs.Place.{overwrite}
use Rattle.primitives.specs.Number.{bytes_of}
use Rattle.primitives.proofs.Numbers.{length_bytes_of}
use Rattle.primitives.proofs.Over.{length_over}
use Rattle.primitives.proofs.Rewrites.{get_d_before, get_d_after}
use Rattle.receipt.specs.Amount.{amount_limit}
use Rattle.receipt.specs.declared.details.Details.{Details}
use Rattle.journal.specs.Head.{entry_text}
use Rattle.primitives.specs.Questions.{ifZero}
use Rattle.journal.specs.Step.{next}
use Rattle.journal.specs.Issuing.{text_of, issue_number, with_entry, issued, issued_within, issue_buffer, issue_buffer_within}
use Rattle.journal.specs.Listing.{issued_list, issued_list_within, list_buffer, list_buffer_within}
use Rattle.journal.specs.Lists.{ListTouchesNoOther}
use Rattle.journal.specs.Demands.{TouchesNoOther}
use Rattle.journal.specs.declared.state.State.{State}
use Rattle.journal.specs.State.{IssuedList, count_place_now}
use Rattle.primitives.proofs.Rows.{ifZero-yes, ifZero-no}
use Rattle.journal.proofs.Answers.{issue-zero}
use Rattle.journal.proofs.Appended.{form_is_appended}
use Rattle.journal.proofs.Places.{length_entry}
use Rattle.journal.proofs.ListSteps.{answer_yes, answer_no, buffer_yes, buffer_no}

-- a byte outside of what is written
pub outside : (xs : List ℕ) (at : ℕ) (ys : List ℕ) (i : ℕ) → at + length ys ≤ length xs → (at ≤ i → i < at + length ys → ⊥) → get_or (overwrite xs at ys) i 0 ≡ get_or xs i 0
outside xs at ys i room h = go (leb at i) refl
  where
    go : (t : Bool) → leb at i ≡ t → get_or (overwrite xs at ys) i 0 ≡ get_or xs i 0
    go false e = get_d_before xs at ys i (leb-false at i e) (omega arith)
    go true e = after (leb (at + length ys) i) refl
      where
        after : (t : Bool) → leb (at + length ys) i ≡ t → get_or (overwrite xs at ys) i 0 ≡ get_or xs i 0
        after true q = get_d_after xs at ys i (leb-true (at + length ys) i q) room
        after false q = absurd (h (leb-true at i e) (leb-false (at + length ys) i q))

module _ (st : State) (d : Details) (sig buf : List ℕ) (i : ℕ) (c : count_place_now st ≤ i → i < count_place_now st + 4 → ⊥)
    (e : st.length ≤ i → i < st.length + length (entry_text (text_of st d sig)) → ⊥) where
  taken : issue_number st d sig (length buf) ≡ 0 → get_or (with_entry st (text_of st d sig) buf) i 0 ≡ get_or buf i 0
  unfolding with_entry
  taken z =
      let a = issue-zero st d sig (length buf) z in
      let t = entry_text (text_of st d sig) in
      let n = bytes_of 4 (st.since + 1) in
      let l = length_bytes_of 4 (st.since + 1) in
      let o = length_over buf st.length t a.fits in
      let p = a.sound.place in
      let w = a.within in
      let c' : count_place_now st ≤ i → i < count_place_now st + length n → ⊥ = λ x y. c x (omega arith) in
      outside (overwrite buf st.length t) (count_place_now st) n i (omega arith) c' ∙ outside buf st.length t i a.fits e

  same_byte : get_or (issue_buffer st d sig buf) i 0 ≡ get_or buf i 0
  unfolding issue_buffer_within
  same_byte = go (issue_number st d sig (length buf)) refl
    where
      go : (k : ℕ) → issue_number st d sig (length buf) ≡ k → get_or (ifZero (issue_number st d sig (length buf)) (with_entry st (text_of st d sig) buf) buf) i 0 ≡ get_or buf i 0
      go zero z = ap (λ (l : List ℕ). get_or l i 0) (ifZero-yes (with_entry st (text_of st d sig) buf) buf z) ∙ taken z
      go (suc k) z = ap (λ (l : List ℕ). get_or l i 0) (ifZero-no (issue_number st d sig (length buf)) (with_entry st (text_of st d sig) buf) buf (λ q. omega (arith, z, q)))

pub touches_no_other : TouchesNoOther
touches_no_other st d sig buf i c e = same_byte st d sig buf i c e

-- ---- a list of receipts

module _ (st : State) (d : Details) (sig buf : List ℕ) where
  -- where it is not refused: the count stays where it is, the journal is longer by the entry
  place_stays : issue_number st d sig (length buf) ≡ 0 → count_place_now (issued st d sig (length buf)).state ≡ count_place_now st
  unfolding issued_within next
  place_stays z = ap count_place_now (ifZero-yes (next st d (text_of st d sig)) st z)

  pub longer : issue_number st d sig (length buf) ≡ 0 → (issued st d sig (length buf)).state.length ≡ st.length + length (entry_text (text_of st d sig))
  longer z = let f = (form_is_appended st d sig buf z).0 in omega (arith, f, length_entry (text_of st d sig))

  -- the buffer is as long as it was
  whole_room : issue_number st d sig (length buf) ≡ 0 → length (with_entry st (text_of st d sig) buf) ≡ length buf
  unfolding with_entry
  whole_room z =
      let a = issue-zero st d sig (length buf) z in
      let o = length_over buf st.length (entry_text (text_of st d sig)) a.fits in
      let l = length_bytes_of 4 (st.since + 1) in
      length_over (overwrite buf st.length (entry_text (text_of st d sig))) (count_place_now st) (bytes_of 4 (st.since + 1)) (omega (arith, a.sound.place, a.within, o, l)) ∙ o

  pub issue_room : length (issue_buffer st d sig buf) ≡ length buf
  unfolding issue_buffer_within
  issue_room = go (issue_number st d sig (length buf)) refl
    where
      go : (k : ℕ) → issue_number st d sig (length buf) ≡ k → length (ifZero (issue_number st d sig (length buf)) (with_entry st (text_of st d sig) buf) buf) ≡ length buf
      go zero z = ap length (ifZero-yes (with_entry st (text_of st d sig) buf) buf z) ∙ whole_room z
      go (suc k) z = ap length (ifZero-no (issue_number st d sig (length buf)) (with_entry st (text_of st d sig) buf) buf (λ q. omega (arith, z, q)))

-- a journal never becomes shorter
list_longer : (ds : List Details) (st : State) (buf : List ℕ) → st.length ≤ (issued_list st ds buf).state.length
unfolding issued_list_within
list_longer [] st buf = omega arith
list_longer (d ∷ ds) st buf = go (issue_number st d [] (length buf)) refl (list_longer ds (issued st d [] (length buf)).state (issue_buffer st d [] buf))
  where
    go : (k : ℕ) → issue_number st d [] (length buf) ≡ k
        → (issued st d [] (length buf)).state.length ≤ (issued_list (issued st d [] (length buf)).state ds (issue_buffer st d [] buf)).state.length
        → st.length ≤ (issued_list st (d ∷ ds) buf).state.length
    go zero z h = let e = ap (λ (r : IssuedList). r.state.length) (answer_yes amount_limit st d ds buf z) in omega (arith, e, h, longer st d [] buf z)
    go (suc k) z h = let e = ap (λ (r : IssuedList). r.state.length) (answer_no amount_limit st d ds buf (λ q. omega (arith, z, q))) in omega (arith, e)

list_touches : (ds : List Details) (st : State) (buf : List ℕ) (i : ℕ) → (count_place_now st ≤ i → i < count_place_now st + 4 → ⊥)
    → (st.length ≤ i → i < (issued_list st ds buf).state.length → ⊥) → get_or (list_buffer st ds buf) i 0 ≡ get_or buf i 0
unfolding list_buffer_within
list_touches [] st buf i c e = refl
list_touches (d ∷ ds) st buf i c e = go (issue_number st d [] (length buf)) refl (list_touches ds st' buf' i)
  where
    st' : State
    st' = (issued st d [] (length buf)).state

    buf' : List ℕ
    buf' = issue_buffer st d [] buf

    go : (k : ℕ) → issue_number st d [] (length buf) ≡ k
        → ((count_place_now st' ≤ i → i < count_place_now st' + 4 → ⊥) → (st'.length ≤ i → i < (issued_list st' ds buf').state.length → ⊥) → get_or (list_buffer st' ds buf') i 0 ≡ get_or buf' i 0)
        → get_or (list_buffer st (d ∷ ds) buf) i 0 ≡ get_or buf i 0
    go zero z f =
        let p = place_stays st d [] buf z in
        let l = longer st d [] buf z in
        let m = list_longer ds st' buf' in
        let q = ap (λ (r : IssuedList). r.state.length) (answer_yes amount_limit st d ds buf z) in
        let e₁ : st.length ≤ i → i < st.length + length (entry_text (text_of st d [])) → ⊥ = λ x y. e x (omega (arith, y, l, m, q)) in
        let e₂ : st'.length ≤ i → i < (issued_list st' ds buf').state.length → ⊥ = λ x y. e (omega (arith, x, l)) (omega (arith, y, q)) in
        let c₂ : count_place_now st' ≤ i → i < count_place_now st' + 4 → ⊥ = λ x y. c (omega (arith, x, p)) (omega (arith, y, p)) in
        ap (λ (b : List ℕ). get_or b i 0) (buffer_yes amount_limit st d ds buf z) ∙ f c₂ e₂ ∙ same_byte st d [] buf i c e₁
    go (suc k) z f = ap (λ (b : List ℕ). get_or b i 0) (buffer_no amount_limit st d ds buf (λ q. omega (arith, z, q)))

pub list_touches_no_other : ListTouchesNoOther
list_touches_no_other st ds buf i c e = list_touches ds st buf i c e
