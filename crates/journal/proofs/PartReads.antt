-- What a check reads: the open section's count, and the bytes after the state's length.
use Rattle.std.proofs.Common.{ℕ, zero, suc, ◌+◌, ◌-◌, ◌≤◌, ◌≡◌, refl, sym, ap, ◌∙◌, subst, cond, ◌&&◌, List, arith, leb, length, take, drop, drop-drop}
use Rattle.primitives.specs.Number.{count_at, value_of}
use Rattle.primitives.specs.Aes.{key_schedule}
use Rattle.receipt.specs.Settings.{name_of, serial_good}
use Rattle.journal.specs.Head.{length_at, there, text_at, section_text, section_end, serial_at, start_there}
use Rattle.journal.specs.Step.{next, renewed, renew_number, sound}
use Rattle.primitives.specs.Questions.{ask, ifZero}
use Rattle.journal.specs.Checking.{text_number, after, entry_number, stopped, checked, place_checked, start_number, start_checked, end_checked, full, one_step, steps, Checked}
use Rattle.journal.specs.Parts.{ready, handed_back, part_answer, check_steps}
use Rattle.journal.specs.PartLaws.{ReadsNoOther}
use Rattle.journal.specs.declared.state.State.{State}
use Rattle.journal.proofs.Stepping.{after_within, Case, an_entry, at_end_lem, a_start, step_case}
use Rattle.journal.proofs.Passing.{renewed_length, renewed_place, state_of_lem}
use Rattle.journal.proofs.PartSteps.{turn, stuck, no_steps}

-- ---- the same bytes from a place on

module _ (j i : List ℕ) (at : ℕ) (e : drop at j ≡ drop at i) where
  -- and from each later place on
  pub drop_later : (to : ℕ) → at ≤ to → drop to j ≡ drop to i
  drop_later to h =
      let q : to ≡ at + (to - at) = omega (arith, h) in
      ap (λ (m : ℕ). drop m j) q ∙ (sym (drop-drop (to - at) at j) ∙ (ap (drop (to - at)) e ∙ (drop-drop (to - at) at i ∙ ap (λ (m : ℕ). drop m i) (sym q))))

  pub count_same : (to n : ℕ) → at ≤ to → count_at j to n ≡ count_at i to n
  unfolding count_at
  count_same to n h = ap (λ (l : List ℕ). value_of (take n l)) (drop_later to h)

  length_same : length_at j at ≡ length_at i at
  unfolding length_at
  length_same = count_same at 2 (omega arith)

  text_same : text_at j at ≡ text_at i at
  unfolding text_at
  text_same = λ x. take (length_same x) (drop_later (at + 2) (omega arith) x)

  end_same : section_end j at ≡ section_end i at
  unfolding section_end
  end_same = ap (λ (m : ℕ). at + 4 + m) (count_same at 4 (omega arith))

  section_same : section_text j at ≡ section_text i at
  unfolding section_text
  section_same = λ x. take (count_same at 4 (omega arith) x) (drop_later (at + 4) (omega arith) x)

  serial_same : serial_at j at ≡ serial_at i at
  unfolding serial_at
  serial_same = ap name_of section_same

  module _ (l : length j ≡ length i) where
    there_same : there j at ≡ there i at
    unfolding there
    there_same = λ x. leb (at + 2) (l x) && leb (at + 2 + length_same x) (l x)

    start_same : start_there j at ≡ start_there i at
    unfolding start_there
    start_same = λ x. leb (end_same x + 4) (l x) && serial_good (serial_same x)

-- ---- one step

after_place : (st : State) (text : List ℕ) → (after st text).place ≡ st.place
unfolding after next
after_place st text = refl

-- two journals that a check from this state reads alike
pub record Alike (st : State) (j i : List ℕ) : Type 0 where
  pub long : length j ≡ length i
  pub rest : drop st.length j ≡ drop st.length i
  pub count : count_at j st.place 4 ≡ count_at i st.place 4

module _ (k : List (List ℕ)) (st : State) (j i : List ℕ) (a : Alike st j i) where
  full_same : full st j ≡ full st i
  unfolding full
  full_same = ap (λ (n : ℕ). leb n st.since) a.count

  entry_same : entry_number k st j ≡ entry_number k st i
  unfolding entry_number
  entry_same = λ x. ask (there_same j i st.length a.rest a.long x) 15 (text_number k st (text_same j i st.length a.rest x))

  place_same : place_checked k st j ≡ place_checked k st i
  unfolding place_checked
  place_same = λ x. checked (entry_same x) st (text_same j i st.length a.rest x)

  number_same : start_number st j ≡ start_number st i
  unfolding start_number
  number_same = λ x. ask (start_same j i st.length a.rest a.long x) 21 (renew_number st (serial_same j i st.length a.rest x) 0)

  pair_same : start_checked st j ≡ start_checked st i
  unfolding start_checked
  pair_same =
      λ x. ifZero (number_same x) (stopped 0 (renewed st (serial_same j i st.length a.rest x))) (stopped (number_same x) st)

  last_same : end_checked st j ≡ end_checked st i
  unfolding end_checked
  last_same = λ x. cond (leb (a.long x) st.length) (stopped 0 st) (pair_same x)

  pub step_same : one_step k st j ≡ one_step k st i
  unfolding one_step
  step_same = λ x. cond (full_same x) (last_same x) (place_same x)

  -- the state after it reads them alike, too
  pub alike_step : (one_step k st j).number ≡ 0 → Alike (one_step k st j).state j i
  alike_step z = go (step_case k st j z)
    where
      go : Case k st j → Alike (one_step k st j).state j i
      go (an_entry f e q) =
          let t = text_at j st.length in
          let s = ap (λ (c : Checked). c.state) q in
          subst (λ (x : State). Alike x j i) (sym s)
          (record { long = a.long; rest = drop_later j i st.length a.rest (after st t).length (omega (arith, (after_within k st j e).1)); count = ap (λ (p : ℕ). count_at j p 4) (after_place st t) ∙ (a.count ∙ ap (λ (p : ℕ). count_at i p 4) (sym (after_place st t))) })
      go (at_end_lem f l q) = subst (λ (x : State). Alike x j i) (sym (ap (λ (c : Checked). c.state) q ∙ state_of_lem 0 st)) a
      go (a_start f l x q) =
          let s = serial_at j st.length in
          subst (λ (y : State). Alike y j i) (sym (ap (λ (c : Checked). c.state) q ∙ state_of_lem 0 (renewed st s)))
          (record {
            long = a.long;
            rest = drop_later j i st.length a.rest (renewed st s).length (omega (arith, renewed_length st s));
            count = count_same j i st.length a.rest (renewed st s).place 4 (omega (arith, renewed_place st s));
          })

-- ---- all steps

pub steps_same : (k : List (List ℕ)) (n : ℕ) (st : State) (j i : List ℕ) → Alike st j i → steps k n st j ≡ steps k n st i
steps_same k zero st j i a = no_steps k j st ∙ sym (no_steps k i st)
steps_same k (suc n) st j i a = go (one_step k st j).number refl (λ z. steps_same k n (one_step k st j).state j i (alike_step k st j i a z))
  where
    e : one_step k st j ≡ one_step k st i
    e = step_same k st j i a

    number : (one_step k st i).number ≡ (one_step k st j).number
    number = ap (λ (c : Checked). c.number) (sym e)

    go : (m : ℕ) → (one_step k st j).number ≡ m → ((one_step k st j).number ≡ 0 → steps k n (one_step k st j).state j ≡ steps k n (one_step k st j).state i)
        → steps k (suc n) st j ≡ steps k (suc n) st i
    go zero z rec = turn k j n st z ∙ (rec z ∙ (ap (λ (c : Checked). steps k n c.state i) e ∙ sym (turn k i n st (number ∙ z))))
    go (suc m) z rec = stuck k j n st z ∙ sym (stuck k i n st (number ∙ z))

pub reads_no_other : ReadsNoOther
unfolding check_steps ready
reads_no_other st j i n l r c =
    λ x. cond (sound st (l x) && leb st.since (c x)) (part_answer st (steps_same (key_schedule st.key) n st j i (record { long = l; rest = r; count = c }) x)) (handed_back 6 0 st)
