-- The answer of `export` and its output, from what the calls in it say.
use Rattle.std.proofs.lemmas.List.{length-map}
use Rattle.std.proofs.lemmas.Bool.{not-true, not-false}
use mathlib.Core.Option
use mathlib.Core.Option.{Option, none, some}
use Rattle.primitives.specs.Bytes.{AllBytes}
use Rattle.primitives.specs.Place.{overwrite, placed, room}
use Rattle.primitives.specs.Answers.{written, answer_with, bufferWith}
use Rattle.primitives.proofs.Rows.{true-is-not-false, ifZero-yes, ifZero-no}
use Rattle.journal.specs.Head.{section_end}
use Rattle.journal.specs.State.{used, in_eight}
use Rattle.journal.specs.Checking.{take_over, accepted}
use Rattle.journal.specs.Valid.{Owner, Pair, serials_of, state_after, Valid}
use Rattle.journal.specs.declared.state.TakenOver.{TakenOver}
use Rattle.journal.proofs.Serials.{used_eight}
use Rattle.journal.proofs.Placing.{length_serials}
use Rattle.journal.proofs.Accepting.{accepted_valid, valid_work}
use Rattle.journal.proofs.AcceptedIsWritten.{names_good}
use Rattle.journal.proofs.JournalStates.{state_of_journal}
use Rattle.exports.specs.Spelled.{pairs_spelled, GoodPairs, pairs_of}
use Rattle.exports.specs.Groups.{Group}
use Rattle.exports.specs.Output.{start, Out, Puts}
use Rattle.exports.specs.Writing.{as_exported, export_text, elements_for, export_of, answered, not_written, exported, export_buffer}
use Rattle.exports.specs.Passing.{GroupsThere}
use Rattle.exports.specs.Running.{ExportPut}
use Rattle.exports.specs.GroupLaws.{text_pair}
use Rattle.std.proofs.Common.{Some, None, Err, ℕ, ◌≤◌, ◌≡◌, refl, sym, ap, ◌∙◌, subst, Bool, true, false, not, List, map, ◌↔◌, length, drop}
use Rattle.primitives.specs.declared.refusal.Refusal.TheVariants.{BadExport, OutputShort}
use Rattle.primitives.proofs.Refusals.{numbers_are_not_zero}
use Rattle.journal.specs.declared.state.RefusedAt.{RefusedAt}
use Rattle.journal.specs.State.{as_taken_over}
use Rattle.exports.specs.Writing.{Exported}
use Rattle.exports.proofs.Putting.{Begins, two_runs, no_run}
use Rattle.exports.proofs.GroupsBack.{groups_of_there, no_groups_there}
use Rattle.exports.proofs.PairsBack.{valid_spelled, valid_good, valid_pairs, after_owner, owner_room}

-- ---- a valid journal

state_serials : (o : Owner) (key : List ℕ) (n : ℕ) (ps : List Pair) → used (accepted (state_after o key n ps)).state.serials ≡ used (state_after o key n ps).serials
unfolding accepted
state_serials o key n ps = refl

after_serials : (o : Owner) (key : List ℕ) (n : ℕ) (ps : List Pair) → (state_after o key n ps).serials ≡ in_eight (serials_of ps)
unfolding state_after
after_serials o key n ps = refl

module _ {j key : List ℕ} {n : ℕ} (v : Valid j key n) where
  -- as many serials are used as there are pairs
  pub used_pairs : length (used (take_over j key n).state.serials) ≡ length (pairs_of j)
  used_pairs =
      let ps = v.pairs in
      ap (λ (t : TakenOver). length (used t.state.serials)) (state_of_journal j key n v)
      ∙ ap length (state_serials v.owner key n ps ∙ ap used (after_serials v.owner key n ps) ∙ used_eight (serials_of ps) (names_good _ ps (valid_work v).names))
      ∙ length_serials ps ∙ sym (length-map ps (text_pair v.owner n)) ∙ ap length (sym (valid_pairs v))

  module _ (s : List ℕ) (t : GroupsThere (length (pairs_of j)) s) where
    text : List ℕ
    text = export_text (elements_for (pairs_of j) t.groups)

    -- what a run writes or measures
    pub run_puts : (d : Bool) (o o' : Out) → ExportPut d j s (length (pairs_of j)) o o' → Puts d o o' (export_text (elements_for (pairs_of j) t.groups))
    run_puts d o o' x =
        let ps = map (text_pair v.owner n) v.pairs in
        let e = valid_spelled v in
        x.is (pairs_of j) t.groups (subst GoodPairs (sym (valid_pairs v)) (valid_good v)) t.good refl t.count
        (subst (λ (l : List ℕ). section_end l 7 ≤ length l) (sym e) (owner_room v.owner v.good ps))
        (ap (λ (l : List ℕ). drop (section_end l 7) l) e ∙ after_owner v.owner v.good ps ∙ ap pairs_spelled (sym (valid_pairs v)))
        t.bytes

    pub text_is : export_of j s ≡ some (export_text (elements_for (pairs_of j) t.groups))
    unfolding export_of
    text_is = ap (Option.map (λ (gs : List Group). export_text (elements_for (pairs_of j) gs))) (groups_of_there (length (pairs_of j)) s t)

  pub text_none : (s : List ℕ) → (GroupsThere (length (pairs_of j)) s → ⊥) → export_of j s ≡ none
  unfolding export_of
  text_none s h = ap (Option.map (λ (gs : List Group). export_text (elements_for (pairs_of j) gs))) (no_groups_there (length (pairs_of j)) s h)

-- ---- the answers

written_room : (out y : List ℕ) → room out 0 y ≡ true → written out y ≡ record { number = 0; length = length y }
unfolding written
written_room out y e = rw e

written_full : (out y : List ℕ) → room out 0 y ≡ false → written out y ≡ record { number = 23; length = 0 }
unfolding written
written_full out y e = rw e

placed_yes : (out y : List ℕ) → room out 0 y ≡ true → placed out 0 y ≡ overwrite out 0 y
unfolding placed
placed_yes out y e = rw e

placed_no : (out y : List ℕ) → room out 0 y ≡ false → placed out 0 y ≡ out
unfolding placed
placed_no out y e = rw e

module _ (j key : List ℕ) (n : ℕ) (s out : List ℕ) where
  -- the journal is not accepted
  pub export_refused : (r : RefusedAt) → as_taken_over (Err r) ≡ take_over j key n → (as_exported (Err r) ≡ exported j key n s out) × (out ≡ export_buffer j key n s out)
  unfolding exported export_buffer
  export_refused r e =
      let z : (take_over j key n).number ≡ 0 → ⊥ = λ q. numbers_are_not_zero r.question (ap (λ (x : TakenOver). x.number) e ∙ q) in (
        ap not_written e ∙ sym (ifZero-no (take_over j key n).number (answered (answer_with 28 (export_of j s) out)) (not_written (take_over j key n)) z),
        sym (ifZero-no (take_over j key n).number (bufferWith (export_of j s) out) out z),
      )

  module _ {t : TakenOver} (e : t ≡ take_over j key n) (z : t.number ≡ 0) where
    zero_is : (take_over j key n).number ≡ 0
    zero_is = sym (ap (λ (x : TakenOver). x.number) e) ∙ z

    answer_is : (o : Option (List ℕ)) → export_of j s ≡ o → exported j key n s out ≡ answered (answer_with 28 o out)
    unfolding exported
    answer_is o q =
        ifZero-yes (answered (answer_with 28 (export_of j s) out)) (not_written (take_over j key n)) zero_is ∙ ap (λ (x : Option (List ℕ)). answered (answer_with 28 x out)) q

    buffer_is : (o : Option (List ℕ)) → export_of j s ≡ o → export_buffer j key n s out ≡ bufferWith o out
    unfolding export_buffer
    buffer_is o q = ifZero-yes (bufferWith (export_of j s) out) out zero_is ∙ ap (λ (x : Option (List ℕ)). bufferWith x out) q

    module _ (b : AllBytes j) {k : ℕ} (u : k ≡ length (used t.state.serials)) where
      valid : Valid j key n
      valid = accepted_valid j key n b zero_is

      many : k ≡ length (pairs_of j)
      many = u ∙ ap (λ (x : TakenOver). length (used x.state.serials)) e ∙ used_pairs valid

      there : GroupsThere k s → GroupsThere (length (pairs_of j)) s
      there g = subst (λ (m : ℕ). GroupsThere m s) many g

      module _ {g : Bool} (f : (g ≡ true) ↔ GroupsThere k s) where
        -- 28
        pub export_other : {r : RefusedAt} → not g ≡ true → r ≡ record { question = BadExport; index = 0 } → (as_exported (Err r) ≡ exported j key n s out) × (out ≡ export_buffer j key n s out)
        export_other h p =
            let no_groups : GroupsThere (length (pairs_of j)) s → ⊥ =
            λ x. true-is-not-false (sym (not-true g h) ∙ f.1 (subst (λ (m : ℕ). GroupsThere m s) (sym many) x)) in
            let q = text_none valid s no_groups in
            (ap (λ (x : RefusedAt). as_exported (Err x)) p ∙ sym (answer_is none q), sym (buffer_is none q))

        module _ (h : not g ≡ false) {m m' : Out} (begins : Begins (length out) m) (first : ExportPut false j s k m m') where
          groups : GroupsThere (length (pairs_of j)) s
          groups = there (f.0 (not-false g h))

          whole : List ℕ
          whole = export_text (elements_for (pairs_of j) groups.groups)

          text_some : export_of j s ≡ some whole
          unfolding whole
          text_some = text_is valid s groups

          measured : Puts false m m' whole
          unfolding whole
          measured = run_puts valid s groups false m m' (subst (λ (i : ℕ). ExportPut false j s i m m') many first)

          -- 23
          pub export_full : {r : RefusedAt} → m'.at ≡ None → r ≡ record { question = OutputShort; index = 0 } → (as_exported (Err r) ≡ exported j key n s out) × (out ≡ export_buffer j key n s out)
          export_full l p =
              let c = no_run out begins measured l in (
                ap (λ (x : RefusedAt). as_exported (Err x)) p ∙ sym (answer_is (some whole) text_some ∙ ap answered (written_full out whole c)),
                sym (buffer_is (some whole) text_some ∙ placed_no out whole c),
              )

          -- written
          pub export_written : {size : ℕ} → m'.at ≡ Some size → {w w' : Out} → w.bytes ≡ out → w.at ≡ start → ExportPut true j s k w w'
              → (◌≡◌ {A = Exported} (record { number = 0; index = 0; length = size }) (exported j key n s out)) × (w'.bytes ≡ export_buffer j key n s out)
          unfolding whole
          export_written {size} l {w} {w'} e a second =
              let b : Begins (length w.bytes) m = subst (λ (x : List ℕ). Begins (length x) m) (sym e) begins in
              let x = two_runs b measured l a (run_puts valid s groups true w w' (subst (λ (i : ℕ). ExportPut true j s i w w') many second)) in
              let r : room out 0 whole ≡ true = subst (λ (y : List ℕ). room y 0 whole ≡ true) e x.room in (
                ap (λ (i : ℕ). record { number = 0; index = 0; length = i }) x.at ∙ sym (answer_is (some whole) text_some ∙ ap answered (written_room out whole r)),
                x.is ∙ ap (λ (y : List ℕ). overwrite y 0 whole) e ∙ sym (buffer_is (some whole) text_some ∙ placed_yes out whole r),
              )
