-- A check in parts from C: its calls return and write what those of the journal give, and so what ditgrux_take_over returns and writes.
use Rattle.std.proofs.Common.{ℕ, zero, suc, ◌+◌, ◌<◌, ◌≡◌, refl, sym, ap, ◌∙◌, subst, Bool, true, false, List, [], ◌∷◌, ◌++◌, arith, eqb-true, eqb, length, replicate}
use Rattle.std.proofs.lemmas.Bool.{eqb-false}
use Rattle.primitives.specs.Bytes.{AllBytes}
use Rattle.primitives.proofs.Rows.{ifZero-yes, ifZero-no}
use Rattle.journal.specs.State.{unopened, TypedState}
use Rattle.journal.specs.declared.state.TakenOver.{TakenOver}
use Rattle.journal.specs.Checking.{accepted, check_head, take_over}
use Rattle.journal.specs.Parts.{check_steps, checks_after, check_in_parts, total}
use Rattle.journal.specs.PartLaws.{SameAnswer}
use Rattle.journal.specs.Valid.{entries_in, state_after}
use Rattle.journal.specs.declared.state.State.{State}
use Rattle.journal.proofs.Refusals.{refused_changes_nothing}
use Rattle.journal.proofs.CheckCalls.{head_passed}
use Rattle.journal.proofs.PartSteps.{accepted_number, accepted_state, went, checks_none, checks_on, checks_stuck, total_more, total_none, steps_are_take_over, end_is_seen}
use Rattle.journal.proofs.PartPlaces.{state_after_steps, grown_journal_goes_on, refusal_is_take_overs}
use Rattle.journal.proofs.TypedChecks.{checked_typed, head_typed}
use Rattle.device.specs.Layout.{state_bytes, array_of, state_of, kept}
use Rattle.device.specs.Calls.{width_with, take_over_answer, head_answer, steps_answer}
use Rattle.device.specs.PartLaws.{LeftByCheck, head_from_c, steps_from_c, checks_from_c, in_parts_from_c, SameAsTakeOverInC, ChecksAreTakeOverInC, RefusalIsTakeOversInC, EndIsSeenInC, StoredStateIsChecked, GoesOnInC, GrownJournalGoesOnInC, RefusedCheckKeepsState, RefusedHeadIsUnopened}
use Rattle.device.proofs.Below.{accepted_is, head_index, in_parts_is}
use Rattle.device.proofs.Sizes.{array_whole, array_long, array_bytes, width_whole, kept_all, take_six, take_answer}
use Rattle.device.proofs.Slots.{typed_lengths}
use Rattle.device.proofs.Writers.{length_state}
use Rattle.device.proofs.Spelling.{state_is_read, kept_as_it_was}
use Rattle.device.proofs.PartCalls.{head_six, head_answer_lem}

-- ---- checks one after the other

module _ (c : LeftByCheck) (j : List ℕ) where
  none_left : checks_from_c c j [] ≡ c
  unfolding checks_from_c
  none_left = refl

  goes_on : (n : ℕ) (ns : List ℕ) → c.number ≡ 0 → checks_from_c c j (n ∷ ns) ≡ checks_from_c (steps_from_c c.state j n) j ns
  unfolding checks_from_c
  goes_on n ns z = ifZero-yes _ _ z

  ends : (ns : List ℕ) → (c.number ≡ 0 → ⊥) → checks_from_c c j ns ≡ c
  unfolding checks_from_c
  ends [] h = refl
  ends (n ∷ ns) h = ifZero-no c.number _ _ h

-- ---- the bytes are those of the journal's state

accepted_whole : {t : TakenOver} (st : State) → t ≡ accepted st → t ≡ accepted t.state
accepted_whole st e = e ∙ ap accepted (sym (ap (λ (x : TakenOver). x.state) e ∙ accepted_state st))

pub record Same (c : LeftByCheck) (t : TakenOver) : Type 0 where
  pub number : c.number ≡ t.number
  pub index : c.index ≡ t.index
  pub bytes : c.state ≡ state_bytes t.state
  pub whole : t.number ≡ 0 → t ≡ accepted t.state
  pub typed : t.number ≡ 0 → TypedState t.state

-- the next call reads that state
is_read : {c : LeftByCheck} {t : TakenOver} → Same c t → t.number ≡ 0 → state_of c.state ≡ t.state
is_read {t = t} s z = ap state_of s.bytes ∙ state_is_read t.state (s.typed z)

module _ (j : List ℕ) (b : AllBytes j) (small : length j < 18446744073709551616) where
  same_steps : (c : LeftByCheck) (t : TakenOver) (n : ℕ) → t.number ≡ 0 → Same c t → Same (steps_from_c c.state j n) (check_steps t.state j n)
  unfolding steps_from_c steps_answer
  same_steps c t n z s =
      let e = is_read s z in
      let l : length c.state ≡ 447 = ap length s.bytes ∙ length_state t.state (typed_lengths (s.typed z)) in
      record {
        number = ap (λ (x : State). (check_steps x j n).number) e;
        index = ap (λ (x : State). (check_steps x j n).index) e;
        bytes = kept_all c.state (check_steps (state_of c.state) j n).state l ∙ ap (λ (x : State). state_bytes (check_steps x j n).state) e;
        whole = λ q. accepted_whole _ (went t.state j n q).state;
        typed = λ q. checked_typed t.state j b small (s.typed z) n q;
      }

  pub same_checks : (ns : List ℕ) (c : LeftByCheck) (t : TakenOver) → Same c t → Same (checks_from_c c j ns) (checks_after t j ns)
  same_checks [] c t s = subst (λ (x : LeftByCheck). Same x (checks_after t j [])) (sym (none_left c j)) (subst (Same c) (sym (checks_none t j)) s)
  same_checks (n ∷ ns) c t s = go t.number refl (λ z. same_checks ns (steps_from_c c.state j n) (check_steps t.state j n) (same_steps c t n z s))
    where
      go : (m : ℕ) → t.number ≡ m → (t.number ≡ 0 → Same (checks_from_c (steps_from_c c.state j n) j ns) (checks_after (check_steps t.state j n) j ns))
          → Same (checks_from_c c j (n ∷ ns)) (checks_after t j (n ∷ ns))
      go zero z rec =
          subst (λ (x : LeftByCheck). Same x (checks_after t j (n ∷ ns))) (sym (goes_on c j n ns (s.number ∙ z)))
          (subst (Same (checks_from_c (steps_from_c c.state j n) j ns)) (sym (checks_on t j n ns z)) (rec z))
      go (suc m) z rec =
          let h : t.number ≡ 0 → ⊥ = λ q. omega (arith, q, z) in
          subst (λ (x : LeftByCheck). Same x (checks_after t j (n ∷ ns))) (sym (ends c j (n ∷ ns) (λ q. h (sym s.number ∙ q))))
          (subst (Same c) (sym (checks_stuck t j (n ∷ ns) h)) s)

  -- from the head on, with a state's slice of 447 bytes
  module _ (key : List ℕ) (width : ℕ) (state : List ℕ) (a : AllBytes key) (l : length state ≡ 447) where
    -- key and width of the journal's calls
    abbrev k : List ℕ
    k = array_of 32 key

    abbrev w : ℕ
    w = width_with key width

    same_head : Same (head_from_c j key width state) (check_head j k w)
    unfolding head_from_c
    same_head =
        let e = head_answer_lem j key width (length state) l in
        record {
          number = ap (λ (x : TakenOver). x.number) e;
          index = sym (head_index j k w);
          bytes = kept_all state (head_answer j key width (length state)).state l ∙ ap (λ (x : TakenOver). state_bytes x.state) e;
          whole = λ z. accepted_whole _ (head_passed j k w refl z).head;
          typed = λ z. head_typed j k w b small (array_long 32 key) (array_bytes 32 key a) z;
        }

    same_parts : (ns : List ℕ) → Same (in_parts_from_c j key width state ns) (check_in_parts j k w ns)
    unfolding in_parts_from_c
    same_parts ns = subst (Same (checks_from_c (head_from_c j key width state) j ns)) (sym (in_parts_is j k w ns)) (same_checks ns (head_from_c j key width state) (check_head j k w) same_head)

    taken_over : (ns : List ℕ) → SameAnswer (check_in_parts j k w ns) (take_over j k w) → SameAsTakeOverInC j key width state ns
    taken_over ns p =
        let s = same_parts ns in
        let e = take_answer j key width (length state) l in
        record {
          number = s.number ∙ (p.number ∙ sym (ap (λ (x : TakenOver). x.number) e));
          index = s.index ∙ (p.index ∙ sym (ap (λ (x : TakenOver). x.index) e));
          written = λ z.
              s.bytes
              ∙ (ap state_bytes (p.state (sym (ap (λ (x : TakenOver). x.number) e) ∙ z) ∙ sym (ap (λ (x : TakenOver). x.state) e))
              ∙ sym (kept_all state (take_over_answer j key width (length state)).state l));
        }

    -- a check from the bytes that the calls left, which does not move
    end_seen : (ns : List ℕ) (m : ℕ) → (in_parts_from_c j key width state ns).number ≡ 0 → (steps_from_c (in_parts_from_c j key width state ns).state j (suc m)).number ≡ 0
        → (state_of (steps_from_c (in_parts_from_c j key width state ns).state j (suc m)).state).length ≡ (state_of (in_parts_from_c j key width state ns).state).length
        → ((take_over_answer j key width (length state)).number ≡ 0)
        × (kept state (take_over_answer j key width (length state)).state ≡ (in_parts_from_c j key width state ns).state)
    end_seen ns m z y x =
        let s = same_parts ns in
        let t = check_in_parts j k w ns in
        let st = t.state in
        let zt : t.number ≡ 0 = sym s.number ∙ z in
        let s' = same_steps (in_parts_from_c j key width state ns) t (suc m) zt s in
        let yt : (check_steps st j (suc m)).number ≡ 0 = sym s'.number ∙ y in
        let xt : (check_steps st j (suc m)).state.length ≡ st.length =
        sym (ap (λ (u : State). u.length) (is_read s' yt)) ∙ (x ∙ ap (λ (u : State). u.length) (is_read s zt)) in
        let e = take_answer j key width (length state) l ∙ end_is_seen j k w b ns st (s.whole zt) m yt xt in (
          ap (λ (u : TakenOver). u.number) e ∙ accepted_number st,
          kept_all state (take_over_answer j key width (length state)).state l
              ∙ (ap state_bytes (ap (λ (u : TakenOver). u.state) e ∙ accepted_state st) ∙ sym s.bytes),
        )

-- ---- a state's slice of another length

module _ (j key : List ℕ) (width : ℕ) (state : List ℕ) (h : length state ≡ 447 → ⊥) where
  six : (head_from_c j key width state).number ≡ 6
  unfolding head_from_c
  six = ap (λ (x : TakenOver). x.number) (head_six j key width (length state) h)

  head_alone : (ns : List ℕ) → in_parts_from_c j key width state ns ≡ head_from_c j key width state
  unfolding in_parts_from_c
  head_alone ns = ends (head_from_c j key width state) j ns (λ z. omega (arith, z, six))

  parts_six : (ns : List ℕ) → (in_parts_from_c j key width state ns).number ≡ 6
  parts_six ns = ap (λ (c : LeftByCheck). c.number) (head_alone ns) ∙ six

  parts_first : (ns : List ℕ) → (in_parts_from_c j key width state ns).index ≡ 0
  unfolding head_from_c
  parts_first ns = ap (λ (c : LeftByCheck). c.index) (head_alone ns)

  refused_both : (ns : List ℕ) → SameAsTakeOverInC j key width state ns
  refused_both ns =
      let e = take_six j key width (length state) h in
      let n = ap (λ (x : TakenOver). x.number) e in
      record {
        number = parts_six ns ∙ sym n;
        index = parts_first ns ∙ sym (ap (λ (x : TakenOver). x.index) e);
        written = λ z. absurd (omega (arith, z, n));
      }

-- ---- the statements

pub checks_are_take_over_in_c : ChecksAreTakeOverInC
checks_are_take_over_in_c j key width state ns b a small h = go (eqb (length state) 447) refl
  where
    go : (t : Bool) → eqb (length state) 447 ≡ t → SameAsTakeOverInC j key width state ns
    go true e = taken_over j b small key width state a (eqb-true (length state) 447 e) ns (steps_are_take_over j (array_of 32 key) (width_with key width) b ns h)
    go false e = refused_both j key width state (eqb-false (length state) 447 e) ns

pub refusal_is_take_overs_in_c : RefusalIsTakeOversInC
refusal_is_take_overs_in_c j key width state ns b a small h = go (eqb (length state) 447) refl
  where
    go : (t : Bool) → eqb (length state) 447 ≡ t → SameAsTakeOverInC j key width state ns
    go true e =
        let l = eqb-true (length state) 447 e in
        let s = same_parts j b small key width state a l ns in
        taken_over j b small key width state a l ns (refusal_is_take_overs j (array_of 32 key) (width_with key width) b ns (λ z. h (s.number ∙ z)))
    go false e = refused_both j key width state (eqb-false (length state) 447 e) ns

-- ---- one call

pub stored_state_is_checked : StoredStateIsChecked
unfolding steps_from_c steps_answer
stored_state_is_checked st j n t =
    let e = state_is_read st t in
    record {
      number = ap (λ (x : State). (check_steps x j n).number) e;
      index = ap (λ (x : State). (check_steps x j n).index) e;
      state = kept_all (state_bytes st) (check_steps (state_of (state_bytes st)) j n).state (length_state st (typed_lengths t)) ∙ ap (λ (x : State). state_bytes (check_steps x j n).state) e;
    }

pub end_is_seen_in_c : EndIsSeenInC
end_is_seen_in_c j key width state ns x m b a small z q y l = go (eqb (length state) 447) refl
  where
    Seen : List ℕ → Type 0
    Seen c = ((take_over_answer j key width (length state)).number ≡ 0) × (kept state (take_over_answer j key width (length state)).state ≡ c)

    go : (t : Bool) → eqb (length state) 447 ≡ t → Seen x
    go true e =
        subst Seen q
        (end_seen j b small key width state a (eqb-true (length state) 447 e) ns m z
        (subst (λ (c : List ℕ). (steps_from_c c j (suc m)).number ≡ 0) (sym q) y)
        (subst (λ (c : List ℕ). (state_of (steps_from_c c j (suc m)).state).length ≡ (state_of c).length) (sym q) l))
    go false e = absurd (omega (arith, z, parts_six j key width state (eqb-false (length state) 447 e) ns))

-- ---- a journal that has grown

-- from a state with the code's types on
pub same_start : (st : State) → TypedState st → Same (record { number = 0; index = 0; state = state_bytes st }) (accepted st)
same_start st t =
    record {
      number = sym (accepted_number st);
      index = sym (ap (λ (x : TakenOver). x.index) (accepted_is st));
      bytes = ap state_bytes (sym (accepted_state st));
      whole = λ z. ap accepted (sym (accepted_state st));
      typed = λ z. subst TypedState (sym (accepted_state st)) t;
    }

module _ (j : List ℕ) (b : AllBytes j) (small : length j < 18446744073709551616) (key : List ℕ) (n : ℕ) (lk : length key ≡ 32) (st : State) (t : TypedState st) where
  taken_is : take_over_answer j key n 447 ≡ take_over j key n
  taken_is = take_answer j key n 447 refl ∙ (λ i. take_over j (array_whole 32 key lk i) (width_whole key n lk i))

  goes_on_from : (counts : List ℕ) → SameAnswer (checks_after (accepted st) j counts) (take_over j key n) → GoesOnInC (state_bytes st) j key n counts
  goes_on_from counts p =
      let s = same_checks j b small counts (record { number = 0; index = 0; state = state_bytes st }) (accepted st) (same_start st t) in
      let e = taken_is in
      record {
        number = s.number ∙ (p.number ∙ sym (ap (λ (x : TakenOver). x.number) e));
        index = s.index ∙ (p.index ∙ sym (ap (λ (x : TakenOver). x.index) e));
        written = λ z out l.
            s.bytes
            ∙ (ap state_bytes (p.state (sym (ap (λ (x : TakenOver). x.number) e) ∙ z) ∙ sym (ap (λ (x : TakenOver). x.state) e))
            ∙ sym (kept_all out (take_over_answer j key n 447).state l));
      }

-- the state that steps lead to has the code's types
reached_typed : (j key : List ℕ) (n : ℕ) → AllBytes j → length j < 18446744073709551616 → AllBytes key → length key ≡ 32 → (counts : List ℕ) (st : State)
    → check_in_parts j key n counts ≡ accepted st → TypedState st
reached_typed j key n b small a lk counts st e =
    let f : check_in_parts j (array_of 32 key) (width_with key n) counts ≡ accepted st = (λ i. check_in_parts j (array_whole 32 key lk i) (width_whole key n lk i) counts) ∙ e in
    let s = same_parts j b small key n (replicate 447 0) a refl counts in
    subst TypedState (ap (λ (x : TakenOver). x.state) f ∙ accepted_state st) (s.typed (ap (λ (x : TakenOver). x.number) f ∙ accepted_number st))

pub grown_journal_goes_on_in_c : GrownJournalGoesOnInC
grown_journal_goes_on_in_c grown key n o ps p k rest b small a lk s counts l =
    let m = length (entries_in (ps ++ (p ∷ []))) + length ps in
    let e : total (m ∷ []) ≡ m = omega (arith, total_more m [], total_none) in
    let st = state_after o key n (ps ++ (p ∷ [])) in
    let t = reached_typed grown key n b small a lk (m ∷ []) st (state_after_steps grown key n o ps p k rest b s (m ∷ []) e) in
    goes_on_from grown b small key n lk st t counts (grown_journal_goes_on grown key n o ps p k rest b s counts l)

-- ---- a refused call

pub refused_check_keeps_state : RefusedCheckKeepsState
unfolding steps_from_c steps_answer
refused_check_keeps_state state j n a h = ap (kept state) (refused_changes_nothing.checks (state_of state) j n h) ∙ kept_as_it_was state a

pub refused_head_is_unopened : RefusedHeadIsUnopened
unfolding head_from_c
refused_head_is_unopened j key width state h = go (eqb (length state) 447) refl
  where
    go : (t : Bool) → eqb (length state) 447 ≡ t → kept state (head_answer j key width (length state)).state ≡ kept state unopened
    go true q =
        let e = head_answer_lem j key width (length state) (eqb-true (length state) 447 q) in
        ap (λ (x : TakenOver). kept state x.state) e
        ∙ ap (kept state) (refused_changes_nothing.heads j (array_of 32 key) (width_with key width) (λ z. h (ap (λ (x : TakenOver). x.number) e ∙ z)))
    go false q = ap (λ (x : TakenOver). kept state x.state) (head_six j key width (length state) (eqb-false (length state) 447 q))
