-- A check that is not refused has found every answer yes up to the state that it gives.
use Rattle.std.proofs.Common.{ℕ, zero, suc, ◌+◌, ◌≤◌, ◌<◌, ◌≡◌, refl, sym, ap, ◌∙◌, subst, List, [], ◌∷◌, ◌++◌, arith, length, drop, length-append}
use Rattle.primitives.specs.Number.{count_at}
use Rattle.primitives.specs.Bytes.{AllBytes}
use Rattle.primitives.specs.Aes.{key_schedule}
use Rattle.journal.specs.Head.{head_settings, head_length, serial_at}
use Rattle.journal.specs.Step.{fresh, renewed}
use Rattle.journal.specs.Checking.{one_step, steps, head_number, Checked}
use Rattle.journal.specs.declared.checking.Step.{Step}
use Rattle.journal.specs.Parts.{total}
use Rattle.journal.specs.PartLaws.{GoodSoFar, PassedIsGood}
use Rattle.journal.specs.Valid.{Owner, Pair}
use Rattle.journal.specs.declared.state.State.{State}
use Rattle.journal.specs.declared.state.TakenOver.{TakenOver}
use Rattle.journal.proofs.Heads.{count_of}
use Rattle.journal.proofs.Check.{step}
use Rattle.journal.proofs.Passing.{steps_of, state_of_lem}
use Rattle.journal.proofs.Accepting.{blank, entry_at, owner_in}
use Rattle.journal.proofs.Starting.{start_at}
use Rattle.journal.proofs.Pairs.{wider, empty_pair, run_wider, run_empty}
use Rattle.journal.proofs.Registers.{fresh_holds}
use Rattle.journal.proofs.FarPairs.{Far, so_far_of, state_there, stands, far_entry, far_start, far_first}
use Rattle.journal.proofs.JournalStates.{state_is}
use Rattle.journal.proofs.Stepping.{full_true, full_false, Case, an_entry, at_end_lem, a_start, step_case, idle}
use Rattle.journal.proofs.CheckCalls.{Passed, passed, stopped_at}
use Rattle.journal.proofs.PartSteps.{no_steps, turn, steps_zero, start_ready, parts_passed, parts_stopped, made, accepted_number, refused_number}
use Rattle.journal.proofs.PartQuestions.{headed}
use Rattle.journal.proofs.PartPlaces.{steps_counted, fresh_key}

-- a place that count steps reach, or the end of the journal
record Passage (j key : List ℕ) (n : ℕ) (o : Owner) (count : ℕ) (st : State) : Type 0 where
  pairs : List Pair
  last : Pair
  counted : ℕ
  rest : List ℕ
  far : Far j key n o pairs last counted rest
  state : st ≡ state_there o key n pairs last
  taken : steps_of pairs + length last.entries ≤ count
  ended : steps_of pairs + length last.entries < count → (rest ≡ []) × (counted ≡ length last.entries)

steps_more : (ps : List Pair) (p : Pair) → steps_of (ps ++ (p ∷ [])) ≡ suc (steps_of ps + length p.entries)
unfolding steps_of
steps_more [] p = omega arith
steps_more (x ∷ ps) p = omega (arith, steps_more ps p)

none_left : (l : List ℕ) → length l ≡ 0 → l ≡ []
none_left [] e = refl
none_left (x ∷ l) e = absurd (omega (arith, e))

module _ (j key : List ℕ) (n : ℕ) (b : AllBytes j) where
  abbrev k : List (List ℕ)
  k = key_schedule key

  passage : (i : ℕ) (o : Owner) (ps : List Pair) (p : Pair) (m : ℕ) (rest : List ℕ) → Far j key n o ps p m rest → (steps k i (state_there o key n ps p) j).number ≡ 0
      → Passage j key n o (steps_of ps + length p.entries + i) (steps k i (state_there o key n ps p) j).state
  passage zero o ps p m rest f z =
      record {
        pairs = ps;
        last = p;
        counted = m;
        rest = rest;
        far = f;
        state = ap (λ (x : Step). x.state) (no_steps k j (state_there o key n ps p));
        taken = omega arith;
        ended = λ h. absurd (omega (arith, h));
      }
  passage (suc i) o ps p m rest f z = on (step_case k (state_there o key n ps p) j w.0) (λ qs q c r g y. passage i o qs q c r g y)
    where
      w : ((one_step k (state_there o key n ps p) j).number ≡ 0) × ((steps k i (one_step k (state_there o key n ps p) j).state j).number ≡ 0)
      w = steps_zero k j i (state_there o key n ps p) z

      -- one more step, and then i from there
      move : (qs : List Pair) (q : Pair) → (one_step k (state_there o key n ps p) j).state ≡ state_there o key n qs q → steps_of qs + length q.entries ≡ suc (steps_of ps + length p.entries)
          → ((steps k i (state_there o key n qs q) j).number ≡ 0 → Passage j key n o (steps_of qs + length q.entries + i) (steps k i (state_there o key n qs q) j).state)
          → Passage j key n o (steps_of ps + length p.entries + suc i) (steps k (suc i) (state_there o key n ps p) j).state
      move qs q e c rec =
          let t = turn k j i (state_there o key n ps p) w.0 ∙ ap (λ (x : State). steps k i x j) e in
          let r = rec (sym (ap (λ (x : State). (steps k i x j).number) e) ∙ w.1) in
          let d : steps_of qs + length q.entries + i ≡ steps_of ps + length p.entries + suc i = omega (arith, c) in
          subst (λ (x : Step). Passage j key n o (steps_of ps + length p.entries + suc i) x.state) (sym t)
          (subst (λ (x : ℕ). Passage j key n o x (steps k i (state_there o key n qs q) j).state) d r)

      on : Case k (state_there o key n ps p) j
          → ((qs : List Pair) (q : Pair) (c : ℕ) (r : List ℕ) → Far j key n o qs q c r → (steps k i (state_there o key n qs q) j).number ≡ 0
          → Passage j key n o (steps_of qs + length q.entries + i) (steps k i (state_there o key n qs q) j).state)
          → Passage j key n o (steps_of ps + length p.entries + suc i) (steps k (suc i) (state_there o key n ps p) j).state
      on (an_entry u e q) rec =
          let s = stands f in
          let st = state_there o key n ps p in
          let x = entry_at j s.open_at.at b e in
          move ps (wider p x.entry) (ap (λ (c : Checked). c.state) q ∙ (x.state ∙ sym (run_wider (blank o key n) ps p x.entry)))
          (omega (arith, length-append p.entries (x.entry ∷ [])))
          (rec ps (wider p x.entry) m (drop (step st x.entry).length j) (far_entry j key n o ps p m rest f (omega (arith, s.open_at.since, s.count, full_false st j u)) x))
      on (at_end_lem u l q) rec =
          let s = stands f in
          let st = state_there o key n ps p in
          let e = idle k j (suc i) st q in
          record {
            pairs = ps;
            last = p;
            counted = m;
            rest = rest;
            far = f;
            state = ap (λ (x : Step). x.state) e;
            taken = omega arith;
            ended = λ h. (none_left rest (omega (arith, s.long, ap length s.whole, length-append s.pre rest, l)), omega (arith, s.open_at.since, s.count, f.within, full_true st j u));
          }
      on (a_start u l x q) rec =
          let s = stands f in
          let st = state_there o key n ps p in
          let serial = serial_at j st.length in
          let a = start_at j b st.length x.there in
          let c : m ≡ length p.entries = omega (arith, s.open_at.since, s.count, f.within, full_true st j u) in
          let count = count_at j (st.length + 4 + serial.len) 4 in
          move (ps ++ (p ∷ [])) (empty_pair serial) (ap (λ (y : Checked). y.state) q ∙ (state_of_lem 0 (renewed st serial) ∙ sym (run_empty (blank o key n) (ps ++ (p ∷ [])) serial)))
          (omega (arith, steps_more ps p))
          (rec (ps ++ (p ∷ [])) (empty_pair serial) count (drop (st.length + 8 + serial.len) j)
          (far_start j key n o ps p rest serial count (subst (λ (y : ℕ). Far j key n o ps p y rest) c f) a x.new x.few))

none_counted : (c : ℕ) → steps_of [] + 0 + c ≡ c
unfolding steps_of
none_counted c = omega arith

-- ---- from the head on

good : {j key : List ℕ} {n : ℕ} (o : Owner) (count : ℕ) (st : State) → Passage j key n o count st → GoodSoFar j key n count st
good {j} {key} {n} o count st x =
    let c = steps_counted x.pairs x.last in
    record {
      owner = o;
      pairs = x.pairs;
      last = x.last;
      counted = x.counted;
      rest = x.rest;
      so_far_lem = so_far_of x.far;
      state = x.state ∙ state_is key n o (x.pairs ++ (x.last ∷ [])) x.far.work;
      taken = omega (arith, c, x.taken);
      ended = λ h. x.ended (omega (arith, c, h));
    }

pub passed_is_good : PassedIsGood
passed_is_good j key n b counts st e = go (head_number j n) refl
  where
    from : Passed j key n → GoodSoFar j key n (total counts) st
    from p =
        let s = head_settings j in
        let o = owner_in s in
        let first = empty_pair s.serial in
        let rest = drop (head_length s) j in
        let f = far_first j key n s (count_of j) rest p.width (headed j key n b p.good) in
        let h : fresh s n key ≡ state_there o key n [] first = fresh_holds o key n s.serial in
        let w = made counts (fresh s n key) st j (start_ready j key n b p) (sym (parts_passed j key n b p counts) ∙ e) in
        let q : steps (key_schedule (fresh s n key).key) (total counts) (fresh s n key) j ≡ steps (key_schedule key) (total counts) (state_there o key n [] first) j =
        (λ i. steps (key_schedule (fresh_key j key n i)) (total counts) (h i) j) in
        let z = sym (ap (λ (x : Step). x.number) q) ∙ w.number in
        let r = passage j key n b (total counts) o [] first (count_of j) rest f z in
        let t : steps_of [] + length first.entries + total counts ≡ total counts = none_counted (total counts) in
        good o (total counts) st (subst (Passage j key n o (total counts)) (sym (ap (λ (x : Step). x.state) q) ∙ w.state)
        (subst (λ (x : ℕ). Passage j key n o x (steps (key_schedule key) (total counts) (state_there o key n [] first) j).state) t r))

    go : (m : ℕ) → head_number j n ≡ m → GoodSoFar j key n (total counts) st
    go zero q = from (passed j key n q)
    go (suc m) q =
        let h : head_number j n ≡ 0 → ⊥ = λ y. omega (arith, y, q) in
        let x = stopped_at j key n h in
        absurd (omega (arith, ap (λ (t : TakenOver). t.number) (sym (parts_stopped j key n counts h ∙ x.whole) ∙ e), refused_number (head_number j n) 0, accepted_number st, q))
