-- Where the steps of a check lead: to the state of the entries and changes up to there.
use Rattle.std.proofs.Common.{ℕ, zero, suc, ◌+◌, ◌-◌, ◌≤◌, ◌<◌, ◌≡◌, refl, sym, ap, ◌∙◌, subst, Bool, true, false, List, [], ◌∷◌, ◌++◌, append_assoc, append-nil, arith, leb, length, replicate, length-append, leb-true, leb-false}
use Rattle.primitives.specs.Bytes.{AllBytes}
use Rattle.primitives.specs.Aes.{key_schedule}
use Rattle.primitives.specs.Questions.{ask}
use Rattle.receipt.specs.declared.entry.Entry.{Entry}
use Rattle.journal.specs.Head.{head_settings, start_there, pair_start}
use Rattle.journal.specs.Step.{fresh}
use Rattle.journal.specs.Checking.{stopped, full, one_step, steps, accepted, head_number, check_head, take_over}
use Rattle.journal.specs.declared.checking.Step.{Step}
use Rattle.journal.specs.Parts.{handed_back, part_answer, check_steps, checks_after, check_in_parts, total}
use Rattle.journal.specs.PartLaws.{SameAnswer, RefusalIsTakeOvers, StateAfterSteps, GrownJournalGoesOn, LostStateIsFound}
use Rattle.journal.specs.Valid.{Owner, Pair, settings_for, texts, pair_texts, owner_text, journal_text, entries_in, serials_of, state_after, Valid}
use Rattle.journal.specs.declared.state.State.{State}
use Rattle.journal.specs.declared.state.TakenOver.{TakenOver}
use Rattle.journal.proofs.Passing.{steps_of, run_pairs}
use Rattle.journal.proofs.Accepting.{Work, valid_work, valid_taken, blank}
use Rattle.journal.proofs.Placing.{names_split}
use Rattle.journal.proofs.Pairs.{pairs_append, last_text, last_begun}
use Rattle.journal.proofs.FarPairs.{Far, far_of, state_there, Stands, stands, Reach, reach}
use Rattle.journal.proofs.JournalStates.{last_of_lem, state_is}
use Rattle.journal.proofs.Stepping.{full_yes, end_none, idle, refused_step}
use Rattle.journal.proofs.CheckCalls.{Passed, passed}
use Rattle.journal.proofs.PartSteps.{Ready, ready_step, ready_steps, steps_zero, turn, no_steps, steps_add, key_step, key_steps, check_ready, part_yes, part_no, part_number, accepted_number, accepted_state, handed_number, checks_none, checks_on, checks_stuck, checks_steps, total_more, total_none, start_ready, parts_passed, steps_are_take_over}
use Rattle.journal.proofs.PartQuestions.{no_start}

-- ---- how many steps

count_one : (es : List Entry) → length (es ++ []) ≡ length es
count_one es = ap length (append-nil es)

-- as many as there are entries, and one for each pair but the first
pub steps_counted : (ps : List Pair) (p : Pair) → length (entries_in (ps ++ (p ∷ []))) + length ps ≡ steps_of ps + length p.entries
unfolding entries_in steps_of
steps_counted [] p = omega (arith, count_one p.entries)
steps_counted (x ∷ ps) p = omega (arith, length-append x.entries (entries_in (ps ++ (p ∷ []))), steps_counted ps p)

-- ---- the state there

-- a whole answer, from its parts
pub same_accepted : (t : TakenOver) (st : State) → SameAnswer t (accepted st) → t ≡ accepted st
unfolding accepted
same_accepted t st s = λ i. record { number = s.number i; index = s.index i; state = s.state refl i }

zero_questions : (j : List ℕ) (n : ℕ) {key : List ℕ} {c : ℕ} {st : State} → Reach j key n c st → head_number j n ≡ 0
unfolding head_number ask
zero_questions j n r = rw (r.width, r.good)

pub fresh_key : (j key : List ℕ) (n : ℕ) → (fresh (head_settings j) n key).key ≡ key
unfolding fresh
fresh_key j key n = refl

module _ (j key : List ℕ) (n c : ℕ) (st : State) (b : AllBytes j) (r : Reach j key n c st) where
  pub head_passed : Passed j key n
  head_passed = passed j key n (zero_questions j n r)

  abbrev pub begin : State
  begin = fresh (head_settings j) n key

  -- after so many steps, and then m more
  pub run_there : (m : ℕ) → steps (key_schedule begin.key) (c + m) begin j ≡ steps (key_schedule key) m st j
  run_there m = (λ i. steps (key_schedule (fresh_key j key n i)) (sym r.counted i + m) (fresh (r.read i) n key) j) ∙ r.run m

  there : steps (key_schedule begin.key) c begin j ≡ record { number = 0; state = st }
  there =
      let e : c ≡ c + 0 = omega arith in
      ap (λ (m : ℕ). steps (key_schedule begin.key) m begin j) e ∙ (run_there 0 ∙ no_steps (key_schedule key) j st)

  pub parts_there : (ns : List ℕ) → total ns ≡ c → check_in_parts j key n ns ≡ accepted st
  parts_there ns e =
      let x : Step = record { number = 0; state = st } in
      let q : steps (key_schedule begin.key) (total ns) begin j ≡ x = ap (λ (m : ℕ). steps (key_schedule begin.key) m begin j) e ∙ there in
      let a = checks_steps ns begin j (start_ready j key n b head_passed) in
      parts_passed j key n b head_passed ns
      ∙ same_accepted (checks_after (accepted begin) j ns) st (subst (SameAnswer (checks_after (accepted begin) j ns)) (ap (part_answer begin) q ∙ part_yes begin x refl) a)

pub state_after_steps : StateAfterSteps
state_after_steps j key n o ps p k rest b s ns e =
    let f = far_of s in
    let c = steps_of ps + length p.entries in
    parts_there j key n c (state_there o key n ps p) b (reach f) ns (e ∙ steps_counted ps p) ∙ ap accepted (state_is key n o (ps ++ (p ∷ [])) f.work)

total_last : (counts : List ℕ) (d : ℕ) → total (counts ++ (d ∷ [])) ≡ total counts + d
total_last [] d = omega (arith, total_more d [], total_none)
total_last (c ∷ counts) d = omega (arith, total_more c (counts ++ (d ∷ [])), total_more c counts, total_last counts d)

-- ---- in a journal that has grown

-- a check, and then those after it
parts_append : (t : TakenOver) (j : List ℕ) (ms ns : List ℕ) → checks_after t j (ms ++ ns) ≡ checks_after (checks_after t j ms) j ns
parts_append t j [] ns = ap (λ (x : TakenOver). checks_after x j ns) (sym (checks_none t j))
parts_append t j (m ∷ ms) ns = go t.number refl (parts_append (check_steps t.state j m) j ms ns)
  where
    go : (i : ℕ) → t.number ≡ i → checks_after (check_steps t.state j m) j (ms ++ ns) ≡ checks_after (checks_after (check_steps t.state j m) j ms) j ns
        → checks_after t j (m ∷ (ms ++ ns)) ≡ checks_after (checks_after t j (m ∷ ms)) j ns
    go zero z rec = checks_on t j m (ms ++ ns) z ∙ (rec ∙ ap (λ (x : TakenOver). checks_after x j ns) (sym (checks_on t j m ms z)))
    go (suc i) z rec =
        let h : t.number ≡ 0 → ⊥ = λ q. omega (arith, q, z) in
        checks_stuck t j (m ∷ (ms ++ ns)) h ∙ (sym (checks_stuck t j ns h) ∙ ap (λ (x : TakenOver). checks_after x j ns) (sym (checks_stuck t j (m ∷ ms) h)))

checks_parts : (j key : List ℕ) (n m : ℕ) (ns : List ℕ) (st : State) → check_in_parts j key n (m ∷ []) ≡ accepted st → check_in_parts j key n (m ∷ ns) ≡ checks_after (accepted st) j ns
unfolding check_in_parts
checks_parts j key n m ns st e = parts_append (check_head j key n) j (m ∷ []) ns ∙ ap (λ (t : TakenOver). checks_after t j ns) e

pub grown_journal_goes_on : GrownJournalGoesOn
grown_journal_goes_on grown key n o ps p k rest b s counts l =
    let m = length (entries_in (ps ++ (p ∷ []))) + length ps in
    let e : total (m ∷ []) ≡ m = omega (arith, total_more m [], total_none) in
    let t = state_after_steps grown key n o ps p k rest b s (m ∷ []) e in
    let h : length grown ≤ total (m ∷ counts) = omega (arith, total_more m counts, l) in
    subst (λ (x : TakenOver). SameAnswer x (take_over grown key n)) (checks_parts grown key n m counts (state_after o key n (ps ++ (p ∷ []))) t)
    (steps_are_take_over grown key n b (m ∷ counts) h)

-- ---- a refusal, however few the steps

pub refusal_is_take_overs : RefusalIsTakeOvers
unfolding check_in_parts
refusal_is_take_overs j key n b counts h =
    let d = length j in
    let e = parts_append (check_head j key n) j counts (d ∷ []) ∙ checks_stuck (checks_after (check_head j key n) j counts) j (d ∷ []) h in
    subst (λ (x : TakenOver). SameAnswer x (take_over j key n)) e (steps_are_take_over j key n b (counts ++ (d ∷ [])) (omega (arith, total_last counts d)))

-- ---- one step a check

-- c steps lead from s to st
record Ahead (j key : List ℕ) (st : State) (c : ℕ) (s : State) : Type 0 where
  begun : Ready s j
  same : s.key ≡ key
  leads : steps (key_schedule key) c s j ≡ record { number = 0; state = st }

module _ (j key : List ℕ) (st : State) where
  -- a check of one step is that step
  one : (s : State) → Ready s j → s.key ≡ key → check_steps s j 1 ≡ part_answer s (steps (key_schedule key) 1 s j)
  one s r e = check_ready s j 1 r ∙ ap (λ (x : List ℕ). part_answer s (steps (key_schedule x) 1 s j)) e

  arrived : (s : State) → Ahead j key st 0 s → s ≡ st
  arrived s a = ap (λ (x : Step). x.state) (sym (no_steps (key_schedule key) j s) ∙ a.leads)

  -- the next step is passed
  next_ahead : (c : ℕ) (s : State) → Ahead j key st (suc c) s → (check_steps s j 1 ≡ accepted (one_step (key_schedule key) s j).state) × Ahead j key st c (one_step (key_schedule key) s j).state
  next_ahead c s a =
      let k = key_schedule key in
      let w = steps_zero k j c s (ap (λ (x : Step). x.number) a.leads) in
      let t = (one_step k s j).state in
      let x : steps k 1 s j ≡ record { number = 0; state = t } = turn k j 0 s w.0 ∙ no_steps k j t in (
        one s a.begun a.same ∙ (ap (part_answer s) x ∙ part_yes s (record { number = 0; state = t }) refl),
        record { begun = ready_step k j s w.0 a.begun; same = key_step k j s w.0 ∙ a.same; leads = sym (turn k j c s w.0) ∙ a.leads },
      )

  -- on to st, and then what the checks after it give
  walk : (c m : ℕ) (s : State) → Ahead j key st c s → checks_after (accepted s) j (replicate (c + m) 1) ≡ checks_after (accepted st) j (replicate m 1)
  walk zero m s a =
      let e : 0 + m ≡ m = omega arith in
      λ i. checks_after (accepted (arrived s a i)) j (replicate (e i) 1)
  walk (suc c) m s a =
      let w = next_ahead c s a in
      let e : suc c + m ≡ suc (c + m) = omega arith in
      ap (λ (i : ℕ). checks_after (accepted s) j (replicate i 1)) e
      ∙ (checks_on (accepted s) j 1 (replicate (c + m) 1) (accepted_number s)
      ∙ (ap (λ (x : State). checks_after (check_steps x j 1) j (replicate (c + m) 1)) (accepted_state s)
      ∙ (ap (λ (t : TakenOver). checks_after t j (replicate (c + m) 1)) w.0 ∙ walk c m (one_step (key_schedule key) s j).state w.1)))

  module _ (r : Ready st j) (same : st.key ≡ key) where
    -- at the end
    rests : one_step (key_schedule key) st j ≡ stopped 0 st → (m : ℕ) → checks_after (accepted st) j (replicate m 1) ≡ accepted st
    rests q zero = checks_none (accepted st) j
    rests q (suc m) =
        checks_on (accepted st) j 1 (replicate m 1) (accepted_number st)
        ∙ (ap (λ (x : State). checks_after (check_steps x j 1) j (replicate m 1)) (accepted_state st)
        ∙ (ap (λ (t : TakenOver). checks_after t j (replicate m 1))
        (one st r same ∙ (ap (part_answer st) (idle (key_schedule key) j 1 st q) ∙ part_yes st (record { number = 0; state = st }) refl))
        ∙ rests q m))

    -- at bytes that start no pair
    ends : one_step (key_schedule key) st j ≡ stopped 21 st → (m : ℕ) → checks_after (accepted st) j (replicate (suc m) 1) ≡ handed_back 21 st.issued st
    ends q m =
        let h : ◌≡◌ {A = ℕ} 21 0 → ⊥ = λ z. omega (arith, z) in
        let x = one st r same ∙ (ap (part_answer st) (refused_step (key_schedule key) j 0 st h q) ∙ part_no st (record { number = 21; state = st }) h) in
        checks_on (accepted st) j 1 (replicate m 1) (accepted_number st)
        ∙ (ap (λ (y : State). checks_after (check_steps y j 1) j (replicate m 1)) (accepted_state st)
        ∙ (ap (λ (t : TakenOver). checks_after t j (replicate m 1)) x
        ∙ checks_stuck (handed_back 21 st.issued st) j (replicate m 1) (λ z. h (sym (handed_number 21 st.issued st) ∙ z))))

-- ---- a valid journal, and bytes after it

valid_bytes : (o : Owner) (n : ℕ) (ps : List Pair) (p : Pair) (rest : List ℕ)
    → journal_text o n (ps ++ (p ∷ [])) ++ rest
    ≡ owner_text o ++ (pair_texts o n ps ++ (pair_start p.serial (length p.entries) ++ (texts (settings_for o p.serial) n p.entries ++ rest)))
unfolding journal_text
valid_bytes o n ps p rest =
    let a = owner_text o in
    let b = pair_texts o n ps in
    let c = pair_start p.serial (length p.entries) in
    let t = texts (settings_for o p.serial) n p.entries in
    ap (λ (l : List ℕ). (a ++ l) ++ rest) (pairs_append o n ps (p ∷ []) ∙ ap (λ (l : List ℕ). b ++ l) (last_text o n p)) ∙ regroup a b c t rest
  where
    regroup : (a b c t r : List ℕ) → (a ++ (b ++ (c ++ t))) ++ r ≡ a ++ (b ++ (c ++ (t ++ r)))
    regroup a b c t r = simp append_assoc

valid_far : {j key : List ℕ} {n : ℕ} (v : Valid j key n) (ps : List Pair) (p : Pair) → v.pairs ≡ ps ++ (p ∷ []) → (rest : List ℕ)
    → Far (j ++ rest) key n v.owner ps p (length p.entries) rest
valid_far {j} {key} {n} v ps p q rest =
    let w = subst (Work key n v.owner) q (valid_work v) in
    record {
      work = w;
      few = (last_begun (serials_of ps) p (names_split [] ps (p ∷ []) w.names).1).few;
      within = omega arith;
      bytes = ap (λ (l : List ℕ). l ++ rest) (v.bytes ∙ ap (journal_text v.owner n) q) ∙ valid_bytes v.owner n ps p rest;
    }

module _ (j key : List ℕ) (n : ℕ) (v : Valid j key n) (ps : List Pair) (p : Pair) (q : v.pairs ≡ ps ++ (p ∷ [])) (rest : List ℕ) (b : AllBytes (j ++ rest)) where
  abbrev all : List ℕ
  all = j ++ rest

  abbrev count : ℕ
  count = steps_of ps + length p.entries

  abbrev end : State
  end = state_there v.owner key n ps p

  abbrev far : Far all key n v.owner ps p (length p.entries) rest
  far = valid_far v ps p q rest

  abbrev first : State
  first = fresh (head_settings all) n key

  there_is : Stands all key n v.owner ps p (length p.entries) rest end
  there_is = stands far

  end_full : full end all ≡ true
  end_full = let s = there_is in full_yes end all (omega (arith, s.count, s.open_at.since))

  -- the journal ends where its state ends
  end_length : end.length ≡ length j
  end_length = let s = there_is in omega (arith, s.long, ap length s.whole, length-append s.pre rest, length-append j rest)

  few_steps : count < length j
  few_steps =
      let f = valid_far v ps p q [] in
      let r = reach f in
      omega (arith, r.left, r.counted, ap length (append-nil j))

  start_ready_all : Ready first all
  start_ready_all = start_ready all key n b (head_passed all key n count end b (reach far))

  leads_on : (m : ℕ) → steps (key_schedule first.key) (count + m) first all ≡ steps (key_schedule key) m end all
  leads_on = run_there all key n count end b (reach far)

  leads : steps (key_schedule first.key) count first all ≡ record { number = 0; state = end }
  leads =
      let e : count ≡ count + 0 = omega arith in
      ap (λ (m : ℕ). steps (key_schedule first.key) m first all) e ∙ (leads_on 0 ∙ no_steps (key_schedule key) all end)

  end_ready : Ready end all
  end_ready =
      subst (λ (x : State). Ready x all) (ap (λ (x : Step). x.state) leads)
      (ready_steps (key_schedule first.key) all count first start_ready_all (ap (λ (x : Step). x.number) leads))

  end_key : end.key ≡ key
  end_key = there_is.open_at.at.base.key

  -- the state after checks that were not refused
  module _ (ns : List ℕ) (z : (check_in_parts all key n ns).number ≡ 0) where
    abbrev reached : Step
    reached = steps (key_schedule first.key) (total ns) first all

    same : SameAnswer (check_in_parts all key n ns) (part_answer first reached)
    same =
        subst (λ (t : TakenOver). SameAnswer t (part_answer first reached)) (sym (parts_passed all key n b (head_passed all key n count end b (reach far)) ns))
        (checks_steps ns first all start_ready_all)

    reached_zero : reached.number ≡ 0
    reached_zero = sym (part_number first reached) ∙ (sym same.number ∙ z)

    reached_is : check_in_parts all key n ns ≡ accepted reached.state
    reached_is = same_accepted (check_in_parts all key n ns) reached.state (subst (SameAnswer (check_in_parts all key n ns)) (part_yes first reached reached_zero) same)

    reached_key : reached.state.key ≡ key
    reached_key = key_steps (key_schedule first.key) all (total ns) first reached_zero ∙ fresh_key all key n

    reached_ready : Ready reached.state all
    reached_ready = ready_steps (key_schedule first.key) all (total ns) first start_ready_all reached_zero

    -- c more steps lead to the end
    ahead : (c : ℕ) → total ns + c ≡ count → Ahead all key end c reached.state
    ahead c e =
        record {
          begun = reached_ready;
          same = reached_key;
          leads =
              ap (λ (x : List ℕ). steps (key_schedule x) c reached.state all) (sym (fresh_key all key n))
              ∙ (sym (steps_add (key_schedule first.key) all (total ns) c first reached_zero)
              ∙ (ap (λ (m : ℕ). steps (key_schedule first.key) m first all) e ∙ leads));
        }

    after_ones : (m : ℕ) → check_in_parts all key n (ns ++ replicate m 1) ≡ checks_after (accepted reached.state) all (replicate m 1)
    unfolding check_in_parts
    after_ones m = parts_append (check_head all key n) all ns (replicate m 1) ∙ ap (λ (t : TakenOver). checks_after t all (replicate m 1)) reached_is

    -- nothing follows the journal
    found_end : (rest ≡ []) → (m : ℕ) → length j ≤ m → check_in_parts all key n (ns ++ replicate m 1) ≡ accepted end
    found_end e m h = after_ones m ∙ go (leb (total ns) count) refl
      where
        idles : one_step (key_schedule key) end all ≡ stopped 0 end
        idles = end_none (key_schedule key) end all end_full (omega (arith, end_length, ap length e, length-append j rest))

        go : (t : Bool) → leb (total ns) count ≡ t → checks_after (accepted reached.state) all (replicate m 1) ≡ accepted end
        go true y =
            let c = count - total ns in
            let le = leb-true (total ns) count y in
            let i : c + (m - c) ≡ m = omega (arith, few_steps, h) in
            ap (λ (x : ℕ). checks_after (accepted reached.state) all (replicate x 1)) (sym i)
            ∙ (walk all key end c (m - c) reached.state (ahead c (omega (arith, le))) ∙ rests all key end end_ready end_key idles (m - c))
        go false y =
            let d = total ns - count in
            let lt = leb-false (total ns) count y in
            let i : total ns ≡ count + d = omega (arith, lt) in
            let s : reached.state ≡ end = ap (λ (x : Step). x.state) (ap (λ (x : ℕ). steps (key_schedule first.key) x first all) i ∙ (leads_on d ∙ idle (key_schedule key) all d end idles)) in
            ap (λ (x : State). checks_after (accepted x) all (replicate m 1)) s ∙ rests all key end end_ready end_key idles m

    -- bytes follow that start no pair
    found_21 : (rest ≡ [] → ⊥) → start_there all (length j) ≡ false → (m : ℕ) → length j ≤ m → check_in_parts all key n (ns ++ replicate m 1) ≡ handed_back 21 end.issued end
    found_21 ne bad m h = after_ones m ∙ go (leb (total ns) count) refl
      where
        some : (l : List ℕ) → (l ≡ [] → ⊥) → 0 < length l
        some [] h = absurd (h refl)
        some (x ∷ l) h = omega arith

        refuses : one_step (key_schedule key) end all ≡ stopped 21 end
        refuses =
            no_start (key_schedule key) end all end_full (omega (arith, end_length, some rest ne, length-append j rest))
            (ap (start_there all) end_length ∙ bad)

        go : (t : Bool) → leb (total ns) count ≡ t → checks_after (accepted reached.state) all (replicate m 1) ≡ handed_back 21 end.issued end
        go true y =
            let c = count - total ns in
            let le = leb-true (total ns) count y in
            let i : c + suc (m - suc c) ≡ m = omega (arith, few_steps, h) in
            ap (λ (x : ℕ). checks_after (accepted reached.state) all (replicate x 1)) (sym i)
            ∙ (walk all key end c (suc (m - suc c)) reached.state (ahead c (omega (arith, le))) ∙ ends all key end end_ready end_key refuses (m - suc c))
        go false y =
            let d = total ns - suc count in
            let lt = leb-false (total ns) count y in
            let i : total ns ≡ count + suc d = omega (arith, lt) in
            let w : ◌≡◌ {A = ℕ} 21 0 → ⊥ = λ x. omega (arith, x) in
            let s : reached.number ≡ 21 = ap (λ (x : Step). x.number) (ap (λ (x : ℕ). steps (key_schedule first.key) x first all) i ∙ (leads_on (suc d) ∙ refused_step (key_schedule key) all d end w refuses)) in
            absurd (omega (arith, s, reached_zero))

-- ---- a lost state, a lost length

pub lost_state_is_found : LostStateIsFound
lost_state_is_found j key n v rest b no-pair ns z m h = go v.pairs refl (valid_work v).some
  where
    found : (ps : List Pair) (p : Pair) (q : v.pairs ≡ ps ++ (p ∷ []))
        → ((rest ≡ []) → check_in_parts (j ++ rest) key n (ns ++ replicate m 1) ≡ take_over j key n)
        × ((rest ≡ [] → ⊥) → check_in_parts (j ++ rest) key n (ns ++ replicate m 1) ≡ handed_back 21 (take_over j key n).state.issued (take_over j key n).state)
    found ps p q =
        let o = v.owner in
        let w = valid_work v in
        let e : take_over j key n ≡ accepted (state_there o key n ps p) = valid_taken v ∙ ap (λ (x : List Pair). accepted (run_pairs (blank o key n) x)) q in
        let s : (take_over j key n).state ≡ state_there o key n ps p = ap (λ (t : TakenOver). t.state) e ∙ accepted_state (state_there o key n ps p) in (
          (λ r. found_end j key n v ps p q rest b ns z r m h ∙ sym e),
          (λ r. found_21 j key n v ps p q rest b ns z r no-pair m h ∙ (λ i. handed_back 21 (sym s i).issued (sym s i))),
        )

    go : (ps : List Pair) → v.pairs ≡ ps → 0 < length v.pairs
        → ((rest ≡ []) → check_in_parts (j ++ rest) key n (ns ++ replicate m 1) ≡ take_over j key n)
        × ((rest ≡ [] → ⊥) → check_in_parts (j ++ rest) key n (ns ++ replicate m 1) ≡ handed_back 21 (take_over j key n).state.issued (take_over j key n).state)
    go [] e l = absurd (omega (arith, ap length e, l))
    go (p ∷ ps) e l = let x = last_of_lem p ps in found x.before x.last (e ∙ x.is)
