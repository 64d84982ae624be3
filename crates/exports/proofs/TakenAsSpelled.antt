-- A journal taken over where its parts lie: the answer is that of Take over on the journal that the parts spell.
use Rattle.std.proofs.Common.{ℕ, zero, suc, ◌+◌, ◌≤◌, ◌<◌, ◌≡◌, refl, sym, ap, ◌∙◌, subst, Bool, true, false, cond, List, [], ◌∷◌, ◌++◌, append_assoc, arith, le-leb, leb-true, leb, length, length-append}
use Rattle.primitives.specs.Bytes.{AllBytes}
use Rattle.primitives.specs.Number.{count_at}
use Rattle.primitives.specs.Counter.{width_good}
use Rattle.primitives.specs.Aes.{key_schedule}
use Rattle.primitives.specs.Questions.{ask, ifZero}
use Rattle.primitives.proofs.ByteLists.{bytes_nil, bytes_cons}
use Rattle.primitives.proofs.Rows.{both, ask_yes, ask_no, ifZero-yes, ifZero-no}
use Rattle.receipt.specs.Settings.{between, name_text, name_good, csp_good, serial_good, settings_good, TypedSettings}
use Rattle.receipt.specs.declared.settings.Name.{Name}
use Rattle.receipt.specs.declared.settings.Settings.{Settings}
use Rattle.receipt.specs.declared.settings.Letters.{Letters}
use Rattle.receipt.specs.declared.settings.Letters.TheVariants.{Id, Serial}
use Rattle.receipt.proofs.Names.{good_name, letters_bytes, name_of_lem}
use Rattle.receipt.proofs.Entries.{bytes_array}
use Rattle.journal.specs.Head.{head, head_settings, head_good, pair_start, entry_text, there, text_at, serial_at, start_there}
use Rattle.journal.specs.State.{TypedName}
use Rattle.journal.specs.Step.{fresh, next, renewed, renew_number}
use Rattle.journal.specs.Checking.{found, text_number, after, entry_number, stopped, checked, text_checked, place_checked, start_number, start_checked, one_step, steps, entry_ready, entry_checked, serial_ready, serial_number, serial_checked, refused, accepted, last_answer, head_number, take_over}
use Rattle.journal.specs.Valid.{Owner, settings_for, owner_text}
use Rattle.journal.specs.declared.state.State.{State}
use Rattle.journal.specs.Checking.{Checked}
use Rattle.journal.proofs.Answers.{sound-yes, settings-three}
use Rattle.journal.proofs.Heads.{length_head, read_count_at, read_settings, head_good_lem}
use Rattle.journal.proofs.Accepting.{fresh_length, fresh_place, fresh_section, head_pair}
use Rattle.journal.proofs.Registers.{empty_work}
use Rattle.journal.proofs.ReadBySteps.{fresh_sound}
use Rattle.journal.proofs.Places.{length_entry, text_at_lem, there_at}
use Rattle.journal.proofs.Sections.{length_start}
use Rattle.journal.proofs.Starting.{serial_read, count_read, start_there_lem}
use Rattle.journal.proofs.Stepping.{full_yes, full_no, step_entry, end_none, end_start, idle, answer_zero, answer_no}
use Rattle.journal.proofs.PartSteps.{Ready, ready_step, turn, stuck}
use Rattle.exports.specs.Text.{every}
use Rattle.exports.specs.Spelled.{short, sized_texts, TextPair, pair_spelled, pairs_spelled, journal_spelled, GoodPair, GoodPairs, also}
use Rattle.exports.specs.TakenOver.{GoodParts, parts_taken, ReadIsTakenOver}
use Rattle.exports.specs.Running.{run_texts, run_pair, run_pairs}
use Rattle.journal.specs.declared.checking.Step.{Step}

-- ---- an answer of a check: passed or refused

checked_case : (m : ℕ) (st : State) (w : List ℕ) → (checked m st w).number ≡ 0 → (checked m st w).state ≡ after st w
unfolding checked stopped
checked_case zero st w e = ap (λ (c : Checked). c.state) (ifZero-yes _ _ refl)
checked_case (suc m) st w e =
    let q = ap (λ (c : Checked). c.number) (ifZero-no (suc m) (record { number = 0; found = found st w; state = after st w }) (stopped (suc m) st) (λ z. omega arith)) in
    absurd (omega (arith, q, e))

started_case : (m : ℕ) (x st : State) → (ifZero m (stopped 0 x) (stopped m st)).number ≡ 0 → (ifZero m (stopped 0 x) (stopped m st)).state ≡ x
unfolding stopped
started_case zero x st e = ap (λ (c : Checked). c.state) (ifZero-yes _ _ refl)
started_case (suc m) x st e =
    let q = ap (λ (c : Checked). c.number) (ifZero-no (suc m) (stopped 0 x) (stopped (suc m) st) (λ z. omega arith)) in
    absurd (omega (arith, q, e))

-- ---- runs: what goes on after one that is not refused

unfoldable then : (State → Step) → Step → Step
then F r = ifZero r.number (F r.state) r

then_none : (k : List (List ℕ)) (F : State → Step) (st : State) → then F (run_texts k st []) ≡ F st
unfolding then run_texts
then_none k F st = ifZero-yes _ _ refl

answer_yes : (st : State) → last_answer (record { number = 0; state = st }) ≡ accepted st
unfolding last_answer accepted
answer_yes st = ifZero-yes _ _ refl

answer_suc : (m : ℕ) (st : State) → last_answer (record { number = suc m; state = st }) ≡ refused (suc m) st.issued
unfolding last_answer refused
answer_suc m st = ifZero-no (suc m) _ _ (λ z. omega arith)

then_no : (F : State → Step) (m : ℕ) (st : State) → last_answer (then F (record { number = suc m; state = st })) ≡ refused (suc m) st.issued
unfolding then
then_no F m st = ap last_answer (ifZero-no (suc m) _ _ (λ z. omega arith)) ∙ answer_suc m st

module _ (k : List (List ℕ)) (st : State) where
  texts_on : (w : List ℕ) (ws : List (List ℕ)) → (entry_checked k st w).number ≡ 0 → run_texts k st (w ∷ ws) ≡ run_texts k (entry_checked k st w).state ws
  unfolding run_texts
  texts_on w ws z = ifZero-yes _ _ z

  texts_no : (w : List ℕ) (ws : List (List ℕ)) (m : ℕ) → (entry_checked k st w).number ≡ suc m → run_texts k st (w ∷ ws) ≡ record { number = suc m; state = st }
  unfolding run_texts
  texts_no w ws m z = ifZero-no (entry_checked k st w).number _ _ (λ q. omega (arith, q, z)) ∙ (λ i. record { number = z i; state = st })

  run_none : run_pairs k false st [] ≡ record { number = 0; state = st }
  unfolding run_pairs
  run_none = refl

  pairs_is : (p : TextPair) (ps : List TextPair) → run_pairs k false st (p ∷ ps) ≡ then (λ y. run_pairs k false y ps) (run_pair k false st p)
  unfolding run_pairs then
  pairs_is p ps = refl

  pairs_on : (p : TextPair) (ps : List TextPair) → (serial_checked st p.serial).number ≡ 0
      → run_pairs k false st (p ∷ ps) ≡ then (λ y. run_pairs k false y ps) (run_texts k (serial_checked st p.serial).state p.texts)
  unfolding run_pair
  pairs_on p ps z = pairs_is p ps ∙ ap (then (λ y. run_pairs k false y ps)) (ifZero-yes _ _ z)

  pairs_no : (p : TextPair) (ps : List TextPair) (m : ℕ) → (serial_checked st p.serial).number ≡ suc m → run_pairs k false st (p ∷ ps) ≡ record { number = suc m; state = st }
  unfolding run_pair then
  pairs_no p ps m z =
      pairs_is p ps
      ∙ (ap (then (λ y. run_pairs k false y ps)) (ifZero-no (serial_checked st p.serial).number _ _ (λ q. omega (arith, q, z)) ∙ (λ i. record { number = z i; state = st }))
      ∙ ifZero-no (suc m) _ _ (λ q. omega arith))

-- ---- bytes

texts_none : (rest : List ℕ) → sized_texts [] ++ rest ≡ rest
unfolding sized_texts
texts_none rest = refl

texts_cons : (w : List ℕ) (ws : List (List ℕ)) (rest : List ℕ) → sized_texts (w ∷ ws) ++ rest ≡ entry_text w ++ (sized_texts ws ++ rest)
unfolding sized_texts
texts_cons w ws rest = append_assoc (entry_text w) (sized_texts ws) rest

pairs_none : pairs_spelled [] ≡ []
unfolding pairs_spelled
pairs_none = refl

pairs_cons : (p : TextPair) (ps : List TextPair) → pairs_spelled (p ∷ ps) ≡ pair_start p.serial (length p.texts) ++ (sized_texts p.texts ++ pairs_spelled ps)
unfolding pairs_spelled pair_spelled
pairs_cons p ps = append_assoc (pair_start p.serial (length p.texts)) (sized_texts p.texts) (pairs_spelled ps)

pub short_is : (w : List ℕ) → short w ≡ true → length w < 65536
unfolding short
short_is w e = let h = leb-true (length w) 65535 e in omega arith

pub every_cons : (w : List ℕ) (ws : List (List ℕ)) → every short (w ∷ ws) ≡ true → (short w ≡ true) × (every short ws ≡ true)
unfolding every
every_cons w ws e = both (short w) (every short ws) e

-- a good name of 32 bytes holds bytes
pub name_bytes_lem : (class : Letters) (s : Name) → length s.bytes ≡ 32 → name_good class s ≡ true → AllBytes s.bytes
name_bytes_lem class s long g =
    subst (λ (m : Name). AllBytes m.bytes) (name_of_lem class s long g) (bytes_array (letters_bytes class (name_text s) (good_name class s g).letters))

-- a good serial of 32 bytes has the code's types
pub serial_typed : (s : Name) → length s.bytes ≡ 32 → serial_good s ≡ true → TypedName s
serial_typed s long g = record { long = long; bytes = name_bytes_lem Serial s long g; small = omega (arith, (good_name Serial s g).most) }

-- ---- a state on the way, and what is left of the journal

pub record At (j : List ℕ) (st : State) (left : List ℕ) : Type 0 where
  pub pre : List ℕ
  pub whole : j ≡ pre ++ left
  pub long : length pre ≡ st.length
  pub ready : Ready st j

module _ (j : List ℕ) where
  pub left_long : (st : State) (left : List ℕ) → At j st left → length j ≡ st.length + length left
  left_long st left a = ap length a.whole ∙ length-append a.pre left ∙ omega (arith, a.long)

  -- what is left, otherwise put
  pub left_is : {st : State} {left more : List ℕ} → left ≡ more → At j st left → At j st more
  left_is e a = record { pre = a.pre; whole = a.whole ∙ ap (λ (l : List ℕ). a.pre ++ l) e; long = a.long; ready = a.ready }

  -- a step further
  further : (st x : State) (part more : List ℕ) → At j st (part ++ more) → x.length ≡ st.length + length part → Ready x j → At j x more
  further st x part more a l r =
      record {
        pre = a.pre ++ part;
        whole = a.whole ∙ sym (append_assoc a.pre part more);
        long = length-append a.pre part ∙ omega (arith, a.long, l);
        ready = r;
      }

module _ (k : List (List ℕ)) (j : List ℕ) (fits : length j < 18446744073709551616) where
  -- ---- an entry

  module _ (st : State) (w more : List ℕ) (sh : short w ≡ true) (a : At j st (entry_text w ++ more)) where
    there_is : there j st.length ≡ true
    there_is = ap (λ (l : List ℕ). there l st.length) a.whole ∙ there_at a.pre w more st.length a.long (short_is w sh)

    text_is : text_at j st.length ≡ w
    text_is = ap (λ (l : List ℕ). text_at l st.length) a.whole ∙ text_at_lem a.pre w more st.length a.long (short_is w sh)

    place_is : place_checked k st j ≡ text_checked k st w
    unfolding place_checked text_checked entry_number
    place_is =
        ap (λ (m : ℕ). checked m st (text_at j st.length)) (ask_yes 15 (text_number k st (text_at j st.length)) there_is)
        ∙ ap (λ (x : List ℕ). checked (text_number k st x) st x) text_is

    entry_long : length j ≡ st.length + (length (entry_text w) + length more)
    entry_long = left_long j st (entry_text w ++ more) a ∙ ap (λ (n : ℕ). st.length + n) (length-append (entry_text w) more)

    entry_ready_lem : entry_ready st w ≡ true
    unfolding entry_ready
    entry_ready_lem =
        let l = entry_long in
        rw (sound-yes st a.ready.alone, le-leb (st.length + length (entry_text w)) 18446744073709551615 (omega arith))

    checked_is : entry_checked k st w ≡ text_checked k st w
    unfolding entry_checked
    checked_is = rw entry_ready_lem

    module _ (less : st.since < count_at j st.place 4) where
      entry_step : one_step k st j ≡ entry_checked k st w
      entry_step = step_entry k st j (full_no st j less) ∙ (place_is ∙ sym checked_is)

      -- after it
      module _ (z : (entry_checked k st w).number ≡ 0) where
        x : State
        x = (entry_checked k st w).state

        x_is : x ≡ after st w
        unfolding x text_checked
        x_is =
            ap (λ (c : Checked). c.state) checked_is
            ∙ checked_case (text_number k st w) st w (sym (ap (λ (c : Checked). c.number) checked_is) ∙ z)

        after_fields : ((after st w).length ≡ st.length + length (entry_text w)) × ((after st w).since ≡ st.since + 1) × ((after st w).place ≡ st.place)
        unfolding after next
        after_fields = (refl, refl, refl)

        pub entry_at : At j (entry_checked k st w).state more
        unfolding x
        entry_at =
            further j st (entry_checked k st w).state (entry_text w) more a (ap (λ (y : State). y.length) x_is ∙ after_fields.0)
            (subst (λ (c : Checked). Ready c.state j) entry_step (ready_step k j st (ap (λ (c : Checked). c.number) entry_step ∙ z) a.ready))

        pub entry_since : (entry_checked k st w).state.since ≡ st.since + 1
        unfolding x
        entry_since = ap (λ (y : State). y.since) x_is ∙ after_fields.1

        pub entry_place : (entry_checked k st w).state.place ≡ st.place
        unfolding x
        entry_place = ap (λ (y : State). y.place) x_is ∙ after_fields.2

  -- ---- the start of a pair

  module _ (st : State) (s : Name) (c : ℕ) (more : List ℕ) (typed : length s.bytes ≡ 32) (good : serial_good s ≡ true) (few : c < 4294967296) (a : At j st (pair_start s c ++ more)) where
    start_long : length j ≡ st.length + (8 + s.len + length more)
    start_long =
        left_long j st (pair_start s c ++ more) a
        ∙ ap (λ (n : ℕ). st.length + n) (length-append (pair_start s c) more ∙ ap (λ (n : ℕ). n + length more) (length_start s typed good c))

    start_is : start_there j st.length ≡ true
    start_is =
        ap (λ (l : List ℕ). start_there l st.length) a.whole
        ∙ start_there_lem s (serial_typed s typed good) good a.pre c more st.length a.long few

    serial_is : serial_at j st.length ≡ s
    serial_is =
        ap (λ (l : List ℕ). serial_at l st.length) a.whole
        ∙ serial_read s (serial_typed s typed good) good a.pre c more st.length a.long few

    count_is : count_at j (st.length + 4 + s.len) 4 ≡ c
    count_is =
        ap (λ (l : List ℕ). count_at l (st.length + 4 + s.len) 4) a.whole
        ∙ count_read s (serial_typed s typed good) good a.pre c more st.length a.long few

    serial_ready_lem : serial_ready st s ≡ true
    unfolding serial_ready
    serial_ready_lem =
        let l = start_long in
        rw (sound-yes st a.ready.alone, le-leb (st.length + 8 + s.len) 18446744073709551615 (omega arith))

    number_is : start_number st j ≡ serial_number st s
    unfolding start_number serial_number
    number_is =
        ask_yes 21 (renew_number st (serial_at j st.length) 0) start_is
        ∙ (ap (λ (x : Name). renew_number st x 0) serial_is ∙ sym (ask_yes 21 (renew_number st s 0) good))

    module _ (ends : count_at j st.place 4 ≡ st.since) where
      start_step : one_step k st j ≡ serial_checked st s
      unfolding start_checked serial_checked
      start_step =
          end_start k st j (full_yes st j (omega (arith, ends))) (omega (arith, start_long))
          ∙ (ap (λ (m : ℕ). ifZero m (stopped 0 (renewed st (serial_at j st.length))) (stopped m st)) number_is
          ∙ (ap (λ (x : Name). ifZero (serial_number st s) (stopped 0 (renewed st x)) (stopped (serial_number st s) st)) serial_is
          ∙ sym (ap (λ (t : Bool). cond t (ifZero (serial_number st s) (stopped 0 (renewed st s)) (stopped (serial_number st s) st)) (stopped 6 st)) serial_ready_lem)))

      module _ (z : (serial_checked st s).number ≡ 0) where
        start_state : (serial_checked st s).state ≡ renewed st s
        unfolding serial_checked
        start_state =
            let q : serial_checked st s ≡ ifZero (serial_number st s) (stopped 0 (renewed st s)) (stopped (serial_number st s) st) =
            ap (λ (t : Bool). cond t (ifZero (serial_number st s) (stopped 0 (renewed st s)) (stopped (serial_number st s) st)) (stopped 6 st)) serial_ready_lem in
            ap (λ (y : Checked). y.state) q ∙ started_case (serial_number st s) (renewed st s) st (sym (ap (λ (y : Checked). y.number) q) ∙ z)

        renewed_fields : ((renewed st s).length ≡ st.length + 8 + s.len) × ((renewed st s).since ≡ 0) × ((renewed st s).place ≡ st.length + 4 + s.len)
        unfolding renewed
        renewed_fields = (refl, refl, refl)

        pub start_at : At j (serial_checked st s).state more
        start_at =
            further j st (serial_checked st s).state (pair_start s c) more a
            (ap (λ (y : State). y.length) start_state ∙ omega (arith, renewed_fields.0, length_start s typed good c))
            (subst (λ (y : Checked). Ready y.state j) start_step (ready_step k j st (ap (λ (y : Checked). y.number) start_step ∙ z) a.ready))

        pub start_count : count_at j (serial_checked st s).state.place 4 ≡ (serial_checked st s).state.since + c
        start_count =
            ap (λ (y : State). count_at j y.place 4) start_state
            ∙ (ap (λ (m : ℕ). count_at j m 4) renewed_fields.2 ∙ (count_is ∙ omega (arith, renewed_fields.1, ap (λ (y : State). y.since) start_state)))

  -- ---- the texts of a pair, and then what goes on

  -- a step of the take-over that is a step for other readers
  on_step : (n : ℕ) (st : State) (x : Checked) → one_step k st j ≡ x → x.number ≡ 0 → last_answer (steps k (suc n) st j) ≡ last_answer (steps k n x.state j)
  on_step n st x e z =
      ap last_answer (turn k j n st (ap (λ (y : Checked). y.number) e ∙ z)) ∙ ap (λ (y : Checked). last_answer (steps k n y.state j)) e

  no_step : (n : ℕ) (st : State) (x : Checked) (m : ℕ) → one_step k st j ≡ x → x.number ≡ suc m → last_answer (steps k (suc n) st j) ≡ refused (suc m) st.issued
  no_step n st x m e z =
      ap last_answer (stuck k j n st (ap (λ (y : Checked). y.number) e ∙ z)) ∙ answer_no (suc m) st (λ q. omega arith)

  abbrev Onward : List ℕ → (State → Step) → Type 0
  Onward rest F =
      (st : State) (n : ℕ) → At j st rest → count_at j st.place 4 ≡ st.since → length j ≤ n + st.length
      → last_answer (steps k n st j) ≡ last_answer (F st)

  texts_run : (ws : List (List ℕ)) (rest : List ℕ) (F : State → Step) → Onward rest F
      → (st : State) (n : ℕ) → At j st (sized_texts ws ++ rest) → every short ws ≡ true → count_at j st.place 4 ≡ st.since + length ws → length j ≤ n + st.length
      → last_answer (steps k n st j) ≡ last_answer (then F (run_texts k st ws))
  texts_run [] rest F on st n a s c h =
      on st n (left_is j (texts_none rest) a) (c ∙ omega arith) h ∙ ap last_answer (sym (then_none k F st))
  texts_run (w ∷ ws) rest F on st zero a s c h =
      absurd (omega (arith, h, entry_long st w (sized_texts ws ++ rest) (every_cons w ws s).0 (left_is j (texts_cons w ws rest) a), length_entry w))
  texts_run (w ∷ ws) rest F on st (suc n) a s c h =
      go (entry_checked k st w).number refl (λ x. texts_run ws rest F on x n)
    where
      sh : short w ≡ true
      sh = (every_cons w ws s).0

      b : At j st (entry_text w ++ (sized_texts ws ++ rest))
      b = left_is j (texts_cons w ws rest) a

      less : st.since < count_at j st.place 4
      less = omega (arith, c)

      step : one_step k st j ≡ entry_checked k st w
      step = entry_step st w (sized_texts ws ++ rest) sh b less

      go : (m : ℕ) → (entry_checked k st w).number ≡ m
          → ((x : State) → At j x (sized_texts ws ++ rest) → every short ws ≡ true → count_at j x.place 4 ≡ x.since + length ws → length j ≤ n + x.length
          → last_answer (steps k n x j) ≡ last_answer (then F (run_texts k x ws)))
          → last_answer (steps k (suc n) st j) ≡ last_answer (then F (run_texts k st (w ∷ ws)))
      go zero z rec =
          let x = (entry_checked k st w).state in
          let e = entry_at st w (sized_texts ws ++ rest) sh b less z in
          let p = entry_place st w (sized_texts ws ++ rest) sh b less z in
          let i = entry_since st w (sized_texts ws ++ rest) sh b less z in
          let l = left_long j x (sized_texts ws ++ rest) e in
          let l₂ = entry_long st w (sized_texts ws ++ rest) sh b in
          on_step n st (entry_checked k st w) step z
          ∙ (rec x e (every_cons w ws s).1 (ap (λ (m : ℕ). count_at j m 4) p ∙ omega (arith, c, i)) (omega (arith, h, l, l₂, length_entry w))
          ∙ ap (λ (r : Step). last_answer (then F r)) (sym (texts_on k st w ws z)))
      go (suc m) z rec =
          no_step n st (entry_checked k st w) m step z
          ∙ sym (ap (λ (r : Step). last_answer (then F r)) (texts_no k st w ws m z) ∙ then_no F m st)

  -- ---- all pairs

  pairs_run : (ps : List TextPair) → GoodPairs ps → Onward (pairs_spelled ps) (λ st. run_pairs k false st ps)
  pairs_run [] g st n a c h =
      let l = left_long j st [] (left_is j pairs_none a) in
      ap last_answer (idle k j n st (end_none k st j (full_yes st j (omega (arith, c))) (omega (arith, l))))
      ∙ (answer_zero st ∙ sym (ap last_answer (run_none k st) ∙ answer_yes st))
  pairs_run (p ∷ ps) (also g gs) st zero a c h =
      absurd (omega (arith, h, start_long st p.serial (length p.texts) (sized_texts p.texts ++ pairs_spelled ps) g.long g.good g.few (left_is j (pairs_cons p ps) a)))
  pairs_run (p ∷ ps) (also g gs) st (suc n) a c h =
      go (serial_checked st p.serial).number refl (texts_run p.texts (pairs_spelled ps) (λ x. run_pairs k false x ps) (pairs_run ps gs))
    where
      rest : List ℕ
      rest = sized_texts p.texts ++ pairs_spelled ps

      b : At j st (pair_start p.serial (length p.texts) ++ (sized_texts p.texts ++ pairs_spelled ps))
      b = left_is j (pairs_cons p ps) a

      step : one_step k st j ≡ serial_checked st p.serial
      step = start_step st p.serial (length p.texts) (sized_texts p.texts ++ pairs_spelled ps) g.long g.good g.few b c

      go : (m : ℕ) → (serial_checked st p.serial).number ≡ m
          → ((x : State) (i : ℕ) → At j x (sized_texts p.texts ++ pairs_spelled ps) → every short p.texts ≡ true → count_at j x.place 4 ≡ x.since + length p.texts
          → length j ≤ i + x.length → last_answer (steps k i x j) ≡ last_answer (then (λ y. run_pairs k false y ps) (run_texts k x p.texts)))
          → last_answer (steps k (suc n) st j) ≡ last_answer (run_pairs k false st (p ∷ ps))
      go zero z rec =
          let x = (serial_checked st p.serial).state in
          let e = start_at st p.serial (length p.texts) (sized_texts p.texts ++ pairs_spelled ps) g.long g.good g.few b c z in
          let q = start_count st p.serial (length p.texts) (sized_texts p.texts ++ pairs_spelled ps) g.long g.good g.few b c z in
          let l = left_long j x (sized_texts p.texts ++ pairs_spelled ps) e in
          let l₂ = start_long st p.serial (length p.texts) (sized_texts p.texts ++ pairs_spelled ps) g.long g.good g.few b in
          let l₃ = length-append (sized_texts p.texts) (pairs_spelled ps) in
          on_step n st (serial_checked st p.serial) step z
          ∙ (rec x n e g.short q (omega (arith, h, l, l₂))
          ∙ ap last_answer (sym (pairs_on k st p ps z)))
      go (suc m) z rec =
          no_step n st (serial_checked st p.serial) m step z ∙ sym (ap last_answer (pairs_no k st p ps m z) ∙ answer_suc m st)

-- ---- the head

capital_small : (low high b : ℕ) → between low high b ≡ true → b ≤ high
unfolding between
capital_small low high b e = leb-true b high (both (leb low b) (leb b high) e).1

csp_bytes : (xs : List ℕ) → length xs ≡ 3 → csp_good xs ≡ true → AllBytes xs
unfolding csp_good
csp_bytes [] l e = absurd (omega arith)
csp_bytes (a ∷ []) l e = absurd (omega arith)
csp_bytes (a ∷ b ∷ []) l e = absurd (omega arith)
csp_bytes (a ∷ b ∷ c ∷ []) l e =
    let p = both (between 65 90 a) _ e in
    let q = both (between 65 90 b) (between 48 57 c) p.1 in
    bytes_cons (omega (arith, capital_small 65 90 a p.0))
    (bytes_cons (omega (arith, capital_small 65 90 b q.0)) (bytes_cons (omega (arith, capital_small 48 57 c q.1)) bytes_nil))
csp_bytes (a ∷ b ∷ c ∷ d ∷ xs) l e = absurd (omega arith)

first_pair : {p : TextPair} {ps : List TextPair} → GoodPairs (p ∷ ps) → GoodPair p
first_pair (also g gs) = g

later_pairs : {p : TextPair} {ps : List TextPair} → GoodPairs (p ∷ ps) → GoodPairs ps
later_pairs (also g gs) = gs

module _ (o : Owner) (p : TextPair) (ps : List TextPair) (g : GoodParts o (p ∷ ps)) where
  typed_first : TypedSettings (settings_for o p.serial)
  typed_first =
      let f = first_pair g.pairs in
      record {
        lengths = record { csp = g.three; id = g.long; serial = f.long };
        bytes = record { csp = csp_bytes o.csp g.three g.csp; id = name_bytes_lem Id o.id g.long g.id; serial = name_bytes_lem Serial p.serial f.long f.good };
      }

  good_first : settings_good (settings_for o p.serial) ≡ true
  good_first = settings-three o.csp o.id p.serial g.csp g.id (first_pair g.pairs).good

  journal_is : journal_spelled o (p ∷ ps) ≡ head (settings_for o p.serial) (length p.texts) ++ (sized_texts p.texts ++ pairs_spelled ps)
  unfolding journal_spelled
  journal_is =
      let s = pair_start p.serial (length p.texts) in
      let t = sized_texts p.texts ++ pairs_spelled ps in
      ap (λ (l : List ℕ). owner_text o ++ l) (pairs_cons p ps)
      ∙ (sym (append_assoc (owner_text o) s t) ∙ ap (λ (l : List ℕ). l ++ t) (sym (head_pair o p.serial (length p.texts))))

  head_is : head_good (journal_spelled o (p ∷ ps)) ≡ true
  head_is = ap head_good journal_is ∙ head_good_lem (settings_for o p.serial) typed_first.lengths good_first (length p.texts) (first_pair g.pairs).few (sized_texts p.texts ++ pairs_spelled ps)

  settings_are : head_settings (journal_spelled o (p ∷ ps)) ≡ settings_for o p.serial
  settings_are = ap head_settings journal_is ∙ read_settings (settings_for o p.serial) typed_first.lengths good_first (length p.texts) (first_pair g.pairs).few (sized_texts p.texts ++ pairs_spelled ps)

  module _ (key : List ℕ) (n : ℕ) where
    width_no : width_good n ≡ false → take_over (journal_spelled o (p ∷ ps)) key n ≡ refused 4 0
    unfolding take_over head_number
    width_no w =
        let e = ask_no 4 (ask (head_good (journal_spelled o (p ∷ ps))) 14 0) w in
        ap (λ (m : ℕ). ifZero m (last_answer (steps (key_schedule key) (length (journal_spelled o (p ∷ ps))) (fresh (head_settings (journal_spelled o (p ∷ ps))) n key) (journal_spelled o (p ∷ ps)))) (refused m 0)) e
        ∙ ifZero-no 4 _ _ (λ z. omega arith)

    module _ (w : width_good n ≡ true) where
      head_zero : head_number (journal_spelled o (p ∷ ps)) n ≡ 0
      unfolding head_number
      head_zero = ask_yes 4 _ w ∙ ask_yes 14 0 head_is

      taken_is : take_over (journal_spelled o (p ∷ ps)) key n
          ≡ last_answer (steps (key_schedule key) (length (journal_spelled o (p ∷ ps))) (fresh (settings_for o p.serial) n key) (journal_spelled o (p ∷ ps)))
      unfolding take_over
      taken_is =
          ifZero-yes _ _ head_zero
          ∙ ap (λ (s : Settings). last_answer (steps (key_schedule key) (length (journal_spelled o (p ∷ ps))) (fresh s n key) (journal_spelled o (p ∷ ps)))) settings_are

      start_here : At (journal_spelled o (p ∷ ps)) (fresh (settings_for o p.serial) n key) (sized_texts p.texts ++ pairs_spelled ps)
      start_here =
          let s = settings_for o p.serial in
          let t = sized_texts p.texts ++ pairs_spelled ps in
          let l = length_head s typed_first.lengths good_first (length p.texts) in
          let f = fresh_length o key n p.serial in
          record {
            pre = head s (length p.texts);
            whole = journal_is;
            long = l ∙ sym f;
            ready =
                record {
                  alone = fresh_sound o key n p.serial (empty_work key n s typed_first good_first w);
                  inside = omega (arith, ap length journal_is, length-append (head s (length p.texts)) t, l, f);
                  few = omega (arith, fresh_section o key n p.serial);
                };
          }

      first_count : count_at (journal_spelled o (p ∷ ps)) (fresh (settings_for o p.serial) n key).place 4 ≡ (fresh (settings_for o p.serial) n key).since + length p.texts
      first_count =
          (λ i. count_at (journal_is i) (fresh_place o key n p.serial i) 4)
          ∙ (read_count_at (settings_for o p.serial) typed_first.lengths good_first (length p.texts) (first_pair g.pairs).few (sized_texts p.texts ++ pairs_spelled ps)
          ∙ omega (arith, fresh_section o key n p.serial))

      first_run : (k : List (List ℕ)) (st : State) → run_pairs k true st (p ∷ ps) ≡ then (λ y. run_pairs k false y ps) (run_texts k st p.texts)
      unfolding run_pairs run_pair then
      first_run k st = refl

      width_yes : take_over (journal_spelled o (p ∷ ps)) key n ≡ last_answer (run_pairs (key_schedule key) true (fresh (settings_for o p.serial) n key) (p ∷ ps))
      width_yes =
          let k = key_schedule key in
          let j = journal_spelled o (p ∷ ps) in
          let st = fresh (settings_for o p.serial) n key in
          taken_is
          ∙ (texts_run k j g.fits p.texts (pairs_spelled ps) (λ y. run_pairs k false y ps) (pairs_run k j g.fits ps (later_pairs g.pairs))
          st (length j) start_here (first_pair g.pairs).short first_count (omega arith)
          ∙ ap last_answer (sym (first_run k st)))

pub read_is_taken_over : ReadIsTakenOver
unfolding parts_taken
read_is_taken_over o p ps key n g = go (width_good n) refl
  where
    go : (t : Bool) → width_good n ≡ t
        → cond t (last_answer (run_pairs (key_schedule key) true (fresh (settings_for o p.serial) n key) (p ∷ ps))) (refused 4 0) ≡ take_over (journal_spelled o (p ∷ ps)) key n
    go true w = sym (width_yes o p ps g key n w)
    go false w = sym (width_no o p ps g key n w)
