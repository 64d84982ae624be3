-- What the functions of a take-over show at their returns, over plain variables.
use Rattle.std.proofs.lemmas.Bool.{not-true, not-false}
use Rattle.std.proofs.Common.{ℕ, zero, suc, ◌+◌, ◌-◌, ◌≤◌, ◌<◌, ◌≡◌, refl, sym, ap, ◌∙◌, subst, Bool, true, false, not, ◌&&◌, List, [], ◌∷◌, ◌⊎◌, inl, inr, arith, leb-true, eqb-true, eq-eqb, leb, eqb, ℤ, w64, SFits, of_z, length, take, drop, length-take}
use lib.Pointwise.{pointwise}
use Rattle.primitives.specs.Counter.{width_good}
use Rattle.primitives.specs.Aes.{key_schedule}
use Rattle.receipt.specs.Details.{standard, as_after, After}
use Rattle.receipt.specs.Chain.{decrypted_counter}
use Rattle.primitives.specs.Refusals.{number_of}
use Rattle.primitives.specs.declared.refusal.Refusal.{Refusal}
use Rattle.primitives.proofs.Refusals.{numbers_are_not_zero}
use Rattle.receipt.specs.Compact.{no_entry, read_entry, Found}
use Rattle.receipt.specs.declared.details.Kind.{Kind}
use Rattle.receipt.specs.declared.details.Kind.TheVariants.{Cancellation, Training}
use Rattle.receipt.specs.declared.payload.PayloadFields.{PayloadFields}
use Rattle.receipt.specs.declared.settings.Name.{Name}
use Rattle.receipt.specs.declared.settings.Settings.{Settings}
use Rattle.primitives.proofs.Zlaws.{same_bits}
use Rattle.primitives.proofs.Rows.{both, true-is-not-false, and_no, and_yes, ask_zero, ask_yes, ask_no, ifZero-yes, ifZero-no}
use Rattle.journal.specs.Step.{fresh, new_counter, next, sound_alone, sound, renew_number}
use Rattle.primitives.specs.Questions.{ask, ifZero}
use Rattle.primitives.specs.Number.{count_at}
use Rattle.journal.specs.Head.{head_settings, head_good, length_at, there, text_at, head_length, count_place, entry_text, serial_at, start_there}
use Rattle.journal.proofs.Stepping.{start_within, steady_step, passed_step, stays}
use Rattle.journal.specs.Checking.{head_number, check_head, found, equal, counter_right, context_number, text_number, entry_number, place_checked, after, refused, accepted, take_over, checked, stopped, text_checked, one_step, Steady, steps, last_answer, entry_ready, settings_checked, serial_ready, Checked}
use Rattle.journal.specs.declared.checking.Step.{Step}
use Rattle.journal.specs.declared.state.State.{State}
use Rattle.journal.proofs.Equal.{equal_true, equal_refl}
use Rattle.journal.specs.State.{used, all_good, settings_now}
use Rattle.journal.specs.declared.state.TakenOver.{TakenOver}
use Rattle.journal.proofs.Check.{above_true}
use Rattle.journal.proofs.Places.{length_entry}
use Rattle.receipt.specs.Settings.{settings_good}
use Rattle.journal.proofs.Answers.{sound-true, serial-zero}
use Rattle.journal.proofs.OpenCalls.{head_least}
use Rattle.journal.proofs.Serials.{eight_good}
use Rattle.journal.proofs.Heads.{good_head, read_length}
use Rattle.primitives.specs.Bytes.{AllBytes, same}
use Rattle.std.specs.Prelude.{Some, None}
use Rattle.receipt.proofs.Entries.{settings_all}

-- ---- the bytes of an entry

module _ (j : List ℕ) (at : ℕ) where
  pub record Room (n : ℕ) : Type 0 where
    pub count : at + 2 ≤ length j
    pub all : at + 2 + n ≤ length j
    pub is : take (at + 2 + n - (at + 2)) (drop (at + 2) j) ≡ text_at j at
    pub upto : at + 2 + length (take (at + 2 + n - (at + 2)) (drop (at + 2) j)) ≤ length j

  pub there_count : there j at ≡ true → at + 2 ≤ length j
  unfolding there
  there_count h = leb-true _ _ (both _ _ h).0

  pub there_room : {n : ℕ} → there j at ≡ true → n ≡ count_at j at 2 → Room n
  unfolding there text_at length_at
  there_room {n} h e =
      let p = both (leb (at + 2) (length j)) (leb (at + 2 + count_at j at 2) (length j)) h in
      let a = leb-true (at + 2 + count_at j at 2) (length j) p.1 in
      let k : at + 2 + n - (at + 2) ≡ count_at j at 2 = omega (arith, e) in
      record {
        count = leb-true (at + 2) (length j) p.0;
        all = omega (arith, e, a);
        is = ap (λ (m : ℕ). take m (drop (at + 2) j)) k;
        upto = omega (arith, e, a, length-take (at + 2 + n - (at + 2)) (drop (at + 2) j));
      }

-- ---- the questions of an entry

pub equal_no : (a b : ℤ) → (a ≡ b → ⊥) → equal a b ≡ false
equal_no a b h = go (equal a b) refl
  where
    go : (t : Bool) → equal a b ≡ t → t ≡ false
    go true e = absurd (h (equal_true a b e))
    go false e = refl

pub equal_yes : (a b : ℤ) → a ≡ b → equal a b ≡ true
equal_yes a b e = ap (equal a) (sym e) ∙ equal_refl a

-- a test of the bits of two numbers
pub bits_equal : {x y z : ℤ} → SFits w64 x → SFits w64 y → x ≡ z → eqb (of_z w64 x) (of_z w64 y) ≡ equal z y
bits_equal {x} {y} {z} f g e = go (eqb (of_z w64 x) (of_z w64 y)) refl
  where
    go : (t : Bool) → eqb (of_z w64 x) (of_z w64 y) ≡ t → t ≡ equal z y
    go true q = sym (equal_yes z y (sym e ∙ same_bits x y f g (eqb-true (of_z w64 x) (of_z w64 y) q)))
    go false q = sym (equal_no z y (λ r. true-is-not-false (sym q ∙ eq-eqb (of_z w64 x) (of_z w64 y) (ap (of_z w64) (e ∙ r)))))

pub other_kind : (kind : Kind) → (kind ≡ Cancellation) ⊎ (kind ≡ Training) → standard kind ≡ false
other_kind kind (inl e) = ap standard e
other_kind kind (inr e) = ap standard e

module _ (k : List (List ℕ)) (st : State) (f : PayloadFields) where
  pub counter_no : as_after st.counter None ≡ new_counter st f.details → false ≡ counter_right k st f
  unfolding counter_right
  counter_no e = and_no _ _ (ap (λ (x : After). x.fits) (sym e))

  module _ {z : ℤ} (e : as_after st.counter (Some z) ≡ new_counter st f.details) where
    fits : (new_counter st f.details).fits ≡ true
    fits = ap (λ (x : After). x.fits) (sym e)

    pub counter_other : standard f.details.kind ≡ false → true ≡ counter_right k st f
    unfolding counter_right
    counter_other q = and_yes _ _ _ fits (sym (rw q))

    pub counter_standard : {t : Bool} → standard f.details.kind ≡ true
        → t ≡ equal (decrypted_counter k st.id f.details.number st.width f.counter) z → t ≡ counter_right k st f
    unfolding counter_right
    counter_standard s q =
        and_yes _ _ _ fits
        (q ∙ (λ i. equal (decrypted_counter k st.id f.details.number st.width f.counter) (e i).counter) ∙ sym (rw s))

-- `!=` of two arrays of bytes
same_is : (xs ys : List ℕ) → pointwise eqb xs ys ≡ same xs ys
unfolding same
same_is [] [] = refl
same_is [] (y ∷ ys) = refl
same_is (x ∷ xs) [] = refl
same_is (x ∷ xs) (y ∷ ys) = ap (λ (t : Bool). eqb x y && t) (same_is xs ys)

pub same_no : (xs ys : List ℕ) → true ≡ not (pointwise eqb xs ys) → same xs ys ≡ false
same_no xs ys e = sym (same_is xs ys) ∙ not-true _ (sym e)

pub same_yes : (xs ys : List ℕ) → false ≡ not (pointwise eqb xs ys) → same xs ys ≡ true
same_yes xs ys e = sym (same_is xs ys) ∙ not-false _ (sym e)

pub above_of : (k : List (List ℕ)) (st : State) (f : PayloadFields) → context_number k st f ≡ 0 → st.last < f.details.number
unfolding context_number
above_of k st f z = above_true st f.details (ask_zero _ _ _ z).0

-- ---- one entry

module _ (k : List (List ℕ)) (st : State) (text : List ℕ) {r : Found} (e : r ≡ read_entry (settings_now st) st.width text) where
  found_is : r ≡ found st text
  unfolding found
  found_is = e

  found_ok : {t : Bool} → r.ok ≡ t → (found st text).ok ≡ t
  found_ok h = ap (λ (x : Found). x.ok) (sym found_is) ∙ h

  number_16 : r.ok ≡ false → text_number k st text ≡ 16
  unfolding text_number
  number_16 h = ask_no 16 _ (found_ok h)

  number_is : r.ok ≡ true → text_number k st text ≡ context_number k st r.entry.fields
  unfolding text_number
  number_is h = ask_yes 16 _ (found_ok h) ∙ ap (λ (x : Found). context_number k st x.entry.fields) (sym found_is)

  pub text_unread : r.ok ≡ false → record { number = 16; found = no_entry; state = st } ≡ text_checked k st text
  unfolding text_checked checked stopped
  text_unread h =
      let n = number_16 h in
      ap (λ (m : ℕ). stopped m st) (sym n) ∙ sym (ifZero-no (text_number k st text) _ _ (λ z. omega (arith, n, z)))

  module _ (h : r.ok ≡ true) where
    pub text_refused : (q : Refusal) → number_of q ≡ context_number k st r.entry.fields
        → record { number = number_of q; found = no_entry; state = st } ≡ text_checked k st text
    unfolding text_checked checked stopped
    text_refused q e =
        let m : text_number k st text ≡ number_of q = number_is h ∙ sym e in
        ap (λ (x : ℕ). stopped x st) (sym m) ∙ sym (ifZero-no (text_number k st text) _ _ (λ z. numbers_are_not_zero q (sym m ∙ z)))

    pub text_passed : {x : State} → 0 ≡ context_number k st r.entry.fields → x ≡ next st r.entry.fields.details text
        → record { number = 0; found = record { ok = true; entry = r.entry }; state = x } ≡ text_checked k st text
    unfolding text_checked checked after
    text_passed z p =
        let m : text_number k st text ≡ 0 = number_is h ∙ sym z in
        (λ i. record { number = 0; found = record { ok = sym h i; entry = r.entry }; state = p i })
        ∙ ((λ i. record { number = 0; found = found_is i; state = next st (found_is i).entry.fields.details text }) ∙ sym (ifZero-yes _ _ m))

-- ---- after the last entry of a section

-- one more serial fits the state and the journal
pub start_fits : (st : State) (j : List ℕ) → start_there j st.length ≡ true → {s : Name} → s ≡ serial_at j st.length → 0 ≡ renew_number st s 0
    → (length (used st.serials) < 8) × (st.length + 8 + s.len ≤ length j)
start_fits st j h {s} e z =
    let w = (start_within j st.length h).0 in
    ((serial-zero st s 0 (sym z)).1, omega (arith, w, ap (λ (x : Name). x.len) e))

-- ---- one step

module _ (k : List (List ℕ)) (st : State) (j : List ℕ) where
  pub place_none : there j st.length ≡ false → record { number = 15; found = no_entry; state = st } ≡ place_checked k st j
  unfolding place_checked checked entry_number stopped
  place_none h =
      let n = ask_no 15 (text_number k st (text_at j st.length)) h in
      ap (λ (m : ℕ). stopped m st) (sym n) ∙ sym (ifZero-no (ask (there j st.length) 15 (text_number k st (text_at j st.length))) _ _ (λ z. omega (arith, n, z)))

  module _ {c : Checked} (e : c ≡ one_step k st j) where
    step_number : (one_step k st j).number ≡ c.number
    step_number = ap (λ (x : Checked). x.number) (sym e)

    state_of_lem : (one_step k st j).state ≡ c.state
    state_of_lem = ap (λ (x : Checked). x.state) (sym e)

    pub turn_no : (left : ℕ) → 0 < left → (c.number ≡ 0 → ⊥) → record { number = c.number; state = st } ≡ steps k left st j
    unfolding steps
    turn_no left some h =
        let l : left ≡ suc (left - 1) = omega arith in
        sym
        (ap (λ (m : ℕ). steps k m st j) l
        ∙ (ifZero-no (one_step k st j).number _ _ (λ z. h (sym step_number ∙ z)) ∙ (λ i. record { number = step_number i; state = st })))

    module _ (z : c.number ≡ 0) where
      pub turn_stays : (left : ℕ) → c.state.length ≡ st.length → record { number = 0; state = st } ≡ steps k left st j
      turn_stays left l = sym (stays k j left st (step_number ∙ z) (ap (λ (x : State). x.length) state_of_lem ∙ l))

      pub turn_yes : (left : ℕ) → 0 < left → steps k left st j ≡ steps k (left - 1) c.state j
      turn_yes left some =
          let l : left ≡ suc (left - 1) = omega arith in
          ap (λ (m : ℕ). steps k m st j) l ∙ passed_step k j (left - 1) st (step_number ∙ z) state_of_lem

      pub turn_steady : Steady st j → Steady c.state j
      turn_steady s = subst (λ (x : State). Steady x j) state_of_lem (steady_step k st j (step_number ∙ z) s)

pub steps_none : (k : List (List ℕ)) (left : ℕ) (st : State) (j : List ℕ) → left ≡ 0 → record { number = 0; state = st } ≡ steps k left st j
unfolding steps
steps_none k left st j z = sym (rw z)

-- ---- the journal

-- ---- the head

pub fresh_steady : (s : Settings) (j key : List ℕ) (n : ℕ) → settings_good s ≡ true → head_length s ≤ length j → Steady (fresh s n key) j
unfolding fresh count_place all_good
fresh_steady s j key n g h =
    let l : 19 ≤ head_length s = head_least s in
    record {
      serials = eight_good (s.serial ∷ []) (omega arith) (rw (settings_all s g).serial);
      issued = omega arith;
      since = omega arith;
      place = omega arith;
    }

module _ (j key : List ℕ) (n : ℕ) where
  pub head_width : width_good n ≡ false → check_head j key n ≡ refused 4 0
  unfolding check_head head_number ask ifZero
  head_width w = rw w

  module _ (w : width_good n ≡ true) where
    pub head_bad : head_good j ≡ false → check_head j key n ≡ refused 14 0
    unfolding check_head head_number ask ifZero
    head_bad h = rw (w, h)

    head_good_lem : head_good j ≡ true → check_head j key n ≡ accepted (fresh (head_settings j) n key)
    unfolding check_head head_number ask ifZero
    head_good_lem h = rw (w, h)

    pub head_fresh : {s : Settings} {st : State} {r : TakenOver} → head_good j ≡ true → s ≡ head_settings j → st ≡ fresh s n key → r ≡ accepted st → r ≡ check_head j key n
    head_fresh h p q e = e ∙ (ap accepted (q ∙ ap (λ (y : Settings). fresh y n key) p) ∙ sym (head_good_lem h))

  -- the settings of a whole head are asked as those of any register
  pub head_settings_asked : {s : Settings} {r : TakenOver} → head_good j ≡ settings_good s → s ≡ head_settings j → r ≡ settings_checked s key n → r ≡ check_head j key n
  unfolding check_head head_number settings_checked
  head_settings_asked e q p =
      p ∙ (λ i. ifZero (ask (width_good n) 4 (ask (sym e i) 14 0)) (accepted (fresh (q i) n key)) (refused (ask (width_good n) 4 (ask (sym e i) 14 0)) 0))

  -- ---- the whole journal

  -- the questions of the head, and what the two calls make of them
  pub record Passed : Type 0 where
    pub width : width_good n ≡ true
    pub good : head_good j ≡ true
    pub head : check_head j key n ≡ accepted (fresh (head_settings j) n key)
    pub whole : take_over j key n ≡ last_answer (steps (key_schedule key) (length j) (fresh (head_settings j) n key) j)

  pub record Stopped : Type 0 where
    pub number : head_number j n ≡ 0 → ⊥
    pub head : check_head j key n ≡ refused (head_number j n) 0
    pub whole : take_over j key n ≡ refused (head_number j n) 0

  pub passed : head_number j n ≡ 0 → Passed
  unfolding head_number check_head take_over
  passed z =
      let p = ask_zero _ _ _ z in
      record { width = p.0; good = (ask_zero _ _ _ p.1).0; head = ifZero-yes _ _ z; whole = ifZero-yes _ _ z }

  pub stopped_at : (head_number j n ≡ 0 → ⊥) → Stopped
  unfolding check_head take_over
  stopped_at h = record { number = h; head = ifZero-no (head_number j n) _ _ h; whole = ifZero-no (head_number j n) _ _ h }

  accepted_zero : (st : State) → (accepted st).number ≡ 0
  unfolding accepted
  accepted_zero st = refl

  refused_number : (m i : ℕ) → (refused m i).number ≡ m
  unfolding refused
  refused_number m i = refl

  module _ {f : TakenOver} (e : f ≡ check_head j key n) where
    pub head_passed : f.number ≡ 0 → Passed
    head_passed z = go (head_number j n) refl
      where
        go : (m : ℕ) → head_number j n ≡ m → Passed
        go zero q = passed q
        go (suc m) q =
            let s = stopped_at (λ y. omega (arith, y, q)) in
            absurd (omega (arith, z, ap (λ (t : TakenOver). t.number) (e ∙ s.head), refused_number (head_number j n) 0, q))

    pub head_stopped : (f.number ≡ 0 → ⊥) → Stopped
    head_stopped h =
        stopped_at (λ q. h (ap (λ (t : TakenOver). t.number) (e ∙ (passed q).head) ∙ accepted_zero (fresh (head_settings j) n key)))

    pub over_refused : (f.number ≡ 0 → ⊥) → f ≡ take_over j key n
    over_refused h = let s = head_stopped h in e ∙ (s.head ∙ sym s.whole)

    module _ (z : f.number ≡ 0) where
      pub state_fresh : f.state ≡ fresh (head_settings j) n key
      unfolding accepted
      state_fresh = ap (λ (t : TakenOver). t.state) (e ∙ (head_passed z).head)

      key_fresh : (fresh (head_settings j) n key).key ≡ key
      unfolding fresh
      key_fresh = refl

      pub over_read : {x : Step} {r : TakenOver} → x ≡ steps (key_schedule f.state.key) (length j) f.state j → r ≡ last_answer x → r ≡ take_over j key n
      over_read ex er =
          let k : f.state.key ≡ key = ap (λ (y : State). y.key) state_fresh ∙ key_fresh in
          er ∙ (ap last_answer (ex ∙ (λ i. steps (key_schedule (k i)) (length j) (state_fresh i) j)) ∙ sym (head_passed z).whole)

      pub over_steady : AllBytes j → Steady f.state j
      over_steady b =
          let g = (head_passed z).good in
          let h = good_head j b g in
          subst (λ (x : State). Steady x j) (sym state_fresh) (fresh_steady (head_settings j) j key n h.good (omega (arith, h.room, read_length j b g)))

-- ---- steps for other readers

module _ (st : State) (text : List ℕ) where
  pub ready_true : entry_ready st text ≡ true → (st.issued ≤ st.last) × (st.since ≤ st.issued) × (st.length + 2 + length text < 18446744073709551616)
  unfolding entry_ready
  ready_true h =
      let p = both _ _ h in
      let s = sound-true st p.0 in
      let l = length_entry text in
      let m = leb-true (st.length + length (entry_text text)) 18446744073709551615 p.1 in
      (s.issued, s.since, omega arith)

module _ (st : State) (j : List ℕ) where
  pub sound_step : sound st (length j) ≡ true → Steady st j
  unfolding sound
  sound_step h =
      let p = both _ _ h in
      let s = sound-true st p.0 in
      let l = leb-true st.length (length j) p.1 in
      record { serials = s.serials; issued = s.issued; since = s.since; place = omega (arith, s.place) }

-- one more serial fits the state, and its start a journal
pub serial_fits : (st : State) (s : Name) → serial_ready st s ≡ true → 0 ≡ renew_number st s 0
    → (length (used st.serials) < 8) × (st.length + 8 + s.len < 18446744073709551616)
unfolding serial_ready
serial_fits st s h z =
    let fits = leb-true (st.length + 8 + s.len) 18446744073709551615 (both (sound_alone st) _ h).1 in
    ((serial-zero st s 0 (sym z)).1, omega (arith, fits))
