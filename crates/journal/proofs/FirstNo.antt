-- A refused Take over gives the number and the index of the first question answered no; and if there is such a question, they are the answer.
use Rattle.std.proofs.lemmas.Bool.{not-true, not-false}
use Rattle.std.proofs.Common.{ℕ, zero, suc, ◌+◌, ◌≤◌, ◌<◌, ◌≡◌, refl, sym, ap, ◌∙◌, subst, Bool, true, false, not, List, [], ◌∷◌, ◌++◌, arith, ltb-true, ltb-false, le-ltb, ltb, ℤ, ◌+ℤ◌, length, drop, length-append, drop_at}
use Rattle.primitives.specs.Bytes.{AllBytes, same}
use Rattle.primitives.specs.Number.{count_at}
use Rattle.primitives.specs.Counter.{width_good, counter_fits}
use Rattle.primitives.specs.Aes.{key_schedule}
use Rattle.primitives.specs.Questions.{ask, ifZero}
use Rattle.primitives.proofs.ByteLists.{same_refl, same_true}
use Rattle.primitives.proofs.Rows.{true-is-not-false}
use Rattle.receipt.specs.Settings.{TypedSettings}
use Rattle.receipt.specs.Details.{counted}
use Rattle.receipt.specs.Chain.{decrypted_counter}
use Rattle.receipt.specs.Compact.{spellable, read_entry, Found}
use Rattle.receipt.specs.declared.settings.Name.{Name}
use Rattle.receipt.specs.declared.settings.Settings.{Settings}
use Rattle.receipt.specs.declared.entry.Entry.{Entry}
use Rattle.receipt.proofs.Entries.{admitted}
use Rattle.receipt.proofs.ExactEntry.{back, exact}
use Rattle.journal.specs.Head.{head_settings, head_good, head_length, entry_text, there, text_at, serial_at, start_there, pair_start}
use Rattle.journal.specs.State.{used, is_in}
use Rattle.journal.specs.declared.state.TakenOver.{TakenOver}
use Rattle.journal.specs.Step.{fresh, number_above, first_good, renewed, renew_number}
use Rattle.journal.specs.Checking.{head_number, found, counter_right, context_number, text_number, entry_number, start_number, stopped, full, one_step, steps, refused, accepted, last_answer, take_over, Checked}
use Rattle.journal.specs.declared.checking.Step.{Step}
use Rattle.journal.specs.Valid.{Owner, Pair, settings_for, Placed, serials_of}
use Rattle.journal.specs.FirstNo.{Headed, so_far, index, EntryThere, Spells, Above, StartFirst, Chained, CountedAfter, Next, Full, StartThere, NoAt, no_width, no_head, not_there, not_spelled, not_above, not_start, not_chained, not_counted, no_start, used_before, a_ninth}
use Rattle.journal.specs.Demands.{FirstNo}
use Rattle.journal.specs.declared.state.State.{State}
use Rattle.journal.proofs.Places.{text_at_lem, there_at, there_entry, text_short}
use Rattle.journal.proofs.Heads.{head_good_lem, good_head, read_typed, read_few, read_back, count_of}
use Rattle.journal.proofs.Starting.{start_at, serial_read, start_there_lem}
use Rattle.journal.proofs.Check.{first_yes, first_true, above_yes, above_true, new_yes, new_fits, right_yes, right_fits, right_true, bytes_text, step, schedule_of}
use Rattle.journal.proofs.Stepping.{full_yes, full_no, full_true, full_false, end_none, entry_passed, entry_refused, start_passed, start_refused, Case, an_entry, at_end_lem, a_start, step_case, idle, refused_step, passed_step}
use Rattle.journal.proofs.Placing.{in_place, places_out, out_places, length_serials, names_length}
use Rattle.journal.proofs.Passing.{typed_for, at_settings, at_schedule, number_of, state_of_lem}
use Rattle.journal.proofs.Accepting.{entry_at, blank, answer_number, owner_in}
use Rattle.journal.proofs.Pairs.{wider, empty_pair, run_wider, run_empty}
use Rattle.journal.proofs.Registers.{fresh_holds}
use Rattle.journal.proofs.FarPairs.{Far, far_of, so_far_of, state_there, Stands, stands, refuse, far_entry, far_start, far_first}

pub bool_no : (b : Bool) → (b ≡ true → ⊥) → b ≡ false
bool_no true h = absurd (h refl)
bool_no false h = refl

bool_yes : (b : Bool) → (b ≡ false → ⊥) → b ≡ true
bool_yes true h = refl
bool_yes false h = absurd (h refl)

ask-case {ℓ} : {X : Type ℓ} (b : Bool) (n rest m : ℕ) → ask b n rest ≡ m → (b ≡ false → n ≡ m → X) → (b ≡ true → rest ≡ m → X) → X
unfolding ask
ask-case true n rest m e f g = g refl e
ask-case false n rest m e f g = f refl e

-- ---- the questions of the step there

module _ (j key : List ℕ) (n : ℕ) (o : Owner) (ps : List Pair) (p : Pair) (m : ℕ) (rest : List ℕ) (b : AllBytes j) (f : Far j key n o ps p m rest) where
  abbrev st : State
  st = state_there o key n ps p

  abbrev sf : Settings
  sf = settings_for o p.serial

  abbrev xs : List Placed
  xs = so_far o ps p

  s : Stands j key n o ps p m rest st
  s = stands f

  schedule_is : schedule_of st ≡ key_schedule key
  schedule_is = at_schedule s.open_at.at

  typed : TypedSettings sf
  typed = typed_for o p.serial f.work.good s.open_at.at.typed

  rest_is : drop st.length j ≡ rest
  rest_is = ap (drop st.length) s.whole ∙ drop_at s.pre rest st.length s.long

  -- ---- 15 and 16

  module _ (less : length p.entries < m) where
    not_full : full st j ≡ false
    not_full = full_no st j (omega (arith, s.open_at.since, s.count))

    entry_step : (x : ℕ) → entry_number (key_schedule key) st j ≡ suc x → one_step (key_schedule key) st j ≡ stopped (suc x) st
    entry_step x z = entry_refused (key_schedule key) st j not_full (λ q. omega (arith, z, q)) ∙ ap (λ (y : ℕ). stopped y st) z

  there_yes : (text more : List ℕ) → EntryThere rest text more → (there j st.length ≡ true) × (text_at j st.length ≡ text)
  there_yes text more x =
      let q : j ≡ s.pre ++ (entry_text text ++ more) = s.whole ∙ ap (λ (l : List ℕ). s.pre ++ l) x.bytes in (
        ap (λ (l : List ℕ). there l st.length) q ∙ there_at s.pre text more st.length s.long x.short,
        ap (λ (l : List ℕ). text_at l st.length) q ∙ text_at_lem s.pre text more st.length s.long x.short,
      )

  there_is : there j st.length ≡ true → EntryThere rest (text_at j st.length) (drop (st.length + length (entry_text (text_at j st.length))) j)
  there_is t = record { short = text_short j b st.length t; bytes = sym rest_is ∙ there_entry j b st.length t }

  found_is : (text : List ℕ) → found st text ≡ read_entry sf n text
  unfolding found
  found_is text = λ i. read_entry (at_settings s.open_at.at i) (s.open_at.at.base.width i) text

  -- ---- 17 to 20

  module _ (e : Entry) where
    above_is : number_above st e.fields.details ≡ true → Above xs e
    above_is q = subst (λ (x : ℕ). x < e.fields.details.number) s.last (above_true st e.fields.details q)

    is_above : Above xs e → number_above st e.fields.details ≡ true
    is_above h = above_yes st e.fields.details (subst (λ (x : ℕ). x < e.fields.details.number) (sym s.last) h)

    start_is : first_good st e.fields.details ≡ true → StartFirst xs e
    start_is q z = first_true st e.fields.details q (s.issued ∙ z)

    is_start : StartFirst xs e → first_good st e.fields.details ≡ true
    is_start h = first_yes st e.fields.details (λ z. h (sym s.issued ∙ z))

    chain_is : same e.fields.chain st.chain ≡ true → Chained o n xs e
    chain_is q = same_true _ _ q ∙ s.chain

    is_chain : Chained o n xs e → same e.fields.chain st.chain ≡ true
    is_chain h = ap (λ (l : List ℕ). same l st.chain) (h ∙ sym s.chain) ∙ same_refl st.chain

    counter_is : counter_right (key_schedule key) st e.fields ≡ true → CountedAfter sf key n xs e
    counter_is q₀ =
        let q = ap (λ (k : List (List ℕ)). counter_right k st e.fields) schedule_is ∙ q₀ in
        let d = e.fields.details in
        let base = s.open_at.at.base in
        record {
          fits = (λ i. counter_fits (sym base.width i) (sym s.counter i +ℤ counted d)) ∙ (new_fits st d (right_fits st e.fields q)).fits;
          decrypted = λ k.
              (λ i. decrypted_counter (key_schedule (sym base.key i)) (sym base.id i) d.number (sym base.width i) e.fields.counter)
              ∙ (right_true st e.fields q k ∙ ap (λ (z : ℤ). z +ℤ counted d) s.counter);
        }

    is_counter : spellable sf n e ≡ true → CountedAfter sf key n xs e → counter_right (key_schedule key) st e.fields ≡ true
    is_counter g c =
        let d = e.fields.details in
        let base = s.open_at.at.base in
        let fits : counter_fits st.width (st.counter +ℤ counted d) ≡ true = (λ i. counter_fits (base.width i) (s.counter i +ℤ counted d)) ∙ c.fits in
        ap (λ (k : List (List ℕ)). counter_right k st e.fields) (sym schedule_is)
        ∙ right_yes st e.fields (new_yes st d (admitted sf n e g).amounts fits)
        (λ k. (λ i. decrypted_counter (key_schedule (base.key i)) (base.id i) d.number (base.width i) e.fields.counter)
        ∙ (c.decrypted k ∙ ap (λ (z : ℤ). z +ℤ counted d) (sym s.counter)))

  -- 15 and 16 were answered yes
  module _ (text more : List ℕ) (x : EntryThere rest text more) where
    entry_text_lem : entry_number (key_schedule key) st j ≡ text_number (key_schedule key) st text
    unfolding entry_number ask
    entry_text_lem = let t = there_yes text more x in rw (t.0, t.1)

    text_found : (e : Entry) → Spells sf n text e → found st text ≡ record { ok = true; entry = e }
    text_found e y = found_is text ∙ (ap (read_entry sf n) y.is ∙ back sf n e typed.lengths typed.bytes y.typed y.spelled)

    fields_text : (e : Entry) → Spells sf n text e → text_number (key_schedule key) st text ≡ context_number (key_schedule key) st e.fields
    unfolding text_number ask
    fields_text e y = rw (text_found e y)

    spelled_no : ((e : Entry) → Spells sf n text e → ⊥) → text_number (key_schedule key) st text ≡ 16
    unfolding text_number ask
    spelled_no h =
        let bt : AllBytes text = subst AllBytes (there_yes text more x).1 (bytes_text j st.length b) in
        rw (bool_no (found st text).ok (λ t.
        let w = (exact sf n text typed.lengths typed.bytes bt).0 (ap (λ (r : Found). r.ok) (sym (found_is text)) ∙ t) in
        h w.entry (record { typed = w.typed; spelled = w.spellable; is = w.is })))

  there_no : ((text more : List ℕ) → EntryThere rest text more → ⊥) → entry_number (key_schedule key) st j ≡ 15
  unfolding entry_number ask
  there_no h = rw (bool_no (there j st.length) (λ t. h (text_at j st.length) (drop (st.length + length (entry_text (text_at j st.length))) j) (there_is t)))

  -- ---- 21, 30 and 31

  used_is : used st.serials ≡ serials_of (ps ++ (p ∷ []))
  used_is = s.open_at.at.base.serials

  module _ (last : length p.entries ≡ m) where
    is_full : full st j ≡ true
    is_full = full_yes st j (omega (arith, s.open_at.since, s.count))

    some_left : (rest ≡ [] → ⊥) → st.length < length j
    some_left h = go rest refl
      where
        go : (r : List ℕ) → rest ≡ r → st.length < length j
        go [] e = absurd (h e)
        go (y ∷ ys) e = omega (arith, ap length s.whole, length-append s.pre rest, s.long, ap length e)

    none_left : rest ≡ [] → length j ≤ st.length
    none_left e = omega (arith, ap length s.whole, length-append s.pre rest, s.long, ap length e)

    start_step : (rest ≡ [] → ⊥) → (x : ℕ) → start_number st j ≡ suc x → one_step (key_schedule key) st j ≡ stopped (suc x) st
    start_step h x z = start_refused (key_schedule key) st j is_full (some_left h) (λ q. omega (arith, z, q)) ∙ ap (λ (y : ℕ). stopped y st) z

  start_read : (serial : Name) (k : ℕ) (more : List ℕ) → StartThere rest serial k more → (start_there j st.length ≡ true) × (serial_at j st.length ≡ serial)
  start_read serial k more x =
      let q : j ≡ s.pre ++ (pair_start serial k ++ more) = s.whole ∙ ap (λ (l : List ℕ). s.pre ++ l) x.bytes in (
        ap (λ (l : List ℕ). start_there l st.length) q ∙ start_there_lem serial x.typed x.good s.pre k more st.length s.long x.few,
        ap (λ (l : List ℕ). serial_at l st.length) q ∙ serial_read serial x.typed x.good s.pre k more st.length s.long x.few,
      )

  read_start : start_there j st.length ≡ true
      → StartThere rest (serial_at j st.length) (count_at j (st.length + 4 + (serial_at j st.length).len) 4) (drop (st.length + 8 + (serial_at j st.length).len) j)
  read_start t =
      let w = start_at j b st.length t in
      record { typed = w.typed; good = w.good; few = w.few; bytes = sym rest_is ∙ w.bytes }

  serial_asks : (serial : Name) → renew_number st serial 0 ≡ ask (not (is_in serial (serials_of (ps ++ (p ∷ []))))) 30 (ask (ltb (length (serials_of (ps ++ (p ∷ [])))) 8) 31 0)
  unfolding renew_number
  serial_asks serial = λ i. ask (not (is_in serial (used_is i))) 30 (ask (ltb (length (used_is i)) 8) 31 0)

  start_asks : (serial : Name) (k : ℕ) (more : List ℕ) → StartThere rest serial k more
      → start_number st j ≡ ask (not (is_in serial (serials_of (ps ++ (p ∷ []))))) 30 (ask (ltb (length (serials_of (ps ++ (p ∷ [])))) 8) 31 0)
  unfolding start_number ask
  start_asks serial k more x = let w = start_read serial k more x in rw (w.0, w.1) (serial_asks serial)

  start_none : ((serial : Name) (k : ℕ) (more : List ℕ) → StartThere rest serial k more → ⊥) → start_number st j ≡ 21
  unfolding start_number ask
  start_none h = rw (bool_no (start_there j st.length) (λ t. h _ _ _ (read_start t)))

-- ---- a no is the answer

module _ (st : State) (k : List (List ℕ)) (e : Entry) where
  fields_17 : number_above st e.fields.details ≡ false → context_number k st e.fields ≡ 17
  unfolding context_number ask
  fields_17 q = rw q

  module _ (a : number_above st e.fields.details ≡ true) where
    fields_18 : first_good st e.fields.details ≡ false → context_number k st e.fields ≡ 18
    unfolding context_number ask
    fields_18 q = rw (a, q)

    module _ (g : first_good st e.fields.details ≡ true) where
      fields_19 : same e.fields.chain st.chain ≡ false → context_number k st e.fields ≡ 19
      unfolding context_number ask
      fields_19 q = rw (a, g, q)

      fields_20 : same e.fields.chain st.chain ≡ true → counter_right k st e.fields ≡ false → context_number k st e.fields ≡ 20
      unfolding context_number ask
      fields_20 c q = rw (a, g, c, q)

module _ (j key : List ℕ) (n : ℕ) (b : AllBytes j) where
  -- the next entry is there and spelled
  module _ {o : Owner} {ps : List Pair} {p : Pair} {e : Entry} (x : Next j key n o ps p e) where
    far : Far j key n o ps p x.count x.rest
    far = far_of x.so_far_lem

    next_no : (y : ℕ) → context_number (key_schedule key) (state_there o key n ps p) e.fields ≡ suc y → take_over j key n ≡ refused (suc y) (index o ps p)
    next_no y z =
        refuse y far
        (entry_step j key n o ps p x.count x.rest b far x.left y
        (entry_text_lem j key n o ps p x.count x.rest b far x.text x.more x.there
        ∙ (fields_text j key n o ps p x.count x.rest b far x.text x.more x.there e x.spells ∙ z)))

    above_of : number_above (state_there o key n ps p) e.fields.details ≡ true → Above (so_far o ps p) e
    above_of = above_is j key n o ps p x.count x.rest b far e

    of_above : Above (so_far o ps p) e → number_above (state_there o key n ps p) e.fields.details ≡ true
    of_above = is_above j key n o ps p x.count x.rest b far e

    start_of : first_good (state_there o key n ps p) e.fields.details ≡ true → StartFirst (so_far o ps p) e
    start_of = start_is j key n o ps p x.count x.rest b far e

    of_start : StartFirst (so_far o ps p) e → first_good (state_there o key n ps p) e.fields.details ≡ true
    of_start = is_start j key n o ps p x.count x.rest b far e

    chain_of_lem : same e.fields.chain (state_there o key n ps p).chain ≡ true → Chained o n (so_far o ps p) e
    chain_of_lem = chain_is j key n o ps p x.count x.rest b far e

    of_chain : Chained o n (so_far o ps p) e → same e.fields.chain (state_there o key n ps p).chain ≡ true
    of_chain = is_chain j key n o ps p x.count x.rest b far e

    counter_of : counter_right (key_schedule key) (state_there o key n ps p) e.fields ≡ true → CountedAfter (settings_for o p.serial) key n (so_far o ps p) e
    counter_of = counter_is j key n o ps p x.count x.rest b far e

    of_counter : CountedAfter (settings_for o p.serial) key n (so_far o ps p) e → counter_right (key_schedule key) (state_there o key n ps p) e.fields ≡ true
    of_counter = is_counter j key n o ps p x.count x.rest b far e x.spells.spelled

    answer_17 : (Above (so_far o ps p) e → ⊥) → take_over j key n ≡ refused 17 (index o ps p)
    answer_17 h = next_no 16 (fields_17 (state_there o key n ps p) (key_schedule key) e (bool_no _ (λ q. h (above_of q))))

    answer_18 : Above (so_far o ps p) e → (StartFirst (so_far o ps p) e → ⊥) → take_over j key n ≡ refused 18 (index o ps p)
    answer_18 a h = next_no 17 (fields_18 (state_there o key n ps p) (key_schedule key) e (of_above a) (bool_no _ (λ q. h (start_of q))))

    answer_19 : Above (so_far o ps p) e → StartFirst (so_far o ps p) e → (Chained o n (so_far o ps p) e → ⊥) → take_over j key n ≡ refused 19 (index o ps p)
    answer_19 a g h = next_no 18 (fields_19 (state_there o key n ps p) (key_schedule key) e (of_above a) (of_start g) (bool_no _ (λ q. h (chain_of_lem q))))

    answer_20 : Above (so_far o ps p) e → StartFirst (so_far o ps p) e → Chained o n (so_far o ps p) e → (CountedAfter (settings_for o p.serial) key n (so_far o ps p) e → ⊥)
        → take_over j key n ≡ refused 20 (index o ps p)
    answer_20 a g c h = next_no 19 (fields_20 (state_there o key n ps p) (key_schedule key) e (of_above a) (of_start g) (of_chain c) (bool_no _ (λ q. h (counter_of q))))

    -- 17 to 20, asked
    fields_no : (y : ℕ) → context_number (key_schedule key) (state_there o key n ps p) e.fields ≡ suc y → NoAt j key n (suc y) (index o ps p)
    unfolding context_number
    fields_no y z =
        ask-case _ _ _ _ z
        (λ q w. subst (λ (a : ℕ). NoAt j key n a (index o ps p)) w (not_above x (λ h. true-is-not-false (sym q ∙ of_above h))))
        (λ q₁ z₁. ask-case _ _ _ _ z₁
        (λ q w. subst (λ (a : ℕ). NoAt j key n a (index o ps p)) w (not_start x (above_of q₁) (λ h. true-is-not-false (sym q ∙ of_start h))))
        (λ q₂ z₂. ask-case _ _ _ _ z₂
        (λ q w. subst (λ (a : ℕ). NoAt j key n a (index o ps p)) w (not_chained x (above_of q₁) (start_of q₂) (λ h. true-is-not-false (sym q ∙ of_chain h))))
        (λ q₃ z₃. ask-case _ _ _ _ z₃
        (λ q w. subst (λ (a : ℕ). NoAt j key n a (index o ps p)) w (not_counted x (above_of q₁) (start_of q₂) (chain_of_lem q₃) (λ h. true-is-not-false (sym q ∙ of_counter h))))
        (λ q₄ z₄. absurd (omega arith)))))

  -- ---- an entry that is refused

  module _ (o : Owner) (ps : List Pair) (p : Pair) (m : ℕ) (rest : List ℕ) (f : Far j key n o ps p m rest) (less : length p.entries < m) where
    text : List ℕ
    text = text_at j (state_there o key n ps p).length

    entry_asks : (y : ℕ) → entry_number (key_schedule key) (state_there o key n ps p) j ≡ suc y
        → ask (there j (state_there o key n ps p).length) 15 (ask (found (state_there o key n ps p) text).ok 16 (context_number (key_schedule key) (state_there o key n ps p) (found (state_there o key n ps p) text).entry.fields)) ≡ suc y
    unfolding entry_number text_number text
    entry_asks y z = z

    entry_no : (y : ℕ) → entry_number (key_schedule key) (state_there o key n ps p) j ≡ suc y → NoAt j key n (suc y) (index o ps p)
    unfolding text
    entry_no y z =
        ask-case _ _ _ _ (entry_asks y z)
        (λ q w. subst (λ (a : ℕ). NoAt j key n a (index o ps p)) w
        (not_there (so_far_of f) less (λ t more x. true-is-not-false (sym q ∙ (there_yes j key n o ps p m rest b f t more x).0))))
        (λ q₁ z₁.
        let st' = state_there o key n ps p in
        let sf' = settings_for o p.serial in
        let x = there_is j key n o ps p m rest b f q₁ in
        let ty = typed j key n o ps p m rest b f in
        ask-case _ _ _ _ z₁
        (λ q w. subst (λ (a : ℕ). NoAt j key n a (index o ps p)) w
        (not_spelled (so_far_of f) less x
        (λ e y. true-is-not-false (sym q ∙ ap (λ (r : Found). r.ok) (text_found j key n o ps p m rest b f text _ x e y)))))
        (λ q₂ z₂.
        let ex = exact sf' n text ty.lengths ty.bytes (bytes_text j st'.length b) in
        let w = ex.0 (ap (λ (r : Found). r.ok) (sym (found_is j key n o ps p m rest b f text)) ∙ q₂) in
        let fo : found st' text ≡ record { ok = true; entry = w.entry } = found_is j key n o ps p m rest b f text ∙ ex.1 w in
        fields_no
        (record {
          count = m;
          rest = rest;
          text = text;
          more = drop (st'.length + length (entry_text text)) j;
          so_far_lem = so_far_of f;
          left = less;
          there = x;
          spells = record { typed = w.typed; spelled = w.spellable; is = w.is };
        }) y (ap (λ (r : Found). context_number (key_schedule key) st' r.entry.fields) (sym fo) ∙ z₂)))

  -- ---- the start of a pair that is refused

  start_no : (o : Owner) (ps : List Pair) (p : Pair) (rest : List ℕ) (f : Far j key n o ps p (length p.entries) rest) → (rest ≡ [] → ⊥)
      → (y : ℕ) → start_number (state_there o key n ps p) j ≡ suc y → NoAt j key n (suc y) (index o ps p)
  unfolding start_number
  start_no o ps p rest f left y z =
      let x : Full j key n o ps p rest = record { so_far_lem = so_far_of f; left = left } in
      let m = length p.entries in
      let us = serials_of (ps ++ (p ∷ [])) in
      ask-case _ _ _ _ z
      (λ q w. subst (λ (a : ℕ). NoAt j key n a (index o ps p)) w
      (no_start x (λ serial k more t. true-is-not-false (sym q ∙ (start_read j key n o ps p m rest b f serial k more t).0))))
      (λ q₁ z₁.
      let t = read_start j key n o ps p m rest b f q₁ in
      let serial = serial_at j (state_there o key n ps p).length in
      ask-case (not (is_in serial us)) 30 (ask (ltb (length us) 8) 31 0) (suc y) (sym (serial_asks j key n o ps p m rest b f serial) ∙ z₁)
      (λ q w. subst (λ (a : ℕ). NoAt j key n a (index o ps p)) w
      (used_before x t (in_place serial (ps ++ (p ∷ [])) (not-false _ q))))
      (λ q₂ z₂. ask-case (ltb (length us) 8) 31 0 (suc y) z₂
      (λ q w.
      let l = ltb-false (length us) 8 q in
      let e = names_length [] (ps ++ (p ∷ [])) f.work.names f.work.some in
      subst (λ (a : ℕ). NoAt j key n a (index o ps p)) w
      (a_ninth x t (out_places serial (ps ++ (p ∷ [])) (not-true _ q₂)) (omega (arith, length_serials (ps ++ (p ∷ [])), l, e))))
      (λ q₃ z₃. absurd (omega arith))))

  -- ---- a step that is refused

  abbrev StepNo : Owner → List Pair → Pair → ℕ → Type 0
  StepNo o ps p y = (one_step (key_schedule key) (state_there o key n ps p) j ≡ stopped (suc y) (state_there o key n ps p)) × NoAt j key n (suc y) (index o ps p)

  same_number : (o : Owner) (ps : List Pair) (p : Pair) (x y : ℕ) → (one_step (key_schedule key) (state_there o key n ps p) j).number ≡ suc y → StepNo o ps p x → StepNo o ps p y
  same_number o ps p x y z r =
      let i : suc x ≡ suc y = sym (number_of (suc x) (state_there o key n ps p)) ∙ (sym (ap (λ (c : Checked). c.number) r.0) ∙ z) in
      (r.0 ∙ ap (λ (a : ℕ). stopped a (state_there o key n ps p)) i, subst (λ (a : ℕ). NoAt j key n a (index o ps p)) i r.1)

  module _ (o : Owner) (ps : List Pair) (p : Pair) (m : ℕ) (rest : List ℕ) (f : Far j key n o ps p m rest) (y : ℕ) (z : (one_step (key_schedule key) (state_there o key n ps p) j).number ≡ suc y) where
    entry_side : length p.entries < m → StepNo o ps p y
    entry_side less = go (entry_number (key_schedule key) (state_there o key n ps p) j) refl
      where
        go : (x : ℕ) → entry_number (key_schedule key) (state_there o key n ps p) j ≡ x → StepNo o ps p y
        go zero e = absurd (omega (arith, z, ap (λ (c : Checked). c.number) (entry_passed (key_schedule key) (state_there o key n ps p) j (not_full j key n o ps p m rest b f less) e)))
        go (suc x) e = same_number o ps p x y z (entry_step j key n o ps p m rest b f less x e, entry_no o ps p m rest f less x e)

    start_side : (last : length p.entries ≡ m) → StepNo o ps p y
    start_side last = ends rest refl
      where
        far' : Far j key n o ps p (length p.entries) rest
        far' = subst (λ (a : ℕ). Far j key n o ps p a rest) (sym last) f

        starts : (rest ≡ [] → ⊥) → (x : ℕ) → start_number (state_there o key n ps p) j ≡ x → StepNo o ps p y
        starts left zero e =
            absurd (omega (arith, z, ap (λ (c : Checked). c.number) (start_passed (key_schedule key) (state_there o key n ps p) j (is_full j key n o ps p m rest b f last) (some_left j key n o ps p m rest b f last left) e), number_of 0 (renewed (state_there o key n ps p) (serial_at j (state_there o key n ps p).length))))
        starts left (suc x) e = same_number o ps p x y z (start_step j key n o ps p m rest b f last left x e, start_no o ps p rest far' left x e)

        ends : (r : List ℕ) → rest ≡ r → StepNo o ps p y
        ends [] e =
            absurd (omega (arith, z, ap (λ (c : Checked). c.number) (end_none (key_schedule key) (state_there o key n ps p) j (is_full j key n o ps p m rest b f last) (none_left j key n o ps p m rest b f last e)), number_of 0 (state_there o key n ps p)))
        ends (x ∷ xs) e = starts (λ h. let l = ap length (sym e ∙ h) in absurd (omega arith)) (start_number (state_there o key n ps p) j) refl

    step_no : StepNo o ps p y
    step_no = go (ltb (length p.entries) m) refl
      where
        go : (t : Bool) → ltb (length p.entries) m ≡ t → StepNo o ps p y
        go true e = entry_side (ltb-true _ _ e)
        go false e = start_side (omega (arith, ltb-false (length p.entries) m e, f.within))

  -- ---- the first refusal of many steps

  abbrev Refusal : Step → Type 0
  Refusal x = NoAt j key n x.number x.state.issued

  refused_there : (o : Owner) (ps : List Pair) (p : Pair) (m : ℕ) (rest : List ℕ) → Far j key n o ps p m rest → (i y : ℕ) → StepNo o ps p y → Refusal (steps (key_schedule key) (suc i) (state_there o key n ps p) j)
  refused_there o ps p m rest f i y r =
      subst Refusal (sym (refused_step (key_schedule key) j i (state_there o key n ps p) (λ q. omega (arith, q)) r.0)) (subst (NoAt j key n (suc y)) (sym (stands f).issued) r.1)

  no_from : (i : ℕ) (o : Owner) (ps : List Pair) (p : Pair) (m : ℕ) (rest : List ℕ) → Far j key n o ps p m rest → ((steps (key_schedule key) i (state_there o key n ps p) j).number ≡ 0 → ⊥)
      → Refusal (steps (key_schedule key) i (state_there o key n ps p) j)
  unfolding steps
  no_from zero o ps p m rest f h = absurd (h refl)
  no_from (suc i) o ps p m rest f h =
      go (one_step (key_schedule key) (state_there o key n ps p) j).number refl (λ ps' p' m' rest' f' h'. no_from i o ps' p' m' rest' f' h')
    where
      go : (y : ℕ) → (one_step (key_schedule key) (state_there o key n ps p) j).number ≡ y
          → ((ps' : List Pair) (p' : Pair) (m' : ℕ) (rest' : List ℕ) → Far j key n o ps' p' m' rest' → ((steps (key_schedule key) i (state_there o key n ps' p') j).number ≡ 0 → ⊥)
          → Refusal (steps (key_schedule key) i (state_there o key n ps' p') j))
          → Refusal (steps (key_schedule key) (suc i) (state_there o key n ps p) j)
      go (suc y) z rec = refused_there o ps p m rest f i y (step_no o ps p m rest f y z)
      go zero z rec = on (step_case (key_schedule key) (state_there o key n ps p) j z)
        where
          move : (ps' : List Pair) (p' : Pair) (m' : ℕ) (rest' : List ℕ) → Far j key n o ps' p' m' rest' → (one_step (key_schedule key) (state_there o key n ps p) j).state ≡ state_there o key n ps' p'
              → Refusal (steps (key_schedule key) (suc i) (state_there o key n ps p) j)
          move ps' p' m' rest' f' e =
              let q = passed_step (key_schedule key) j i (state_there o key n ps p) z e in
              subst Refusal (sym q) (rec ps' p' m' rest' f' (λ w. h (ap (λ (x : Step). x.number) q ∙ w)))

          on : Case (key_schedule key) (state_there o key n ps p) j → Refusal (steps (key_schedule key) (suc i) (state_there o key n ps p) j)
          on (an_entry u w e) =
              let s' = stands f in
              let st' = state_there o key n ps p in
              let x = entry_at j s'.open_at.at b w in
              move ps (wider p x.entry) m (drop (step st' x.entry).length j)
              (far_entry j key n o ps p m rest f (omega (arith, s'.open_at.since, s'.count, full_false st' j u)) x)
              (ap (λ (c : Checked). c.state) e ∙ (x.state ∙ sym (run_wider (blank o key n) ps p x.entry)))
          on (at_end_lem u l e) = absurd (h (ap (λ (x : Step). x.number) (idle (key_schedule key) j (suc i) (state_there o key n ps p) e)))
          on (a_start u l w e) =
              let s' = stands f in
              let st' = state_there o key n ps p in
              let serial = serial_at j st'.length in
              let x = start_at j b st'.length w.there in
              let c : m ≡ length p.entries = omega (arith, s'.open_at.since, s'.count, f.within, full_true st' j u) in
              move (ps ++ (p ∷ [])) (empty_pair serial) (count_at j (st'.length + 4 + serial.len) 4) (drop (st'.length + 8 + serial.len) j)
              (far_start j key n o ps p rest serial (count_at j (st'.length + 4 + serial.len) 4) (subst (λ (a : ℕ). Far j key n o ps p a rest) c f) x w.new w.few)
              (ap (λ (y : Checked). y.state) e ∙ (state_of_lem 0 (renewed st' serial) ∙ sym (run_empty (blank o key n) (ps ++ (p ∷ [])) serial)))

  -- ---- from the head on

  answer_index : (x : Step) → (x.number ≡ 0 → ⊥) → (last_answer x).index ≡ x.state.issued
  unfolding last_answer ifZero refused
  answer_index x h = go x.number h
    where
      go : (y : ℕ) → (y ≡ 0 → ⊥) → (ifZero y (accepted x.state) (refused y x.state.issued)).index ≡ x.state.issued
      go zero h = absurd (h refl)
      go (suc y) h = refl

  abbrev Answer : TakenOver → Type 0
  Answer t = (t.number ≡ 0 → ⊥) → NoAt j key n t.number t.index

  answer_of_lem : (x : Step) → ((x.number ≡ 0 → ⊥) → Refusal x) → Answer (last_answer x)
  answer_of_lem x r h =
      let nz : x.number ≡ 0 → ⊥ = λ z. h (answer_number x ∙ z) in
      subst (λ (a : ℕ). NoAt j key n a (last_answer x).index) (sym (answer_number x)) (subst (NoAt j key n x.number) (sym (answer_index x nz)) (r nz))

  headed : (g : head_good j ≡ true) → Headed j (head_settings j) (count_of j) (drop (head_length (head_settings j)) j)
  headed g = record { typed = read_typed j b g; good = (good_head j b g).good; few = read_few j b g; bytes = read_back j b g }

  head_yes : (s : Settings) (m : ℕ) (more : List ℕ) → Headed j s m more → head_good j ≡ true
  head_yes s m more h = ap head_good h.bytes ∙ head_good_lem s h.typed.lengths h.good m h.few more

  first_state : (s : Settings) → fresh s n key ≡ state_there (owner_in s) key n [] (empty_pair s.serial)
  first_state s = fresh_holds (owner_in s) key n s.serial

  take_no : Answer (take_over j key n)
  unfolding take_over head_number ask ifZero refused
  take_no = go (width_good n) (head_good j) refl refl
    where
      go : (q₁ q₂ : Bool) → width_good n ≡ q₁ → head_good j ≡ q₂
          → Answer (ifZero (ask q₁ 4 (ask q₂ 14 0)) (last_answer (steps (key_schedule key) (length j) (fresh (head_settings j) n key) j)) (refused (ask q₁ 4 (ask q₂ 14 0)) 0))
      go false q₂ e₁ e₂ h = no_width (λ w. true-is-not-false (sym e₁ ∙ w))
      go true false e₁ e₂ h = no_head e₁ (λ s m more w. true-is-not-false (sym e₂ ∙ head_yes s m more w))
      go true true e₁ e₂ h =
          answer_of_lem (steps (key_schedule key) (length j) (fresh (head_settings j) n key) j)
          (subst (λ (x : State). ((steps (key_schedule key) (length j) x j).number ≡ 0 → ⊥) → Refusal (steps (key_schedule key) (length j) x j)) (sym (first_state (head_settings j)))
          (no_from (length j) (owner_in (head_settings j)) [] (empty_pair (head_settings j).serial) (count_of j) (drop (head_length (head_settings j)) j) (far_first j key n (head_settings j) (count_of j) (drop (head_length (head_settings j)) j) e₁ (headed e₂)))) h

  -- ---- a no is the answer

  answer_4 : (width_good n ≡ true → ⊥) → take_over j key n ≡ refused 4 0
  unfolding take_over head_number ask ifZero
  answer_4 h = rw (bool_no (width_good n) h)

  answer_14 : width_good n ≡ true → ((s : Settings) (m : ℕ) (more : List ℕ) → Headed j s m more → ⊥) → take_over j key n ≡ refused 14 0
  unfolding take_over head_number ask ifZero
  answer_14 w h = rw (w, bool_no (head_good j) (λ g. h _ _ _ (headed g)))

  full_no_start : {o : Owner} {ps : List Pair} {p : Pair} {rest : List ℕ} (y : ℕ) (x : Full j key n o ps p rest) → start_number (state_there o key n ps p) j ≡ suc y
      → take_over j key n ≡ refused (suc y) (index o ps p)
  full_no_start {o} {ps} {p} {rest} y x z =
      refuse y (far_of x.so_far_lem) (start_step j key n o ps p (length p.entries) rest b (far_of x.so_far_lem) refl x.left y z)

  answer : (y i : ℕ) → NoAt j key n y i → take_over j key n ≡ refused y i
  unfolding ask
  answer y i (no_width h) = answer_4 h
  answer y i (no_head w h) = answer_14 w h
  answer y i (not_there {o} {ps} {p} {k} {rest} c less h) =
      refuse 14 (far_of c) (entry_step j key n o ps p k rest b (far_of c) less 14 (there_no j key n o ps p k rest b (far_of c) h))
  answer y i (not_spelled {o} {ps} {p} {k} {rest} {text} {more} c less x h) =
      refuse 15 (far_of c) (entry_step j key n o ps p k rest b (far_of c) less 15 (entry_text_lem j key n o ps p k rest b (far_of c) text more x ∙ spelled_no j key n o ps p k rest b (far_of c) text more x h))
  answer y i (not_above x h) = answer_17 x h
  answer y i (not_start x a h) = answer_18 x a h
  answer y i (not_chained x a g h) = answer_19 x a g h
  answer y i (not_counted x a g c h) = answer_20 x a g c h
  answer y i (no_start {o} {ps} {p} {rest} x h) = full_no_start 20 x (start_none j key n o ps p (length p.entries) rest b (far_of x.so_far_lem) h)
  answer y i (used_before {o} {ps} {p} {rest} {serial} {k} {more} x t h) =
      full_no_start 29 x
      (start_asks j key n o ps p (length p.entries) rest b (far_of x.so_far_lem) serial k more t
      ∙ rw (bool_yes (is_in serial (serials_of (ps ++ (p ∷ [])))) (λ z. out_places serial (ps ++ (p ∷ [])) z h.before h.pair h.later h.is h.same)))
  answer y i (a_ninth {o} {ps} {p} {rest} {serial} {k} {more} x t h e) =
      let l : 8 ≤ length (serials_of (ps ++ (p ∷ []))) = omega (arith, length_serials (ps ++ (p ∷ [])), e) in
      full_no_start 30 x
      (start_asks j key n o ps p (length p.entries) rest b (far_of x.so_far_lem) serial k more t
      ∙ rw (places_out serial (ps ++ (p ∷ [])) h, le-ltb _ _ l))

pub first_no : FirstNo
first_no j key n b = (take_no j key n b, answer j key n b)
