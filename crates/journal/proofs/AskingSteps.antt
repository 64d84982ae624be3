-- What the steps for other readers ask, in the paper's words.
use Rattle.std.proofs.Common.{ℕ, zero, suc, ◌+◌, ◌≤◌, ◌≡◌, refl, sym, ap, ◌∙◌, Bool, true, false, cond, List, ◌++◌, arith, leb-true, le-leb, leb, length, take, drop, take-append-drop, length-take-le}
use Rattle.primitives.specs.Bytes.{AllBytes, same}
use Rattle.primitives.specs.Number.{count_at}
use Rattle.primitives.specs.Counter.{width_good}
use Rattle.primitives.specs.Aes.{key_schedule}
use Rattle.primitives.specs.Questions.{ask, ifZero, asked_all, GivesFirstNo}
use Rattle.primitives.proofs.ByteLists.{same_true, same_refl}
use Rattle.primitives.proofs.Rows.{both}
use Rattle.primitives.proofs.FirstNo.{gives_none, gives_ask, gives_same}
use Rattle.receipt.specs.Settings.{serial_good, settings_good}
use Rattle.receipt.specs.SettingsWords.{GoodSerial, GoodWidth, AllGood}
use Rattle.receipt.specs.Compact.{spellable, read_entry, Found}
use Rattle.receipt.proofs.SettingsMeaning.{serial_means, width_means, settings_mean}
use Rattle.receipt.proofs.Entries.{admitted}
use Rattle.receipt.proofs.ExactEntry.{back, exact}
use Rattle.receipt.specs.declared.settings.Name.{Name}
use Rattle.receipt.specs.declared.settings.Settings.{Settings}
use Rattle.receipt.specs.declared.entry.Entry.{Entry}
use Rattle.journal.specs.Head.{entry_text, pair_start, there, text_at, serial_at, start_there}
use Rattle.journal.specs.State.{settings_now, TypedState}
use Rattle.journal.specs.Step.{fresh, sound_alone, sound, number_above, first_good, renewed}
use Rattle.journal.specs.Checking.{found, counter_right, context_number, text_number, entry_number, stopped, checked, text_checked, start_number, entry_ready, entry_checked, serial_ready, serial_number, serial_checked, settings_checked, step_checked, accepted, refused, Checked}
use Rattle.journal.specs.Valid.{Counted}
use Rattle.journal.specs.FirstNo.{EntryThere, StartThere, Spells}
use Rattle.journal.specs.Asked.{ReadyFor, entry_row, EntryIsAsked, serial_row, SerialIsAsked, SettingsAreAsked, StepIsAsked}
use Rattle.journal.specs.declared.state.State.{State}
use Rattle.journal.proofs.Places.{length_entry, there_at, text_at_lem, there_entry, text_short}
use Rattle.journal.proofs.Starting.{start_at, serial_read, start_there_lem}
use Rattle.journal.proofs.ReadBySteps.{checked_is, step_is_its_entry, step_is_its_start}
use Rattle.journal.proofs.Check.{above_true, above_yes, new_yes, new_fits, right_yes, right_fits, right_true}
use Rattle.journal.proofs.Stepping.{full_yes, full_no, end_none, start_refused, entry_refused}
use Rattle.journal.proofs.FirstNo.{bool_no}
use Rattle.journal.proofs.Asking.{sound_means, means_sound, sound_in, in_sound, starts, started, renew_asked}

-- ---- 6

module _ (st : State) (t : TypedState st) where
  entry_ready_lem : (text : List ℕ) → entry_ready st text ≡ true → ReadyFor st (2 + length text)
  unfolding entry_ready
  entry_ready_lem text e =
      let p = both (sound_alone st) (leb (st.length + length (entry_text text)) 18446744073709551615) e in
      let h = leb-true (st.length + length (entry_text text)) 18446744073709551615 p.1 in
      record { sound = sound_means st t p.0; fits = omega (arith, h, length_entry text) }

  ready_entry : (text : List ℕ) → ReadyFor st (2 + length text) → entry_ready st text ≡ true
  unfolding entry_ready
  ready_entry text r =
      let f = r.fits in
      let h : st.length + length (entry_text text) ≤ 18446744073709551615 = omega (arith, f, length_entry text) in
      rw (means_sound st t r.sound, le-leb (st.length + length (entry_text text)) 18446744073709551615 h)

  serial_ready_lem : (serial : Name) → serial_ready st serial ≡ true → ReadyFor st (8 + serial.len)
  unfolding serial_ready
  serial_ready_lem serial e =
      let p = both (sound_alone st) (leb (st.length + 8 + serial.len) 18446744073709551615) e in
      let h = leb-true (st.length + 8 + serial.len) 18446744073709551615 p.1 in
      record { sound = sound_means st t p.0; fits = omega (arith, h) }

  ready_serial : (serial : Name) → ReadyFor st (8 + serial.len) → serial_ready st serial ≡ true
  unfolding serial_ready
  ready_serial serial r =
      let f = r.fits in
      let h : st.length + 8 + serial.len ≤ 18446744073709551615 = omega (arith, f) in
      rw (means_sound st t r.sound, le-leb (st.length + 8 + serial.len) 18446744073709551615 h)

-- ---- an entry

module _ (st : State) (e : Entry) where
  chained : same e.fields.chain st.chain ≡ true → e.fields.chain ≡ st.chain
  chained q = same_true _ _ q

  of_chained : e.fields.chain ≡ st.chain → same e.fields.chain st.chain ≡ true
  of_chained h = ap (λ (l : List ℕ). same l st.chain) h ∙ same_refl st.chain

  counts : counter_right (key_schedule st.key) st e.fields ≡ true → Counted (settings_now st) st.key st.width st.counter e
  counts q = record { fits = (new_fits st e.fields.details (right_fits st e.fields q)).fits; decrypted = right_true st e.fields q }

  of_counts : spellable (settings_now st) st.width e ≡ true → Counted (settings_now st) st.key st.width st.counter e
      → counter_right (key_schedule st.key) st e.fields ≡ true
  of_counts g c = right_yes st e.fields (new_yes st e.fields.details (admitted (settings_now st) st.width e g).amounts c.fits) c.decrypted

  context_asked : spellable (settings_now st) st.width e ≡ true → GivesFirstNo (context_number (key_schedule st.key) st e.fields) (entry_row st e)
  unfolding context_number
  context_asked g =
      gives_ask (number_above st e.fields.details) 16 _ _ _ (above_true st e.fields.details) (above_yes st e.fields.details)
      (λ a. gives_ask (first_good st e.fields.details) 17 _ _ _ (starts st e.fields.details) (started st e.fields.details)
      (λ f. gives_ask (same e.fields.chain st.chain) 18 _ _ _ chained of_chained
      (λ c. gives_ask (counter_right (key_schedule st.key) st e.fields) 19 0 _ asked_all counts (of_counts g) (λ k. gives_none))))

-- the number of an answer is that of its questions
checked_number : (number : ℕ) (st : State) (text : List ℕ) → (checked number st text).number ≡ number
unfolding checked ifZero stopped
checked_number zero st text = refl
checked_number (suc n) st text = refl

checked_refused : (n : ℕ) (st : State) (text : List ℕ) → checked (suc n) st text ≡ stopped (suc n) st
unfolding checked ifZero
checked_refused n st text = refl

module _ (schedule : List (List ℕ)) (st : State) (text : List ℕ) where
  entry_six : entry_ready st text ≡ false → entry_checked schedule st text ≡ stopped 6 st
  unfolding entry_checked
  entry_six e = rw e

  entry_asked : entry_ready st text ≡ true → entry_checked schedule st text ≡ checked (text_number schedule st text) st text
  unfolding entry_checked text_checked
  entry_asked e = rw e

pub entry_is_asked : EntryIsAsked
unfolding text_number ask found
entry_is_asked st text t s b =
    record {
      six = λ h. entry_six k st text (bool_no (entry_ready st text) (λ e. h (entry_ready_lem st t text e)));
      unspelled = λ r h.
          entry_asked k st text (ready_entry st t text r)
          ∙ (ap (λ (x : Bool). checked (ask x 16 (context_number k st (found st text).entry.fields)) st text) (bool_no (found st text).ok (none h)) ∙ checked_refused 15 st text);
      spelled = λ r e y.
          gives_same (entry_row st e)
          (ap (λ (x : Checked). x.number) (entry_asked k st text (ready_entry st t text r))
          ∙ (checked_number (text_number k st text) st text ∙ ap (λ (x : Found). ask x.ok 16 (context_number k st x.entry.fields)) (read e y)))
          (context_asked st e y.spelled);
    }
  where
    k : List (List ℕ)
    k = key_schedule st.key

    read : (e : Entry) → Spells (settings_now st) st.width text e → read_entry (settings_now st) st.width text ≡ record { ok = true; entry = e }
    read e y = ap (read_entry (settings_now st) st.width) y.is ∙ back (settings_now st) st.width e s.lengths s.bytes y.typed y.spelled

    none : ((e : Entry) → Spells (settings_now st) st.width text e → ⊥) → (read_entry (settings_now st) st.width text).ok ≡ true → ⊥
    none h q =
        let w = (exact (settings_now st) st.width text s.lengths s.bytes b).0 q in
        h w.entry (record { typed = w.typed; spelled = w.spellable; is = w.is })

-- ---- the serial of a pair

serial_number_lem : (st : State) (serial : Name) → (serial_checked st serial).number ≡ ask (serial_ready st serial) 6 (serial_number st serial)
unfolding serial_checked ask stopped ifZero
serial_number_lem st serial = go (serial_ready st serial) (serial_number st serial)
  where
    go : (b : Bool) (n : ℕ) → (cond b (ifZero n (stopped 0 (renewed st serial)) (stopped n st)) (stopped 6 st)).number ≡ ask b 6 n
    go true zero = refl
    go true (suc n) = refl
    go false n = refl

pub serial_is_asked : SerialIsAsked
unfolding serial_number
serial_is_asked st serial t l =
    gives_same (serial_row st serial) (serial_number_lem st serial)
    (gives_ask (serial_ready st serial) 5 _ (ReadyFor st (8 + serial.len)) _ (serial_ready_lem st t serial) (ready_serial st t serial)
    (λ r. gives_ask (serial_good serial) 20 _ (GoodSerial serial) _ (serial_means serial l).only (serial_means serial l).always
    (λ g. renew_asked st serial 0 asked_all gives_none)))

-- ---- the settings of a head

settings_number_lem : (s : Settings) (key : List ℕ) (n : ℕ) → (settings_checked s key n).number ≡ ask (width_good n) 4 (ask (settings_good s) 14 0)
unfolding settings_checked ask ifZero accepted refused
settings_number_lem s key n = go (width_good n) (settings_good s)
  where
    go : (a b : Bool) → (ifZero (ask a 4 (ask b 14 0)) (accepted (fresh s n key)) (refused (ask a 4 (ask b 14 0)) 0)).number ≡ ask a 4 (ask b 14 0)
    go true true = refl
    go true false = refl
    go false b = refl

pub settings_are_asked : SettingsAreAsked
settings_are_asked s key n l =
    gives_same _ (settings_number_lem s key n)
    (gives_ask (width_good n) 3 _ (GoodWidth n) _ (width_means n).only (width_means n).always
    (λ w. gives_ask (settings_good s) 13 0 (AllGood s) asked_all (settings_mean s l).only (settings_mean s l).always (λ g. gives_none)))

-- ---- a step

step_six : (k : List (List ℕ)) (st : State) (j : List ℕ) → sound st (length j) ≡ false → step_checked k st j ≡ stopped 6 st
unfolding step_checked
step_six k st j e = rw e

-- what is at a place of a journal
module _ (j : List ℕ) (at : ℕ) (h : at ≤ length j) where
  before : List ℕ
  before = take at j

  long : length before ≡ at
  unfolding before
  long = length-take-le at j h

  whole : (rest : List ℕ) → drop at j ≡ rest → j ≡ before ++ rest
  unfolding before
  whole rest e = sym (take-append-drop at j) ∙ ap (λ (l : List ℕ). take at j ++ l) e

  entry_at : (text more : List ℕ) → EntryThere (drop at j) text more → (there j at ≡ true) × (text_at j at ≡ text)
  entry_at text more x =
      let q = whole (entry_text text ++ more) x.bytes in (
        ap (λ (l : List ℕ). there l at) q ∙ there_at before text more at long x.short,
        ap (λ (l : List ℕ). text_at l at) q ∙ text_at_lem before text more at long x.short,
      )

  pair_at : (serial : Name) (k : ℕ) (more : List ℕ) → StartThere (drop at j) serial k more → (start_there j at ≡ true) × (serial_at j at ≡ serial)
  pair_at serial k more x =
      let q = whole (pair_start serial k ++ more) x.bytes in (
        ap (λ (l : List ℕ). start_there l at) q ∙ start_there_lem serial x.typed x.good before k more at long x.few,
        ap (λ (l : List ℕ). serial_at l at) q ∙ serial_read serial x.typed x.good before k more at long x.few,
      )

there_is : (j : List ℕ) (at : ℕ) → AllBytes j → there j at ≡ true → EntryThere (drop at j) (text_at j at) (drop (at + length (entry_text (text_at j at))) j)
there_is j at b t = record { short = text_short j b at t; bytes = there_entry j b at t }

start_is : (j : List ℕ) (at : ℕ) → AllBytes j → start_there j at ≡ true
    → StartThere (drop at j) (serial_at j at) (count_at j (at + 4 + (serial_at j at).len) 4) (drop (at + 8 + (serial_at j at).len) j)
start_is j at b t = let w = start_at j b at t in record { typed = w.typed; good = w.good; few = w.few; bytes = w.bytes }

module _ (k : List (List ℕ)) (st : State) (j : List ℕ) where
  number_15 : there j st.length ≡ false → entry_number k st j ≡ 15
  unfolding entry_number ask
  number_15 e = rw e

  number_21 : start_there j st.length ≡ false → start_number st j ≡ 21
  unfolding start_number ask
  number_21 e = rw e

pub step_is_asked : StepIsAsked
step_is_asked st j t b small =
    record {
      six = λ h. step_six k st j (bool_no (sound st (length j)) (λ e. h (sound_in st t (length j) e)));
      cut = λ s l h.
          let z = number_15 k st j (bool_no (there j st.length) (λ e. h _ _ (there_is j st.length b e))) in
          checked_is k st j (in_sound st t (length j) s) ∙ (entry_refused k st j (full_no st j l) (λ q. omega (arith, z, q)) ∙ ap (λ (n : ℕ). stopped n st) z);
      entry = λ s l text more x.
          let w = entry_at j st.length s.within text more x in
          step_is_its_entry k st j small (in_sound st t (length j) s) (full_no st j l) w.0 ∙ ap (entry_checked k st) w.1;
      end = λ s l h. checked_is k st j (in_sound st t (length j) s) ∙ end_none k st j (full_yes st j l) h;
      left = λ s l h n.
          let z = number_21 k st j (bool_no (start_there j st.length) (λ e. n _ _ _ (start_is j st.length b e))) in
          checked_is k st j (in_sound st t (length j) s)
          ∙ (start_refused k st j (full_yes st j l) h (λ q. omega (arith, z, q)) ∙ ap (λ (m : ℕ). stopped m st) z);
      start = λ s l serial c more x.
          let w = pair_at j st.length s.within serial c more x in
          step_is_its_start k st j small (in_sound st t (length j) s) (full_yes st j l) w.0 ∙ ap (serial_checked st) w.1;
    }
  where
    k : List (List ℕ)
    k = key_schedule st.key
