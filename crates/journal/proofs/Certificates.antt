-- What Change asks, writes and leaves; and that journals with one certificate are checked as before.
use Rattle.std.proofs.lemmas.Bool.{lt-leb}
use Rattle.std.proofs.Common.{ℕ, zero, suc, ◌+◌, ◌-◌, ◌≤◌, ◌<◌, ◌≡◌, refl, sym, ap, ◌∙◌, subst, Bool, true, false, cond, not, ◌||◌, List, [], ◌∷◌, ◌++◌, append_assoc, append-nil, arith, leb-true, leb-false, le-leb, ltb-true, ltb-false, le-ltb, lt-ltb, leb, ltb, length, take, get_or, length-append, take-add}
use Rattle.primitives.specs.Place.{overwrite}
use Rattle.primitives.specs.Number.{count_at}
use Rattle.primitives.specs.Counter.{width_good}
use Rattle.primitives.specs.Aes.{key_schedule}
use Rattle.primitives.specs.Questions.{ask, ifZero}
use Rattle.primitives.proofs.Over.{before_over, read_over}
use Rattle.primitives.proofs.Rows.{both, true-is-not-false, ifZero-yes, ifZero-no}
use Rattle.receipt.specs.Settings.{serial_good}
use Rattle.receipt.specs.DateTime.{date_good}
use Rattle.receipt.specs.Amount.{amount_limit}
use Rattle.receipt.specs.Details.{amounts_within}
use Rattle.receipt.specs.Compact.{compact, no_entry}
use Rattle.receipt.specs.declared.settings.Name.{Name}
use Rattle.receipt.specs.declared.details.Details.{Details}
use Rattle.receipt.specs.declared.settings.Settings.{Settings}
use Rattle.receipt.specs.declared.entry.Entry.{Entry}
use Rattle.journal.specs.Head.{head, head_settings, head_good, entry_text, pair_start, text_at, start_there}
use Rattle.journal.specs.State.{same_name, used, in_eight, is_in, all_good, settings_now}
use Rattle.journal.specs.declared.state.TakenOver.{TakenOver}
use Rattle.journal.specs.Step.{fresh, sound, number_above, first_good, new_counter, details_number_within, next, renewed, renew_number}
use Rattle.journal.specs.Issuing.{issue_number, signature_sized, entry_fits, text_of, issue_number_within}
use Rattle.journal.specs.Changing.{change_number, changed, change_buffer}
use Rattle.journal.specs.Checking.{head_number, found, after, entry_number, checked, stopped, place_checked, start_number, start_checked, full, one_step, steps, refused, accepted, last_answer, take_over, Checked}
use Rattle.journal.specs.declared.checking.Step.{Step}
use Rattle.journal.specs.Certificates.{EachGood, SerialsGoodExactly, ChangeAsks6AsIssue, BadSerialGets3, OneOf, UsedSerialGets30, NinthSerialGets31, NoRoomGets13, SerialAdded, ChangeAddsSerial, ChangeAppends, ChangeTouchesNoOther, ChangedSerialIsSpelled, RunsOn, ChangeRunsOn, one_step_before, steps_before, take_over_before, OneSectionAsBefore}
use Rattle.journal.specs.Valid.{Owner, Pair, settings_for, texts, pair_texts, placed_under, all_placed, journal_text, GoodOwner, Valid, head_of}
use Rattle.journal.specs.declared.state.State.{State}
use Rattle.journal.proofs.Serials.{used_added, same_name_is, same_name_refl, used_eight, newest_added, serials_good_lem, Zeroed, serials_are, used_length}
use Rattle.journal.proofs.Sections.{length_start}
use Rattle.journal.proofs.Answers.{Changeable, change-zero}
use Rattle.journal.proofs.Touching.{outside}
use Rattle.journal.proofs.Heads.{length_head, read_settings, read_count_at, head_good_lem}
use Rattle.journal.proofs.Check.{step, step_length}
use Rattle.journal.proofs.Stepping.{full_yes, full_no, end_none, end_start}
use Rattle.journal.proofs.Placing.{Core, start_core, AllRight, Begun, Names, length_serials}
use Rattle.journal.proofs.Placing as placing
use Rattle.journal.proofs.Passing.{At, typed_for, good_for, right_here, text_is, at_next, run_pairs, entry_step, number_of, state_of_lem}
use Rattle.journal.proofs.Accepting.{step_place, step_section, Work, blank, blank_base, valid_work, valid_taken, answer_number, fresh_at, fresh_length, fresh_place, fresh_section, journal_head, entries_size}
use Rattle.journal.proofs.Pairs.{ran}
use Rattle.journal.proofs.OneReading.{valid_head}
use Rattle.journal.proofs.FirstNo.{bool_no}

-- ---- the serials of a state

each_good : (ns : List Name) → all_good ns ≡ true → EachGood ns
unfolding all_good
each_good [] g i h = absurd (omega arith)
each_good (n ∷ ns) g zero h = (both (serial_good n) (all_good ns) g).0
each_good (n ∷ ns) g (suc i) h = each_good ns (both (serial_good n) (all_good ns) g).1 i (omega arith)

good_each : (ns : List Name) → EachGood ns → all_good ns ≡ true
unfolding all_good
good_each [] h = refl
good_each (n ∷ ns) h = rw (h 0 (omega arith)) (good_each ns (λ i l. h (suc i) (omega arith)))

pub serials_good_exactly : SerialsGoodExactly
serials_good_exactly =
    record {
      only = λ slots l g.
          let s = serials_are slots l g in
          record { some = s.some; most = omega (arith, used_length slots, l); good = each_good (used slots) s.good; places = s.zeroed };
      always = λ slots ns x.
          let g = good_each ns x.good in
          let u : used slots ≡ ns = ap used x.places ∙ used_eight ns g in
          let z : Zeroed slots = x.places ∙ ap in_eight (sym u) in
          (serials_good_lem slots z (omega (arith, ap length u, x.some)) (ap all_good u ∙ g), u);
    }

-- ---- what Change asks

pub in_one : (s : Name) (ns : List Name) → is_in s ns ≡ true → OneOf s ns
unfolding is_in
in_one s [] e = true-is-not-false e
in_one s (n ∷ ns) e = go (same_name s n) refl e (in_one s ns)
  where
    go : (t : Bool) → same_name s n ≡ t → t || is_in s ns ≡ true → (is_in s ns ≡ true → OneOf s ns) → OneOf s (n ∷ ns)
    go true q z rec = record { before = []; later = ns; is = ap (λ (x : Name). x ∷ ns) (sym (same_name_is s n q)) }
    go false q z rec = let r = rec z in record { before = n ∷ r.before; later = r.later; is = ap (λ (l : List Name). n ∷ l) r.is }

pub one_in : (s : Name) (ns : List Name) → OneOf s ns → is_in s ns ≡ true
unfolding is_in
one_in s ns x = ap (is_in s) x.is ∙ go x.before
  where
    or_true : (t : Bool) → t || true ≡ true
    or_true true = refl
    or_true false = refl

    go : (before : List Name) → is_in s (before ++ (s ∷ x.later)) ≡ true
    go [] = rw (same_name_refl s)
    go (n ∷ before) = ap (λ (t : Bool). same_name s n || t) (go before) ∙ or_true (same_name s n)

-- a row of these questions gives each number only at its own question
row_6 : (a b c d e : Bool) → ask a 6 (ask b 3 (ask (not c) 30 (ask d 31 (ask e 13 0)))) ≡ 6 → a ≡ false
unfolding ask
row_6 false b c d e z = refl
row_6 true false c d e z = absurd (omega (arith, z))
row_6 true true true d e z = absurd (omega (arith, z))
row_6 true true false false e z = absurd (omega (arith, z))
row_6 true true false true false z = absurd (omega (arith, z))
row_6 true true false true true z = absurd (omega (arith, z))

row_3 : (a b c d e : Bool) → ask a 6 (ask b 3 (ask (not c) 30 (ask d 31 (ask e 13 0)))) ≡ 3 → (a ≡ true) × (b ≡ false)
unfolding ask
row_3 false b c d e z = absurd (omega (arith, z))
row_3 true false c d e z = (refl, refl)
row_3 true true true d e z = absurd (omega (arith, z))
row_3 true true false false e z = absurd (omega (arith, z))
row_3 true true false true false z = absurd (omega (arith, z))
row_3 true true false true true z = absurd (omega (arith, z))

row_13 : (a b c d e : Bool) → ask a 6 (ask b 3 (ask (not c) 30 (ask d 31 (ask e 13 0)))) ≡ 13
    → (a ≡ true) × (b ≡ true) × (c ≡ false) × (d ≡ true) × (e ≡ false)
unfolding ask
row_13 false b c d e z = absurd (omega (arith, z))
row_13 true false c d e z = absurd (omega (arith, z))
row_13 true true true d e z = absurd (omega (arith, z))
row_13 true true false false e z = absurd (omega (arith, z))
row_13 true true false true false z = (refl, refl, refl, refl, refl)
row_13 true true false true true z = absurd (omega (arith, z))

-- and so does Issue's row
issue_row_lem : (a b c d e f g h : Bool) → ask a 6 (ask b 7 (ask c 8 (ask d 9 (ask e 10 (ask f 11 (ask g 12 (ask h 13 0))))))) ≡ 6 → a ≡ false
unfolding ask
issue_row_lem false b c d e f g h z = refl
issue_row_lem true false c d e f g h z = absurd (omega (arith, z))
issue_row_lem true true false d e f g h z = absurd (omega (arith, z))
issue_row_lem true true true false e f g h z = absurd (omega (arith, z))
issue_row_lem true true true true false f g h z = absurd (omega (arith, z))
issue_row_lem true true true true true false g h z = absurd (omega (arith, z))
issue_row_lem true true true true true true false h z = absurd (omega (arith, z))
issue_row_lem true true true true true true true false z = absurd (omega (arith, z))
issue_row_lem true true true true true true true true z = absurd (omega (arith, z))

row_30 : (a b c d e : Bool) → ask a 6 (ask b 3 (ask (not c) 30 (ask d 31 (ask e 13 0)))) ≡ 30 → (a ≡ true) × (b ≡ true) × (c ≡ true)
unfolding ask
row_30 false b c d e z = absurd (omega (arith, z))
row_30 true false c d e z = absurd (omega (arith, z))
row_30 true true true d e z = (refl, refl, refl)
row_30 true true false false e z = absurd (omega (arith, z))
row_30 true true false true false z = absurd (omega (arith, z))
row_30 true true false true true z = absurd (omega (arith, z))

row_31 : (a b c d e : Bool) → ask a 6 (ask b 3 (ask (not c) 30 (ask d 31 (ask e 13 0)))) ≡ 31 → (a ≡ true) × (b ≡ true) × (c ≡ false) × (d ≡ false)
unfolding ask
row_31 false b c d e z = absurd (omega (arith, z))
row_31 true false c d e z = absurd (omega (arith, z))
row_31 true true true d e z = absurd (omega (arith, z))
row_31 true true false false e z = (refl, refl, refl, refl)
row_31 true true false true false z = absurd (omega (arith, z))
row_31 true true false true true z = absurd (omega (arith, z))

not_in : (s : Name) (ns : List Name) → (OneOf s ns → ⊥) → is_in s ns ≡ false
not_in s ns h = bool_no (is_in s ns) (λ e. h (in_one s ns e))

in_none : (s : Name) (ns : List Name) → is_in s ns ≡ false → OneOf s ns → ⊥
in_none s ns e h = true-is-not-false (sym e ∙ one_in s ns h)

pub issue_six : (st : State) (d : Details) (sig : List ℕ) (room : ℕ) → issue_number st d sig room ≡ 6 → sound st room ≡ false
unfolding issue_number_within details_number_within
issue_six st d sig room z =
    issue_row_lem (sound st room) (number_above st d) (date_good d.date) (amounts_within amount_limit d.amounts) (first_good st d) (new_counter st d).fits (signature_sized sig)
    (entry_fits st (text_of st d sig) room) z

pub change_asks_6_as_issue : ChangeAsks6AsIssue
unfolding change_number renew_number issue_number_within details_number_within ask
change_asks_6_as_issue st serial d sig room = (
  (λ z. rw (row_6 (sound st room) (serial_good serial) (is_in serial (used st.serials)) (ltb (length (used st.serials)) 8) (leb (st.length + (8 + serial.len)) room) z)),
  (λ z. rw (issue_six st d sig room z)),
)

pub bad_serial_gets_3 : BadSerialGets3
unfolding change_number renew_number ask
bad_serial_gets_3 =
    record {
      only = λ st serial room z.
          let r = row_3 (sound st room) (serial_good serial) (is_in serial (used st.serials)) (ltb (length (used st.serials)) 8) (leb (st.length + (8 + serial.len)) room) z in
          (r.0, (λ h. true-is-not-false (sym r.1 ∙ h)));
      always = λ st serial room s h. rw (s, bool_no (serial_good serial) h);
    }

pub used_serial_gets_30 : UsedSerialGets30
unfolding change_number renew_number ask
used_serial_gets_30 =
    record {
      only = λ st serial room z.
          let r = row_30 (sound st room) (serial_good serial) (is_in serial (used st.serials)) (ltb (length (used st.serials)) 8) (leb (st.length + (8 + serial.len)) room) z in
          (r.0, r.1, in_one serial (used st.serials) r.2);
      always = λ st serial room s g h. rw (s, g, one_in serial (used st.serials) h);
    }

pub ninth_serial_gets_31 : NinthSerialGets31
unfolding change_number renew_number ask
ninth_serial_gets_31 =
    record {
      only = λ st serial room z.
          let us = used st.serials in
          let r = row_31 (sound st room) (serial_good serial) (is_in serial us) (ltb (length us) 8) (leb (st.length + (8 + serial.len)) room) z in
          (r.0, r.1, in_none serial us r.2, ltb-false (length us) 8 r.3);
      always = λ st serial room s g h m.
          let us = used st.serials in
          rw (s, g, not_in serial us h, le-ltb (length us) 8 m);
    }

pub no_room_gets_13 : NoRoomGets13
unfolding change_number renew_number ask
no_room_gets_13 =
    record {
      only = λ st serial room z.
          let us = used st.serials in
          let r = row_13 (sound st room) (serial_good serial) (is_in serial us) (ltb (length us) 8) (leb (st.length + (8 + serial.len)) room) z in
          (r.0, r.1, in_none serial us r.2, ltb-true (length us) 8 r.3, leb-false _ _ r.4);
      always = λ st serial room s g h m l.
          let us = used st.serials in
          rw (s, g, not_in serial us h, lt-ltb (length us) 8 m, lt-leb (st.length + (8 + serial.len)) room l);
    }

-- ---- what Change writes and leaves

module _ (st : State) (serial : Name) (room : ℕ) (z : change_number st serial room ≡ 0) where
  answered : Changeable st serial room
  answered = change-zero st serial room z

  state_is : (changed st serial room).state ≡ renewed st serial
  unfolding changed
  state_is = ifZero-yes (renewed st serial) st z

  new_length : (changed st serial room).state.length ≡ st.length + 8 + serial.len
  unfolding renewed
  new_length = ap (λ (x : State). x.length) state_is

  spelled : settings_now (changed st serial room).state ≡ record { csp = st.csp; id = st.id; serial = serial }
  unfolding renewed
  spelled =
      ap settings_now state_is ∙ (λ i. record { csp = st.csp; id = st.id; serial = newest_added st.serials serial answered.good i })

  serial_added : SerialAdded st serial (changed st serial room).state
  unfolding renewed
  serial_added =
      record {
        serials = ap (λ (x : State). used x.serials) state_is ∙ used_added st.serials serial answered.good;
        empty = ap (λ (x : State). x.since) state_is;
        last = ap (λ (x : State). x.place + 4) state_is ∙ (omega arith ∙ ap (λ (x : State). x.length) (sym state_is));
      }

pub change_adds_serial : ChangeAddsSerial
change_adds_serial st serial room z = serial_added st serial room z

pub changed_serial_is_spelled : ChangedSerialIsSpelled
changed_serial_is_spelled st serial room z = spelled st serial room z

module _ (st : State) (serial : Name) (buf : List ℕ) (long : length serial.bytes ≡ 32) where
  module _ (z : change_number st serial (length buf) ≡ 0) where
    buffer_is : change_buffer st serial buf ≡ overwrite buf st.length (pair_start serial 0)
    unfolding change_buffer
    buffer_is = ifZero-yes (overwrite buf st.length (pair_start serial 0)) buf z

    start_long : length (pair_start serial 0) ≡ 8 + serial.len
    start_long = length_start serial long (answered st serial (length buf) z).good 0

    room_is : st.length + length (pair_start serial 0) ≤ length buf
    room_is = omega (arith, start_long, (answered st serial (length buf) z).fits)

    appends : take (changed st serial (length buf)).state.length (change_buffer st serial buf) ≡ take st.length buf ++ pair_start serial 0
    appends =
        let l : (changed st serial (length buf)).state.length ≡ st.length + length (pair_start serial 0) = new_length st serial (length buf) z ∙ omega (arith, start_long) in
        (λ i. take (l i) (buffer_is i))
        ∙ (take-add st.length (length (pair_start serial 0)) (overwrite buf st.length (pair_start serial 0))
        ∙ (λ i. before_over buf st.length (pair_start serial 0) (omega (arith, room_is)) i ++ read_over buf st.length (pair_start serial 0) room_is i))

    touches : (i : ℕ) → (st.length ≤ i → i < st.length + 8 + serial.len → ⊥) → get_or (change_buffer st serial buf) i 0 ≡ get_or buf i 0
    touches i h =
        ap (λ (l : List ℕ). get_or l i 0) buffer_is ∙ outside buf st.length (pair_start serial 0) i room_is (λ a b. h a (omega (arith, b, start_long)))

pub change_appends : ChangeAppends
change_appends st serial buf long z = appends st serial buf long z

pub change_touches_no_other : ChangeTouchesNoOther
unfolding change_buffer
change_touches_no_other st serial buf i long h = go (change_number st serial (length buf)) refl
  where
    go : (k : ℕ) → change_number st serial (length buf) ≡ k
        → get_or (ifZero (change_number st serial (length buf)) (overwrite buf st.length (pair_start serial 0)) buf) i 0 ≡ get_or buf i 0
    go zero z = touches st serial buf long z i h
    go (suc k) z = ap (λ (l : List ℕ). get_or l i 0) (ifZero-no (change_number st serial (length buf)) (overwrite buf st.length (pair_start serial 0)) buf (λ q. omega (arith, z, q)))

runs_on : (st : State) (serial : Name) (k : ℕ) → RunsOn st (ifZero k (renewed st serial) st)
unfolding ifZero renewed
runs_on st serial zero = record { csp = refl; id = refl; width = refl; key = refl; counter = refl; last = refl; issued = refl; chain = refl }
runs_on st serial (suc k) = record { csp = refl; id = refl; width = refl; key = refl; counter = refl; last = refl; issued = refl; chain = refl }

pub change_runs_on : ChangeRunsOn
unfolding changed
change_runs_on st serial room = runs_on st serial (change_number st serial room)

-- ---- Take over from before there were pairs

before_entry : (k : List (List ℕ)) (st : State) (j : List ℕ) → full st j ≡ false → one_step_before k st j ≡ one_step k st j
unfolding one_step_before one_step
before_entry k st j f = rw f

before_end : (k : List (List ℕ)) (st : State) (j : List ℕ) → full st j ≡ true → length j ≤ st.length → one_step_before k st j ≡ one_step k st j
unfolding one_step_before ask
before_end k st j f l = rw (f, le-leb (length j) st.length l) (sym (end_none k st j f l))

before_21 : (k : List (List ℕ)) (st : State) (j : List ℕ) → full st j ≡ true → st.length < length j → one_step_before k st j ≡ stopped 21 st
unfolding one_step_before ask
before_21 k st j f l = rw (f, lt-leb (length j) st.length l)

-- bytes that start no pair got 21, too
still_21 : (k : List (List ℕ)) (st : State) (j : List ℕ) → full st j ≡ true → st.length < length j → start_there j st.length ≡ false → one_step k st j ≡ one_step_before k st j
unfolding start_checked start_number ask ifZero
still_21 k st j f l s = end_start k st j f l ∙ (rw s (sym (before_21 k st j f l)))

-- a step is the same unless a pair starts
step_before : (k : List (List ℕ)) (st : State) (j : List ℕ) → (full st j ≡ true → st.length < length j → start_there j st.length ≡ true → ⊥)
    → one_step k st j ≡ one_step_before k st j
step_before k st j h = go (full st j) (leb (length j) st.length) (start_there j st.length) refl refl refl
  where
    go : (t u s : Bool) → full st j ≡ t → leb (length j) st.length ≡ u → start_there j st.length ≡ s → one_step k st j ≡ one_step_before k st j
    go false u s f e q = sym (before_entry k st j f)
    go true true s f e q = sym (before_end k st j f (leb-true _ _ e))
    go true false true f e q = absurd (h f (leb-false _ _ e) q)
    go true false false f e q = still_21 k st j f (leb-false _ _ e) q

-- as long as there is no 21, the steps are the same
same_step : (k : List (List ℕ)) (st : State) (j : List ℕ) → ((one_step_before k st j).number ≡ 21 → ⊥) → one_step_before k st j ≡ one_step k st j
same_step k st j h = go (full st j) (leb (length j) st.length) refl refl
  where
    go : (t u : Bool) → full st j ≡ t → leb (length j) st.length ≡ u → one_step_before k st j ≡ one_step k st j
    go false u f e = before_entry k st j f
    go true true f e = before_end k st j f (leb-true _ _ e)
    go true false f e = absurd (h (ap (λ (c : Checked). c.number) (before_21 k st j f (leb-false _ _ e)) ∙ number_of 21 st))

same_steps : (k : List (List ℕ)) (n : ℕ) (st : State) (j : List ℕ) → ((steps_before k n st j).number ≡ 21 → ⊥) → steps k n st j ≡ steps_before k n st j
unfolding steps steps_before ifZero
same_steps k zero st j h = refl
same_steps k (suc n) st j h = go (one_step_before k st j).number refl h (same_steps k n (one_step_before k st j).state j)
  where
    go : (m : ℕ) → (one_step_before k st j).number ≡ m
        → ((ifZero m (steps_before k n (one_step_before k st j).state j) (record { number = m; state = st })).number ≡ 21 → ⊥)
        → (((steps_before k n (one_step_before k st j).state j).number ≡ 21 → ⊥) → steps k n (one_step_before k st j).state j ≡ steps_before k n (one_step_before k st j).state j)
        → ifZero (one_step k st j).number (steps k n (one_step k st j).state j) (record { number = (one_step k st j).number; state = st })
        ≡ ifZero m (steps_before k n (one_step_before k st j).state j) (record { number = m; state = st })
    go zero e h rec =
        let q = same_step k st j (λ z. omega (arith, e, z)) in
        let z : (one_step k st j).number ≡ 0 = ap (λ (c : Checked). c.number) (sym q) ∙ e in
        ifZero-yes _ _ z ∙ (ap (λ (c : Checked). steps k n c.state j) (sym q) ∙ rec h)
    go (suc m) e h rec =
        let q = same_step k st j (λ z. h (sym e ∙ z)) in
        let z : (one_step k st j).number ≡ suc m = ap (λ (c : Checked). c.number) (sym q) ∙ e in
        (λ i. ifZero (z i) (steps k n (one_step k st j).state j) (record { number = z i; state = st }))

before_good : (j key : List ℕ) (n : ℕ) → head_number j n ≡ 0 → take_over_before j key n ≡ last_answer (steps_before (key_schedule key) (length j) (fresh (head_settings j) n key) j)
unfolding take_over_before
before_good j key n z = ifZero-yes _ _ z

answers_same : (j key : List ℕ) (n : ℕ) → ((take_over_before j key n).number ≡ 21 → ⊥) → take_over j key n ≡ take_over_before j key n
unfolding take_over take_over_before
answers_same j key n h = go (head_number j n) refl
  where
    x : Step
    x = steps_before (key_schedule key) (length j) (fresh (head_settings j) n key) j

    go : (m : ℕ) → head_number j n ≡ m
        → ifZero (head_number j n) (last_answer (steps (key_schedule key) (length j) (fresh (head_settings j) n key) j)) (refused (head_number j n) 0)
        ≡ ifZero (head_number j n) (last_answer (steps_before (key_schedule key) (length j) (fresh (head_settings j) n key) j)) (refused (head_number j n) 0)
    go zero e =
        let not-21 : (steps_before (key_schedule key) (length j) (fresh (head_settings j) n key) j).number ≡ 21 → ⊥ =
        λ z. h (ap (λ (t : TakenOver). t.number) (before_good j key n e) ∙ (answer_number (steps_before (key_schedule key) (length j) (fresh (head_settings j) n key) j) ∙ z)) in
        ap (λ (y : Step). ifZero (head_number j n) (last_answer y) (refused (head_number j n) 0)) (same_steps (key_schedule key) (length j) (fresh (head_settings j) n key) j not-21)
    go (suc m) e =
        ifZero-no (head_number j n) _ _ (λ z. omega (arith, e, z)) ∙ sym (ifZero-no (head_number j n) _ _ (λ z. omega (arith, e, z)))

-- ---- a journal of one pair

before_turn : (k : List (List ℕ)) (n : ℕ) (st : State) (j : List ℕ) {x : State} → (one_step_before k st j).number ≡ 0 → (one_step_before k st j).state ≡ x → steps_before k (suc n) st j ≡ steps_before k n x j
unfolding steps_before
before_turn k n st j z s = ifZero-yes _ _ z ∙ ap (λ (x : State). steps_before k n x j) s

before_none : (k : List (List ℕ)) (st : State) (j : List ℕ) → (steps_before k zero st j).number ≡ 0
unfolding steps_before
before_none k st j = refl

before_idle : (k : List (List ℕ)) (n : ℕ) (st : State) (j : List ℕ) → one_step_before k st j ≡ stopped 0 st → (steps_before k n st j).number ≡ 0
before_idle k zero st j e = before_none k st j
before_idle k (suc n) st j e =
    ap (λ (x : Step). x.number) (before_turn k n st j (ap (λ (c : Checked). c.number) e ∙ number_of 0 st) (ap (λ (c : Checked). c.state) e ∙ state_of_lem 0 st)) ∙ before_idle k n st j e

-- right entries with nothing after them passed before, too
before_passed : {st : State} {o : Owner} {k : List ℕ} {n : ℕ} {s : Name} {c : Core} {us : List Name} (es : List Entry) (m : ℕ) (p j : List ℕ) → At st o k n s c us → length p ≡ st.length
    → AllRight k n c (placed_under (settings_for o s) es) → j ≡ p ++ texts (settings_for o s) n es → count_at j st.place 4 ≡ st.since + length es
    → (steps_before (key_schedule k) (length es + m) st j).number ≡ 0
unfolding texts placed_under
before_passed {st} {k = k} [] m p j a at h q c =
    let f = full_yes st j (omega (arith, c)) in
    let l : length j ≤ st.length = omega (arith, ap length (q ∙ append-nil p), at) in
    before_idle (key_schedule k) (0 + m) st j (before_end (key_schedule k) st j f l ∙ end_none (key_schedule k) st j f l)
before_passed {st} {o} {k} {n} {s} (e ∷ es) m p j a at (placing.more h hs) q c =
    let t = entry_text (compact (settings_for o s) n e) in
    let u = texts (settings_for o s) n es in
    let i : suc (length es) + m ≡ suc (length es + m) = omega arith in
    let less : st.since < count_at j st.place 4 = omega (arith, c) in
    let y = before_entry (key_schedule k) st j (full_no st j less) ∙ entry_step a e p u j at h q less in
    let at' : length (p ++ t) ≡ (step st e).length =
    length-append p t ∙ (ap (λ (x : ℕ). x + length t) at ∙ (ap (λ (x : List ℕ). st.length + length (entry_text x)) (sym (text_is a e)) ∙ sym (step_length st e))) in
    let c' : count_at j (step st e).place 4 ≡ (step st e).since + length es = ap (λ (x : ℕ). count_at j x 4) (step_place st e) ∙ (c ∙ omega (arith, step_section st e)) in
    ap (λ (x : ℕ). (steps_before (key_schedule k) x st j).number) i
    ∙ (ap (λ (x : Step). x.number) (before_turn (key_schedule k) (length es + m) st j (ap (λ (x : Checked). x.number) y) (ap (λ (x : Checked). x.state) y))
    ∙ before_passed {st = step st e} es m (p ++ t) j (at_next e a (right_here a e h)) at' hs (q ∙ sym (append_assoc p t u)) c')

head_zero : (j : List ℕ) (n : ℕ) → width_good n ≡ true → head_good j ≡ true → head_number j n ≡ 0
unfolding head_number ask
head_zero j n w h = rw (w, h)

one_pair : (o : Owner) (key : List ℕ) (n : ℕ) (p : Pair) (j : List ℕ) → width_good n ≡ true → GoodOwner o → AllRight key n (start_core o) (all_placed o (p ∷ [])) → Begun [] p
    → j ≡ journal_text o n (p ∷ []) → (take_over_before j key n).number ≡ 0
unfolding all_placed pair_texts
one_pair o key n p j w g r b e =
    let s = p.serial in
    let sf = settings_for o s in
    let es = p.entries in
    let st = fresh sf n key in
    let pre = head sf (length es) in
    let t = texts sf n es in
    let q : j ≡ pre ++ t = e ∙ (journal_head o n p [] ∙ ap (λ (l : List ℕ). pre ++ l) (append-nil t)) in
    let ts = (typed_for o s g b.typed).lengths in
    let gs = good_for o s g b.good in
    let hs : head_settings j ≡ sf = ap head_settings q ∙ read_settings sf ts gs (length es) b.few t in
    let hg : head_good j ≡ true = ap head_good q ∙ head_good_lem sf ts gs (length es) b.few t in
    let lh = length_head sf ts gs (length es) in
    let d = length j - length es in
    let z : length es + d ≡ length j = omega (arith, ap length q, length-append pre t, entries_size sf n es) in
    let c : count_at j st.place 4 ≡ st.since + length es =
    (λ i. count_at (q i) (fresh_place o key n s i) 4) ∙ (read_count_at sf ts gs (length es) b.few t ∙ omega (arith, fresh_section o key n s)) in
    let r₁ : AllRight key n (start_core o) (placed_under sf es) = subst (AllRight key n (start_core o)) (append-nil (placed_under sf es)) r in
    ap (λ (x : TakenOver). x.number) (before_good j key n (head_zero j n w hg))
    ∙ (answer_number (steps_before (key_schedule key) (length j) (fresh (head_settings j) n key) j)
    ∙ ((λ i. (steps_before (key_schedule key) (sym z i) (fresh (hs i) n key) j).number)
    ∙ before_passed es d pre j (fresh_at o key n s g b.typed b.good) (lh ∙ sym (fresh_length o key n s)) r₁ q c))

pair_before : (j key : List ℕ) (n : ℕ) (v : Valid j key n) (p : Pair) → v.pairs ≡ p ∷ [] → (take_over_before j key n).number ≡ 0
pair_before j key n v p e = go (subst (Work key n v.owner) e (valid_work v)) (v.bytes ∙ ap (journal_text v.owner n) e)
  where
    begun : Names [] (p ∷ []) → Begun [] p
    begun (placing.more b ns) = b

    go : Work key n v.owner (p ∷ []) → j ≡ journal_text v.owner n (p ∷ []) → (take_over_before j key n).number ≡ 0
    go w q = one_pair v.owner key n p j w.width w.good w.right (begun w.names) q

-- no step from before changes the serials
after_serials : (st : State) (text : List ℕ) → (after st text).serials ≡ st.serials
unfolding after next
after_serials st text = refl

place_serials : (k : List (List ℕ)) (st : State) (j : List ℕ) → (place_checked k st j).state.serials ≡ st.serials
unfolding place_checked checked ifZero stopped
place_serials k st j = go (entry_number k st j)
  where
    go : (m : ℕ) → (ifZero {X = Checked} m (record { number = 0; found = found st (text_at j st.length); state = after st (text_at j st.length) })
        (record { number = entry_number k st j; found = no_entry; state = st })).state.serials ≡ st.serials
    go zero = after_serials st (text_at j st.length)
    go (suc m) = refl

step_serials : (k : List (List ℕ)) (st : State) (j : List ℕ) → (one_step_before k st j).state.serials ≡ st.serials
unfolding one_step_before
step_serials k st j = go (full st j)
  where
    go : (t : Bool) → (cond t (stopped (ask (leb (length j) st.length) 21 0) st) (place_checked k st j)).state.serials ≡ st.serials
    go true = ap (λ (x : State). x.serials) (state_of_lem (ask (leb (length j) st.length) 21 0) st)
    go false = place_serials k st j

before_serials : (k : List (List ℕ)) (n : ℕ) (st : State) (j : List ℕ) → (steps_before k n st j).state.serials ≡ st.serials
unfolding steps_before ifZero
before_serials k zero st j = refl
before_serials k (suc n) st j = go (one_step_before k st j).number (before_serials k n (one_step_before k st j).state j)
  where
    go : (m : ℕ) → (steps_before k n (one_step_before k st j).state j).state.serials ≡ (one_step_before k st j).state.serials
        → (ifZero m (steps_before k n (one_step_before k st j).state j) (record { number = (one_step_before k st j).number; state = st })).state.serials ≡ st.serials
    go zero r = r ∙ step_serials k st j
    go (suc m) r = refl

answer_state : (x : Step) → x.number ≡ 0 → (last_answer x).state ≡ x.state
unfolding last_answer accepted
answer_state x z = ap (λ (t : TakenOver). t.state) (ifZero-yes (accepted x.state) (refused x.number x.state.issued) z)

fresh_serials : (o : Owner) (key : List ℕ) (n : ℕ) (s : Name) → serial_good s ≡ true → used (fresh (settings_for o s) n key).serials ≡ s ∷ []
unfolding fresh all_good
fresh_serials o key n s g = used_eight (s ∷ []) (rw g)

one_serial : (o : Owner) (ps : List Pair) (key : List ℕ) (n : ℕ) → 0 < length ps → Names [] ps → length (used (fresh (head_of o ps) n key).serials) ≡ 1
unfolding head_of
one_serial o [] key n h ns = absurd (omega arith)
one_serial o (p ∷ ps) key n h (placing.more b ns) = ap length (fresh_serials o key n p.serial b.good)

head_number_lem : (j key : List ℕ) (n : ℕ) → (take_over_before j key n).number ≡ 0 → head_number j n ≡ 0
unfolding take_over_before refused ifZero
head_number_lem j key n z = go (head_number j n) z
  where
    go : (m : ℕ) → (ifZero m (last_answer (steps_before (key_schedule key) (length j) (fresh (head_settings j) n key) j)) (refused m 0)).number ≡ 0 → m ≡ 0
    go zero q = refl
    go (suc m) q = absurd (omega arith)

accepted_one : (j key : List ℕ) (n : ℕ) (v : Valid j key n) → (take_over_before j key n).number ≡ 0 → length v.pairs ≡ 1
unfolding accepted
accepted_one j key n v z =
    let o = v.owner in
    let ps = v.pairs in
    let w = valid_work v in
    let x = steps_before (key_schedule key) (length j) (fresh (head_settings j) n key) j in
    let t = answers_same j key n (λ q. omega (arith, z, q)) in
    let st = run_pairs (blank o key n) ps in
    let hz = head_number_lem j key n z in
    let nx : x.number ≡ 0 = sym (answer_number x) ∙ (ap (λ (y : TakenOver). y.number) (sym (before_good j key n hz)) ∙ z) in
    let e : st ≡ x.state =
    ap (λ (y : TakenOver). y.state) (sym (valid_taken v) ∙ (t ∙ before_good j key n hz)) ∙ answer_state x nx in
    let r = ran ps (blank o key n) o key n (start_core o) [] (blank_base o key n w.good) w.right w.names in
    let u : length (used st.serials) ≡ 1 =
    ap (λ (y : State). length (used y.serials)) e
    ∙ (ap (λ (l : List Name). length (used l)) (before_serials (key_schedule key) (length j) (fresh (head_settings j) n key) j)
    ∙ (ap (λ (y : Settings). length (used (fresh y n key).serials)) (valid_head v) ∙ one_serial o ps key n w.some w.names)) in
    sym (length_serials ps) ∙ (ap length (sym r.base.serials) ∙ u)

pub one_section_as_before : OneSectionAsBefore
one_section_as_before =
    record { steps = step_before; answers = answers_same; pair = λ j key n v p e. answers_same j key n (λ q. omega (arith, pair_before j key n v p e, q)); one = accepted_one }
