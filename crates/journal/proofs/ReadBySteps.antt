-- The steps for other readers: over a valid journal they read its entries, pair after pair and in order.
use Rattle.std.proofs.lemmas.Bool.{lt-leb}
use Rattle.std.proofs.Common.{ℕ, zero, suc, ◌+◌, ◌-◌, ◌≤◌, ◌<◌, ◌≡◌, refl, sym, ap, ◌∙◌, subst, Bool, true, cond, ◌&&◌, List, [], ◌∷◌, ◌++◌, append_assoc, append-nil, arith, le-leb, leb-true, leb, eqb, length, take, drop, get_or, length-append, length-take}
use Rattle.primitives.specs.Questions.{ask}
use Rattle.primitives.specs.Number.{count_at}
use Rattle.primitives.specs.Counter.{width_good, counter_fits}
use Rattle.primitives.specs.Aes.{key_schedule}
use Rattle.primitives.proofs.Rows.{both, ask_yes}
use Rattle.receipt.specs.Settings.{serial_good, settings_good}
use Rattle.receipt.specs.Compact.{compact, no_entry}
use Rattle.receipt.specs.declared.settings.Name.{Name}
use Rattle.receipt.specs.declared.entry.Entry.{Entry}
use Rattle.receipt.proofs.Entries.{none_found}
use Rattle.journal.specs.Head.{head, head_length, entry_text, length_at, there, text_at, pair_start, count_place_in, head_settings, head_good, serial_at, start_there}
use Rattle.journal.specs.State.{no_name, used, in_eight, added, serials_good}
use Rattle.journal.specs.Step.{fresh, sound_alone, sound, next, renewed}
use Rattle.journal.specs.Checking.{entry_number, text_number, stopped, checked, text_checked, place_checked, one_step, entry_ready, entry_checked, step_checked, read_by_steps, full, start_number, start_checked, end_checked, head_number, check_head, settings_checked, serial_ready, serial_number, serial_checked, Checked}
use Rattle.journal.specs.Valid.{Owner, Pair, settings_for, texts, pair_text, pair_texts, journal_text, placed_under, all_placed, entries_in, GoodOwner, head_of}
use Rattle.journal.specs.Demands.{StepsReadEntries, StepIsItsEntry, StepIsItsStart, HeadIsItsSettings}
use Rattle.journal.specs.declared.state.State.{State}
use Rattle.journal.proofs.Heads.{length_head, read_count_at}
use Rattle.journal.proofs.Places.{length_entry}
use Rattle.journal.proofs.Check.{RightAt, step, step_counter, step_length}
use Rattle.journal.proofs.Serials.{used_prefix, serials_used, added_good}
use Rattle.journal.proofs.Answers.{Sound, sound-yes}
use Rattle.journal.proofs.Stepping.{full_yes, end_none, step_entry, start_within}
use Rattle.journal.proofs.Placing.{Core, start_core, AllRight, right_split, Begun, Names}
use Rattle.journal.proofs.Placing as placing
use Rattle.journal.proofs.Passing.{At, typed_for, good_for, right_here, text_is, at_next, at_renewed, at_entries, run, steps_of, entry_step, start_step, start_place, start_bytes, start_count, section_place, section_full, pair_split}
use Rattle.journal.proofs.Accepting.{Work, valid_work, fresh_at, fresh_length, fresh_place, fresh_section, journal_head, entries_size, pairs_size}
use Rattle.journal.proofs.AcceptedIsWritten.{run_sound}
use Rattle.journal.proofs.Pairs.{empty_pair}
use Rattle.journal.proofs.Registers.{fresh_holds, empty_work}

-- ---- the states on the way are sound

sound_next : (st : State) (e : Entry) → RightAt st e → Sound st → Sound (step st e)
unfolding next
sound_next st e h s =
    let l = step_length st e in
    record {
      csp = s.csp;
      id = s.id;
      serials = s.serials;
      width = s.width;
      counter = ap (counter_fits st.width) (step_counter st e h) ∙ h.counter.fits;
      issued = omega (arith, s.issued, h.above);
      since = omega (arith, s.since);
      place = omega (arith, s.place);
      head = omega (arith, s.head);
    }

first_of : (ns : List Name) (s : Name) (rest : List Name) → 0 < length ns → get_or (in_eight (ns ++ (s ∷ []))) 0 no_name ≡ get_or (ns ++ rest) 0 no_name
unfolding in_eight
first_of [] s rest h = absurd (omega arith)
first_of (n ∷ ns) s rest h = refl

-- the first serial stays
first_stays : (slots : List Name) (s : Name) → serials_good slots ≡ true → get_or (added slots s) 0 no_name ≡ get_or slots 0 no_name
unfolding added
first_stays slots s g =
    first_of (used slots) s (drop (length (used slots)) slots) (serials_used slots g).some ∙ ap (λ (l : List Name). get_or l 0 no_name) (sym (used_prefix slots))

pub sound_renewed : (st : State) (s : Name) → serial_good s ≡ true → Sound st → Sound (renewed st s)
unfolding renewed head_length
sound_renewed st s g x =
    record {
      csp = x.csp;
      id = x.id;
      serials = added_good st.serials s x.serials g;
      width = x.width;
      counter = x.counter;
      issued = x.issued;
      since = omega arith;
      place = omega arith;
      head = omega (arith, ap (λ (n : Name). n.len) (first_stays st.serials s x.serials), x.head);
    }

pub sound_here : (st : State) (j : List ℕ) → Sound st → st.length ≤ length j → sound st (length j) ≡ true
unfolding sound
sound_here st j s l = rw (sound-yes st s, le-leb st.length (length j) l)

pub checked_is : (k : List (List ℕ)) (st : State) (j : List ℕ) → sound st (length j) ≡ true → step_checked k st j ≡ one_step k st j
unfolding step_checked
checked_is k st j s = rw s

-- ---- one step

read_one : (k : List (List ℕ)) (m : ℕ) (st : State) (j : List ℕ) {e : Entry} {x : State}
    → step_checked k st j ≡ record { number = 0; found = record { ok = true; entry = e }; state = x } → read_by_steps k (suc m) st j ≡ e ∷ read_by_steps k m x j
unfolding read_by_steps
read_one k m st j q =
    ap (λ (c : Checked). cond c.found.ok (c.found.entry ∷ read_by_steps k m c.state j) (read_by_steps k m c.state j)) q

read_past : (k : List (List ℕ)) (m : ℕ) (st : State) (j : List ℕ) (x : State) → step_checked k st j ≡ stopped 0 x → read_by_steps k (suc m) st j ≡ read_by_steps k m x j
unfolding read_by_steps stopped
read_past k m st j x q =
    ap (λ (c : Checked). cond c.found.ok (c.found.entry ∷ read_by_steps k m c.state j) (read_by_steps k m c.state j)) q
    ∙ ap (λ (t : Bool). cond t (no_entry.entry ∷ read_by_steps k m x j) (read_by_steps k m x j)) none_found

no_steps : (k : List (List ℕ)) (st : State) (j : List ℕ) → read_by_steps k zero st j ≡ []
unfolding read_by_steps
no_steps k st j = refl

read_none : (k : List (List ℕ)) (m : ℕ) (st : State) (j : List ℕ) → step_checked k st j ≡ stopped 0 st → read_by_steps k m st j ≡ []
read_none k zero st j q = no_steps k st j
read_none k (suc m) st j q = read_past k m st j st q ∙ read_none k m st j q

-- ---- entries and pairs

read_entries : {st : State} {o : Owner} {k : List ℕ} {n : ℕ} {s : Name} {c : Core} {us : List Name} (es : List Entry) (m : ℕ) (p rest j : List ℕ) → At st o k n s c us → Sound st
    → length p ≡ st.length → AllRight k n c (placed_under (settings_for o s) es) → j ≡ p ++ (texts (settings_for o s) n es ++ rest) → st.since + length es ≤ count_at j st.place 4
    → (read_by_steps (key_schedule k) (length es + m) st j ≡ es ++ read_by_steps (key_schedule k) m (run st es) j) × Sound (run st es)
unfolding texts run placed_under next
read_entries {st} {k = k} [] m p rest j a x at h q room = let e : 0 + m ≡ m = omega arith in (ap (λ (i : ℕ). read_by_steps (key_schedule k) i st j) e, x)
read_entries {st} {o} {k} {n} {s} (e ∷ es) m p rest j a x at (placing.more h hs) q room =
    let t = entry_text (compact (settings_for o s) n e) in
    let u = texts (settings_for o s) n es in
    let i : suc (length es) + m ≡ suc (length es + m) = omega arith in
    let q₁ : j ≡ p ++ (t ++ (u ++ rest)) = q ∙ ap (λ (l : List ℕ). p ++ l) (append_assoc t u rest) in
    let q₂ : j ≡ (p ++ t) ++ (u ++ rest) = q₁ ∙ sym (append_assoc p t (u ++ rest)) in
    let y = entry_step a e p (u ++ rest) j at h q₁ (omega arith) in
    let l : st.length ≤ length j = omega (arith, ap length q₁, length-append p (t ++ (u ++ rest)), at) in
    let at' : length (p ++ t) ≡ (step st e).length =
    length-append p t ∙ (ap (λ (z : ℕ). z + length t) at ∙ (ap (λ (z : List ℕ). st.length + length (entry_text z)) (sym (text_is a e)) ∙ sym (step_length st e))) in
    let r = right_here a e h in
    let w = read_entries {st = step st e} es m (p ++ t) rest j (at_next e a r) (sound_next st e r x) at' hs q₂ (omega arith) in (
      ap (λ (z : ℕ). read_by_steps (key_schedule k) z st j) i
          ∙ (read_one (key_schedule k) (length es + m) st j (checked_is (key_schedule k) st j (sound_here st j x l) ∙ y) ∙ ap (λ (z : List Entry). e ∷ z) w.0),
      w.1,
    )

read_pairs : {st : State} {o : Owner} {k : List ℕ} {n : ℕ} {s : Name} {c : Core} {us : List Name} (ps : List Pair) (es : List Entry) (m : ℕ) (p j : List ℕ)
    → At st o k n s c us → Sound st → length p ≡ st.length → AllRight k n c (placed_under (settings_for o s) es ++ all_placed o ps) → Names us ps
    → j ≡ p ++ (texts (settings_for o s) n es ++ pair_texts o n ps) → count_at j st.place 4 ≡ st.since + length es
    → read_by_steps (key_schedule k) (length es + (steps_of ps + m)) st j ≡ es ++ entries_in ps
unfolding steps_of pair_texts all_placed entries_in
read_pairs {st} {o} {k} {n} {s} {c} {us} [] es m p j a x at h ns q count =
    let h₁ = (right_split k n c (placed_under (settings_for o s) es) [] h).0 in
    let w = read_entries es (0 + m) p [] j a x at h₁ q (omega arith) in
    let f = section_full es p j [] a at count in
    let l = section_place es p j [] a at count in
    let st₂ = run st es in
    let e : length j ≡ st₂.length = ap length q ∙ (ap (λ (z : List ℕ). length (p ++ z)) (append-nil (texts (settings_for o s) n es)) ∙ l) in
    let i = end_none (key_schedule k) st₂ j (full_yes st₂ j (omega (arith, f))) (omega (arith, e)) in
    w.0 ∙ ap (λ (z : List Entry). es ++ z) (read_none (key_schedule k) (0 + m) st₂ j (checked_is (key_schedule k) st₂ j (sound_here st₂ j w.1 (omega (arith, e))) ∙ i))
read_pairs {st} {o} {k} {n} {s} {c} {us} (x ∷ ps) es m p j a y at h (placing.more g ns) q count =
    let sf = settings_for o s in
    let hs = right_split k n c (placed_under sf es) (placed_under (settings_for o x.serial) x.entries ++ all_placed o ps) h in
    let r = pair_text o n x ++ pair_texts o n ps in
    let st₂ = run st es in
    let a₂ = at_entries es a hs.0 in
    let p₂ = p ++ texts sf n es in
    let f₂ = section_full es p j r a at count in
    let l₂ = section_place es p j r a at count in
    let b₃ = pair_start x.serial (length x.entries) in
    let t = texts (settings_for o x.serial) n x.entries ++ pair_texts o n ps in
    let q₂ : j ≡ p₂ ++ (b₃ ++ t) = q ∙ (sym (append_assoc p (texts sf n es) r) ∙ ap (λ (l : List ℕ). p₂ ++ l) (pair_split o n x (pair_texts o n ps))) in
    let e : suc (length x.entries + steps_of ps) + m ≡ suc (length x.entries + (steps_of ps + m)) = omega arith in
    let w = read_entries es (suc (length x.entries + steps_of ps) + m) p r j a y at hs.0 q (omega arith) in
    let i = start_step a₂.base x.serial (length x.entries) p₂ t j l₂ g q₂ (omega (arith, f₂)) in
    let inside : st₂.length ≤ length j = omega (arith, ap length q₂, length-append p₂ (b₃ ++ t), l₂) in
    let z = read_pairs {st = renewed st₂ x.serial} ps x.entries m (p₂ ++ b₃) j (at_renewed x.serial g.typed g.good a₂.base) (sound_renewed st₂ x.serial g.good w.1)
    (start_place a₂.base x.serial (length x.entries) p₂ t j l₂ g q₂) hs.1 ns (start_bytes a₂.base x.serial (length x.entries) p₂ t j l₂ g q₂)
    (start_count a₂.base x.serial (length x.entries) p₂ t j l₂ g q₂) in
    w.0
    ∙ ap (λ (v : List Entry). es ++ v)
    (ap (λ (v : ℕ). read_by_steps (key_schedule k) v st₂ j) e
    ∙ (read_past (key_schedule k) (length x.entries + (steps_of ps + m)) st₂ j (renewed st₂ x.serial) (checked_is (key_schedule k) st₂ j (sound_here st₂ j w.1 inside) ∙ i) ∙ z))

-- ---- a whole journal

pub fresh_sound : (o : Owner) (k : List ℕ) (n : ℕ) (s : Name) → Work k n o (empty_pair s ∷ []) → Sound (fresh (settings_for o s) n k)
fresh_sound o k n s w = subst Sound (sym (fresh_holds o k n s)) (run_sound k n o [] (empty_pair s) w)

read_first : (o : Owner) (k : List ℕ) (n : ℕ) (p : Pair) (ps : List Pair) (j : List ℕ) (m : ℕ) → width_good n ≡ true → GoodOwner o → AllRight k n (start_core o) (all_placed o (p ∷ ps)) → Begun [] p
    → Names (p.serial ∷ []) ps → j ≡ journal_text o n (p ∷ ps) → length j ≤ m
    → read_by_steps (key_schedule k) m (fresh (head_of o (p ∷ ps)) n k) j ≡ entries_in (p ∷ ps)
unfolding all_placed entries_in head_of
read_first o k n p ps j m w g h b ns bytes fuel =
    let s = p.serial in
    let sf = settings_for o s in
    let es = p.entries in
    let st = fresh sf n k in
    let pre = head sf (length es) in
    let t = texts sf n es ++ pair_texts o n ps in
    let q : j ≡ pre ++ t = bytes ∙ journal_head o n p ps in
    let ts = typed_for o s g b.typed in
    let gs = good_for o s g b.good in
    let lh = length_head sf ts.lengths gs (length es) in
    let d = m - (length es + steps_of ps) in
    let z : length es + (steps_of ps + d) ≡ m =
    omega (arith, fuel, ap length q, length-append pre t, length-append (texts sf n es) (pair_texts o n ps), entries_size sf n es, pairs_size o n ps) in
    let count : count_at j st.place 4 ≡ st.since + length es =
    (λ i. count_at (q i) (fresh_place o k n s i) 4) ∙ (read_count_at sf ts.lengths gs (length es) b.few t ∙ omega (arith, fresh_section o k n s)) in
    ap (λ (i : ℕ). read_by_steps (key_schedule k) i st j) (sym z)
    ∙ read_pairs ps es d pre j (fresh_at o k n s g b.typed b.good) (fresh_sound o k n s (empty_work k n sf ts gs w)) (lh ∙ sym (fresh_length o k n s)) h ns q count

pub steps_read_entries : StepsReadEntries
steps_read_entries j key n v m fuel = go v.pairs w.some w.right w.names v.bytes
  where
    w : Work key n v.owner v.pairs
    w = valid_work v

    go : (ps : List Pair) → 0 < length ps → AllRight key n (start_core v.owner) (all_placed v.owner ps) → Names [] ps → j ≡ journal_text v.owner n ps
        → read_by_steps (key_schedule key) m (fresh (head_of v.owner ps) n key) j ≡ entries_in ps
    go [] l h ns e = absurd (omega arith)
    go (p ∷ ps) l h (placing.more b ns) e = read_first v.owner key n p ps j m v.width v.good h b ns e fuel

-- ---- the step of an entry in the journal

number_there : (k : List (List ℕ)) (st : State) (j : List ℕ) → there j st.length ≡ true → entry_number k st j ≡ text_number k st (text_at j st.length)
unfolding entry_number
number_there k st j t = ask_yes 15 _ t

place_text : (k : List (List ℕ)) (st : State) (j : List ℕ) → there j st.length ≡ true → place_checked k st j ≡ text_checked k st (text_at j st.length)
unfolding place_checked text_checked
place_text k st j t = ap (λ (n : ℕ). checked n st (text_at j st.length)) (number_there k st j t)

text_within : (j : List ℕ) (at : ℕ) → there j at ≡ true → at + length (entry_text (text_at j at)) ≤ length j
unfolding there text_at
text_within j at t =
    let p = both (leb (at + 2) (length j)) (leb (at + 2 + length_at j at) (length j)) t in
    let a = leb-true (at + 2 + length_at j at) (length j) p.1 in
    omega (arith, a, length_entry (take (length_at j at) (drop (at + 2) j)), length-take (length_at j at) (drop (at + 2) j))

ready : (st : State) (j : List ℕ) → length j < 18446744073709551616 → sound st (length j) ≡ true → there j st.length ≡ true → entry_ready st (text_at j st.length) ≡ true
unfolding sound entry_ready
ready st j b s t =
    let p = both (sound_alone st) (leb st.length (length j)) s in
    rw (p.0, le-leb (st.length + length (entry_text (text_at j st.length))) 18446744073709551615 (omega (arith, text_within j st.length t)))

entry_is : (k : List (List ℕ)) (st : State) (text : List ℕ) → entry_ready st text ≡ true → entry_checked k st text ≡ text_checked k st text
unfolding entry_checked
entry_is k st text r = rw r

pub step_is_its_entry : StepIsItsEntry
step_is_its_entry k st j b s f t =
    checked_is k st j s ∙ (step_entry k st j f ∙ (place_text k st j t ∙ sym (entry_is k st (text_at j st.length) (ready st j b s t))))

-- ---- the start of a pair, and the head

start_ready : (st : State) (j : List ℕ) → length j < 18446744073709551616 → sound st (length j) ≡ true → start_there j st.length ≡ true → serial_ready st (serial_at j st.length) ≡ true
unfolding serial_ready sound
start_ready st j b s h =
    let p = both (sound_alone st) (leb st.length (length j)) s in
    let w = (start_within j st.length h).0 in
    rw p.0 (le-leb (st.length + 8 + (serial_at j st.length).len) 18446744073709551615 (omega (arith, w, b)))

start_same : (st : State) (j : List ℕ) → start_there j st.length ≡ true → start_number st j ≡ serial_number st (serial_at j st.length)
unfolding start_number serial_number ask
start_same st j h = rw (h, (start_within j st.length h).1)

start_is : (st : State) (j : List ℕ) → serial_ready st (serial_at j st.length) ≡ true → start_number st j ≡ serial_number st (serial_at j st.length)
    → start_checked st j ≡ serial_checked st (serial_at j st.length)
unfolding start_checked serial_checked
start_is st j r e = rw (r, e)

end_is : (k : List (List ℕ)) (st : State) (j : List ℕ) → full st j ≡ true → st.length < length j → one_step k st j ≡ start_checked st j
unfolding one_step end_checked
end_is k st j f h = rw (f, lt-leb (length j) st.length h)

pub step_is_its_start : StepIsItsStart
step_is_its_start k st j b s f h =
    checked_is k st j s
    ∙ (end_is k st j f (omega (arith, (start_within j st.length h).0)) ∙ start_is st j (start_ready st j b s h) (start_same st j h))

good_settings_of : (j : List ℕ) → head_good j ≡ true → settings_good (head_settings j) ≡ true
unfolding head_good
good_settings_of j h =
    (both (leb (count_place_in j + 4) (length j)) (settings_good (head_settings j)) (both (eqb (count_at j 0 4) 3) (leb (count_place_in j + 4) (length j) && settings_good (head_settings j)) h).1).1

pub head_is_its_settings : HeadIsItsSettings
unfolding check_head head_number settings_checked ask
head_is_its_settings j key n h = rw (h, good_settings_of j h)
