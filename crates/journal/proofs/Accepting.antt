-- Take over accepts exactly the valid journals.
use Rattle.std.proofs.Common.{ℕ, zero, suc, ◌+◌, ◌-◌, ◌≤◌, ◌<◌, ◌≡◌, refl, sym, ap, ◌∙◌, subst, true, false, ◌&&◌, List, [], ◌∷◌, ◌++◌, append_assoc, append-nil, arith, pos, length, drop, length-append, drop_of_length-le}
use Rattle.primitives.specs.Bytes.{AllBytes}
use Rattle.primitives.specs.Number.{bytes_of, count_at}
use Rattle.primitives.specs.Counter.{width_good}
use Rattle.primitives.specs.Aes.{key_schedule}
use Rattle.primitives.specs.Questions.{ask, ifZero}
use Rattle.primitives.proofs.Numbers.{length_bytes_of}
use Rattle.primitives.proofs.Rows.{ask_zero, both}
use Rattle.receipt.specs.Settings.{name_text, csp_good, id_good, serial_good, settings_good, TypedSettings}
use Rattle.receipt.specs.Chain.{chain_value}
use Rattle.receipt.specs.Compact.{compact}
use Rattle.receipt.specs.declared.settings.Name.{Name}
use Rattle.receipt.specs.declared.settings.Settings.{Settings}
use Rattle.receipt.specs.declared.settings.Letters.TheVariants.{Id, Serial}
use Rattle.receipt.specs.declared.entry.Entry.{Entry}
use Rattle.receipt.proofs.Names.{good_name}
use Rattle.journal.specs.Head.{section, front, head, head_length, count_place, head_settings, head_good, entry_text, text_at, pair_start, serial_at}
use Rattle.journal.specs.State.{used, in_eight, added, is_in, TypedName}
use Rattle.journal.specs.declared.state.TakenOver.{TakenOver}
use Rattle.journal.specs.Step.{fresh, next, renewed}
use Rattle.journal.specs.Checking.{head_number, after, entry_number, one_step, steps, refused, accepted, last_answer, take_over, Checked}
use Rattle.journal.specs.declared.checking.Step.{Step}
use Rattle.journal.specs.Valid.{Owner, Pair, settings_for, texts, pair_text, pair_texts, owner_text, journal_text, placed_under, all_placed, GoodOwner, Valid}
use Rattle.journal.specs.declared.state.State.{State}
use Rattle.journal.proofs.Places.{length_entry, there_entry}
use Rattle.journal.proofs.Heads.{length_head, read_settings, head_good_lem, good_head, read_typed, read_few, read_back, count_of, read_count_at, read_place_is, read_length}
use Rattle.journal.proofs.Check.{RightAt, text_in, step, passes_right, after_passed, bytes_text, step_length}
use Rattle.journal.proofs.Stepping.{after_within, full_true, full_false, Case, an_entry, at_end_lem, a_start, step_case, end_none, full_yes, idle, answer_zero}
use Rattle.journal.proofs.Starting.{StartAt, start_at}
use Rattle.journal.proofs.Placing.{Core, start_core, step_core, RightFor, AllRight, all_each, each_all, Begun, Names, names_each, each_names, names_length}
use Rattle.journal.proofs.Placing as placing
use Rattle.journal.proofs.Passing.{state_of_lem, Base, At, typed_for, good_for, under, at_typed, at_schedule, right_there, text_is, at_next, renewed_length, renewed_place, renewed_section, at_renewed, run, run_pairs, steps_of, pair_split, passed_pairs}

-- ---- what stands there if a step passes

pub record EntryAt (st : State) (j : List ℕ) : Type 0 where
  pub entry : Entry
  pub right : RightAt st entry
  pub state : after st (text_at j st.length) ≡ step st entry
  pub bytes : drop st.length j ≡ entry_text (text_in st entry) ++ drop (step st entry).length j
  pub moved : st.length < (step st entry).length
  pub fits : (step st entry).length ≤ length j

pub entry_at : {st : State} {o : Owner} {k : List ℕ} {n : ℕ} {s : Name} {c : Core} {us : List Name} (j : List ℕ) → At st o k n s c us → AllBytes j
    → entry_number (key_schedule k) st j ≡ 0 → EntryAt st j
unfolding entry_number
entry_at {st} {k = k} j a b z =
    let q = ask_zero _ _ _ (ap (λ (x : List (List ℕ)). entry_number x st j) (at_schedule a) ∙ z) in
    let t = text_at j st.length in
    let w = passes_right st t (at_typed a) (bytes_text j st.length b) q.1 in
    let e = w.entry in
    let l : st.length + length (entry_text t) ≡ (step st e).length = ap (λ (x : List ℕ). st.length + length (entry_text x)) w.is ∙ sym (step_length st e) in
    record {
      entry = e;
      right = w.right;
      state = after_passed st t w;
      bytes = there_entry j b st.length q.0 ∙ (λ i. entry_text (w.is i) ++ drop (l i) j);
      moved = omega (arith, l, length_entry t);
      fits = subst (λ (x : State). x.length ≤ length j) (after_passed st t w) (after_within (key_schedule k) st j z).0;
    }

-- the entries that are left of the open section, and the pairs after it
pub record Reads (o : Owner) (k : List ℕ) (n : ℕ) (s : Name) (c : Core) (us : List Name) (st : State) (j : List ℕ) : Type 0 where
  pub entries : List Entry
  pub pairs : List Pair
  pub bytes : drop st.length j ≡ texts (settings_for o s) n entries ++ pair_texts o n pairs
  pub count : count_at j st.place 4 ≡ st.since + length entries
  pub right : AllRight k n c (placed_under (settings_for o s) entries ++ all_placed o pairs)
  pub names : Names us pairs

pub step_place : (st : State) (e : Entry) → (step st e).place ≡ st.place
unfolding next
step_place st e = refl

pub step_section : (st : State) (e : Entry) → (step st e).since ≡ st.since + 1
unfolding next
step_section st e = refl

reads_entry : {st : State} {o : Owner} {k : List ℕ} {n : ℕ} {s : Name} {c : Core} {us : List Name} (j : List ℕ) (a : At st o k n s c us) (x : EntryAt st j)
    → Reads o k n s (step_core n c (under o s x.entry)) us (step st x.entry) j → Reads o k n s c us st j
unfolding texts placed_under
reads_entry {st} {o} {k} {n} {s} j a x r =
    let e = x.entry in
    record {
      entries = e ∷ r.entries;
      pairs = r.pairs;
      bytes =
          x.bytes
          ∙ ((λ i. entry_text (text_is a e i) ++ r.bytes i)
          ∙ sym (append_assoc (entry_text (compact (settings_for o s) n e)) (texts (settings_for o s) n r.entries) (pair_texts o n r.pairs)));
      count = ap (λ (p : ℕ). count_at j p 4) (sym (step_place st e)) ∙ (r.count ∙ omega (arith, step_section st e));
      right = placing.more (right_there a e x.right) r.right;
      names = r.names;
    }

-- a pair from its start on
module _ (st : State) (o : Owner) (k : List ℕ) (n : ℕ) (s : Name) (c : Core) (us : List Name) (j : List ℕ) (x : StartAt j st.length s (count_at j (st.length + 4 + s.len) 4))
    (r : Reads o k n s c (us ++ (s ∷ [])) (renewed st s) j) where
  abbrev pub started : Pair
  started = record { serial = s; entries = r.entries }

  start_count : count_at j (st.length + 4 + s.len) 4 ≡ length r.entries
  start_count = ap (λ (p : ℕ). count_at j p 4) (sym (renewed_place st s)) ∙ (r.count ∙ omega (arith, renewed_section st s))

  pub pair_at : drop st.length j ≡ pair_texts o n (started ∷ r.pairs)
  unfolding pair_texts
  pair_at =
      x.bytes
      ∙ ((λ i. pair_start s (start_count i) ++ (ap (λ (m : ℕ). drop m j) (sym (renewed_length st s)) ∙ r.bytes) i)
      ∙ sym (pair_split o n (record { serial = s; entries = r.entries }) (pair_texts o n r.pairs)))

  pub pair_names : is_in s us ≡ false → length us < 8 → Names us (started ∷ r.pairs)
  pair_names new room =
      let few : length r.entries < 4294967296 = omega (arith, x.few, start_count) in
      placing.more (record { typed = x.typed; good = x.good; new = new; room = room; few = few }) r.names

reads_start : {st : State} {o : Owner} {k : List ℕ} {n : ℕ} {s : Name} {c : Core} {us : List Name} (j : List ℕ) (s' : Name)
    (x : StartAt j st.length s' (count_at j (st.length + 4 + s'.len) 4)) → is_in s' us ≡ false → length us < 8 → count_at j st.place 4 ≡ st.since
    → Reads o k n s' c (us ++ (s' ∷ [])) (renewed st s') j → Reads o k n s c us st j
unfolding texts placed_under all_placed
reads_start {st} {o} {k} {n} {s} {c} {us} j s' x new room count r =
    record {
      entries = [];
      pairs = record { serial = s'; entries = r.entries } ∷ r.pairs;
      bytes = pair_at st o k n s' c us j x r;
      count = count ∙ omega arith;
      right = r.right;
      names = pair_names st o k n s' c us j x r new room;
    }

-- ---- steps that pass have read entries and pairs

steps_zero : (k : List (List ℕ)) (n : ℕ) (st : State) (j : List ℕ) → (steps k (suc n) st j).number ≡ 0 → ((one_step k st j).number ≡ 0) × ((steps k n (one_step k st j).state j).number ≡ 0)
unfolding steps ifZero
steps_zero k n st j z = go (one_step k st j).number refl z
  where
    go : (m : ℕ) → (one_step k st j).number ≡ m → (ifZero m (steps k n (one_step k st j).state j) (record { number = (one_step k st j).number; state = st })).number ≡ 0
        → ((one_step k st j).number ≡ 0) × ((steps k n (one_step k st j).state j).number ≡ 0)
    go zero e q = (e, q)
    go (suc m) e q = absurd (omega (arith, e, q))

sound_case : {st : State} {o : Owner} {k : List ℕ} {n : ℕ} {s : Name} {c : Core} {us : List Name} (m : ℕ) (j : List ℕ) → At st o k n s c us → AllBytes j → st.length ≤ length j
    → length j < suc m + st.length → st.since ≤ count_at j st.place 4 → (steps (key_schedule k) m (one_step (key_schedule k) st j).state j).number ≡ 0 → Case (key_schedule k) st j
    → ((st' : State) (s' : Name) (c' : Core) (us' : List Name) → At st' o k n s' c' us' → st'.length ≤ length j → length j < m + st'.length
    → st'.since ≤ count_at j st'.place 4 → (steps (key_schedule k) m st' j).number ≡ 0 → Reads o k n s' c' us' st' j)
    → Reads o k n s c us st j
unfolding texts pair_texts placed_under all_placed
sound_case {st} {o} {k} {n} {s} {c} {us} m j a b l fuel less z (an_entry h w e) rec =
    let x = entry_at j a b w in
    let y = x.entry in
    let q : (one_step (key_schedule k) st j).state ≡ step st y = ap (λ (r : Checked). r.state) e ∙ x.state in
    let f = full_false st j h in
    let less' : (step st y).since ≤ count_at j (step st y).place 4 = rw (step_section st y, step_place st y) (omega (arith, f)) in
    reads_entry j a x
    (rec (step st y) s (step_core n c (under o s y)) us (at_next y a x.right) x.fits (omega (arith, x.moved)) less'
    (subst (λ (t : State). (steps (key_schedule k) m t j).number ≡ 0) q z))
sound_case {st} m j a b l fuel less z (at_end_lem h w e) rec =
    let f = full_true st j h in
    record { entries = []; pairs = []; bytes = drop_of_length-le j w; count = omega (arith, f, less); right = placing.none; names = placing.none }
sound_case {st} {o} {k} {n} {s} {c} {us} m j a b l fuel less z (a_start h w x e) rec =
    let s' = serial_at j st.length in
    let y = start_at j b st.length x.there in
    let f = full_true st j h in
    let q : (one_step (key_schedule k) st j).state ≡ renewed st s' = ap (λ (r : Checked). r.state) e ∙ state_of_lem 0 (renewed st s') in
    reads_start j s' y (rw (← a.base.serials) x.new) (rw (← a.base.serials) x.few) (omega (arith, f, less))
    (rec (renewed st s') s' c (us ++ (s' ∷ [])) (at_renewed s' y.typed y.good a.base) (omega (arith, renewed_length st s', y.fits)) (omega (arith, renewed_length st s'))
    (omega (arith, renewed_section st s')) (subst (λ (t : State). (steps (key_schedule k) m t j).number ≡ 0) q z))

pub sound_from : {st : State} {o : Owner} {k : List ℕ} {n : ℕ} {s : Name} {c : Core} {us : List Name} (m : ℕ) (j : List ℕ) → At st o k n s c us → AllBytes j → st.length ≤ length j
    → length j < m + st.length → st.since ≤ count_at j st.place 4 → (steps (key_schedule k) m st j).number ≡ 0 → Reads o k n s c us st j
sound_from zero j a b l fuel less z = absurd (omega arith)
sound_from {st} {k = k} (suc m) j a b l fuel less z =
    let w = steps_zero (key_schedule k) m st j z in
    sound_case m j a b l fuel less w.1 (step_case (key_schedule k) st j w.0)
    (λ st' s' c' us' a' l' f' o' z'. sound_from m j a' b l' f' o' z')

-- ---- whole journals

-- pairs in a row, from the first on
pub record Work (k : List ℕ) (n : ℕ) (o : Owner) (ps : List Pair) : Type 0 where
  pub width : width_good n ≡ true
  pub good : GoodOwner o
  pub some : 0 < length ps
  pub right : AllRight k n (start_core o) (all_placed o ps)
  pub names : Names [] ps

unfoldable pub work_valid : (k : List ℕ) (n : ℕ) (o : Owner) (ps : List Pair) (j : List ℕ) → Work k n o ps → j ≡ journal_text o n ps → Valid j k n
work_valid k n o ps j w e =
    record {
      width = w.width;
      owner = o;
      good = w.good;
      pairs = ps;
      some = w.some;
      eight = omega (arith, names_length [] ps w.names w.some);
      bytes = e;
      begins = names_each ps w.names;
      each = all_each k n o (all_placed o ps) w.right;
    }

pub valid_work : {j k : List ℕ} {n : ℕ} (v : Valid j k n) → Work k n v.owner v.pairs
valid_work {j} {k} {n} v =
    record {
      width = v.width;
      good = v.good;
      some = v.some;
      right = each_all k n v.owner (all_placed v.owner v.pairs) v.each;
      names = each_names v.pairs v.eight v.begins;
    }

-- the state before the first pair: CSP and ID have been read
unfoldable pub blank : Owner → List ℕ → ℕ → State
blank o k n =
    record {
      csp = o.csp;
      id = o.id;
      serials = in_eight [];
      width = n;
      key = k;
      counter = pos 0;
      last = 0;
      issued = 0;
      chain = chain_value (name_text o.id);
      length = 11 + o.id.len;
      since = 0;
      place = 0;
    }

pub blank_base : (o : Owner) (k : List ℕ) (n : ℕ) → GoodOwner o → Base (blank o k n) o k n (start_core o) []
unfolding blank start_core used in_eight
blank_base o k n g = record { csp = refl; id = refl; key = refl; width = refl; core = refl; serials = refl; good = g }

pub blank_length : (o : Owner) (k : List ℕ) (n : ℕ) → (blank o k n).length ≡ 11 + o.id.len
unfolding blank
blank_length o k n = refl

-- the fresh state is the one after the start of the first pair
pub fresh_is : (o : Owner) (k : List ℕ) (n : ℕ) (s : Name) → fresh (settings_for o s) n k ≡ renewed (blank o k n) s
unfolding fresh renewed blank head_length count_place added used in_eight
fresh_is o k n s =
    let l : 19 + o.id.len + s.len ≡ 11 + o.id.len + 8 + s.len = omega arith in
    let p : 19 + o.id.len + s.len - 4 ≡ 11 + o.id.len + 4 + s.len = omega arith in
    λ i. record {
      csp = o.csp;
      id = o.id;
      serials = in_eight (s ∷ []);
      width = n;
      key = k;
      counter = pos 0;
      last = 0;
      issued = 0;
      chain = chain_value (name_text o.id);
      length = l i;
      since = 0;
      place = p i;
    }

pub fresh_at : (o : Owner) (k : List ℕ) (n : ℕ) (s : Name) → GoodOwner o → TypedName s → serial_good s ≡ true → At (fresh (settings_for o s) n k) o k n s (start_core o) (s ∷ [])
fresh_at o k n s g t h = subst (λ (x : State). At x o k n s (start_core o) (s ∷ [])) (sym (fresh_is o k n s)) (at_renewed s t h (blank_base o k n g))

pub fresh_length : (o : Owner) (k : List ℕ) (n : ℕ) (s : Name) → (fresh (settings_for o s) n k).length ≡ head_length (settings_for o s)
unfolding fresh
fresh_length o k n s = refl

pub fresh_place : (o : Owner) (k : List ℕ) (n : ℕ) (s : Name) → (fresh (settings_for o s) n k).place ≡ count_place (settings_for o s)
unfolding fresh
fresh_place o k n s = refl

pub fresh_section : (o : Owner) (k : List ℕ) (n : ℕ) (s : Name) → (fresh (settings_for o s) n k).since ≡ 0
unfolding fresh
fresh_section o k n s = refl

-- a head is CSP, ID and the start of a pair
pub head_pair : (o : Owner) (s : Name) (k : ℕ) → head (settings_for o s) k ≡ owner_text o ++ pair_start s k
unfolding head front owner_text pair_start
head_pair o s k = append_assoc (section o.csp ++ section (name_text o.id)) (section (name_text s)) (bytes_of 4 k)

pub journal_head : (o : Owner) (n : ℕ) (p : Pair) (ps : List Pair)
    → journal_text o n (p ∷ ps) ≡ head (settings_for o p.serial) (length p.entries) ++ (texts (settings_for o p.serial) n p.entries ++ pair_texts o n ps)
unfolding journal_text pair_texts
journal_head o n p ps =
    let t = texts (settings_for o p.serial) n p.entries ++ pair_texts o n ps in
    let b = pair_start p.serial (length p.entries) in
    ap (λ (l : List ℕ). owner_text o ++ l) (pair_split o n p (pair_texts o n ps))
    ∙ (sym (append_assoc (owner_text o) b t) ∙ ap (λ (l : List ℕ). l ++ t) (sym (head_pair o p.serial (length p.entries))))

-- no step is without a byte
pub entries_size : (s : Settings) (n : ℕ) (es : List Entry) → length es ≤ length (texts s n es)
unfolding texts
entries_size s n [] = omega arith
entries_size s n (e ∷ es) =
    omega (arith, length-append (entry_text (compact s n e)) (texts s n es), length_entry (compact s n e), entries_size s n es)

pub pairs_size : (o : Owner) (n : ℕ) (ps : List Pair) → steps_of ps ≤ length (pair_texts o n ps)
unfolding pair_texts steps_of pair_text pair_start
pairs_size o n [] = omega arith
pairs_size o n (p ∷ ps) =
    let t = texts (settings_for o p.serial) n p.entries in
    let s = section (name_text p.serial) in
    let b = bytes_of 4 (length p.entries) in
    omega (
      arith,
      length-append ((s ++ b) ++ t) (pair_texts o n ps),
      length-append (s ++ b) t,
      length-append s b,
      length_bytes_of 4 (length p.entries),
      entries_size (settings_for o p.serial) n p.entries,
      pairs_size o n ps,
    )

-- ---- right pairs are taken over, with the state that they give

-- from a good head on
pub takes_head : (o : Owner) (k : List ℕ) (n : ℕ) (s : Name) (m : ℕ) (rest : List ℕ) → width_good n ≡ true → GoodOwner o → TypedName s → serial_good s ≡ true → m < 4294967296
    → take_over (head (settings_for o s) m ++ rest) k n
    ≡ last_answer (steps (key_schedule k) (length (head (settings_for o s) m ++ rest)) (fresh (settings_for o s) n k) (head (settings_for o s) m ++ rest))
unfolding take_over head_number ask ifZero
takes_head o k n s m rest w g t h few =
    let sf = settings_for o s in
    let l = (typed_for o s g t).lengths in
    let y = good_for o s g h in
    rw (w, head_good_lem sf l y m few rest, read_settings sf l y m few rest)

takes_first : (o : Owner) (k : List ℕ) (n : ℕ) (p : Pair) (ps : List Pair) → width_good n ≡ true → GoodOwner o → AllRight k n (start_core o) (all_placed o (p ∷ ps)) → Begun [] p
    → Names (p.serial ∷ []) ps → take_over (journal_text o n (p ∷ ps)) k n ≡ accepted (run_pairs (blank o k n) (p ∷ ps))
unfolding all_placed run_pairs
takes_first o k n p ps w g h b ns =
    let s = p.serial in
    let sf = settings_for o s in
    let es = p.entries in
    let st = fresh sf n k in
    let pre = head sf (length es) in
    let t = texts sf n es ++ pair_texts o n ps in
    let j = pre ++ t in
    let lh = length_head sf (typed_for o s g b.typed).lengths (good_for o s g b.good) (length es) in
    let m = length j - (length es + steps_of ps) in
    let z : length es + (steps_of ps + m) ≡ length j =
    omega (arith, length-append pre t, length-append (texts sf n es) (pair_texts o n ps), entries_size sf n es, pairs_size o n ps) in
    let q : j ≡ pre ++ (texts sf n es ++ (pair_texts o n ps ++ [])) = ap (λ (l : List ℕ). pre ++ (texts sf n es ++ l)) (sym (append-nil (pair_texts o n ps))) in
    let count : count_at j st.place 4 ≡ st.since + length es =
    ap (λ (x : ℕ). count_at j x 4) (fresh_place o k n s)
    ∙ (read_count_at sf (typed_for o s g b.typed).lengths (good_for o s g b.good) (length es) b.few t ∙ omega (arith, fresh_section o k n s)) in
    let r = passed_pairs ps es m pre j [] (fresh_at o k n s g b.typed b.good) (lh ∙ sym (fresh_length o k n s)) h ns q count in
    let st' = run_pairs (run st es) ps in
    let e : steps (key_schedule k) (length j) st j ≡ record { number = 0; state = st' } =
    ap (λ (x : ℕ). steps (key_schedule k) x st j) (sym z)
    ∙ (r.0 ∙ idle (key_schedule k) j m st' (end_none (key_schedule k) st' j (full_yes st' j (omega (arith, r.1.full))) (omega (arith, r.1.place)))) in
    ap (λ (l : List ℕ). take_over l k n) (journal_head o n p ps)
    ∙ (takes_head o k n s (length es) t w g b.typed b.good b.few
    ∙ (ap last_answer e ∙ (answer_zero st' ∙ ap (λ (x : State). accepted (run_pairs (run x es) ps)) (fresh_is o k n s))))

pub takes : (o : Owner) (k : List ℕ) (n : ℕ) (ps : List Pair) → Work k n o ps → take_over (journal_text o n ps) k n ≡ accepted (run_pairs (blank o k n) ps)
takes o k n ps w = go ps w.some w.right w.names
  where
    go : (ps : List Pair) → 0 < length ps → AllRight k n (start_core o) (all_placed o ps) → Names [] ps → take_over (journal_text o n ps) k n ≡ accepted (run_pairs (blank o k n) ps)
    go [] l h ns = absurd (omega arith)
    go (p ∷ ps) l h (placing.more b ns) = takes_first o k n p ps w.width w.good h b ns

pub valid_taken : {j k : List ℕ} {n : ℕ} (v : Valid j k n) → take_over j k n ≡ accepted (run_pairs (blank v.owner k n) v.pairs)
valid_taken {j} {k} {n} v = ap (λ (l : List ℕ). take_over l k n) v.bytes ∙ takes v.owner k n v.pairs (valid_work v)

accepted_number : (st : State) → (accepted st).number ≡ 0
unfolding accepted
accepted_number st = refl

pub valid_accepted : (j k : List ℕ) (n : ℕ) → Valid j k n → (take_over j k n).number ≡ 0
valid_accepted j k n v = ap (λ (t : TakenOver). t.number) (valid_taken v) ∙ accepted_number (run_pairs (blank v.owner k n) v.pairs)

-- ---- what is taken over is valid

pub answer_number : (x : Step) → (last_answer x).number ≡ x.number
unfolding last_answer ifZero accepted refused
answer_number x = go x.number refl
  where
    go : (m : ℕ) → x.number ≡ m → (ifZero m (accepted x.state) (refused m x.state.issued)).number ≡ m
    go zero e = refl
    go (suc m) e = refl

head_number_lem : (m : ℕ) (t : TakenOver) → (ifZero m t (refused m 0)).number ≡ 0 → (m ≡ 0) × (t.number ≡ 0)
unfolding ifZero refused
head_number_lem zero t z = (refl, z)
head_number_lem (suc m) t z = absurd (omega arith)

pub head_answers : (j : List ℕ) (n : ℕ) → head_number j n ≡ 0 → (width_good n ≡ true) × (head_good j ≡ true)
unfolding head_number
head_answers j n z = let p = ask_zero _ _ _ z in (p.0, (ask_zero _ _ _ p.1).0)

-- the owner and the first serial of a good head
abbrev pub owner_in : Settings → Owner
owner_in s = record { csp = s.csp; id = s.id }

pub good_owner : (s : Settings) → TypedSettings s → settings_good s ≡ true → GoodOwner (owner_in s) × TypedName s.serial × (serial_good s.serial ≡ true)
unfolding settings_good
good_owner s t g =
    let p = both (csp_good s.csp) (id_good s.id && serial_good s.serial) g in
    let q = both (id_good s.id) (serial_good s.serial) p.1 in
    let i = (good_name Id s.id q.0).most in
    let r = (good_name Serial s.serial q.1).most in (
      record {
        typed_csp = t.lengths.csp;
        csp_bytes = t.bytes.csp;
        typed_id = record { long = t.lengths.id; bytes = t.bytes.id; small = omega arith };
        csp = p.0;
        id = q.0;
      },
      record { long = t.lengths.serial; bytes = t.bytes.serial; small = omega arith },
      q.1,
    )

-- what the steps after a good head have read is a valid journal
reads_valid : (j k : List ℕ) (n : ℕ) (s : Settings) (m : ℕ) → width_good n ≡ true → GoodOwner (owner_in s) → TypedName s.serial → serial_good s.serial ≡ true → m < 4294967296
    → count_at j (count_place s) 4 ≡ m → j ≡ head s m ++ drop (head_length s) j → Reads (owner_in s) k n s.serial (start_core (owner_in s)) (s.serial ∷ []) (fresh s n k) j → Valid j k n
unfolding all_placed is_in
reads_valid j k n s m w g t h few c q r =
    let o = owner_in s in
    let es = r.entries in
    let x : Pair = record { serial = s.serial; entries = es } in
    let count : m ≡ length es =
    sym c ∙ (ap (λ (p : ℕ). count_at j p 4) (sym (fresh_place o k n s.serial)) ∙ (r.count ∙ omega (arith, fresh_section o k n s.serial))) in
    let d : drop (head_length s) j ≡ texts s n es ++ pair_texts o n r.pairs = ap (λ (y : ℕ). drop y j) (sym (fresh_length o k n s.serial)) ∙ r.bytes in
    let f : length es < 4294967296 = omega (arith, few, count) in
    let first : length {A = Name} [] < 8 = omega arith in
    let ns : Names [] (x ∷ r.pairs) = placing.more (record { typed = t; good = h; new = refl; room = first; few = f }) r.names in
    let e : j ≡ journal_text o n (x ∷ r.pairs) = q ∙ ((λ i. head s (count i) ++ d i) ∙ sym (journal_head o n x r.pairs)) in
    work_valid k n o (x ∷ r.pairs) j (record { width = w; good = g; some = omega arith; right = r.right; names = ns }) e

pub accepted_valid : (j k : List ℕ) (n : ℕ) → AllBytes j → (take_over j k n).number ≡ 0 → Valid j k n
unfolding take_over count_of
accepted_valid j k n b z =
    let p = head_number_lem (head_number j n) _ z in
    let q = head_answers j n p.0 in
    let h = q.1 in
    let s = head_settings j in
    let g = good_owner s (read_typed j b h) (good_head j b h).good in
    let o = owner_in s in
    let st = fresh s n k in
    let sz : (steps (key_schedule k) (length j) st j).number ≡ 0 = sym (answer_number (steps (key_schedule k) (length j) st j)) ∙ p.1 in
    let lh = read_length j b h in
    let room = (good_head j b h).room in
    let fl = fresh_length o k n s.serial in
    let c : count_at j (count_place s) 4 ≡ count_of j = ap (λ (x : ℕ). count_at j x 4) (read_place_is j b h) in
    reads_valid j k n s (count_of j) q.0 g.0 g.1 g.2 (read_few j b h) c (read_back j b h)
    (sound_from (length j) j (fresh_at o k n s.serial g.0 g.1 g.2) b (omega (arith, fl, lh, room)) (omega (arith, fl, lh)) (omega (arith, fresh_section o k n s.serial)) sz)
