-- Right entries and pairs are passed, whatever follows them.
use Rattle.std.proofs.Common.{ℕ, suc, ◌+◌, ◌≤◌, ◌<◌, ◌≡◌, refl, sym, ap, ◌∙◌, subst, true, List, [], ◌∷◌, ◌++◌, append_assoc, append-nil, arith, add-zero, length, length-append}
use mathlib.Core.Path.{transport}
use Rattle.primitives.specs.Number.{count_at}
use Rattle.primitives.specs.Aes.{key_schedule}
use Rattle.receipt.specs.Settings.{serial_good, settings_good, TypedSettings}
use Rattle.receipt.specs.Chain.{chain_value}
use Rattle.receipt.specs.Compact.{compact}
use Rattle.receipt.specs.declared.settings.Name.{Name}
use Rattle.receipt.specs.declared.entry.Entry.{Entry}
use Rattle.journal.specs.Head.{entry_text, text_at, pair_start, serial_at, start_there}
use Rattle.journal.specs.State.{used, newest, settings_now, TypedName}
use Rattle.journal.specs.Step.{next, renewed}
use Rattle.journal.specs.Checking.{found, after, entry_number, stopped, start_number, one_step, steps, Checked}
use Rattle.journal.specs.Valid.{Owner, Pair, settings_for, texts, pair_text, pair_texts, Placed, placed_under, all_placed, Right, GoodOwner}
use Rattle.journal.specs.declared.state.State.{State}
use Rattle.primitives.proofs.Rows.{ask_yes}
use Rattle.journal.proofs.Sections.{length_start}
use Rattle.journal.proofs.Places.{text_at_lem}
use Rattle.journal.proofs.Check.{RightAt, text_in, step, found_is, text_small, step_zero, after_is, step_counter, step_length, schedule_of}
use Rattle.journal.proofs.Serials.{used_added, newest_added}
use Rattle.journal.proofs.Answers.{settings-three, serial-yes}
use Rattle.journal.proofs.Stepping.{full_yes, full_no, entry_passed, start_passed, passed_step}
use Rattle.journal.proofs.Starting.{serial_read, count_read, start_there_lem}
use Rattle.journal.proofs.Placing.{Core, step_core, run_core, RightFor, AllRight, right_split, Startable, Names}
use Rattle.journal.proofs.Placing as placing

-- ---- what a state stands for

abbrev pub core_of : State → Core
core_of st = record { counter = st.counter; last = st.last; issued = st.issued; chain = st.chain }

-- CSP, ID, key and width, what ran on, and the serials used
pub record Base (st : State) (o : Owner) (k : List ℕ) (n : ℕ) (c : Core) (us : List Name) : Type 0 where
  pub csp : st.csp ≡ o.csp
  pub id : st.id ≡ o.id
  pub key : st.key ≡ k
  pub width : st.width ≡ n
  pub core : core_of st ≡ c
  pub serials : used st.serials ≡ us
  pub good : GoodOwner o

-- and the serial of the open pair
pub record At (st : State) (o : Owner) (k : List ℕ) (n : ℕ) (s : Name) (c : Core) (us : List Name) : Type 0 where
  pub base : Base st o k n c us
  pub serial : newest st.serials ≡ s
  pub typed : TypedName s
  pub good : serial_good s ≡ true

pub typed_for : (o : Owner) (s : Name) → GoodOwner o → TypedName s → TypedSettings (settings_for o s)
typed_for o s g t =
    record {
      lengths = record { csp = g.typed_csp; id = g.typed_id.long; serial = t.long };
      bytes = record { csp = g.csp_bytes; id = g.typed_id.bytes; serial = t.bytes };
    }

pub good_for : (o : Owner) (s : Name) → GoodOwner o → serial_good s ≡ true → settings_good (settings_for o s) ≡ true
good_for o s g h = settings-three o.csp o.id s g.csp g.id h

-- an entry under the serial s
abbrev pub under : Owner → Name → Entry → Placed
under o s e = record { settings = settings_for o s; entry = e }

module _ {st : State} {o : Owner} {k : List ℕ} {n : ℕ} {s : Name} {c : Core} {us : List Name} (a : At st o k n s c us) where
  pub at_settings : settings_now st ≡ settings_for o s
  at_settings = let b = a.base in λ i. record { csp = b.csp i; id = b.id i; serial = a.serial i }

  pub at_typed : TypedSettings (settings_now st)
  at_typed = subst TypedSettings (sym at_settings) (typed_for o s a.base.good a.typed)

  pub at_good : settings_good (settings_now st) ≡ true
  at_good = ap settings_good at_settings ∙ good_for o s a.base.good a.good

  pub at_schedule : schedule_of st ≡ key_schedule k
  at_schedule = ap key_schedule a.base.key

  right_is : (e : Entry) → RightAt st e ≡ RightFor k n c (under o s e)
  right_is e =
      let b = a.base in
      λ i. Right (at_settings i) (b.key i) (b.width i) (b.core i).last (b.core i).issued (b.core i).counter (b.core i).chain e

  pub right_here : (e : Entry) → RightFor k n c (under o s e) → RightAt st e
  right_here e h = transport (sym (right_is e)) h

  pub right_there : (e : Entry) → RightAt st e → RightFor k n c (under o s e)
  right_there e h = transport (right_is e) h

  pub text_is : (e : Entry) → text_in st e ≡ compact (settings_for o s) n e
  text_is e = λ i. compact (at_settings i) (a.base.width i) e

  pub texts_are : (es : List Entry) → texts (settings_now st) st.width es ≡ texts (settings_for o s) n es
  texts_are es = λ i. texts (at_settings i) (a.base.width i) es

-- ---- after an entry

core_step : (st : State) (e : Entry) → RightAt st e → core_of (step st e) ≡ step_core st.width (core_of st) (record { settings = settings_now st; entry = e })
unfolding next step_core
core_step st e h =
    λ i. record { counter = step_counter st e h i; last = e.fields.details.number; issued = st.issued + 1; chain = chain_value (text_in st e) }

pub at_next : {st : State} {o : Owner} {k : List ℕ} {n : ℕ} {s : Name} {c : Core} {us : List Name} (e : Entry) → At st o k n s c us → RightAt st e
    → At (step st e) o k n s (step_core n c (under o s e)) us
unfolding next
at_next {st} e a h =
    let b = a.base in
    record {
      base =
          record {
            csp = b.csp;
            id = b.id;
            key = b.key;
            width = b.width;
            core = core_step st e h ∙ (λ i. step_core (b.width i) (b.core i) (record { settings = at_settings a i; entry = e }));
            serials = b.serials;
            good = b.good;
          };
      serial = a.serial;
      typed = a.typed;
      good = a.good;
    }

-- ---- after the start of a pair

pub renewed_length : (st : State) (s : Name) → (renewed st s).length ≡ st.length + 8 + s.len
unfolding renewed
renewed_length st s = refl

pub renewed_place : (st : State) (s : Name) → (renewed st s).place ≡ st.length + 4 + s.len
unfolding renewed
renewed_place st s = refl

pub renewed_section : (st : State) (s : Name) → (renewed st s).since ≡ 0
unfolding renewed
renewed_section st s = refl

pub at_renewed : {st : State} {o : Owner} {k : List ℕ} {n : ℕ} {c : Core} {us : List Name} (s : Name) → TypedName s → serial_good s ≡ true → Base st o k n c us
    → At (renewed st s) o k n s c (us ++ (s ∷ []))
unfolding renewed
at_renewed {st} s t g b =
    record {
      base =
          record {
            csp = b.csp;
            id = b.id;
            key = b.key;
            width = b.width;
            core = b.core;
            serials = used_added st.serials s g ∙ ap (λ (l : List Name). l ++ (s ∷ [])) b.serials;
            good = b.good;
          };
      serial = newest_added st.serials s g;
      typed = t;
      good = g;
    }

-- ---- entries and pairs in a row

unfoldable pub run : State → List Entry → State
run st [] = st
run st (e ∷ es) = run (step st e) es

unfoldable pub run_pairs : State → List Pair → State
run_pairs st [] = st
run_pairs st (p ∷ ps) = run_pairs (run (renewed st p.serial) p.entries) ps

-- what entries leave and what they move
pub record Kept (st : State) (es : List Entry) (st' : State) : Type 0 where
  pub serials : st'.serials ≡ st.serials
  pub place : st'.place ≡ st.place
  pub since : st'.since ≡ st.since + length es
  pub length : st'.length ≡ st.length + length (texts (settings_now st) st.width es)

pub kept : (es : List Entry) (st : State) → Kept st es (run st es)
unfolding run next texts
kept [] st = record { serials = refl; place = refl; since = sym (add-zero st.since); length = sym (add-zero st.length) }
kept (e ∷ es) st =
    let k = kept es (step st e) in
    let a = length-append (entry_text (text_in st e)) (texts (settings_now st) st.width es) in
    record { serials = k.serials; place = k.place; since = k.since ∙ omega arith; length = k.length ∙ omega (arith, a) }

pub at_entries : {st : State} {o : Owner} {k : List ℕ} {n : ℕ} {s : Name} {c : Core} {us : List Name} (es : List Entry) → At st o k n s c us
    → AllRight k n c (placed_under (settings_for o s) es) → At (run st es) o k n s (run_core n c (placed_under (settings_for o s) es)) us
unfolding run run_core placed_under
at_entries [] a placing.none = a
at_entries {st = st} (e ∷ es) a (placing.more h hs) = at_entries {st = step st e} es (at_next e a (right_here a e h)) hs

pub run_length : {st : State} {o : Owner} {k : List ℕ} {n : ℕ} {s : Name} {c : Core} {us : List Name} (es : List Entry) → At st o k n s c us
    → (run st es).length ≡ st.length + length (texts (settings_for o s) n es)
run_length {st} es a = (kept es st).length ∙ ap (λ (l : List ℕ). st.length + length l) (texts_are a es)

-- ---- one step

module _ {st : State} {o : Owner} {k : List ℕ} {n : ℕ} {s : Name} {c : Core} {us : List Name} (a : At st o k n s c us) where
  -- an entry is read
  pub entry_step : (e : Entry) (p rest j : List ℕ) → length p ≡ st.length → RightFor k n c (under o s e) → j ≡ p ++ (entry_text (compact (settings_for o s) n e) ++ rest)
      → st.since < count_at j st.place 4
      → one_step (key_schedule k) st j ≡ record { number = 0; found = record { ok = true; entry = e }; state = step st e }
  entry_step e p rest j at r q less =
      let h = right_here a e r in
      let ts = at_typed a in
      let q₁ : j ≡ p ++ (entry_text (text_in st e) ++ rest) = q ∙ ap (λ (t : List ℕ). p ++ (entry_text t ++ rest)) (sym (text_is a e)) in
      let z : entry_number (key_schedule k) st j ≡ 0 = (λ i. entry_number (sym (at_schedule a) i) st (q₁ i)) ∙ step_zero st e p rest at ts h in
      let f : found st (text_at j st.length) ≡ record { ok = true; entry = e } =
      ap (λ (l : List ℕ). found st (text_at l st.length)) q₁ ∙ (ap (found st) (text_at_lem p (text_in st e) rest st.length at (text_small st e ts h)) ∙ found_is st e ts h) in
      let x : after st (text_at j st.length) ≡ step st e = ap (λ (l : List ℕ). after st (text_at l st.length)) q₁ ∙ after_is st e p rest at ts h in
      entry_passed (key_schedule k) st j (full_no st j less) z ∙ (λ i. record { number = 0; found = f i; state = x i })

-- the start of a pair with the serial s and the count m is read
pub start_step : {st : State} {o : Owner} {k : List ℕ} {n : ℕ} {c : Core} {us : List Name} → Base st o k n c us → (s : Name) (m : ℕ) (p rest j : List ℕ) → length p ≡ st.length
    → Startable us s m → j ≡ p ++ (pair_start s m ++ rest) → count_at j st.place 4 ≤ st.since
    → one_step (key_schedule k) st j ≡ stopped 0 (renewed st s)
unfolding start_number
start_step {st} {k = k} b s m p rest j at g q most =
    let sr : serial_at j st.length ≡ s = ap (λ (l : List ℕ). serial_at l st.length) q ∙ serial_read s g.typed g.good p m rest st.length at g.few in
    let th = ap (λ (l : List ℕ). start_there l st.length) q ∙ start_there_lem s g.typed g.good p m rest st.length at g.few in
    let sz : start_number st j ≡ 0 =
    ask_yes 21 _ th ∙ serial-yes st (serial_at j st.length) 0 (rw (sr, b.serials) g.new) (rw b.serials g.room) in
    let l = length-append p (pair_start s m ++ rest) in
    let l' = length-append (pair_start s m) rest in
    let less : st.length < length j = omega (arith, ap length q, length_start s g.typed.long g.good m) in
    start_passed (key_schedule k) st j (full_yes st j most) less sz ∙ ap (λ (y : Name). stopped 0 (renewed st y)) sr

-- ---- steps

pub number_of : (m : ℕ) (st : State) → (stopped m st).number ≡ m
unfolding stopped
number_of m st = refl

pub state_of_lem : (m : ℕ) (st : State) → (stopped m st).state ≡ st
unfolding stopped
state_of_lem m st = refl

-- through the entries of the open section
pub passed : {st : State} {o : Owner} {k : List ℕ} {n : ℕ} {s : Name} {c : Core} {us : List Name} (es : List Entry) (m : ℕ) (p rest j : List ℕ) → At st o k n s c us
    → length p ≡ st.length → AllRight k n c (placed_under (settings_for o s) es) → j ≡ p ++ (texts (settings_for o s) n es ++ rest)
    → st.since + length es ≤ count_at j st.place 4
    → steps (key_schedule k) (length es + m) st j ≡ steps (key_schedule k) m (run st es) j
unfolding texts run placed_under next
passed {st} {k = k} [] m p rest j a at h q room = let e : 0 + m ≡ m = omega arith in ap (λ (i : ℕ). steps (key_schedule k) i st j) e
passed {st} {o} {k} {n} {s} (e ∷ es) m p rest j a at (placing.more h hs) q room =
    let t = entry_text (compact (settings_for o s) n e) in
    let u = texts (settings_for o s) n es in
    let i : suc (length es) + m ≡ suc (length es + m) = omega arith in
    let q₁ : j ≡ p ++ (t ++ (u ++ rest)) = q ∙ ap (λ (l : List ℕ). p ++ l) (append_assoc t u rest) in
    let q₂ : j ≡ (p ++ t) ++ (u ++ rest) = q₁ ∙ sym (append_assoc p t (u ++ rest)) in
    let y = entry_step a e p (u ++ rest) j at h q₁ (omega arith) in
    let at' : length (p ++ t) ≡ (step st e).length =
    length-append p t ∙ (ap (λ (x : ℕ). x + length t) at ∙ (ap (λ (x : List ℕ). st.length + length (entry_text x)) (sym (text_is a e)) ∙ sym (step_length st e))) in
    ap (λ (x : ℕ). steps (key_schedule k) x st j) i
    ∙ (passed_step (key_schedule k) j (length es + m) st (ap (λ (x : Checked). x.number) y) (ap (λ (x : Checked). x.state) y)
    ∙ passed {st = step st e} es m (p ++ t) rest j (at_next e a (right_here a e h)) at' hs q₂ (omega arith))

-- so many steps
unfoldable pub steps_of : List Pair → ℕ
steps_of [] = 0
steps_of (p ∷ ps) = suc (length p.entries + steps_of ps)

module _ {st : State} {o : Owner} {k : List ℕ} {n : ℕ} {s : Name} {c : Core} {us : List Name} (es : List Entry) (p j rest : List ℕ) (a : At st o k n s c us)
    (at : length p ≡ st.length) (count : count_at j st.place 4 ≡ st.since + length es) where
  pub section_place : length (p ++ texts (settings_for o s) n es) ≡ (run st es).length
  section_place = length-append p (texts (settings_for o s) n es) ∙ omega (arith, at, run_length es a)

  pub section_full : count_at j (run st es).place 4 ≡ (run st es).since
  section_full = ap (λ (x : ℕ). count_at j x 4) (kept es st).place ∙ (count ∙ sym (kept es st).since)

-- the pairs are passed, and the last one is full
pub record Through (st : State) (j p : List ℕ) : Type 0 where
  pub full : count_at j st.place 4 ≡ st.since
  pub place : length p ≡ st.length

pub pair_split : (o : Owner) (n : ℕ) (x : Pair) (rest : List ℕ)
    → pair_text o n x ++ rest ≡ pair_start x.serial (length x.entries) ++ (texts (settings_for o x.serial) n x.entries ++ rest)
unfolding pair_text
pair_split o n x rest = append_assoc (pair_start x.serial (length x.entries)) (texts (settings_for o x.serial) n x.entries) rest

-- the state after the start of a pair, at its place
module _ {st : State} {o : Owner} {k : List ℕ} {n : ℕ} {c : Core} {us : List Name} (b : Base st o k n c us) (s : Name) (m : ℕ) (p rest j : List ℕ) (at : length p ≡ st.length)
    (g : Startable us s m) (q : j ≡ p ++ (pair_start s m ++ rest)) where
  pub start_place : length (p ++ pair_start s m) ≡ (renewed st s).length
  start_place = length-append p (pair_start s m) ∙ omega (arith, at, length_start s g.typed.long g.good m, renewed_length st s)

  pub start_bytes : j ≡ (p ++ pair_start s m) ++ rest
  start_bytes = q ∙ sym (append_assoc p (pair_start s m) rest)

  pub start_count : count_at j (renewed st s).place 4 ≡ (renewed st s).since + m
  start_count =
      (λ i. count_at (q i) (renewed_place st s i) 4)
      ∙ (count_read s g.typed g.good p m rest st.length at g.few ∙ omega (arith, renewed_section st s))

pub passed_pairs : {st : State} {o : Owner} {k : List ℕ} {n : ℕ} {s : Name} {c : Core} {us : List Name} (ps : List Pair) (es : List Entry) (m : ℕ) (p j rest : List ℕ)
    → At st o k n s c us → length p ≡ st.length → AllRight k n c (placed_under (settings_for o s) es ++ all_placed o ps) → Names us ps
    → j ≡ p ++ (texts (settings_for o s) n es ++ (pair_texts o n ps ++ rest)) → count_at j st.place 4 ≡ st.since + length es
    → (steps (key_schedule k) (length es + (steps_of ps + m)) st j ≡ steps (key_schedule k) m (run_pairs (run st es) ps) j)
    × Through (run_pairs (run st es) ps) j (p ++ (texts (settings_for o s) n es ++ pair_texts o n ps))
unfolding steps_of run_pairs pair_texts all_placed
passed_pairs {st} {o} {k} {n} {s} {c} {us} [] es m p j rest a at h ns q count =
    let h₁ = (right_split k n c (placed_under (settings_for o s) es) [] h).0 in
    let f = section_full es p j rest a at count in
    let l = section_place es p j rest a at count in
    let z : 0 + m ≡ m = omega arith in (
      ap (λ (i : ℕ). steps (key_schedule k) (length es + i) st j) z ∙ passed es m p rest j a at h₁ q (omega arith),
      record { full = f; place = ap (λ (l : List ℕ). length (p ++ l)) (append-nil (texts (settings_for o s) n es)) ∙ l },
    )
passed_pairs {st} {o} {k} {n} {s} {c} {us} (x ∷ ps) es m p j rest a at h (placing.more g ns) q count =
    let sf = settings_for o s in
    let hs = right_split k n c (placed_under sf es) (placed_under (settings_for o x.serial) x.entries ++ all_placed o ps) h in
    let r = (pair_text o n x ++ pair_texts o n ps) ++ rest in
    let st₂ = run st es in
    let a₂ = at_entries es a hs.0 in
    let p₂ = p ++ texts sf n es in
    let f₂ = section_full es p j r a at count in
    let l₂ = section_place es p j r a at count in
    let b₃ = pair_start x.serial (length x.entries) in
    let tx = texts (settings_for o x.serial) n x.entries in
    let t = tx ++ (pair_texts o n ps ++ rest) in
    let q₂ : j ≡ p₂ ++ (b₃ ++ t) =
    q ∙ (sym (append_assoc p (texts sf n es) r) ∙ ap (λ (l : List ℕ). p₂ ++ l) (append_assoc (pair_text o n x) (pair_texts o n ps) rest ∙ pair_split o n x (pair_texts o n ps ++ rest))) in
    let w = start_step a₂.base x.serial (length x.entries) p₂ t j l₂ g q₂ (omega arith) in
    let st₃ = renewed st₂ x.serial in
    let e : suc (length x.entries + steps_of ps) + m ≡ suc (length x.entries + (steps_of ps + m)) = omega arith in
    let y = passed_pairs {st = st₃} ps x.entries m (p₂ ++ b₃) j rest (at_renewed x.serial g.typed g.good a₂.base) (start_place a₂.base x.serial (length x.entries) p₂ t j l₂ g q₂) hs.1 ns
    (start_bytes a₂.base x.serial (length x.entries) p₂ t j l₂ g q₂) (start_count a₂.base x.serial (length x.entries) p₂ t j l₂ g q₂) in
    let split : p ++ (texts sf n es ++ (pair_text o n x ++ pair_texts o n ps)) ≡ (p₂ ++ b₃) ++ (tx ++ pair_texts o n ps) =
    ap (λ (l : List ℕ). p ++ (texts sf n es ++ l)) (pair_split o n x (pair_texts o n ps))
    ∙ (sym (append_assoc p (texts sf n es) (b₃ ++ (tx ++ pair_texts o n ps))) ∙ sym (append_assoc p₂ b₃ (tx ++ pair_texts o n ps))) in (
      passed es (suc (length x.entries + steps_of ps) + m) p r j a at hs.0 q (omega arith)
          ∙ (ap (λ (i : ℕ). steps (key_schedule k) i st₂ j) e
          ∙ (passed_step (key_schedule k) j (length x.entries + (steps_of ps + m)) st₂ (ap (λ (z : Checked). z.number) w ∙ number_of 0 st₃) (ap (λ (z : Checked). z.state) w ∙ state_of_lem 0 st₃) ∙ y.0)),
      record { full = y.1.full; place = ap length split ∙ y.1.place },
    )
