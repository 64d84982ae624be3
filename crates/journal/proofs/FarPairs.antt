-- How far every answer was yes: the state there, and that the steps of a take-over lead to it.
use Rattle.std.proofs.Common.{ℕ, suc, ◌+◌, ◌-◌, ◌≤◌, ◌<◌, ◌≡◌, sym, ap, ◌∙◌, subst, true, false, List, [], ◌∷◌, ◌++◌, append_assoc, arith, length, drop, length-append, drop_at}
use lib.IntN.{+ℤ_idl}
use Rattle.primitives.specs.Number.{bytes_of, count_at}
use Rattle.primitives.specs.Counter.{width_good}
use Rattle.primitives.specs.Aes.{key_schedule}
use Rattle.primitives.proofs.Numbers.{length_bytes_of}
use Rattle.primitives.proofs.Counts.{count_in}
use Rattle.receipt.specs.Settings.{name_text}
use Rattle.receipt.specs.Chain.{chain_value}
use Rattle.receipt.specs.Compact.{compact}
use Rattle.receipt.specs.declared.settings.Name.{Name}
use Rattle.receipt.specs.declared.settings.Settings.{Settings}
use Rattle.journal.specs.Head.{section, head, head_length, head_settings, head_good, entry_text, pair_start}
use Rattle.journal.specs.State.{used, is_in}
use Rattle.journal.specs.Step.{fresh, renewed}
use Rattle.journal.specs.Checking.{stopped, one_step, steps, refused, last_answer, take_over, Checked}
use Rattle.journal.specs.Receipts.{receipts_in, sum}
use Rattle.journal.specs.Valid.{Owner, Pair, settings_for, texts, pair_text, pair_texts, owner_text, journal_text, Placed, placed_under, all_placed, entries_of, last_of, chain_of, serials_of}
use Rattle.journal.specs.FirstNo.{Headed, SoFar, so_far, index}
use Rattle.journal.specs.Demands.{before_count}
use Rattle.journal.specs.declared.state.State.{State}
use Rattle.journal.proofs.Sections.{length_start}
use Rattle.journal.proofs.Heads.{length_head, head_good_lem, read_settings, read_count_at}
use Rattle.journal.proofs.Starting.{StartAt}
use Rattle.journal.proofs.Check.{step}
use Rattle.journal.proofs.Stepping.{passed_step, refused_step, answer_no}
use Rattle.journal.proofs.Placing.{Core, start_core, core_after, run_after, AllRight, right_append, right_split, all_each, each_all, Startable, Begun, Names, names_each, each_names, names_length, names_split}
use Rattle.journal.proofs.Placing as placing
use Rattle.journal.proofs.Passing.{core_of, typed_for, good_for, under, right_there, text_is, at_renewed, run, run_pairs, steps_of, passed, passed_pairs, start_step, start_place, start_bytes, start_count, number_of, state_of_lem, pair_split}
use Rattle.journal.proofs.Accepting.{EntryAt, Work, blank, blank_base, fresh_is, fresh_at, fresh_length, fresh_place, fresh_section, head_pair, takes_head, entries_size, pairs_size, owner_in}
use Rattle.journal.proofs.Pairs.{texts_snoc, pairs_append, last_text, wider, empty_pair, run_last, last_placed, all_wider, all_empty_lem, names_wider, names_empty, last_begun, ran, journal_open, Open, open_of}
use Rattle.journal.proofs.Registers.{some_snoc, empty_work}

-- ---- in a row

pub record Far (j key : List ℕ) (n : ℕ) (o : Owner) (ps : List Pair) (p : Pair) (m : ℕ) (rest : List ℕ) : Type 0 where
  pub work : Work key n o (ps ++ (p ∷ []))
  pub few : m < 4294967296
  pub within : length p.entries ≤ m
  pub bytes : j ≡ owner_text o ++ (pair_texts o n ps ++ (pair_start p.serial m ++ (texts (settings_for o p.serial) n p.entries ++ rest)))

pub far_of : {j key : List ℕ} {n : ℕ} {o : Owner} {ps : List Pair} {p : Pair} {m : ℕ} {rest : List ℕ} → SoFar j key n o ps p m rest → Far j key n o ps p m rest
far_of {j} {key} {n} {o} {ps} {p} s =
    record {
      work =
          record {
            width = s.width;
            good = s.good;
            some = some_snoc ps p;
            right = each_all key n o (all_placed o (ps ++ (p ∷ []))) s.each;
            names = each_names (ps ++ (p ∷ [])) s.eight s.begins;
          };
      few = s.few;
      within = s.within;
      bytes = s.bytes;
    }

pub so_far_of : {j key : List ℕ} {n : ℕ} {o : Owner} {ps : List Pair} {p : Pair} {m : ℕ} {rest : List ℕ} → Far j key n o ps p m rest → SoFar j key n o ps p m rest
so_far_of {j} {key} {n} {o} {ps} {p} f =
    record {
      width = f.work.width;
      good = f.work.good;
      few = f.few;
      within = f.within;
      bytes = f.bytes;
      eight = omega (arith, names_length [] (ps ++ (p ∷ [])) f.work.names f.work.some);
      begins = names_each (ps ++ (p ∷ [])) f.work.names;
      each = all_each key n o (all_placed o (ps ++ (p ∷ []))) f.work.right;
    }

-- ---- the state there

abbrev pub state_there : Owner → List ℕ → ℕ → List Pair → Pair → State
state_there o key n ps p = run_pairs (blank o key n) (ps ++ (p ∷ []))

pub record Stands (j key : List ℕ) (n : ℕ) (o : Owner) (ps : List Pair) (p : Pair) (m : ℕ) (rest : List ℕ) (st : State) : Type 0 where
  pub open_at : Open key n o ps p st
  -- what stands before its place
  pub pre : List ℕ
  pub long : length pre ≡ st.length
  pub whole : j ≡ pre ++ rest
  pub count : count_at j st.place 4 ≡ m
  -- what ran on
  pub last : st.last ≡ last_of 0 (entries_of (so_far o ps p))
  pub issued : st.issued ≡ index o ps p
  pub counter : st.counter ≡ sum (receipts_in (entries_of (so_far o ps p)))
  pub chain : st.chain ≡ chain_of n (chain_value (name_text o.id)) (so_far o ps p)

pub core_start : (n : ℕ) (o : Owner) (xs : List Placed) → core_after n (start_core o) xs
    ≡ record { counter = sum (receipts_in (entries_of xs)); last = last_of 0 (entries_of xs); issued = length xs; chain = chain_of n (chain_value (name_text o.id)) xs }
unfolding core_after start_core
core_start n o xs =
    let l : 0 + length xs ≡ length xs = omega arith in
    λ i. record { counter = +ℤ_idl (sum (receipts_in (entries_of xs))) i; last = last_of 0 (entries_of xs); issued = l i; chain = chain_of n (chain_value (name_text o.id)) xs }

count_split : (a b s c t : List ℕ) → a ++ (b ++ ((s ++ c) ++ t)) ≡ (a ++ (b ++ s)) ++ (c ++ t)
count_split a b s c t = simp append_assoc

pub stands : {j key : List ℕ} {n : ℕ} {o : Owner} {ps : List Pair} {p : Pair} {m : ℕ} {rest : List ℕ} → Far j key n o ps p m rest → Stands j key n o ps p m rest (state_there o key n ps p)
unfolding pair_start
stands {j} {key} {n} {o} {ps} {p} {m} {rest} f =
    let q = open_of key n o ps p f.work in
    let st = state_there o key n ps p in
    let t = texts (settings_for o p.serial) n p.entries in
    let fr = before_count o n ps p.serial in
    let old = bytes_of 4 (length p.entries) in
    let new = bytes_of 4 m in
    let e : j ≡ fr ++ (new ++ (t ++ rest)) = f.bytes ∙ count_split (owner_text o) (pair_texts o n ps) (section (name_text p.serial)) new (t ++ rest) in
    let e₁ : j ≡ (fr ++ (new ++ t)) ++ rest = e ∙ (ap (λ (l : List ℕ). fr ++ l) (sym (append_assoc new t rest)) ∙ sym (append_assoc fr (new ++ t) rest)) in
    let l : length (fr ++ (new ++ t)) ≡ st.length =
    length-append fr (new ++ t)
    ∙ omega (arith, q.size, ap length (journal_open o n ps p), length-append fr (old ++ t), length-append old t, length-append new t, length_bytes_of 4 m, length_bytes_of 4 (length p.entries)) in
    let c : core_of st ≡ _ = q.at.base.core ∙ (run_after n (start_core o) (so_far o ps p) ∙ core_start n o (so_far o ps p)) in
    record {
      open_at = q;
      pre = fr ++ (new ++ t);
      long = l;
      whole = e₁;
      count = ap (λ (x : List ℕ). count_at x st.place 4) e ∙ count_in fr (t ++ rest) st.place 4 m q.place (omega (arith, f.few));
      last = ap (λ (x : Core). x.last) c;
      issued = ap (λ (x : Core). x.issued) c;
      counter = ap (λ (x : Core). x.counter) c;
      chain = ap (λ (x : Core). x.chain) c;
    }

-- ---- the steps lead there

-- after so many entries and starts of pairs
pub record Reach (j key : List ℕ) (n : ℕ) (count : ℕ) (st : State) : Type 0 where
  -- a good head
  pub settings : Settings
  pub width : width_good n ≡ true
  pub good : head_good j ≡ true
  pub read : head_settings j ≡ settings
  pub taken : take_over j key n ≡ last_answer (steps (key_schedule key) (length j) (fresh settings n key) j)
  -- so many steps, and a byte is left for one more
  pub fuel : ℕ
  pub counted : fuel ≡ count
  pub left : fuel < length j
  pub run : (m : ℕ) → steps (key_schedule key) (fuel + m) (fresh settings n key) j ≡ steps (key_schedule key) m st j

first_run : (o : Owner) (key : List ℕ) (n : ℕ) (p : Pair) → run (fresh (settings_for o p.serial) n key) p.entries ≡ run_pairs (blank o key n) (p ∷ [])
unfolding run_pairs
first_run o key n p = ap (λ (x : State). run x p.entries) (fresh_is o key n p.serial)

pairs_run : (o : Owner) (key : List ℕ) (n : ℕ) (x : Pair) (qs : List Pair)
    → run_pairs (run (fresh (settings_for o x.serial) n key) x.entries) qs ≡ run_pairs (blank o key n) (x ∷ qs)
unfolding run_pairs
pairs_run o key n x qs = ap (λ (y : State). run_pairs (run y x.entries) qs) (fresh_is o key n x.serial)

-- a head and what follows it
head_bytes : (o : Owner) (s : Name) (m : ℕ) (t : List ℕ) → owner_text o ++ (pair_start s m ++ t) ≡ head (settings_for o s) m ++ t
head_bytes o s m t = sym (append_assoc (owner_text o) (pair_start s m) t) ∙ ap (λ (l : List ℕ). l ++ t) (sym (head_pair o s m))

head_some : (s : Settings) → 0 < head_length s
unfolding head_length
head_some s = omega arith

reach_first : (j key : List ℕ) (n : ℕ) (o : Owner) (p : Pair) (m : ℕ) (rest : List ℕ) → Far j key n o [] p m rest → Begun [] p
    → Reach j key n (steps_of [] + length p.entries) (state_there o key n [] p)
unfolding pair_texts all_placed steps_of
reach_first j key n o p m rest f b =
    let s = p.serial in
    let es = p.entries in
    let sf = settings_for o s in
    let g = f.work.good in
    let st = fresh sf n key in
    let t = texts sf n es ++ rest in
    let pre = head sf m in
    let ts = (typed_for o s g b.typed).lengths in
    let gs = good_for o s g b.good in
    let q : j ≡ pre ++ t = f.bytes ∙ head_bytes o s m t in
    let lh = length_head sf ts gs m in
    let r : AllRight key n (start_core o) (placed_under sf es) = subst (AllRight key n (start_core o)) (last_placed o [] p) f.work.right in
    let c : count_at j st.place 4 ≡ m =
    (λ i. count_at (q i) (fresh_place o key n s i) 4) ∙ read_count_at sf ts gs m f.few t in
    record {
      settings = sf;
      width = f.work.width;
      good = ap head_good q ∙ head_good_lem sf ts gs m f.few t;
      read = ap head_settings q ∙ read_settings sf ts gs m f.few t;
      taken = ap (λ (l : List ℕ). take_over l key n) q ∙ (takes_head o key n s m t f.work.width g b.typed b.good f.few ∙ ap (λ (l : List ℕ). last_answer (steps (key_schedule key) (length l) st l)) (sym q));
      fuel = length es;
      counted = omega arith;
      left = omega (arith, ap length q, length-append pre t, length-append (texts sf n es) rest, entries_size sf n es, lh, head_some sf);
      run = λ x.
          passed es x pre rest j (fresh_at o key n s g b.typed b.good) (lh ∙ sym (fresh_length o key n s)) r q (omega (arith, c, f.within, fresh_section o key n s))
          ∙ ap (λ (y : State). steps (key_schedule key) x y j) (first_run o key n p);
    }

reach_later : (j key : List ℕ) (n : ℕ) (o : Owner) (x : Pair) (qs : List Pair) (p : Pair) (m : ℕ) (rest : List ℕ) → Far j key n o (x ∷ qs) p m rest → Begun [] x → Names (x.serial ∷ []) qs
    → Names [] (x ∷ qs) → Begun (serials_of (x ∷ qs)) p → Reach j key n (steps_of (x ∷ qs) + length p.entries) (state_there o key n (x ∷ qs) p)
unfolding all_placed pair_texts steps_of
reach_later j key n o x qs p m rest f bx nx ns b =
    let g = f.work.good in
    let s = p.serial in
    let es = p.entries in
    let sx = settings_for o x.serial in
    let sf = settings_for o s in
    let tail = pair_start s m ++ (texts sf n es ++ rest) in
    let n₀ = length x.entries in
    let t₀ = texts sx n x.entries in
    let u = t₀ ++ (pair_texts o n qs ++ tail) in
    let pre = head sx n₀ in
    let ts = (typed_for o x.serial g bx.typed).lengths in
    let gs = good_for o x.serial g bx.good in
    let q : j ≡ pre ++ u =
    f.bytes ∙ (ap (λ (l : List ℕ). owner_text o ++ l) (append_assoc (pair_text o n x) (pair_texts o n qs) tail ∙ pair_split o n x (pair_texts o n qs ++ tail)) ∙ head_bytes o x.serial n₀ u) in
    let st = fresh sx n key in
    let lh = length_head sx ts gs n₀ in
    let c : count_at j st.place 4 ≡ st.since + n₀ =
    (λ i. count_at (q i) (fresh_place o key n x.serial i) 4) ∙ (read_count_at sx ts gs n₀ bx.few u ∙ omega (arith, fresh_section o key n x.serial)) in
    let hs = right_split key n (start_core o) (all_placed o (x ∷ qs)) (placed_under sf es) (subst (AllRight key n (start_core o)) (last_placed o (x ∷ qs) p) f.work.right) in
    let w : (i : ℕ) → _ = λ (i : ℕ). passed_pairs qs x.entries i pre j tail (fresh_at o key n x.serial g bx.typed bx.good) (lh ∙ sym (fresh_length o key n x.serial)) hs.0 nx q c in
    let st₂ = run_pairs (blank o key n) (x ∷ qs) in
    let e₂ : run_pairs (run st x.entries) qs ≡ st₂ = pairs_run o key n x qs in
    let p₂ = pre ++ (t₀ ++ pair_texts o n qs) in
    let l₂ : length p₂ ≡ st₂.length = (w 0).1.place ∙ ap (λ (y : State). y.length) e₂ in
    let full₂ : count_at j st₂.place 4 ≡ st₂.since = sym (ap (λ (y : State). count_at j y.place 4) e₂) ∙ ((w 0).1.full ∙ ap (λ (y : State). y.since) e₂) in
    let r = ran (x ∷ qs) (blank o key n) o key n (start_core o) [] (blank_base o key n g) hs.0 ns in
    let q₂ : j ≡ p₂ ++ tail = q ∙ (ap (λ (l : List ℕ). pre ++ l) (sym (append_assoc t₀ (pair_texts o n qs) tail)) ∙ sym (append_assoc pre (t₀ ++ pair_texts o n qs) tail)) in
    let sb : Startable (serials_of (x ∷ qs)) s m = record { typed = b.typed; good = b.good; new = b.new; room = b.room; few = f.few } in
    let rs = texts sf n es ++ rest in
    let y = start_step r.base s m p₂ rs j l₂ sb q₂ (omega (arith, full₂)) in
    let st₃ = renewed st₂ s in
    let v : (i : ℕ) → steps (key_schedule key) (length es + i) st₃ j ≡ steps (key_schedule key) i (run st₃ es) j =
    λ (i : ℕ). passed es i (p₂ ++ pair_start s m) rest j (at_renewed s b.typed b.good r.base) (start_place r.base s m p₂ rs j l₂ sb q₂) hs.1 (start_bytes r.base s m p₂ rs j l₂ sb q₂)
    (omega (arith, start_count r.base s m p₂ rs j l₂ sb q₂, f.within)) in
    record {
      settings = sx;
      width = f.work.width;
      good = ap head_good q ∙ head_good_lem sx ts gs n₀ bx.few u;
      read = ap head_settings q ∙ read_settings sx ts gs n₀ bx.few u;
      taken = ap (λ (l : List ℕ). take_over l key n) q ∙ (takes_head o key n x.serial n₀ u f.work.width g bx.typed bx.good bx.few ∙ ap (λ (l : List ℕ). last_answer (steps (key_schedule key) (length l) st l)) (sym q));
      fuel = n₀ + (steps_of qs + suc (length es));
      counted = omega arith;
      left =
          omega (
            arith,
            ap length q,
            length-append pre u,
            length-append t₀ (pair_texts o n qs ++ tail),
            length-append (pair_texts o n qs) tail,
            length-append (pair_start s m) rs,
            length-append (texts sf n es) rest,
            length_start s b.typed.long b.good m,
            entries_size sx n x.entries,
            pairs_size o n qs,
            entries_size sf n es,
          );
      run = λ i.
          let k₁ : n₀ + (steps_of qs + suc (length es)) + i ≡ n₀ + (steps_of qs + suc (length es + i)) = omega arith in
          ap (λ (z : ℕ). steps (key_schedule key) z st j) k₁
          ∙ ((w (suc (length es + i))).0 ∙ (ap (λ (z : State). steps (key_schedule key) (suc (length es + i)) z j) e₂
          ∙ (passed_step (key_schedule key) j (length es + i) st₂ (ap (λ (z : Checked). z.number) y ∙ number_of 0 st₃) (ap (λ (z : Checked). z.state) y ∙ state_of_lem 0 st₃)
          ∙ (v i ∙ ap (λ (z : State). steps (key_schedule key) i z j) (sym (run_last (blank o key n) (x ∷ qs) p))))));
    }

pub reach : {j key : List ℕ} {n : ℕ} {o : Owner} {ps : List Pair} {p : Pair} {m : ℕ} {rest : List ℕ} → Far j key n o ps p m rest
    → Reach j key n (steps_of ps + length p.entries) (state_there o key n ps p)
unfolding serials_of
reach {j} {key} {n} {o} {ps} {p} {m} {rest} f = go ps f
  where
    later : (x : Pair) (qs : List Pair) → Far j key n o (x ∷ qs) p m rest → Names [] (x ∷ qs) → Names [] (x ∷ qs) → Begun (serials_of (x ∷ qs)) p → Reach j key n (steps_of (x ∷ qs) + length p.entries) (state_there o key n (x ∷ qs) p)
    later x qs f (placing.more bx nx) ns b = reach_later j key n o x qs p m rest f bx nx ns b

    go : (ps : List Pair) → Far j key n o ps p m rest → Reach j key n (steps_of ps + length p.entries) (state_there o key n ps p)
    go [] f = reach_first j key n o p m rest f (last_begun [] p f.work.names)
    go (x ∷ qs) f =
        let w = names_split [] (x ∷ qs) (p ∷ []) f.work.names in
        later x qs f w.0 w.0 (last_begun (serials_of (x ∷ qs)) p w.1)

-- a step that is refused there is the answer
pub refuse : {j key : List ℕ} {n : ℕ} {o : Owner} {ps : List Pair} {p : Pair} {m : ℕ} {rest : List ℕ} (x : ℕ) → Far j key n o ps p m rest
    → one_step (key_schedule key) (state_there o key n ps p) j ≡ stopped (suc x) (state_there o key n ps p) → take_over j key n ≡ refused (suc x) (index o ps p)
refuse {j} {key} {n} {o} {ps} {p} x f z =
    let r = reach f in
    let st = state_there o key n ps p in
    let d = length j - suc r.fuel in
    let e : length j ≡ r.fuel + suc d = omega (arith, r.left) in
    let h : suc x ≡ 0 → ⊥ = λ q. omega (arith, q) in
    r.taken
    ∙ (ap (λ (y : ℕ). last_answer (steps (key_schedule key) y (fresh r.settings n key) j)) e
    ∙ (ap last_answer (r.run (suc d) ∙ refused_step (key_schedule key) j d st h z) ∙ (answer_no (suc x) st h ∙ ap (refused (suc x)) (stands f).issued)))

-- ---- one more step that was answered yes

pub far_entry : (j key : List ℕ) (n : ℕ) (o : Owner) (ps : List Pair) (p : Pair) (m : ℕ) (rest : List ℕ) → Far j key n o ps p m rest → length p.entries < m
    → (x : EntryAt (state_there o key n ps p) j) → Far j key n o ps (wider p x.entry) m (drop (step (state_there o key n ps p) x.entry).length j)
far_entry j key n o ps p m rest f less x =
    let s = stands f in
    let a = s.open_at.at in
    let e = x.entry in
    let sf = settings_for o p.serial in
    let t = texts sf n p.entries in
    let st = state_there o key n ps p in
    let u = drop (step st e).length j in
    let v = entry_text (compact sf n e) in
    let q : rest ≡ v ++ u =
    sym (drop_at s.pre rest st.length s.long) ∙ (ap (drop st.length) (sym s.whole) ∙ (x.bytes ∙ ap (λ (l : List ℕ). entry_text l ++ u) (text_is a e))) in
    let few : length p.entries + 1 < 4294967296 = omega (arith, f.few) in
    record {
      work =
          record {
            width = f.work.width;
            good = f.work.good;
            some = some_snoc ps (wider p e);
            right = subst (AllRight key n (start_core o)) (sym (all_wider o ps p e))
                (right_append key n (start_core o) (all_placed o (ps ++ (p ∷ []))) (under o p.serial e ∷ []) f.work.right (placing.more (right_there a e x.right) placing.none));
            names = names_wider [] ps p e few f.work.names;
          };
      few = f.few;
      within = omega (arith, length-append p.entries (e ∷ []));
      bytes =
          f.bytes
          ∙ ap (λ (l : List ℕ). owner_text o ++ (pair_texts o n ps ++ (pair_start p.serial m ++ l)))
          (ap (λ (l : List ℕ). t ++ l) q ∙ (sym (append_assoc t v u) ∙ ap (λ (l : List ℕ). l ++ u) (sym (texts_snoc sf n p.entries e))));
    }

pairs_last : (o : Owner) (n : ℕ) (ps : List Pair) (p : Pair)
    → pair_texts o n (ps ++ (p ∷ [])) ≡ pair_texts o n ps ++ (pair_start p.serial (length p.entries) ++ texts (settings_for o p.serial) n p.entries)
pairs_last o n ps p = pairs_append o n ps (p ∷ []) ∙ ap (λ (l : List ℕ). pair_texts o n ps ++ l) (last_text o n p)

start_split : (a b s t c : List ℕ) → a ++ (b ++ (s ++ (t ++ c))) ≡ (a ++ (b ++ (s ++ t))) ++ c
start_split a b s t c = simp append_assoc

pub far_start : (j key : List ℕ) (n : ℕ) (o : Owner) (ps : List Pair) (p : Pair) (rest : List ℕ) (s : Name) (m : ℕ) → Far j key n o ps p (length p.entries) rest
    → StartAt j (state_there o key n ps p).length s m → is_in s (used (state_there o key n ps p).serials) ≡ false → length (used (state_there o key n ps p).serials) < 8
    → Far j key n o (ps ++ (p ∷ [])) (empty_pair s) m (drop ((state_there o key n ps p).length + 8 + s.len) j)
unfolding texts journal_text
far_start j key n o ps p rest s m f x new few =
    let st = state_there o key n ps p in
    let w = stands f in
    let us = w.open_at.at.base.serials in
    let r = drop (st.length + 8 + s.len) j in
    let sf = settings_for o p.serial in
    let t = texts sf n p.entries in
    let b = pair_start p.serial (length p.entries) in
    let q : rest ≡ pair_start s m ++ r = sym (drop_at w.pre rest st.length w.long) ∙ (ap (drop st.length) (sym w.whole) ∙ x.bytes) in
    let jo : owner_text o ++ (pair_texts o n ps ++ (b ++ t)) ≡ owner_text o ++ pair_texts o n (ps ++ (p ∷ [])) = ap (λ (l : List ℕ). owner_text o ++ l) (sym (pairs_last o n ps p)) in
    record {
      work =
          record {
            width = f.work.width;
            good = f.work.good;
            some = some_snoc (ps ++ (p ∷ [])) (empty_pair s);
            right = subst (AllRight key n (start_core o)) (sym (all_empty_lem o (ps ++ (p ∷ [])) s)) f.work.right;
            names = names_empty [] (ps ++ (p ∷ [])) s x.typed x.good (ap (is_in s) (sym us) ∙ new) (subst (λ (l : List Name). length l < 8) us few) f.work.names;
          };
      few = x.few;
      within = omega arith;
      bytes =
          f.bytes
          ∙ (ap (λ (l : List ℕ). owner_text o ++ (pair_texts o n ps ++ (b ++ (t ++ l)))) q
          ∙ (start_split (owner_text o) (pair_texts o n ps) b t (pair_start s m ++ r)
          ∙ (ap (λ (l : List ℕ). l ++ (pair_start s m ++ r)) jo ∙ append_assoc (owner_text o) (pair_texts o n (ps ++ (p ∷ []))) (pair_start s m ++ r))));
    }

-- ---- from the head on

pub far_first : (j key : List ℕ) (n : ℕ) (s : Settings) (m : ℕ) (more : List ℕ) → width_good n ≡ true → Headed j s m more → Far j key n (owner_in s) [] (empty_pair s.serial) m more
unfolding texts pair_texts
far_first j key n s m more w h =
    record {
      work = empty_work key n s h.typed h.good w;
      few = h.few;
      within = omega arith;
      bytes = h.bytes ∙ sym (head_bytes (owner_in s) s.serial m more);
    }
