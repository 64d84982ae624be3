-- Lists of pairs: one more entry or one more pair at the end, and the state after them.
use Rattle.std.proofs.Common.{ℕ, ◌+◌, ◌<◌, ◌≡◌, refl, sym, ap, ◌∙◌, subst, true, false, List, [], ◌∷◌, ◌++◌, append_assoc, append-nil, arith, length, length-append}
use Rattle.primitives.specs.Number.{bytes_of}
use Rattle.receipt.specs.Settings.{name_text, serial_good}
use Rattle.receipt.specs.Compact.{compact}
use Rattle.receipt.specs.declared.settings.Name.{Name}
use Rattle.receipt.specs.declared.settings.Settings.{Settings}
use Rattle.receipt.specs.declared.settings.Letters.TheVariants.{Id}
use Rattle.receipt.specs.declared.entry.Entry.{Entry}
use Rattle.receipt.proofs.Names.{good_name, length_text}
use Rattle.journal.specs.Head.{section, entry_text, pair_start}
use Rattle.journal.specs.State.{newest, is_in, TypedName}
use Rattle.journal.specs.Step.{renewed}
use Rattle.journal.specs.Valid.{Owner, Pair, settings_for, texts, pair_text, pair_texts, owner_text, journal_text, Placed, placed_under, all_placed, serials_of, GoodOwner}
use Rattle.journal.specs.Demands.{before_count}
use Rattle.journal.specs.declared.state.State.{State}
use Rattle.journal.proofs.Sections.{length_section, length_serial, length_start}
use Rattle.journal.proofs.Check.{step}
use Rattle.journal.proofs.Placing.{Core, start_core, run_core, run_append, AllRight, right_split, Begun, Names, names_split}
use Rattle.journal.proofs.Placing as placing
use Rattle.journal.proofs.Passing.{Base, At, under, at_renewed, at_entries, run, run_pairs, run_length, kept, renewed_length, renewed_place, renewed_section}
use Rattle.journal.proofs.Accepting.{Work, blank, blank_base, blank_length}

-- ---- appending

pub texts_append : (s : Settings) (n : ℕ) (es fs : List Entry) → texts s n (es ++ fs) ≡ texts s n es ++ texts s n fs
unfolding texts
texts_append s n [] fs = refl
texts_append s n (e ∷ es) fs =
    ap (λ (l : List ℕ). entry_text (compact s n e) ++ l) (texts_append s n es fs) ∙ sym (append_assoc (entry_text (compact s n e)) (texts s n es) (texts s n fs))

pub texts_snoc : (s : Settings) (n : ℕ) (es : List Entry) (e : Entry) → texts s n (es ++ (e ∷ [])) ≡ texts s n es ++ entry_text (compact s n e)
unfolding texts
texts_snoc s n es e = texts_append s n es (e ∷ []) ∙ ap (λ (l : List ℕ). texts s n es ++ l) (append-nil (entry_text (compact s n e)))

pub pairs_append : (o : Owner) (n : ℕ) (ps qs : List Pair) → pair_texts o n (ps ++ qs) ≡ pair_texts o n ps ++ pair_texts o n qs
unfolding pair_texts
pairs_append o n [] qs = refl
pairs_append o n (p ∷ ps) qs =
    ap (λ (l : List ℕ). pair_text o n p ++ l) (pairs_append o n ps qs) ∙ sym (append_assoc (pair_text o n p) (pair_texts o n ps) (pair_texts o n qs))

pub placed_append : (s : Settings) (es fs : List Entry) → placed_under s (es ++ fs) ≡ placed_under s es ++ placed_under s fs
unfolding placed_under
placed_append s [] fs = refl
placed_append s (e ∷ es) fs = ap (λ (l : List Placed). record { settings = s; entry = e } ∷ l) (placed_append s es fs)

pub all_append : (o : Owner) (ps qs : List Pair) → all_placed o (ps ++ qs) ≡ all_placed o ps ++ all_placed o qs
unfolding all_placed
all_append o [] qs = refl
all_append o (p ∷ ps) qs =
    ap (λ (l : List Placed). placed_under (settings_for o p.serial) p.entries ++ l) (all_append o ps qs)
    ∙ sym (append_assoc (placed_under (settings_for o p.serial) p.entries) (all_placed o ps) (all_placed o qs))

run_snoc : (st : State) (es : List Entry) (e : Entry) → run st (es ++ (e ∷ [])) ≡ step (run st es) e
unfolding run
run_snoc st [] e = refl
run_snoc st (x ∷ es) e = run_snoc (step st x) es e

pub run_pairs_append : (st : State) (ps qs : List Pair) → run_pairs st (ps ++ qs) ≡ run_pairs (run_pairs st ps) qs
unfolding run_pairs
run_pairs_append st [] qs = refl
run_pairs_append st (p ∷ ps) qs = run_pairs_append (run (renewed st p.serial) p.entries) ps qs

-- ---- the last pair takes an entry, or a pair without entries follows it

abbrev pub wider : Pair → Entry → Pair
wider p e = record { serial = p.serial; entries = p.entries ++ (e ∷ []) }

abbrev pub empty_pair : Name → Pair
empty_pair s = record { serial = s; entries = [] }

pub run_last : (st : State) (ps : List Pair) (p : Pair) → run_pairs st (ps ++ (p ∷ [])) ≡ run (renewed (run_pairs st ps) p.serial) p.entries
unfolding run_pairs
run_last st ps p = run_pairs_append st ps (p ∷ [])

pub run_wider : (st : State) (ps : List Pair) (p : Pair) (e : Entry) → run_pairs st (ps ++ (wider p e ∷ [])) ≡ step (run_pairs st (ps ++ (p ∷ []))) e
run_wider st ps p e =
    run_last st ps (wider p e) ∙ (run_snoc (renewed (run_pairs st ps) p.serial) p.entries e ∙ ap (λ (x : State). step x e) (sym (run_last st ps p)))

pub run_empty : (st : State) (ps : List Pair) (s : Name) → run_pairs st (ps ++ (empty_pair s ∷ [])) ≡ renewed (run_pairs st ps) s
unfolding run
run_empty st ps s = run_last st ps (empty_pair s)

pub last_placed : (o : Owner) (ps : List Pair) (p : Pair) → all_placed o (ps ++ (p ∷ [])) ≡ all_placed o ps ++ placed_under (settings_for o p.serial) p.entries
unfolding all_placed
last_placed o ps p = all_append o ps (p ∷ []) ∙ ap (λ (l : List Placed). all_placed o ps ++ l) (append-nil (placed_under (settings_for o p.serial) p.entries))

pub all_wider : (o : Owner) (ps : List Pair) (p : Pair) (e : Entry) → all_placed o (ps ++ (wider p e ∷ [])) ≡ all_placed o (ps ++ (p ∷ [])) ++ (under o p.serial e ∷ [])
unfolding placed_under
all_wider o ps p e =
    last_placed o ps (wider p e)
    ∙ (ap (λ (l : List Placed). all_placed o ps ++ l) (placed_append (settings_for o p.serial) p.entries (e ∷ []))
    ∙ (sym (append_assoc (all_placed o ps) (placed_under (settings_for o p.serial) p.entries) (under o p.serial e ∷ []))
    ∙ ap (λ (l : List Placed). l ++ (under o p.serial e ∷ [])) (sym (last_placed o ps p))))

pub all_empty_lem : (o : Owner) (ps : List Pair) (s : Name) → all_placed o (ps ++ (empty_pair s ∷ [])) ≡ all_placed o ps
unfolding placed_under
all_empty_lem o ps s = last_placed o ps (empty_pair s) ∙ append-nil (all_placed o ps)

pub names_wider : (us : List Name) (ps : List Pair) (p : Pair) (e : Entry) → length p.entries + 1 < 4294967296 → Names us (ps ++ (p ∷ [])) → Names us (ps ++ (wider p e ∷ []))
names_wider us [] p e l (placing.more b n) =
    let f : length (p.entries ++ (e ∷ [])) < 4294967296 = omega (arith, length-append p.entries (e ∷ [])) in
    placing.more (record { typed = b.typed; good = b.good; new = b.new; room = b.room; few = f }) placing.none
names_wider us (x ∷ ps) p e l (placing.more b n) = placing.more b (names_wider (us ++ (x.serial ∷ [])) ps p e l n)

pub names_empty : (us : List Name) (ps : List Pair) (s : Name) → TypedName s → serial_good s ≡ true → is_in s (us ++ serials_of ps) ≡ false → length (us ++ serials_of ps) < 8 → Names us ps
    → Names us (ps ++ (empty_pair s ∷ []))
unfolding serials_of
names_empty us [] s t g o f placing.none =
    let few : length {A = Entry} [] < 4294967296 = omega arith in
    placing.more (record { typed = t; good = g; new = rw append-nil at o; room = rw append-nil at f; few = few }) placing.none
names_empty us (x ∷ ps) s t g o f (placing.more b n) =
    let e : us ++ (x.serial ∷ serials_of ps) ≡ (us ++ (x.serial ∷ [])) ++ serials_of ps = sym (append_assoc us (x.serial ∷ []) (serials_of ps)) in
    placing.more b (names_empty (us ++ (x.serial ∷ [])) ps s t g (rw e at o) (rw e at f) n)

-- ---- lengths

pub length_owner : (o : Owner) → GoodOwner o → length (owner_text o) ≡ 11 + o.id.len
unfolding owner_text
length_owner o g =
    length-append (section o.csp) (section (name_text o.id))
    ∙ omega (arith, length_section o.csp, length_section (name_text o.id), g.typed_csp, length_text o.id g.typed_id.long (good_name Id o.id g.id).most)

pub pair_long : (o : Owner) (n : ℕ) (p : Pair) → TypedName p.serial → serial_good p.serial ≡ true
    → length (pair_text o n p) ≡ 8 + p.serial.len + length (texts (settings_for o p.serial) n p.entries)
unfolding pair_text
pair_long o n p t g =
    length-append (pair_start p.serial (length p.entries)) (texts (settings_for o p.serial) n p.entries)
    ∙ omega (arith, length_start p.serial t.long g (length p.entries))

pub journal_longer : (o : Owner) (n : ℕ) (ps qs : List Pair) → length (journal_text o n (ps ++ qs)) ≡ length (journal_text o n ps) + length (pair_texts o n qs)
unfolding journal_text
journal_longer o n ps qs =
    length-append (owner_text o) (pair_texts o n (ps ++ qs))
    ∙ omega (arith, ap length (pairs_append o n ps qs), length-append (pair_texts o n ps) (pair_texts o n qs), length-append (owner_text o) (pair_texts o n ps))

pub pairs_longer : (o : Owner) (n : ℕ) (q : Pair) (qs : List Pair) → length (pair_texts o n (q ∷ qs)) ≡ length (pair_text o n q) + length (pair_texts o n qs)
unfolding pair_texts
pairs_longer o n q qs = length-append (pair_text o n q) (pair_texts o n qs)

pub no_pairs : (o : Owner) (n : ℕ) → length (pair_texts o n []) ≡ 0
unfolding pair_texts
no_pairs o n = refl

-- ---- the state after pairs

pub record Ran (o : Owner) (k : List ℕ) (n : ℕ) (c : Core) (us : List Name) (m : ℕ) (ps : List Pair) (st : State) : Type 0 where
  pub base : Base st o k n (run_core n c (all_placed o ps)) (us ++ serials_of ps)
  pub length : st.length ≡ m + length (pair_texts o n ps)

pub ran : (ps : List Pair) (st : State) (o : Owner) (k : List ℕ) (n : ℕ) (c : Core) (us : List Name) → Base st o k n c us → AllRight k n c (all_placed o ps) → Names us ps
    → Ran o k n c us st.length ps (run_pairs st ps)
unfolding run_pairs run_core all_placed serials_of
ran [] st o k n c us b h ns =
    record {
      base = record { csp = b.csp; id = b.id; key = b.key; width = b.width; core = b.core; serials = b.serials ∙ sym (append-nil us); good = b.good };
      length = omega (arith, no_pairs o n);
    }
ran (p ∷ ps) st o k n c us b h (placing.more g ns) =
    let s = p.serial in
    let st₁ = renewed st s in
    let hs = right_split k n c (placed_under (settings_for o s) p.entries) (all_placed o ps) h in
    let a₁ = at_renewed s g.typed g.good b in
    let a₂ = at_entries p.entries a₁ hs.0 in
    let r = ran ps (run st₁ p.entries) o k n (run_core n c (placed_under (settings_for o s) p.entries)) (us ++ (s ∷ [])) a₂.base hs.1 ns in
    let q = r.base in
    record {
      base =
          record {
            csp = q.csp;
            id = q.id;
            key = q.key;
            width = q.width;
            core = q.core ∙ sym (run_append n c (placed_under (settings_for o s) p.entries) (all_placed o ps));
            serials = q.serials ∙ append_assoc us (s ∷ []) (serials_of ps);
            good = q.good;
          };
      length = r.length ∙ omega (arith, run_length p.entries a₁, renewed_length st s, pairs_longer o n p ps, pair_long o n p g.typed g.good);
    }

-- ---- the open pair

pub last_text : (o : Owner) (n : ℕ) (p : Pair) → pair_texts o n (p ∷ []) ≡ pair_start p.serial (length p.entries) ++ texts (settings_for o p.serial) n p.entries
unfolding pair_texts pair_text
last_text o n p = append-nil (pair_start p.serial (length p.entries) ++ texts (settings_for o p.serial) n p.entries)

-- what stands before its count, its count and its entries
pub journal_open : (o : Owner) (n : ℕ) (ps : List Pair) (p : Pair)
    → journal_text o n (ps ++ (p ∷ [])) ≡ before_count o n ps p.serial ++ (bytes_of 4 (length p.entries) ++ texts (settings_for o p.serial) n p.entries)
unfolding journal_text pair_start
journal_open o n ps p =
    let b = bytes_of 4 (length p.entries) in
    let t = texts (settings_for o p.serial) n p.entries in
    ap (λ (l : List ℕ). owner_text o ++ l) (pairs_append o n ps (p ∷ []) ∙ ap (λ (l : List ℕ). pair_texts o n ps ++ l) (last_text o n p)) ∙ simp append_assoc

pub journal_empty : (o : Owner) (n : ℕ) (ps : List Pair) (s : Name) → journal_text o n (ps ++ (empty_pair s ∷ [])) ≡ journal_text o n ps ++ pair_start s 0
unfolding journal_text texts
journal_empty o n ps s =
    ap (λ (l : List ℕ). owner_text o ++ l) (pairs_append o n ps (empty_pair s ∷ []) ∙ ap (λ (l : List ℕ). pair_texts o n ps ++ l) (last_text o n (empty_pair s) ∙ append-nil (pair_start s 0)))
    ∙ sym (append_assoc (owner_text o) (pair_texts o n ps) (pair_start s 0))

-- what holds of a state whose journal has the pairs ps and then the open pair p
pub record Open (k : List ℕ) (n : ℕ) (o : Owner) (ps : List Pair) (p : Pair) (st : State) : Type 0 where
  pub at : At st o k n p.serial (run_core n (start_core o) (all_placed o (ps ++ (p ∷ [])))) (serials_of (ps ++ (p ∷ [])))
  pub since : st.since ≡ length p.entries
  pub place : length (before_count o n ps p.serial) ≡ st.place
  pub size : st.length ≡ length (journal_text o n (ps ++ (p ∷ [])))

pub last_begun : (us : List Name) (p : Pair) → Names us (p ∷ []) → Begun us p
last_begun us p (placing.more b n) = b

pub open_of : (k : List ℕ) (n : ℕ) (o : Owner) (ps : List Pair) (p : Pair) → Work k n o (ps ++ (p ∷ [])) → Open k n o ps p (run_pairs (blank o k n) (ps ++ (p ∷ [])))
unfolding journal_text
open_of k n o ps p w =
    let ns = names_split [] ps (p ∷ []) w.names in
    let b = last_begun _ p ns.1 in
    let s = p.serial in
    let e = run_last (blank o k n) ps p in
    let st₀ = run_pairs (blank o k n) ps in
    let st₁ = renewed st₀ s in
    let kp = kept p.entries st₁ in
    let b₀ = blank_base o k n w.good in
    let h₀ = right_split k n (start_core o) (all_placed o ps) (placed_under (settings_for o s) p.entries) (subst (AllRight k n (start_core o)) (last_placed o ps p) w.right) in
    let r₀ = ran ps (blank o k n) o k n (start_core o) [] b₀ h₀.0 ns.0 in
    let r = ran (ps ++ (p ∷ [])) (blank o k n) o k n (start_core o) [] b₀ w.right w.names in
    let a₁ = at_renewed s b.typed b.good r₀.base in
    let a₂ = at_entries p.entries a₁ h₀.1 in
    let bl = blank_length o k n in
    let lo = length_owner o w.good in
    record {
      at = record { base = r.base; serial = ap (λ (x : State). newest x.serials) e ∙ a₂.serial; typed = b.typed; good = b.good };
      since = ap (λ (x : State). x.since) e ∙ (kp.since ∙ omega (arith, renewed_section st₀ s));
      place =
          length-append (owner_text o) (pair_texts o n ps ++ section (name_text s))
          ∙ (omega (arith, length-append (pair_texts o n ps) (section (name_text s)), lo, length_serial s b.typed.long b.good, r₀.length, bl, renewed_place st₀ s, kp.place)
          ∙ sym (ap (λ (x : State). x.place) e));
      size = r.length ∙ omega (arith, bl, lo, length-append (owner_text o) (pair_texts o n (ps ++ (p ∷ []))));
    }
