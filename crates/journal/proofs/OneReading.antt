-- A journal is valid with only one CSP, one ID and one list of pairs.
use Rattle.std.proofs.Common.{ℕ, ◌+◌, ◌<◌, ◌≡◌, refl, sym, ap, ◌∙◌, subst, true, List, [], ◌∷◌, ◌++◌, append_assoc, arith, length, drop, length-append, drop_at}
use Rattle.primitives.specs.Number.{count_at}
use Rattle.receipt.specs.Settings.{serial_good, TypedSettings}
use Rattle.receipt.specs.Compact.{compact, spellable, read_entry, TypedEntry, Found}
use Rattle.receipt.specs.declared.settings.Name.{Name}
use Rattle.receipt.specs.declared.settings.Settings.{Settings}
use Rattle.receipt.specs.declared.entry.Entry.{Entry}
use Rattle.receipt.proofs.ExactEntry.{back, compact_short}
use Rattle.journal.specs.Head.{head_settings, entry_text, text_at, pair_start, serial_at}
use Rattle.journal.specs.State.{TypedName}
use Rattle.journal.specs.Valid.{Owner, Pair, settings_for, texts, pair_texts, owner_text, journal_text, placed_under, all_placed, GoodOwner, Valid, head_of}
use Rattle.journal.specs.Demands.{OneReading}
use Rattle.journal.proofs.Sections.{length_start}
use Rattle.journal.proofs.Places.{text_at_lem}
use Rattle.journal.proofs.Heads.{read_settings}
use Rattle.journal.proofs.Starting.{serial_read, count_read}
use Rattle.journal.proofs.Placing.{Core, start_core, step_core, run_core, AllRight, right_split, Begun, Names}
use Rattle.journal.proofs.Placing as placing
use Rattle.journal.proofs.Passing.{typed_for, good_for, pair_split}
use Rattle.journal.proofs.Accepting.{owner_in, valid_work, journal_head}

-- ---- one start, one entry

start_one : (s t : Name) (k m : ℕ) (a b : List ℕ) → TypedName s → TypedName t → serial_good s ≡ true → serial_good t ≡ true → k < 4294967296 → m < 4294967296
    → pair_start s k ++ a ≡ pair_start t m ++ b → (s ≡ t) × (k ≡ m) × (a ≡ b)
start_one s t k m a b ts tt gs gt fk fm e =
    let n : s ≡ t = sym (serial_read s ts gs [] k a 0 refl fk) ∙ (ap (λ (j : List ℕ). serial_at j 0) e ∙ serial_read t tt gt [] m b 0 refl fm) in
    let c : k ≡ m = sym (count_read s ts gs [] k a 0 refl fk) ∙ ((λ i. count_at (e i) (0 + 4 + (n i).len) 4) ∙ count_read t tt gt [] m b 0 refl fm) in
    (n, c, sym (drop_at (pair_start s k) a (length (pair_start s k)) refl) ∙ ((λ i. drop (length (pair_start (n i) (c i))) (e i)) ∙ drop_at (pair_start t m) b (length (pair_start t m)) refl))

entry_one : (s : Settings) (n : ℕ) (e f : Entry) (a b : List ℕ) → TypedSettings s → TypedEntry e → TypedEntry f → spellable s n e ≡ true → spellable s n f ≡ true
    → entry_text (compact s n e) ++ a ≡ entry_text (compact s n f) ++ b → (e ≡ f) × (a ≡ b)
entry_one s n e f a b ts te tf ge gf q =
    let x = compact s n e in
    let y = compact s n f in
    let sx = compact_short s n e ts.lengths te ge in
    let sy = compact_short s n f ts.lengths tf gf in
    let xy : x ≡ y = sym (text_at_lem [] x a 0 refl (omega arith)) ∙ (ap (λ (j : List ℕ). text_at j 0) q ∙ text_at_lem [] y b 0 refl (omega arith)) in (
      ap (λ (r : Found). r.entry) (sym (back s n e ts.lengths ts.bytes te ge) ∙ (ap (read_entry s n) xy ∙ back s n f ts.lengths ts.bytes tf gf)),
      sym (drop_at (entry_text x) a (length (entry_text x)) refl) ∙ ((λ i. drop (length (entry_text (xy i))) (q i)) ∙ drop_at (entry_text y) b (length (entry_text y)) refl),
    )

-- ---- entries and pairs

entries_one : (k : List ℕ) (s : Settings) (n : ℕ) (c d : Core) (es fs : List Entry) (a b : List ℕ) → TypedSettings s → length es ≡ length fs → AllRight k n c (placed_under s es)
    → AllRight k n d (placed_under s fs) → texts s n es ++ a ≡ texts s n fs ++ b → (es ≡ fs) × (a ≡ b)
unfolding texts placed_under
entries_one k s n c d [] [] a b ts l p q e = (refl, e)
entries_one k s n c d [] (f ∷ fs) a b ts l p q e = absurd (omega arith)
entries_one k s n c d (x ∷ es) [] a b ts l p q e = absurd (omega arith)
entries_one k s n c d (x ∷ es) (f ∷ fs) a b ts l (placing.more h hs) (placing.more g gs) e =
    let w = entry_one s n x f (texts s n es ++ a) (texts s n fs ++ b) ts h.typed g.typed h.spelled g.spelled
    (sym (append_assoc (entry_text (compact s n x)) (texts s n es) a) ∙ (e ∙ append_assoc (entry_text (compact s n f)) (texts s n fs) b)) in
    let r = entries_one k s n (step_core n c (record { settings = s; entry = x })) (step_core n d (record { settings = s; entry = f })) es fs a b ts (omega arith) hs gs w.1 in
    ((λ i. w.0 i ∷ r.0 i), r.1)

none-one {ℓ} : {X : Type ℓ} (o : Owner) (n : ℕ) (us : List Name) (p : Pair) (ps : List Pair) → Begun us p → [] ≡ pair_texts o n (p ∷ ps) → X
unfolding pair_texts
none-one o n us p ps b e =
    let t = texts (settings_for o p.serial) n p.entries ++ pair_texts o n ps in
    let s = pair_start p.serial (length p.entries) in
    let z : 0 ≡ length (s ++ t) = ap length (e ∙ pair_split o n p (pair_texts o n ps)) in
    absurd (omega (arith, length-append s t, length_start p.serial b.typed.long b.good (length p.entries)))

no_text : (o : Owner) (n : ℕ) → pair_texts o n [] ≡ []
unfolding pair_texts
no_text o n = refl

more_text : (o : Owner) (n : ℕ) (p : Pair) (ps : List Pair)
    → pair_texts o n (p ∷ ps) ≡ pair_start p.serial (length p.entries) ++ (texts (settings_for o p.serial) n p.entries ++ pair_texts o n ps)
unfolding pair_texts
more_text o n p ps = pair_split o n p (pair_texts o n ps)

pairs_one : (k : List ℕ) (o : Owner) (n : ℕ) (c d : Core) (us vs : List Name) (ps qs : List Pair) → GoodOwner o → AllRight k n c (all_placed o ps) → AllRight k n d (all_placed o qs)
    → Names us ps → Names vs qs → pair_texts o n ps ≡ pair_texts o n qs → ps ≡ qs
unfolding all_placed
pairs_one k o n c d us vs [] [] g h j ns ms e = refl
pairs_one k o n c d us vs [] (q ∷ qs) g h j ns (placing.more b ms) e = none-one o n vs q qs b (sym (no_text o n) ∙ e)
pairs_one k o n c d us vs (p ∷ ps) [] g h j (placing.more b ns) ms e = none-one o n us p ps b (sym (no_text o n) ∙ sym e)
pairs_one k o n c d us vs (p ∷ ps) (q ∷ qs) g h j (placing.more b₁ ns) (placing.more b₂ ms) e =
    let s = p.serial in
    let w₁ = start_one s q.serial (length p.entries) (length q.entries) (texts (settings_for o s) n p.entries ++ pair_texts o n ps)
    (texts (settings_for o q.serial) n q.entries ++ pair_texts o n qs) b₁.typed b₂.typed b₁.good b₂.good b₁.few b₂.few
    (sym (more_text o n p ps) ∙ (e ∙ more_text o n q qs)) in
    let h' = right_split k n c (placed_under (settings_for o s) p.entries) (all_placed o ps) h in
    let j' = right_split k n d (placed_under (settings_for o q.serial) q.entries) (all_placed o qs) j in
    let w₂ = entries_one k (settings_for o s) n c d p.entries q.entries (pair_texts o n ps) (pair_texts o n qs) (typed_for o s g b₁.typed) w₁.1 h'.0
    (subst (λ (m : Name). AllRight k n d (placed_under (settings_for o m) q.entries)) (sym w₁.0) j'.0)
    (w₁.2 ∙ ap (λ (m : Name). texts (settings_for o m) n q.entries ++ pair_texts o n qs) (sym w₁.0)) in
    let r = pairs_one k o n (run_core n c (placed_under (settings_for o s) p.entries)) (run_core n d (placed_under (settings_for o q.serial) q.entries))
    (us ++ (s ∷ [])) (vs ++ (q.serial ∷ [])) ps qs g h'.1 j'.1 ns ms w₂.1 in
    λ i. record { serial = w₁.0 i; entries = w₂.0 i } ∷ r i

-- ---- the head

head_is : (o : Owner) (n : ℕ) (ps : List Pair) → GoodOwner o → 0 < length ps → Names [] ps → head_settings (journal_text o n ps) ≡ head_of o ps
unfolding head_of
head_is o n [] g l ns = absurd (omega arith)
head_is o n (p ∷ ps) g l (placing.more b ns) =
    let s = p.serial in
    ap head_settings (journal_head o n p ps)
    ∙ read_settings (settings_for o s) (typed_for o s g b.typed).lengths (good_for o s g b.good) (length p.entries) b.few (texts (settings_for o s) n p.entries ++ pair_texts o n ps)

pub valid_head : {j k : List ℕ} {n : ℕ} (v : Valid j k n) → head_settings j ≡ head_of v.owner v.pairs
valid_head {j} {k} {n} v = ap head_settings v.bytes ∙ head_is v.owner n v.pairs v.good v.some (valid_work v).names

owner_of_lem : (o : Owner) (ps : List Pair) → owner_in (head_of o ps) ≡ o
unfolding head_of
owner_of_lem o [] = refl
owner_of_lem o (p ∷ ps) = refl

journal_is : (o : Owner) (n : ℕ) (ps : List Pair) → journal_text o n ps ≡ owner_text o ++ pair_texts o n ps
unfolding journal_text
journal_is o n ps = refl

pub one_reading : OneReading
one_reading j k n v w =
    let a = valid_work v in
    let b = valid_work w in
    let o : v.owner ≡ w.owner =
    sym (owner_of_lem v.owner v.pairs) ∙ (ap owner_in (sym (valid_head v) ∙ valid_head w) ∙ owner_of_lem w.owner w.pairs) in
    let e₁ : j ≡ owner_text v.owner ++ pair_texts v.owner n v.pairs = v.bytes ∙ journal_is v.owner n v.pairs in
    let e₂ : j ≡ owner_text v.owner ++ pair_texts v.owner n w.pairs = w.bytes ∙ (journal_is w.owner n w.pairs ∙ ap (λ (x : Owner). owner_text x ++ pair_texts x n w.pairs) (sym o)) in
    let d = length (owner_text v.owner) in
    let t : pair_texts v.owner n v.pairs ≡ pair_texts v.owner n w.pairs =
    sym (drop_at (owner_text v.owner) (pair_texts v.owner n v.pairs) d refl) ∙ (ap (drop d) (sym e₁ ∙ e₂) ∙ drop_at (owner_text v.owner) (pair_texts v.owner n w.pairs) d refl) in (
      o,
      pairs_one k v.owner n _ _ [] [] v.pairs w.pairs v.good a.right (subst (λ (x : Owner). AllRight k n (start_core w.owner) (all_placed x w.pairs)) (sym o) b.right) a.names b.names t,
    )
