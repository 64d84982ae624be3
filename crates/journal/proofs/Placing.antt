-- Right at each place, and all right in a row: entries of all pairs, and the pairs' serials.
use Rattle.std.proofs.Common.{ℕ, suc, ◌+◌, ◌≤◌, ◌<◌, ◌≡◌, refl, sym, ap, ◌∙◌, subst, Bool, true, false, ◌||◌, List, [], ◌∷◌, ◌++◌, append_assoc, append-nil, arith, add-zero, zero-add, length, length-append, ℤ, pos, ◌+ℤ◌}
use lib.IntN.{+ℤ_assoc, +ℤ_idr, +ℤ_idl}
use Rattle.primitives.proofs.Rows.{true-is-not-false}
use Rattle.receipt.specs.Settings.{name_text, serial_good}
use Rattle.receipt.specs.Details.{counted}
use Rattle.receipt.specs.Chain.{chain_value}
use Rattle.receipt.specs.Compact.{compact}
use Rattle.receipt.specs.declared.settings.Name.{Name}
use Rattle.journal.specs.Receipts.{Receipt, receipt_of, receipts_in, sum}
use Rattle.journal.specs.State.{same_name, is_in, TypedName}
use Rattle.journal.specs.Valid.{Owner, Pair, Placed, entries_of, last_of, chain_of, serials_of, Right, RightAfter, UsedIn, NotIn, Begins}
use Rattle.journal.proofs.Serials.{same_name_is, same_name_refl}
use Rattle.journal.proofs.Sums.{sum_is_counted}

-- ---- what runs on from entry to entry

pub record Core : Type 0 where
  pub counter : ℤ
  pub last : ℕ
  pub issued : ℕ
  pub chain : List ℕ

-- before the first entry: the chain bytes are those of the ID
unfoldable pub start_core : Owner → Core
start_core o = record { counter = pos 0; last = 0; issued = 0; chain = chain_value (name_text o.id) }

-- after an entry
unfoldable pub step_core : ℕ → Core → Placed → Core
step_core n c x =
    record {
      counter = c.counter +ℤ counted x.entry.fields.details;
      last = x.entry.fields.details.number;
      issued = c.issued + 1;
      chain = chain_value (compact x.settings n x.entry);
    }

-- after entries
unfoldable pub run_core : ℕ → Core → List Placed → Core
run_core n c [] = c
run_core n c (x ∷ xs) = run_core n (step_core n c x) xs

-- the same, as it is said of a journal
unfoldable pub core_after : ℕ → Core → List Placed → Core
core_after n c xs =
    record {
      counter = c.counter +ℤ sum (receipts_in (entries_of xs));
      last = last_of c.last (entries_of xs);
      issued = c.issued + length xs;
      chain = chain_of n c.chain xs;
    }

pub run_append : (n : ℕ) (c : Core) (xs ys : List Placed) → run_core n c (xs ++ ys) ≡ run_core n (run_core n c xs) ys
unfolding run_core
run_append n c [] ys = refl
run_append n c (x ∷ xs) ys = run_append n (step_core n c x) xs ys

after_more : (n : ℕ) (c : Core) (x : Placed) (xs : List Placed) → core_after n (step_core n c x) xs ≡ core_after n c (x ∷ xs)
unfolding core_after step_core receipts_in receipt_of entries_of last_of chain_of
after_more n c x xs =
    let k : c.issued + 1 + length xs ≡ c.issued + suc (length xs) = omega arith in
    let rs : List Receipt = receipts_in (entries_of xs) in
    let s = ap (λ (z : ℤ). c.counter +ℤ z) (sum_is_counted.more (receipt_of x.entry) rs) in
    let t = +ℤ_assoc c.counter (counted x.entry.fields.details) (sum rs) ∙ sym s in
    λ j. record {
      counter = t j;
      last = last_of x.entry.fields.details.number (entries_of xs);
      issued = k j;
      chain = chain_of n c.chain (x ∷ xs);
    }

after_none : (n : ℕ) (c : Core) → c ≡ core_after n c []
unfolding core_after receipts_in entries_of last_of chain_of
after_none n c =
    let s = sym (+ℤ_idr c.counter) ∙ ap (λ (z : ℤ). c.counter +ℤ z) (sym sum_is_counted.none) in
    λ j. record { counter = s j; last = c.last; issued = sym (add-zero c.issued) j; chain = c.chain }

pub run_after : (n : ℕ) (c : Core) (xs : List Placed) → run_core n c xs ≡ core_after n c xs
unfolding run_core
run_after n c [] = after_none n c
run_after n c (x ∷ xs) = run_after n (step_core n c x) xs ∙ after_more n c x xs

-- ---- entries

module _ (key : List ℕ) (n : ℕ) where
  -- an entry is right after what ran on to it
  abbrev pub RightFor : Core → Placed → Type 0
  RightFor c x = Right x.settings key n c.last c.issued c.counter c.chain x.entry

  pub data AllRight : Core → List Placed → Type 0 where
    none : {c : Core} → AllRight c []
    more : {c : Core} {x : Placed} {xs : List Placed} → RightFor c x → AllRight (step_core n c x) xs → AllRight c (x ∷ xs)

  pub right_append : (c : Core) (xs ys : List Placed) → AllRight c xs → AllRight (run_core n c xs) ys → AllRight c (xs ++ ys)
  unfolding run_core
  right_append c [] ys none q = q
  right_append c (x ∷ xs) ys (more h hs) q = more h (right_append (step_core n c x) xs ys hs q)

  pub right_split : (c : Core) (xs ys : List Placed) → AllRight c (xs ++ ys) → AllRight c xs × AllRight (run_core n c xs) ys
  unfolding run_core
  right_split c [] ys q = (none, q)
  right_split c (x ∷ xs) ys (more h hs) = let r = right_split (step_core n c x) xs ys hs in (more h r.0, r.1)

  right_at : (c : Core) (before : List Placed) (x : Placed) (later : List Placed) → AllRight c (before ++ (x ∷ later)) → RightFor (run_core n c before) x
  unfolding run_core
  right_at c [] x later (more h hs) = h
  right_at c (y ∷ before) x later (more h hs) = right_at (step_core n c y) before x later hs

  all_from : (c : Core) (xs : List Placed)
      → ((before : List Placed) (x : Placed) (later : List Placed) → xs ≡ before ++ (x ∷ later) → RightFor (run_core n c before) x) → AllRight c xs
  unfolding run_core
  all_from c [] h = none
  all_from c (x ∷ xs) h =
      more (h [] x xs refl) (all_from (step_core n c x) xs (λ before y later e. h (x ∷ before) y later (ap (λ (l : List Placed). x ∷ l) e)))

  -- as it is said of a journal
  abbrev pub EachRight : Owner → List Placed → Type 0
  EachRight o xs = (before : List Placed) (x : Placed) (later : List Placed) → xs ≡ before ++ (x ∷ later) → RightAfter o key n before x

  start_is : (o : Owner) (before : List Placed) (x : Placed) → RightFor (run_core n (start_core o) before) x ≡ RightAfter o key n before x
  unfolding core_after start_core
  start_is o before x =
      ap (λ (c : Core). RightFor c x) (run_after n (start_core o) before)
      ∙ (λ i. Right x.settings key n (last_of 0 (entries_of before)) (zero-add (length before) i) (+ℤ_idl (sum (receipts_in (entries_of before))) i)
      (chain_of n (chain_value (name_text o.id)) before) x.entry)

  pub all_each : (o : Owner) (xs : List Placed) → AllRight (start_core o) xs → EachRight o xs
  all_each o xs h before x later e =
      subst (λ (t : Type 0). t) (start_is o before x) (right_at (start_core o) before x later (subst (AllRight (start_core o)) e h))

  pub each_all : (o : Owner) (xs : List Placed) → EachRight o xs → AllRight (start_core o) xs
  each_all o xs h = all_from (start_core o) xs (λ before x later e. subst (λ (t : Type 0). t) (sym (start_is o before x)) (h before x later e))

-- ---- serials

-- a serial with this count is right after serials used
pub record Startable (us : List Name) (s : Name) (m : ℕ) : Type 0 where
  pub typed : TypedName s
  pub good : serial_good s ≡ true
  pub new : is_in s us ≡ false
  pub room : length us < 8
  pub few : m < 4294967296

-- a pair is right after serials used
abbrev pub Begun : List Name → Pair → Type 0
Begun us p = Startable us p.serial (length p.entries)

pub data Names : List Name → List Pair → Type 0 where
  none : {us : List Name} → Names us []
  more : {us : List Name} {p : Pair} {ps : List Pair} → Begun us p → Names (us ++ (p.serial ∷ [])) ps → Names us (p ∷ ps)

pub serials_append : (ps qs : List Pair) → serials_of (ps ++ qs) ≡ serials_of ps ++ serials_of qs
unfolding serials_of
serials_append [] qs = refl
serials_append (p ∷ ps) qs = ap (λ (l : List Name). p.serial ∷ l) (serials_append ps qs)

pub length_serials : (ps : List Pair) → length (serials_of ps) ≡ length ps
unfolding serials_of
length_serials [] = refl
length_serials (p ∷ ps) = ap suc (length_serials ps)

-- a name is not among serials: it is at no place
pub out_places : (s : Name) (ps : List Pair) → is_in s (serials_of ps) ≡ false → NotIn s ps
unfolding serials_of is_in
out_places s ps o a q b e r = go a ps e o
  where
    here : (m : Name) (t u : Bool) → same_name s m ≡ t → m ≡ s → t || u ≡ false → ⊥
    here m true u k w z = true-is-not-false (sym z)
    here m false u k w z = true-is-not-false (sym k ∙ (ap (same_name s) w ∙ same_name_refl s))

    there : (t u : Bool) → t || u ≡ false → u ≡ false
    there true u z = true-is-not-false (sym z)
    there false u z = z

    go : (a ps : List Pair) → ps ≡ a ++ (q ∷ b) → is_in s (serials_of ps) ≡ false → ⊥
    go [] ps e z = here q.serial (same_name s q.serial) (is_in s (serials_of b)) refl r (ap (λ (l : List Pair). is_in s (serials_of l)) (sym e) ∙ z)
    go (x ∷ a) ps e z =
        go a (a ++ (q ∷ b)) refl (there (same_name s x.serial) (is_in s (serials_of (a ++ (q ∷ b)))) (ap (λ (l : List Pair). is_in s (serials_of l)) (sym e) ∙ z))

pub places_out : (s : Name) (ps : List Pair) → NotIn s ps → is_in s (serials_of ps) ≡ false
unfolding serials_of is_in
places_out s [] h = refl
places_out s (p ∷ ps) h = go (same_name s p.serial) refl (places_out s ps (λ a q b e. h (p ∷ a) q b (ap (λ (l : List Pair). p ∷ l) e)))
  where
    go : (t : Bool) → same_name s p.serial ≡ t → is_in s (serials_of ps) ≡ false → t || is_in s (serials_of ps) ≡ false
    go true e r = absurd (h [] p ps refl (sym (same_name_is s p.serial e)))
    go false e r = r

pub in_place : (s : Name) (ps : List Pair) → is_in s (serials_of ps) ≡ true → UsedIn s ps
unfolding serials_of is_in
in_place s [] e = true-is-not-false e
in_place s (p ∷ ps) e = go (same_name s p.serial) refl e (in_place s ps)
  where
    go : (t : Bool) → same_name s p.serial ≡ t → t || is_in s (serials_of ps) ≡ true → (is_in s (serials_of ps) ≡ true → UsedIn s ps) → UsedIn s (p ∷ ps)
    go true q z rec = record { before = []; pair = p; later = ps; is = refl; same = sym (same_name_is s p.serial q) }
    go false q z rec =
        let w = rec z in
        record { before = p ∷ w.before; pair = w.pair; later = w.later; is = ap (λ (l : List Pair). p ∷ l) w.is; same = w.same }

abbrev pub EachBegins : List Pair → Type 0
EachBegins ps = (before : List Pair) (p : Pair) (later : List Pair) → ps ≡ before ++ (p ∷ later) → Begins before p

serials_snoc : (ps : List Pair) (p : Pair) → serials_of (ps ++ (p ∷ [])) ≡ serials_of ps ++ (p.serial ∷ [])
unfolding serials_of
serials_snoc ps p = serials_append ps (p ∷ [])

names_at : (went before : List Pair) (p : Pair) (later : List Pair) → Names (serials_of went) (before ++ (p ∷ later)) → Begins (went ++ before) p
names_at went [] p later (more b hs) =
    rw append-nil (record { typed = b.typed; good = b.good; few = b.few; new = out_places p.serial went b.new })
names_at went (q ∷ before) p later (more b hs) =
    rw append_snoc (names_at (went ++ (q ∷ [])) before p later (rw (serials_snoc went q) hs))
  where
    append_snoc : went ++ (q ∷ before) ≡ (went ++ (q ∷ [])) ++ before
    append_snoc = sym (append_assoc went (q ∷ []) before)

pub names_each : (ps : List Pair) → Names [] ps → EachBegins ps
unfolding serials_of
names_each ps h before p later e = names_at [] before p later (subst (Names []) e h)

pub names_length : (us : List Name) (ps : List Pair) → Names us ps → 0 < length ps → length us + length ps ≤ 8
names_length us [] none h = absurd (omega arith)
names_length us (p ∷ []) (more b hs) h = let r = b.room in omega arith
names_length us (p ∷ q ∷ ps) (more b hs) h =
    let r = names_length (us ++ (p.serial ∷ [])) (q ∷ ps) hs (omega arith) in
    let l = length-append us (p.serial ∷ []) in
    omega arith

names_from : (went ps : List Pair) → length went + length ps ≤ 8
    → ((before : List Pair) (p : Pair) (later : List Pair) → ps ≡ before ++ (p ∷ later) → Begins (went ++ before) p) → Names (serials_of went) ps
names_from went [] m h = none
names_from went (p ∷ ps) m h =
    let f : Begins went p = rw append-nil at (h [] p ps refl) in
    let l = length_serials went in
    let l' = length-append went (p ∷ []) in
    let r : Names (serials_of (went ++ (p ∷ []))) ps =
    names_from (went ++ (p ∷ [])) ps (omega arith) (λ before q later e.
    subst (λ (l : List Pair). Begins l q) (sym (append_assoc went (p ∷ []) before)) (h (p ∷ before) q later (ap (λ (l : List Pair). p ∷ l) e))) in
    more (record { typed = f.typed; good = f.good; new = places_out p.serial went f.new; room = omega arith; few = f.few })
    (subst (λ (us : List Name). Names us ps) (serials_snoc went p) r)

pub each_names : (ps : List Pair) → length ps ≤ 8 → EachBegins ps → Names [] ps
unfolding serials_of
each_names ps m h = names_from [] ps (omega arith) h

pub names_split : (us : List Name) (ps qs : List Pair) → Names us (ps ++ qs) → Names us ps × Names (us ++ serials_of ps) qs
unfolding serials_of
names_split us [] qs n = (none, rw append-nil n)
names_split us (p ∷ ps) qs (more b n) =
    let r = names_split (us ++ (p.serial ∷ [])) ps qs n in
    (more b r.0, subst (λ (l : List Name). Names l qs) (append_assoc us (p.serial ∷ []) (serials_of ps)) r.1)
