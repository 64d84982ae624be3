-- Parts of valid journals: last entries and pairs dropped, and two entries of one journal.
use Rattle.std.proofs.Common.{ℕ, ◌<◌, ◌≡◌, refl, sym, ap, ◌∙◌, subst, List, [], ◌∷◌, ◌++◌, append_assoc, arith, length, take, length-append, take_at}
use Rattle.primitives.specs.Place.{overwrite}
use Rattle.primitives.specs.Number.{bytes_of}
use Rattle.primitives.proofs.Numbers.{length_bytes_of}
use Rattle.primitives.proofs.Rewrites.{over_middle}
use Rattle.receipt.proofs.Chains.{input_same}
use Rattle.receipt.specs.declared.settings.Name.{Name}
use Rattle.receipt.specs.declared.entry.Entry.{Entry}
use Rattle.journal.specs.Head.{pair_start}
use Rattle.journal.specs.Valid.{Owner, Pair, settings_for, texts, pair_texts, owner_text, journal_text, Placed, placed_under, all_placed, entries_of, entries_in, Valid}
use Rattle.journal.specs.Demands.{before_count, ValidWith, Dropping, InputsDiffer}
use Rattle.journal.proofs.Placing.{Core, start_core, step_core, AllRight, right_split, Names}
use Rattle.journal.proofs.Placing as placing
use Rattle.journal.proofs.Passing.{pair_split}
use Rattle.journal.proofs.Accepting.{Work, work_valid, valid_work}
use Rattle.journal.proofs.Pairs.{texts_append, pairs_append, placed_append, all_append, last_placed, journal_open}
use Rattle.journal.proofs.Registers.{some_snoc, entries_all}

-- ---- dropping

module _ (k : List ℕ) (n : ℕ) (o : Owner) (before : List Pair) (s : Name) (kept dropped : List Entry) (later : List Pair) where
  whole : Pair
  whole = record { serial = s; entries = kept ++ dropped }

  short : Pair
  short = record { serial = s; entries = kept }

  all_short : all_placed o (before ++ (whole ∷ later)) ≡ all_placed o (before ++ (short ∷ [])) ++ (placed_under (settings_for o s) dropped ++ all_placed o later)
  unfolding all_placed whole short
  all_short =
      let p = placed_under (settings_for o s) kept in
      let d = placed_under (settings_for o s) dropped ++ all_placed o later in
      all_append o before (whole ∷ later)
      ∙ (ap (λ (l : List Placed). all_placed o before ++ (l ++ all_placed o later)) (placed_append (settings_for o s) kept dropped)
      ∙ (ap (λ (l : List Placed). all_placed o before ++ l) (append_assoc p (placed_under (settings_for o s) dropped) (all_placed o later))
      ∙ (sym (append_assoc (all_placed o before) p d) ∙ ap (λ (l : List Placed). l ++ d) (sym (last_placed o before short)))))

  names_short : (us : List Name) (ps : List Pair) → Names us (ps ++ (whole ∷ later)) → Names us (ps ++ (short ∷ []))
  unfolding whole short
  names_short us [] (placing.more b ns) =
      let f : length kept < 4294967296 = omega (arith, length-append kept dropped, b.few) in
      placing.more (record { typed = b.typed; good = b.good; new = b.new; room = b.room; few = f }) placing.none
  names_short us (p ∷ ps) (placing.more b ns) = placing.more b (names_short (us ++ (p.serial ∷ [])) ps ns)

  work_short : Work k n o (before ++ (whole ∷ later)) → Work k n o (before ++ (short ∷ []))
  work_short w =
      record {
        width = w.width;
        good = w.good;
        some = some_snoc before short;
        right = (right_split k n (start_core o) (all_placed o (before ++ (short ∷ []))) (placed_under (settings_for o s) dropped ++ all_placed o later) (subst (AllRight k n (start_core o)) all_short w.right)).0;
        names = names_short [] before w.names;
      }

  first_text : pair_texts o n (whole ∷ later) ≡ pair_start s (length (kept ++ dropped)) ++ (texts (settings_for o s) n (kept ++ dropped) ++ pair_texts o n later)
  unfolding pair_texts whole
  first_text = pair_split o n whole (pair_texts o n later)

  -- the bytes up to the last entry that is kept, and those after it
  bytes_short : journal_text o n (before ++ (whole ∷ later))
      ≡ (before_count o n before s ++ (bytes_of 4 (length (kept ++ dropped)) ++ texts (settings_for o s) n kept)) ++ (texts (settings_for o s) n dropped ++ pair_texts o n later)
  unfolding journal_text pair_start
  bytes_short =
      ap (λ (l : List ℕ). owner_text o ++ l)
      (pairs_append o n before (whole ∷ later)
      ∙ ap (λ (l : List ℕ). pair_texts o n before ++ l)
      (first_text ∙ ap (λ (l : List ℕ). pair_start s (length (kept ++ dropped)) ++ (l ++ pair_texts o n later)) (texts_append (settings_for o s) n kept dropped)))
      ∙ simp append_assoc

  shortened : (j : List ℕ) → j ≡ journal_text o n (before ++ (whole ∷ later))
      → overwrite (take (length (journal_text o n (before ++ (short ∷ [])))) j) (length (before_count o n before s)) (bytes_of 4 (length kept)) ≡ journal_text o n (before ++ (short ∷ []))
  unfolding short
  shortened j e =
      let fr = before_count o n before s in
      let t = texts (settings_for o s) n kept in
      let old = bytes_of 4 (length (kept ++ dropped)) in
      let new = bytes_of 4 (length kept) in
      let m = length (journal_text o n (before ++ (short ∷ []))) in
      let jo : journal_text o n (before ++ (short ∷ [])) ≡ fr ++ (new ++ t) = journal_open o n before short in
      let same : length old ≡ length new = length_bytes_of 4 (length (kept ++ dropped)) ∙ sym (length_bytes_of 4 (length kept)) in
      let l : length (fr ++ (old ++ t)) ≡ m =
      length-append fr (old ++ t) ∙ omega (arith, length-append old t, ap length jo, length-append fr (new ++ t), length-append new t, same) in
      ap (λ (x : List ℕ). overwrite x (length fr) new) (ap (take m) (e ∙ bytes_short) ∙ take_at (fr ++ (old ++ t)) (texts (settings_for o s) n dropped ++ pair_texts o n later) m l)
      ∙ (over_middle fr old t new same ∙ sym jo)

dropped_valid : (k : List ℕ) (n : ℕ) (o : Owner) (ps : List Pair) (j l : List ℕ) → Work k n o ps → l ≡ journal_text o n ps → ValidWith l k n o ps
unfolding work_valid
dropped_valid k n o ps j l w e = record { valid = work_valid k n o ps l w e; owner = refl; pairs = refl }

pub dropping : Dropping
unfolding whole short
dropping j key n v before s kept dropped later q =
    let o = v.owner in
    let w : Work key n o (before ++ (record { serial = s; entries = kept ++ dropped } ∷ later)) = subst (Work key n o) q (valid_work v) in
    dropped_valid key n o (before ++ (record { serial = s; entries = kept } ∷ [])) j _ (work_short key n o before s kept dropped later w)
    (shortened key n o before s kept dropped later j (v.bytes ∙ ap (journal_text o n) q))

-- ---- rising numbers

-- every number is above the last one
rising : (k : List ℕ) (n : ℕ) (c : Core) (b : List Entry) (f : Entry) (later : List Entry) (xs : List Placed) → entries_of xs ≡ b ++ (f ∷ later) → AllRight k n c xs
    → (c.last < f.fields.details.number) × (f.fields.details.number < 4294967296)
unfolding entries_of step_core
rising k n c [] f later [] q placing.none = absurd (let z : ◌≡◌ {A = ℕ} 0 1 = cc in omega arith)
rising k n c (y ∷ b) f later [] q placing.none = absurd (let z : ◌≡◌ {A = ℕ} 0 1 = cc in omega arith)
rising k n c [] f later (x ∷ xs) q (placing.more h hs) =
    let e : x.entry ≡ f = cc in
    subst (λ (y : Entry). (c.last < y.fields.details.number) × (y.fields.details.number < 4294967296)) e (h.above, h.typed.fields.number)
rising k n c (y ∷ b) f later (x ∷ xs) q (placing.more h hs) =
    let e : entries_of xs ≡ b ++ (f ∷ later) = cc in
    let r = rising k n (step_core n c x) b f later xs e hs in
    (omega (arith, h.above, r.0), r.1)

-- two of them
record Two (e f : Entry) : Type 0 where
  less : e.fields.details.number < f.fields.details.number
  bound_e : e.fields.details.number < 4294967296
  bound_f : f.fields.details.number < 4294967296

two : (k : List ℕ) (n : ℕ) (c : Core) (a : List Entry) (e : Entry) (b : List Entry) (f : Entry) (later : List Entry) (xs : List Placed) → entries_of xs ≡ a ++ (e ∷ (b ++ (f ∷ later)))
    → AllRight k n c xs → Two e f
unfolding entries_of step_core
two k n c [] e b f later [] q placing.none = absurd (let z : ◌≡◌ {A = ℕ} 0 1 = cc in omega arith)
two k n c (y ∷ a) e b f later [] q placing.none = absurd (let z : ◌≡◌ {A = ℕ} 0 1 = cc in omega arith)
two k n c [] e b f later (x ∷ xs) q (placing.more h hs) =
    let w : x.entry ≡ e = cc in
    let w' : entries_of xs ≡ b ++ (f ∷ later) = cc in
    let r = rising k n (step_core n c x) b f later xs w' hs in
    record {
      less = subst (λ (y : Entry). y.fields.details.number < f.fields.details.number) w r.0;
      bound_e = subst (λ (y : Entry). y.fields.details.number < 4294967296) w h.typed.fields.number;
      bound_f = r.1;
    }
two k n c (y ∷ a) e b f later (x ∷ xs) q (placing.more h hs) =
    let w : entries_of xs ≡ a ++ (e ∷ (b ++ (f ∷ later))) = cc in
    two k n (step_core n c x) a e b f later xs w hs

pub inputs_differ : InputsDiffer
inputs_differ j key n v a b c e f q i =
    let t = two key n (start_core v.owner) a e b f c (all_placed v.owner v.pairs) (entries_all v.owner v.pairs ∙ q) (valid_work v).right in
    let s = input_same v.owner.id e.fields.details.number f.fields.details.number t.bound_e t.bound_f i in
    omega (arith, t.less)

-- the number of an entry of a valid journal fits 32 bits
pub number_small : {j k : List ℕ} {n : ℕ} (v : Valid j k n) (before : List Entry) (e : Entry) (later : List Entry) → entries_in v.pairs ≡ before ++ (e ∷ later)
    → e.fields.details.number < 4294967296
number_small {j} {k} {n} v before e later q =
    (rising k n (start_core v.owner) before e later (all_placed v.owner v.pairs) (entries_all v.owner v.pairs ∙ q) (valid_work v).right).1
