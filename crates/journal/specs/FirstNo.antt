-- The first question of Take over answered no, as a relation between a journal and a number with an index. It runs no checker.
use Rattle.std.specs.Prelude.{ℕ, ◌≤◌, ◌<◌, ◌≡◌, true, List, [], ◌∷◌, ◌++◌, length}
use Rattle.primitives.specs.Counter.{width_good}
use Rattle.receipt.specs.Settings.{name_text, serial_good, settings_good, TypedSettings}
use Rattle.receipt.specs.Details.{start_good}
use Rattle.receipt.specs.Chain.{chain_value}
use Rattle.receipt.specs.Compact.{compact, spellable, TypedEntry}
use Rattle.receipt.specs.declared.settings.Name.{Name}
use Rattle.receipt.specs.declared.settings.Settings.{Settings}
use Rattle.receipt.specs.declared.entry.Entry.{Entry}
use Rattle.journal.specs.Head.{pair_start, head, entry_text}
use Rattle.journal.specs.Receipts.{receipts_in, sum}
use Rattle.journal.specs.State.{TypedName}
use Rattle.journal.specs.Valid.{Owner, Pair, settings_for, texts, pair_texts, owner_text, Placed, all_placed, entries_of, last_of, chain_of, Counted, RightAfter, UsedIn, NotIn, Begins, GoodOwner}

-- 14: the journal starts with a good head whose count is k
pub record Headed (j : List ℕ) (s : Settings) (k : ℕ) (more : List ℕ) : Type 0 where
  pub typed : TypedSettings s
  pub good : settings_good s ≡ true
  pub few : k < 4294967296
  pub bytes : j ≡ head s k ++ more

-- every answer was yes up to the end of the entries of the open pair p, which stands after the pairs ps and whose count is k; `rest` follows
pub record SoFar (j key : List ℕ) (n : ℕ) (o : Owner) (ps : List Pair) (p : Pair) (k : ℕ) (rest : List ℕ) : Type 0 where
  pub width : width_good n ≡ true
  pub good : GoodOwner o
  pub few : k < 4294967296
  pub within : length p.entries ≤ k
  pub bytes : j ≡ owner_text o ++ (pair_texts o n ps ++ (pair_start p.serial k ++ (texts (settings_for o p.serial) n p.entries ++ rest)))
  pub eight : length (ps ++ (p ∷ [])) ≤ 8
  pub begins : (before : List Pair) (q : Pair) (later : List Pair) → ps ++ (p ∷ []) ≡ before ++ (q ∷ later) → Begins before q
  pub each : (before : List Placed) (x : Placed) (later : List Placed) → all_placed o (ps ++ (p ∷ [])) ≡ before ++ (x ∷ later) → RightAfter o key n before x

-- all entries so far
abbrev pub so_far : Owner → List Pair → Pair → List Placed
so_far o ps p = all_placed o (ps ++ (p ∷ []))

-- "Every index counts all receipts before it."
abbrev pub index : Owner → List Pair → Pair → ℕ
index o ps p = length (so_far o ps p)

-- 15: a length and as many bytes
pub record EntryThere (rest text more : List ℕ) : Type 0 where
  pub short : length text < 65536
  pub bytes : rest ≡ entry_text text ++ more

-- 16: the bytes spell an entry
pub record Spells (s : Settings) (n : ℕ) (text : List ℕ) (e : Entry) : Type 0 where
  pub typed : TypedEntry e
  pub spelled : spellable s n e ≡ true
  pub is : text ≡ compact s n e

-- 17
abbrev pub Above : List Placed → Entry → Type 0
Above xs e = last_of 0 (entries_of xs) < e.fields.details.number

-- 18
abbrev pub StartFirst : List Placed → Entry → Type 0
StartFirst xs e = length xs ≡ 0 → start_good e.fields.details ≡ true

-- 19
abbrev pub Chained : Owner → ℕ → List Placed → Entry → Type 0
Chained o n xs e = e.fields.chain ≡ chain_of n (chain_value (name_text o.id)) xs

-- 20
abbrev pub CountedAfter : Settings → List ℕ → ℕ → List Placed → Entry → Type 0
CountedAfter s key n xs e = Counted s key n (sum (receipts_in (entries_of xs))) e

-- the next entry is complete and spelled: 15 and 16 are answered yes
pub record Next (j key : List ℕ) (n : ℕ) (o : Owner) (ps : List Pair) (p : Pair) (e : Entry) : Type 0 where
  pub count : ℕ
  pub rest : List ℕ
  pub text : List ℕ
  pub more : List ℕ
  pub so_far_lem : SoFar j key n o ps p count rest
  pub left : length p.entries < count
  pub there : EntryThere rest text more
  pub spells : Spells (settings_for o p.serial) n text e

-- the open pair has all its entries, and bytes follow
pub record Full (j key : List ℕ) (n : ℕ) (o : Owner) (ps : List Pair) (p : Pair) (rest : List ℕ) : Type 0 where
  pub so_far_lem : SoFar j key n o ps p (length p.entries) rest
  pub left : rest ≡ [] → ⊥

-- 21: "a good serial with a whole receipts count"
pub record StartThere (rest : List ℕ) (serial : Name) (k : ℕ) (more : List ℕ) : Type 0 where
  pub typed : TypedName serial
  pub good : serial_good serial ≡ true
  pub few : k < 4294967296
  pub bytes : rest ≡ pair_start serial k ++ more

-- the number and the index of the first no
pub data NoAt (j key : List ℕ) (n : ℕ) : ℕ → ℕ → Type 0 where
  no_width : (width_good n ≡ true → ⊥) → NoAt j key n 4 0
  no_head : width_good n ≡ true → ((s : Settings) (k : ℕ) (more : List ℕ) → Headed j s k more → ⊥) → NoAt j key n 14 0
  not_there : {o : Owner} {ps : List Pair} {p : Pair} {k : ℕ} {rest : List ℕ} → SoFar j key n o ps p k rest → length p.entries < k
      → ((text more : List ℕ) → EntryThere rest text more → ⊥) → NoAt j key n 15 (index o ps p)
  not_spelled : {o : Owner} {ps : List Pair} {p : Pair} {k : ℕ} {rest text more : List ℕ} → SoFar j key n o ps p k rest → length p.entries < k
      → EntryThere rest text more → ((e : Entry) → Spells (settings_for o p.serial) n text e → ⊥) → NoAt j key n 16 (index o ps p)
  not_above : {o : Owner} {ps : List Pair} {p : Pair} {e : Entry} → Next j key n o ps p e → (Above (so_far o ps p) e → ⊥) → NoAt j key n 17 (index o ps p)
  not_start : {o : Owner} {ps : List Pair} {p : Pair} {e : Entry} → Next j key n o ps p e → Above (so_far o ps p) e → (StartFirst (so_far o ps p) e → ⊥)
      → NoAt j key n 18 (index o ps p)
  not_chained : {o : Owner} {ps : List Pair} {p : Pair} {e : Entry} → Next j key n o ps p e → Above (so_far o ps p) e → StartFirst (so_far o ps p) e
      → (Chained o n (so_far o ps p) e → ⊥) → NoAt j key n 19 (index o ps p)
  not_counted : {o : Owner} {ps : List Pair} {p : Pair} {e : Entry} → Next j key n o ps p e → Above (so_far o ps p) e → StartFirst (so_far o ps p) e
      → Chained o n (so_far o ps p) e → (CountedAfter (settings_for o p.serial) key n (so_far o ps p) e → ⊥) → NoAt j key n 20 (index o ps p)
  no_start : {o : Owner} {ps : List Pair} {p : Pair} {rest : List ℕ} → Full j key n o ps p rest
      → ((serial : Name) (k : ℕ) (more : List ℕ) → StartThere rest serial k more → ⊥) → NoAt j key n 21 (index o ps p)
  used_before : {o : Owner} {ps : List Pair} {p : Pair} {rest : List ℕ} {serial : Name} {k : ℕ} {more : List ℕ} → Full j key n o ps p rest
      → StartThere rest serial k more → UsedIn serial (ps ++ (p ∷ [])) → NoAt j key n 30 (index o ps p)
  a_ninth : {o : Owner} {ps : List Pair} {p : Pair} {rest : List ℕ} {serial : Name} {k : ℕ} {more : List ℕ} → Full j key n o ps p rest
      → StartThere rest serial k more → NotIn serial (ps ++ (p ∷ [])) → length (ps ++ (p ∷ [])) ≡ 8 → NoAt j key n 31 (index o ps p)
