-- Valid journals: "one to which every answer is yes; its definition must run neither the checker nor the writer".
-- The limit of an amount is a parameter, so that journals from before a change of the limit can be spoken of.
use Rattle.std.specs.Prelude.{ℕ, ◌+◌, ◌-◌, ◌≤◌, ◌<◌, ◌≡◌, true, List, [], ◌∷◌, ◌++◌, ℤ, ◌+ℤ◌, length}
use Rattle.primitives.specs.Bytes.{AllBytes}
use Rattle.primitives.specs.Counter.{width_good, counter_fits}
use Rattle.primitives.specs.Aes.{key_schedule}
use Rattle.receipt.specs.Settings.{name_text, csp_good, id_good, serial_good}
use Rattle.receipt.specs.Amount.{amount_limit}
use Rattle.receipt.specs.Details.{counted, start_good}
use Rattle.receipt.specs.Chain.{chain_value, decrypted_counter}
use Rattle.receipt.specs.Compact.{compact, spellable_within, TypedEntry}
use Rattle.receipt.specs.declared.settings.Name.{Name}
use Rattle.receipt.specs.declared.settings.Settings.{Settings}
use Rattle.receipt.specs.declared.details.Kind.TheVariants.{Standard}
use Rattle.receipt.specs.declared.entry.Entry.{Entry}
use Rattle.journal.specs.Head.{section, pair_start, entry_text}
use Rattle.journal.specs.Receipts.{receipts_in, sum}
use Rattle.journal.specs.State.{no_name, in_eight, TypedName}
use Rattle.journal.specs.declared.state.State.{State}

-- ---- what a journal consists of

-- CSP and ID: what all receipts of a register share
pub record Owner : Type 0 where
  pub csp : List ℕ
  pub id : Name

-- a serial, and the entries of the receipts section that follows it
pub record Pair : Type 0 where
  pub serial : Name
  pub entries : List Entry

-- "each entry with its pair's serial": the settings that an entry is spelled with
abbrev pub settings_for : Owner → Name → Settings
settings_for o serial = record { csp = o.csp; id = o.id; serial = serial }

-- ---- its bytes

-- entries, one after the other
unfoldable pub texts : Settings → ℕ → List Entry → List ℕ
texts s n [] = []
texts s n (e ∷ es) = entry_text (compact s n e) ++ texts s n es

-- a pair: its start, and its entries
unfoldable pub pair_text : Owner → ℕ → Pair → List ℕ
pair_text o n p = pair_start p.serial (length p.entries) ++ texts (settings_for o p.serial) n p.entries

unfoldable pub pair_texts : Owner → ℕ → List Pair → List ℕ
pair_texts o n [] = []
pair_texts o n (p ∷ ps) = pair_text o n p ++ pair_texts o n ps

-- the sections of CSP and ID
unfoldable pub owner_text : Owner → List ℕ
owner_text o = section o.csp ++ section (name_text o.id)

unfoldable pub journal_text : Owner → ℕ → List Pair → List ℕ
journal_text o n ps = owner_text o ++ pair_texts o n ps

-- ---- the entries of all pairs

-- an entry, and the settings that it is spelled with
pub record Placed : Type 0 where
  pub settings : Settings
  pub entry : Entry

unfoldable pub placed_under : Settings → List Entry → List Placed
placed_under s [] = []
placed_under s (e ∷ es) = record { settings = s; entry = e } ∷ placed_under s es

unfoldable pub all_placed : Owner → List Pair → List Placed
all_placed o [] = []
all_placed o (p ∷ ps) = placed_under (settings_for o p.serial) p.entries ++ all_placed o ps

-- without the settings
unfoldable pub entries_of : List Placed → List Entry
entries_of [] = []
entries_of (x ∷ xs) = x.entry ∷ entries_of xs

-- the entries of all pairs, in order
unfoldable pub entries_in : List Pair → List Entry
entries_in [] = []
entries_in (p ∷ ps) = p.entries ++ entries_in ps

-- the last number, given the number before the entries
unfoldable pub last_of : ℕ → List Entry → ℕ
last_of last [] = last
last_of last (e ∷ es) = last_of e.fields.details.number es

-- the chain bytes for the next chain field, given the chain bytes before the entries
unfoldable pub chain_of : ℕ → List ℕ → List Placed → List ℕ
chain_of n chain [] = chain
chain_of n chain (x ∷ xs) = chain_of n (chain_value (compact x.settings n x.entry)) xs

-- ---- the state of a register whose journal has these pairs

unfoldable pub serials_of : List Pair → List Name
serials_of [] = []
serials_of (p ∷ ps) = p.serial ∷ serials_of ps

-- the open pair, which is the last
unfoldable pub last_pair : Pair → List Pair → Pair
last_pair p [] = p
last_pair p (q ∷ qs) = last_pair q qs

abbrev pub open_pair : List Pair → Pair
open_pair ps = last_pair (record { serial = no_name; entries = [] }) ps

-- its count stands before its entries, which are the end of the journal
unfoldable pub state_after : Owner → List ℕ → ℕ → List Pair → State
state_after o key n ps =
    record {
      csp = o.csp;
      id = o.id;
      serials = in_eight (serials_of ps);
      width = n;
      key = key;
      counter = sum (receipts_in (entries_in ps));
      last = last_of 0 (entries_in ps);
      issued = length (entries_in ps);
      chain = chain_of n (chain_value (name_text o.id)) (all_placed o ps);
      length = length (journal_text o n ps);
      since = length (open_pair ps).entries;
      place = length (journal_text o n ps) - (4 + length (texts (settings_for o (open_pair ps).serial) n (open_pair ps).entries));
    }

-- ---- an entry at its place

-- 20: the running sum fits N bytes, and on a standard receipt equals the decrypted counter
pub record Counted (s : Settings) (key : List ℕ) (n : ℕ) (total : ℤ) (e : Entry) : Type 0 where
  pub fits : counter_fits n (total +ℤ counted e.fields.details) ≡ true
  pub decrypted : e.fields.details.kind ≡ Standard
      → decrypted_counter (key_schedule key) s.id e.fields.details.number n e.fields.counter ≡ total +ℤ counted e.fields.details

-- an entry is right, given the last number, the count of entries, the sum and the chain bytes before it
pub record RightWithin (limit : ℕ) (s : Settings) (key : List ℕ) (n last count : ℕ) (total : ℤ) (chain : List ℕ) (e : Entry) : Type 0 where
  -- 16: spelled, and of the code's types
  pub typed : TypedEntry e
  pub spelled : spellable_within limit s n e ≡ true
  -- 17: its number is above the last
  pub above : last < e.fields.details.number
  -- 18: the first one is standard with five zeros
  pub first : count ≡ 0 → start_good e.fields.details ≡ true
  -- 19: the chain field is right
  pub chained : e.fields.chain ≡ chain
  -- 20
  pub counter : Counted s key n total e

-- right, given all entries before it, of all pairs; the first chain field is that of the ID
abbrev pub RightAfterWithin : ℕ → Owner → List ℕ → ℕ → List Placed → Placed → Type 0
RightAfterWithin limit o key n before x =
    RightWithin limit x.settings key n (last_of 0 (entries_of before)) (length before) (sum (receipts_in (entries_of before)))
    (chain_of n (chain_value (name_text o.id)) before) x.entry

-- ---- a pair at its place

-- a name is the serial of one of these pairs
pub record UsedIn (serial : Name) (ps : List Pair) : Type 0 where
  pub before : List Pair
  pub pair : Pair
  pub later : List Pair
  pub is : ps ≡ before ++ (pair ∷ later)
  pub same : pair.serial ≡ serial

-- or of none
abbrev pub NotIn : Name → List Pair → Type 0
NotIn serial ps = (a : List Pair) (q : Pair) (b : List Pair) → ps ≡ a ++ (q ∷ b) → q.serial ≡ serial → ⊥

-- a pair is right, given the pairs before it
pub record Begins (before : List Pair) (p : Pair) : Type 0 where
  -- 14, and 21 after the first pair: a good serial, and a count of four bytes
  pub typed : TypedName p.serial
  pub good : serial_good p.serial ≡ true
  pub few : length p.entries < 4294967296
  -- 30: its serial was not used
  pub new : NotIn p.serial before

-- ---- the journal

pub record GoodOwner (o : Owner) : Type 0 where
  pub typed_csp : length o.csp ≡ 3
  pub csp_bytes : AllBytes o.csp
  pub typed_id : TypedName o.id
  pub csp : csp_good o.csp ≡ true
  pub id : id_good o.id ≡ true

pub record ValidWithin (limit : ℕ) (j key : List ℕ) (n : ℕ) : Type 0 where
  -- 4
  pub width : width_good n ≡ true
  -- 14: CSP and ID, and a first pair
  pub owner : Owner
  pub good : GoodOwner owner
  pub pairs : List Pair
  pub some : 0 < length pairs
  -- 31
  pub eight : length pairs ≤ 8
  -- 15 and 21: in each pair the entries that its count says, and no byte after the last
  pub bytes : j ≡ journal_text owner n pairs
  -- 14, 21 and 30, at each place of the list of pairs
  pub begins : (before : List Pair) (p : Pair) (later : List Pair) → pairs ≡ before ++ (p ∷ later) → Begins before p
  -- 16 to 20, at each place of the list of all entries
  pub each : (before : List Placed) (x : Placed) (later : List Placed) → all_placed owner pairs ≡ before ++ (x ∷ later)
      → RightAfterWithin limit owner key n before x

-- the settings of the head: CSP, ID and the first serial
unfoldable pub head_of : Owner → List Pair → Settings
head_of o [] = settings_for o no_name
head_of o (p ∷ ps) = settings_for o p.serial

-- ---- under the limit that the calls have

abbrev pub Right : Settings → List ℕ → ℕ → ℕ → ℕ → ℤ → List ℕ → Entry → Type 0
Right s key n last count total chain e = RightWithin amount_limit s key n last count total chain e

abbrev pub RightAfter : Owner → List ℕ → ℕ → List Placed → Placed → Type 0
RightAfter o key n before x = RightAfterWithin amount_limit o key n before x

abbrev pub Valid : List ℕ → List ℕ → ℕ → Type 0
Valid j key n = ValidWithin amount_limit j key n
