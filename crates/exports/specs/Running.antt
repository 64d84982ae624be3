-- What the contracts of private functions cite: the journal of an export taken over where its receipts lie, and the writers of both calls.
use Rattle.std.specs.Prelude.{Option, Some, None, IfSome, IsSome, MatchOption, Result, Ok, Err, IfOk, ℕ, ◌+◌, ◌<◌, ◌≤◌, ◌≡◌, Bool, true, false, cond, List, [], ◌∷◌, ◌++◌, map, length, take, drop}
use Rattle.primitives.specs.Number.{count_at}
use Rattle.primitives.specs.Aes.{key_schedule}
use Rattle.primitives.specs.Questions.{ifZero}
use Rattle.receipt.specs.Texts.{dot}
use Rattle.receipt.specs.Form.{first_at}
use Rattle.receipt.specs.Separated.{skip}
use Rattle.receipt.specs.declared.settings.Settings.{Settings}
use Rattle.journal.specs.Head.{section_end}
use Rattle.journal.specs.Valid.{Owner}
use Rattle.journal.specs.Checking.{last_answer, entry_checked, serial_checked, settings_checked}
use Rattle.journal.specs.declared.state.State.{State}
use Rattle.journal.specs.declared.state.TakenOver.{TakenOver}
use Rattle.primitives.specs.Refusals.{number_of}
use Rattle.journal.specs.declared.state.Stop.{Stop}
use Rattle.journal.specs.declared.checking.Step.{Step}
use Rattle.journal.specs.Checking.{Checked}
use Rattle.exports.specs.Text.{Token, every}
use Rattle.exports.specs.Shape.{Element, strings, Written, written}
use Rattle.exports.specs.Places.{from}
use Rattle.exports.specs.Output.{Out, Puts}
use Rattle.exports.specs.Spelled.{short, sized_texts, TextPair, pair_spelled, pairs_spelled, GoodPair, GoodPairs}
use Rattle.exports.specs.Groups.{Group, group_text, groups_text, group_good}
use Rattle.exports.specs.Naming.{Named, not_named, named}
use Rattle.exports.specs.Reading.{first_of, pair_of}
use Rattle.exports.specs.Writing.{comma, quoted, listed, in_base64, before_certificate, certificates_part, receipts_part, element_text, elements_for, export_text}
use Rattle.exports.specs.declared.shape.Places.{Places}
use Rattle.exports.specs.declared.retaking.Ran.{Ran}
use Rattle.exports.specs.declared.rebuilding.Entries.{Entries}

-- ---- places

pub record PlacesInside (text : List ℕ) (e : Places) : Type 0 where
  pub certificate : e.certificate ≤ length text
  pub issuers : e.issuers ≤ length text
  pub receipts : e.receipts ≤ length text

-- ---- naming

-- what the code answers of a receipt
abbrev pub as_named : Option Settings → Named
as_named (Some s) = record { good = true; settings = s }
as_named None = not_named

-- r is the place after the first k "_" of a payload
pub record PayloadPlace (p : List ℕ) (k r : ℕ) : Type 0 where
  pub inside : r ≤ length p
  pub is : drop r p ≡ skip k p

-- a and b stand before and after the first "." of a text
pub record SplitAtDot (w a b : List ℕ) : Type 0 where
  pub some : first_at dot w < length w
  pub before : a ≡ take (first_at dot w) w
  pub after : b ≡ drop (first_at dot w + 1) w

-- what the first receipt of the first element names
unfoldable pub owner_settings : List Element → Settings
owner_settings [] = (named []).settings
owner_settings (e ∷ es) = (named (first_of e.receipts)).settings

abbrev pub owner_in : Settings → Owner
owner_in s = record { csp = s.csp; id = s.id }

-- ---- taken over where it lies

-- entries, up to the first that is refused: its number, and the state before it
unfoldable pub run_texts : List (List ℕ) → State → List (List ℕ) → Step
run_texts schedule st [] = record { number = 0; state = st }
run_texts schedule st (w ∷ ws) =
    ifZero (entry_checked schedule st w).number (run_texts schedule (entry_checked schedule st w).state ws)
    (record { number = (entry_checked schedule st w).number; state = st })

-- a pair: its serial, except in the first one, whose serial is in the head; then its entries
unfoldable pub run_pair : List (List ℕ) → Bool → State → TextPair → Step
run_pair schedule first st p =
    cond first (run_texts schedule st p.texts)
    (ifZero (serial_checked st p.serial).number (run_texts schedule (serial_checked st p.serial).state p.texts)
    (record { number = (serial_checked st p.serial).number; state = st }))

unfoldable pub run_pairs : List (List ℕ) → Bool → State → List TextPair → Step
run_pairs schedule first st [] = record { number = 0; state = st }
run_pairs schedule first st (p ∷ ps) =
    ifZero (run_pair schedule first st p).number (run_pairs schedule false (run_pair schedule first st p).state ps) (run_pair schedule first st p)

abbrev pub elements_run : List (List ℕ) → State → List Element → Step
elements_run schedule st es = run_pairs schedule true st (map pair_of es)

unfoldable pub run_journal : List Element → List ℕ → ℕ → TakenOver
run_journal es key n =
    ifZero (settings_checked (owner_settings es) key n).number
    (last_answer (elements_run (key_schedule key) (settings_checked (owner_settings es) key n).state es))
    (settings_checked (owner_settings es) key n)

-- what a run answered
abbrev pub as_ran : Result Ran Stop → Step
as_ran (Ok r) = record { number = 0; state = r.state }
as_ran (Err stop) = record { number = number_of stop.question; state = stop.state }

-- a run over the strings of the array at a place; if none is refused, `next` is the place after the array
pub record TextsRan (schedule : List (List ℕ)) (st : State) (text : List ℕ) (at : ℕ) (r : Result Ran Stop) : Type 0 where
  pub inside : IfOk r (λ t. IfSome t.next (λ e. (at < e) × (e ≤ length text)))
  pub is : (ws : List (List ℕ)) (rest : List Token) → from text at ≡ strings ws ++ rest
      → (as_ran r ≡ run_texts schedule st ws) × IfOk r (λ t. MatchOption t.next ⊥ (λ e. from text e ≡ rest))

-- the serial of the receipts at a place, as the start of a pair
pub record PairStarted (st : State) (text : List ℕ) (at : ℕ) (r : Checked) : Type 0 where
  pub is : (x : Element) (rest : List Token) → from text at ≡ strings x.receipts ++ rest → r ≡ serial_checked st (pair_of x).serial

-- ---- the journal written

-- the strings of the array at a place as entries, their count, and the place after the array
pub record EntriesWritten (text : List ℕ) (at : ℕ) (o o' : Out) (r : Option Entries) : Type 0 where
  pub inside : IfSome r (λ e. (at < e.next) × (e.next ≤ length text))
  pub same : o'.lent ≡ o.lent
  pub long : length o'.bytes ≡ length o.bytes
  pub is : (ws : List (List ℕ)) (rest : List Token) → from text at ≡ strings ws ++ rest
      → (Puts true o o' (sized_texts ws)) × MatchOption r ⊥ (λ e. (e.count ≡ length ws) × (from text e.next ≡ rest))

-- the pair of the receipts at a place
pub record PairWritten (text : List ℕ) (at : ℕ) (o o' : Out) (r : Option ℕ) : Type 0 where
  pub inside : IfSome r (λ e. (at < e) × (e ≤ length text))
  pub same : o'.lent ≡ o.lent
  pub long : length o'.bytes ≡ length o.bytes
  pub is : (x : Element) (rest : List Token) → from text at ≡ strings x.receipts ++ rest
      → (Puts true o o' (pair_spelled (pair_of x))) × MatchOption r ⊥ (λ e. from text e ≡ rest)

-- the pair of the element at a place
pub record ElementWritten (text : List ℕ) (at : ℕ) (o o' : Out) (r : Option ℕ) : Type 0 where
  pub inside : IfSome r (λ e. (at < e) × (e ≤ length text))
  pub same : o'.lent ≡ o.lent
  pub long : length o'.bytes ≡ length o.bytes
  pub is : (w : Written) (rest : List Token) → from text at ≡ written w ++ rest
      → (Puts true o o' (pair_spelled (pair_of w.element))) × MatchOption r ⊥ (λ e. from text e ≡ rest)

-- ---- written: what stands at a place of the journal or of the groups is copied

-- so many strings from a place on, each as it is spelled
pub record StringsPut (writes : Bool) (spelled : List ℕ → List ℕ) (s : List ℕ) (at count : ℕ) (o o' : Out) (r : Option ℕ) : Type 0 where
  pub same : o'.lent ≡ o.lent
  pub long : length o'.bytes ≡ length o.bytes
  pub is : (ws : List (List ℕ)) (rest : List ℕ) → every short ws ≡ true → count ≡ length ws → drop at s ≡ sized_texts ws ++ rest
      → Puts writes o o' (listed quoted false (map spelled ws)) × MatchOption r ⊥ (λ e. drop e s ≡ rest)

pub record SigningPut (writes more : Bool) (s : List ℕ) (at : ℕ) (o o' : Out) (r : Option ℕ) : Type 0 where
  pub same : o'.lent ≡ o.lent
  pub long : length o'.bytes ≡ length o.bytes
  pub is : (c rest : List ℕ) → short c ≡ true → drop at s ≡ Rattle.journal.specs.Head.entry_text c ++ rest
      → Puts writes o o' (comma more ++ (before_certificate ++ quoted (in_base64 c))) × MatchOption r ⊥ (λ e. drop e s ≡ rest)

pub record GroupPut (writes more : Bool) (s : List ℕ) (at : ℕ) (o o' : Out) (r : Option ℕ) : Type 0 where
  pub same : o'.lent ≡ o.lent
  pub long : length o'.bytes ≡ length o.bytes
  pub is : (g : Group) (rest : List ℕ) → group_good g ≡ true → drop at s ≡ group_text g ++ rest
      → Puts writes o o' (comma more ++ certificates_part (in_base64 g.certificate) (map in_base64 g.issuers)) × MatchOption r ⊥ (λ e. drop e s ≡ rest)

-- the number in four bytes, if they are there
pub record FourAt (j : List ℕ) (at v : ℕ) : Type 0 where
  pub room : at + 4 ≤ length j
  pub small : v < 4294967296
  pub is : v ≡ count_at j at 4

abbrev pub FourRead : List ℕ → ℕ → Option ℕ → Type 0
FourRead j at r = MatchOption r (length j < at + 4) (FourAt j at)

-- the place after a section, if it is there
pub record SectionAt (j : List ℕ) (at e : ℕ) : Type 0 where
  pub inside : e ≤ length j
  pub is : e ≡ section_end j at

abbrev pub SectionRead : List ℕ → ℕ → Option ℕ → Type 0
SectionRead j at r = MatchOption r (length j < section_end j at) (SectionAt j at)

pub record PairPut (writes : Bool) (j : List ℕ) (at : ℕ) (o o' : Out) (r : Option ℕ) : Type 0 where
  pub same : o'.lent ≡ o.lent
  pub long : length o'.bytes ≡ length o.bytes
  pub is : (x : TextPair) (rest : List ℕ) → GoodPair x → drop at j ≡ pair_spelled x ++ rest
      → Puts writes o o' (receipts_part x.texts) × MatchOption r ⊥ (λ e. drop e j ≡ rest)

pub record ElementsPut (writes : Bool) (j : List ℕ) (at : ℕ) (s : List ℕ) (k : ℕ) (o o' : Out) (r : Option (Unit {0})) : Type 0 where
  pub same : o'.lent ≡ o.lent
  pub long : length o'.bytes ≡ length o.bytes
  pub is : (ps : List TextPair) (gs : List Group) → GoodPairs ps → every group_good gs ≡ true → length ps ≡ k → length gs ≡ k
      → drop at j ≡ pairs_spelled ps → s ≡ groups_text gs → Puts writes o o' (listed element_text false (elements_for ps gs)) × IsSome r

pub record ExportPut (writes : Bool) (j s : List ℕ) (k : ℕ) (o o' : Out) : Type 0 where
  pub same : o'.lent ≡ o.lent
  pub long : length o'.bytes ≡ length o.bytes
  pub is : (ps : List TextPair) (gs : List Group) → GoodPairs ps → every group_good gs ≡ true → length ps ≡ k → length gs ≡ k
      → section_end j 7 ≤ length j → drop (section_end j 7) j ≡ pairs_spelled ps → s ≡ groups_text gs → Puts writes o o' (export_text (elements_for ps gs))
