-- One key for several registers: what the mark of an Open asks and promises, and that nothing else has changed.
use Rattle.std.specs.Prelude.{ℕ, ◌<◌, ◌≡◌, Bool, true, false, List, ◌∷◌, ◌++◌, leb, length}
use Rattle.primitives.specs.Bytes.{AllBytes}
use Rattle.primitives.specs.Counter.{width_good}
use Rattle.primitives.specs.Place.{overwrite}
use Rattle.primitives.specs.Questions.{ask, ifZero}
use Rattle.receipt.specs.Chain.{hash_input}
use Rattle.receipt.specs.Settings.{TypedSettings, csp_good, id_good, serial_good, ends_in_digit}
use Rattle.receipt.specs.declared.settings.Settings.{Settings}
use Rattle.receipt.specs.declared.entry.Entry.{Entry}
use Rattle.journal.specs.Head.{head, head_length}
use Rattle.journal.specs.State.{unopened}
use Rattle.journal.specs.Step.{fresh}
use Rattle.journal.specs.Opening.{open_number, opened, open_buffer}
use Rattle.journal.specs.Checking.{accepted, take_over}
use Rattle.journal.specs.Valid.{entries_in, Valid}
use Rattle.journal.specs.Calls.{Call, TypedCalls, Register, journal_of, calls}

-- ---- what is promised

-- "For any two registers so marked and any numbers, equal hash inputs mean equal ID and number."
abbrev pub SharedKeyNeverRepeats : Type 0
SharedKeyNeverRepeats =
    (s t : Settings) (n m room space : ℕ) → TypedSettings s → TypedSettings t → open_number s true n room ≡ 0 → open_number t true m space ≡ 0
    → (a b : ℕ) → a < 4294967296 → b < 4294967296 → hash_input s.id a ≡ hash_input t.id b → (s.id ≡ t.id) × (a ≡ b)

-- the same of two receipts in two valid journals whose IDs do not end in a digit
abbrev pub JournalsNeverRepeat : Type 0
JournalsNeverRepeat =
    (j k key other : List ℕ) (n m : ℕ) (v : Valid j key n) (w : Valid k other m)
    → ends_in_digit v.owner.id ≡ false → ends_in_digit w.owner.id ≡ false
    → (before later : List Entry) (e : Entry) → entries_in v.pairs ≡ before ++ (e ∷ later)
    → (first rest : List Entry) (f : Entry) → entries_in w.pairs ≡ first ++ (f ∷ rest)
    → hash_input v.owner.id e.fields.details.number ≡ hash_input w.owner.id f.fields.details.number
    → (v.owner.id ≡ w.owner.id) × (e.fields.details.number ≡ f.fields.details.number)

-- ---- what is asked

-- "a marked ID ending in a digit", after questions 1 and 2
pub record SharedDigit (s : Settings) (shared : Bool) : Type 0 where
  pub csp : csp_good s.csp ≡ true
  pub id : id_good s.id ≡ true
  pub sharing : shared ≡ true
  pub ends : ends_in_digit s.id ≡ true

-- "Open returns 32" for it, whatever serial, width and buffer are, and for nothing else
abbrev pub SharedDigitGets32 : Type 0
SharedDigitGets32 =
    (s : Settings) (shared : Bool) (n room : ℕ)
    → (open_number s shared n room ≡ 32 → SharedDigit s shared) × (SharedDigit s shared → open_number s shared n room ≡ 32)

-- "not stored": unless the answer is 32, number, state and buffer are those of the unmarked Open
abbrev pub SharedIsNotStored : Type 0
SharedIsNotStored =
    (s : Settings) (key : List ℕ) (shared : Bool) (n : ℕ) (buf : List ℕ) → (open_number s shared n (length buf) ≡ 32 → ⊥)
    → (opened s key shared n (length buf) ≡ opened s key false n (length buf)) × (open_buffer s shared n buf ≡ open_buffer s false n buf)

-- ---- Open from before there was a mark

-- its questions
unfoldable pub open_number_before : Settings → ℕ → ℕ → ℕ
open_number_before s n room =
    ask (csp_good s.csp) 1
    (ask (id_good s.id) 2 (ask (serial_good s.serial) 3 (ask (width_good n) 4 (ask (leb (head_length s) room) 5 0))))

-- what it left where it was not refused
unfoldable pub register_before : Settings → List ℕ → ℕ → List ℕ → Register
register_before s key n buf = record { state = fresh s n key; buf = overwrite buf 0 (head s 0) }

-- the unmarked Open is that Open
pub record UnsharedAsBefore : Type 0 where
  pub answer : (s : Settings) (key : List ℕ) (n room : ℕ)
      → opened s key false n room ≡ record { number = open_number_before s n room; state = ifZero (open_number_before s n room) (fresh s n key) unopened }
  pub buffer : (s : Settings) (n : ℕ) (buf : List ℕ)
      → open_buffer s false n buf ≡ ifZero (open_number_before s n (length buf)) (overwrite buf 0 (head s 0)) buf

-- "Journals from earlier are accepted still": after every list of calls, with the register's own state, whatever the ID ends in
abbrev pub EarlierJournalsStayAccepted : Type 0
EarlierJournalsStayAccepted =
    (s : Settings) (key : List ℕ) (n : ℕ) (buf : List ℕ) → TypedSettings s → AllBytes key → open_number_before s n (length buf) ≡ 0
    → (cs : List Call) → TypedCalls cs
    → take_over (journal_of (calls (register_before s key n buf) cs)) key n ≡ accepted (calls (register_before s key n buf) cs).state
