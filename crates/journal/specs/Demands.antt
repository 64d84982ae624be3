-- What must hold of journals and calls, as statements; the proofs are in proofs/.
use Rattle.std.specs.Prelude.{ℕ, ◌+◌, ◌≤◌, ◌<◌, ◌≡◌, List, [], ◌∷◌, ◌++◌, length, take, drop, replicate, get_or, Bool, true, false}
use Rattle.primitives.specs.Bytes.{AllBytes}
use Rattle.primitives.specs.Place.{overwrite}
use Rattle.primitives.specs.Number.{bytes_of}
use Rattle.receipt.specs.Chain.{hash_input}
use Rattle.receipt.specs.Form.{second_dot}
use Rattle.receipt.specs.Compact.{compact, no_entry}
use Rattle.receipt.specs.LineLaws.{LineOf}
use Rattle.receipt.specs.declared.settings.Name.{Name}
use Rattle.receipt.specs.declared.settings.Settings.{Settings}
use Rattle.receipt.specs.declared.details.Details.{Details}
use Rattle.receipt.specs.declared.entry.Entry.{Entry}
use Rattle.journal.specs.Head.{section, entry_text, there, text_at, head_good, head_settings, serial_at, start_there}
use Rattle.journal.specs.State.{unopened, count_place_now}
use Rattle.receipt.specs.Settings.{name_text, TypedSettings}
use Rattle.journal.specs.Opening.{open_number, opened, open_buffer}
use Rattle.journal.specs.Issuing.{text_of, issue_number, issued, issue_buffer}
use Rattle.journal.specs.Listing.{issued_list, list_buffer}
use Rattle.journal.specs.Changing.{changed, change_buffer}
use Rattle.journal.specs.Preparing.{prepared_text, prepare_number, prepare_answer, prepare_buffer}
use Rattle.journal.specs.Checking.{refused, accepted, check_head, take_over, full, step_checked, entry_checked, read_by_steps, serial_checked, settings_checked}
use Rattle.journal.specs.Parts.{check_steps}
use Rattle.journal.specs.Receipts.{receipts_in, sum}
use Rattle.journal.specs.Valid.{Owner, Pair, Placed, pair_texts, owner_text, journal_text, all_placed, entries_in, state_after, Valid, head_of}
use Rattle.journal.specs.FirstNo.{NoAt}
use Rattle.journal.specs.Calls.{Call, TypedCalls, Register, journal_of, opening, calls, numbers_of, receipts_of, Period, periods_from, periods_in, calls_of}
use Rattle.journal.specs.declared.state.State.{State}
use Rattle.journal.specs.Step.{fresh, sound}
use Rattle.primitives.specs.Aes.{key_schedule}

-- "Accepted means that Take over returns no number, which is so exactly for a valid journal"
abbrev pub AcceptedIsValid : Type 0
AcceptedIsValid =
    (j key : List ℕ) (n : ℕ) → AllBytes j → ((take_over j key n).number ≡ 0 → Valid j key n) × (Valid j key n → (take_over j key n).number ≡ 0)

-- the state that it returns is the one of the journal's pairs
abbrev pub StateOfJournal : Type 0
StateOfJournal = (j key : List ℕ) (n : ℕ) (v : Valid j key n) → take_over j key n ≡ accepted (state_after v.owner key n v.pairs)

-- a journal is valid with only one CSP, one ID and one list of pairs
abbrev pub OneReading : Type 0
OneReading = (j key : List ℕ) (n : ℕ) (v w : Valid j key n) → (v.owner ≡ w.owner) × (v.pairs ≡ w.pairs)

-- ---- demand 3: lists of calls

-- what holds after the calls cs from the register g on, whose last period is x
pub record Written (key : List ℕ) (n : ℕ) (g : Register) (x : Period) (cs : List Call) : Type 0 where
  -- the journal is accepted, with the register's own state
  pub taken : take_over (journal_of (calls g cs)) key n ≡ accepted (calls g cs).state
  -- its receipts are those of the calls that were not refused, in order
  pub valid : Valid (journal_of (calls g cs)) key n
  pub receipts : (v : Valid (journal_of (calls g cs)) key n) → receipts_in (entries_in v.pairs) ≡ receipts_of g cs
  -- and each is under the serial that was the newest when it was issued
  pub periods : (v : Valid (journal_of (calls g cs)) key n) → periods_in v.pairs ≡ periods_from g x cs
  -- the counter is the sum of their amounts
  pub counter : (calls g cs).state.counter ≡ sum (receipts_of g cs)

-- from an Open that was not refused, marked for a shared key or not, after every list of calls
abbrev pub WrittenIsAccepted : Type 0
WrittenIsAccepted =
    (s : Settings) (key : List ℕ) (shared : Bool) (n : ℕ) (buf : List ℕ) → TypedSettings s → AllBytes key → open_number s shared n (length buf) ≡ 0
    → (cs : List Call) → TypedCalls cs → Written key n (opening s key shared n buf) (record { serial = s.serial; receipts = [] }) cs

-- what holds if a valid journal is written again, into a buffer
pub record Again (j key : List ℕ) (n : ℕ) (s : Settings) (ps : List Pair) (buf : List ℕ) : Type 0 where
  -- "Open with the CSP, ID and serial of its head, the key and N under which it was accepted", "an unmarked Open": not refused
  pub opened : open_number s false n (length buf) ≡ 0
  -- an Issue for each entry and a Change for each later pair, within the code's types: none is refused
  pub typed : TypedCalls (calls_of ps)
  pub none : numbers_of (opening s key false n buf) (calls_of ps) ≡ replicate (length (calls_of ps)) 0
  -- the buffer is the journal, byte by byte
  pub journal : (calls (opening s key false n buf) (calls_of ps)).buf ≡ j
  -- the state is the one that Take over gave
  pub state : (calls (opening s key false n buf) (calls_of ps)).state ≡ (take_over j key n).state
  pub counter : (take_over j key n).state.counter ≡ sum (receipts_in (entries_in ps))

-- for every accepted journal, "and any buffer of its length"
abbrev pub AcceptedIsWritten : Type 0
AcceptedIsWritten =
    (j key : List ℕ) (n : ℕ) → AllBytes key → (v : Valid j key n) (buf : List ℕ) → length buf ≡ length j → Again j key n (head_of v.owner v.pairs) v.pairs buf

-- demand 3 as one theorem: what the writer writes is accepted with its receipts and their sum, and the writer can write again what is accepted
pub record WritingAndCheckingAgree : Type 0 where
  pub accepted : AcceptedIsValid
  pub state : StateOfJournal
  pub reading : OneReading
  pub forth : WrittenIsAccepted
  pub back : AcceptedIsWritten

-- ---- journals

-- a journal that is valid with these pairs
pub record ValidWith (j key : List ℕ) (n : ℕ) (o : Owner) (ps : List Pair) : Type 0 where
  pub valid : Valid j key n
  pub owner : valid.owner ≡ o
  pub pairs : valid.pairs ≡ ps

-- what stands before the count of a pair with this serial, after the pairs ps
abbrev pub before_count : Owner → ℕ → List Pair → Name → List ℕ
before_count o n ps serial = owner_text o ++ (pair_texts o n ps ++ section (name_text serial))

-- "Dropping last entries and lowering the count leaves a valid journal", and so does dropping whole last pairs with them
abbrev pub Dropping : Type 0
Dropping =
    (j key : List ℕ) (n : ℕ) (v : Valid j key n) (before : List Pair) (serial : Name) (kept dropped : List Entry) (later : List Pair)
    → v.pairs ≡ before ++ (record { serial = serial; entries = kept ++ dropped } ∷ later)
    → ValidWith (overwrite (take (length (journal_text v.owner n (before ++ (record { serial = serial; entries = kept } ∷ [])))) j)
    (length (before_count v.owner n before serial)) (bytes_of 4 (length kept))) key n v.owner (before ++ (record { serial = serial; entries = kept } ∷ []))

-- "Within one journal rising numbers make every hash input for an IV different", across its pairs
abbrev pub InputsDiffer : Type 0
InputsDiffer =
    (j key : List ℕ) (n : ℕ) (v : Valid j key n) (a b c : List Entry) (e f : Entry) → entries_in v.pairs ≡ a ++ (e ∷ (b ++ (f ∷ c)))
    → hash_input v.owner.id e.fields.details.number ≡ hash_input v.owner.id f.fields.details.number → ⊥

-- every receipt of a valid journal has an optical line: Code makes its code, the line is made of that, and is turned back into it
abbrev pub EveryReceiptHasLine : Type 0
EveryReceiptHasLine =
    (j key : List ℕ) (n : ℕ) (v : Valid j key n) (before : List Placed) (x : Placed) (later : List Placed) → all_placed v.owner v.pairs ≡ before ++ (x ∷ later)
    → LineOf (compact x.settings n x.entry)

-- ---- Issue

-- "appends an entry, rewrites the receipts count", that of the open section, "and touches no other byte"
abbrev pub TouchesNoOther : Type 0
TouchesNoOther =
    (st : State) (d : Details) (sig buf : List ℕ) (i : ℕ) → (count_place_now st ≤ i → i < count_place_now st + 4 → ⊥)
    → (st.length ≤ i → i < st.length + length (entry_text (text_of st d sig)) → ⊥) → get_or (issue_buffer st d sig buf) i 0 ≡ get_or buf i 0

-- not refused, it leaves the compact form from two bytes after the old length of the journal up to the new length
abbrev pub FormIsAppended : Type 0
FormIsAppended =
    (st : State) (d : Details) (sig buf : List ℕ) → issue_number st d sig (length buf) ≡ 0
    → ((issued st d sig (length buf)).state.length ≡ st.length + 2 + length (text_of st d sig))
    × (take (length (text_of st d sig)) (drop (st.length + 2) (issue_buffer st d sig buf)) ≡ text_of st d sig)

-- ---- refused calls

-- a refused call leaves buffer and state unchanged; a refused Open, Take over or check of a head or of its settings returns the unopened state
pub record RefusedChangesNothing : Type 0 where
  pub opens : (s : Settings) (key : List ℕ) (shared : Bool) (n : ℕ) (buf : List ℕ) → ((opened s key shared n (length buf)).number ≡ 0 → ⊥)
      → ((opened s key shared n (length buf)).state ≡ unopened) × (open_buffer s shared n buf ≡ buf)
  pub issues : (st : State) (d : Details) (sig buf : List ℕ) → ((issued st d sig (length buf)).number ≡ 0 → ⊥)
      → ((issued st d sig (length buf)).state ≡ st) × (issue_buffer st d sig buf ≡ buf)
  -- "or as given if none was; only the latter, with a number, is a refused call": a list of which none is issued
  pub lists : (st : State) (ds : List Details) (buf : List ℕ) → (issued_list st ds buf).count ≡ 0
      → ((issued_list st ds buf).state ≡ st) × (list_buffer st ds buf ≡ buf)
  pub changes : (st : State) (serial : Name) (buf : List ℕ) → ((changed st serial (length buf)).number ≡ 0 → ⊥)
      → ((changed st serial (length buf)).state ≡ st) × (change_buffer st serial buf ≡ buf)
  pub prepares : (st : State) (d : Details) (out : List ℕ) → ((prepare_answer st d (length out)).number ≡ 0 → ⊥)
      → ((prepare_answer st d (length out)).length ≡ 0) × (prepare_buffer st d out ≡ out)
  pub takes : (j key : List ℕ) (n : ℕ) → ((take_over j key n).number ≡ 0 → ⊥) → (take_over j key n).state ≡ unopened
  pub heads : (j key : List ℕ) (n : ℕ) → ((check_head j key n).number ≡ 0 → ⊥) → (check_head j key n).state ≡ unopened
  pub checks : (st : State) (j : List ℕ) (n : ℕ) → ((check_steps st j n).number ≡ 0 → ⊥) → (check_steps st j n).state ≡ st
  -- the steps for other readers: no entry is found, and the state is the one that was given
  pub settings : (s : Settings) (key : List ℕ) (n : ℕ) → ((settings_checked s key n).number ≡ 0 → ⊥) → (settings_checked s key n).state ≡ unopened
  pub entries : (schedule : List (List ℕ)) (st : State) (text : List ℕ) → ((entry_checked schedule st text).number ≡ 0 → ⊥)
      → ((entry_checked schedule st text).state ≡ st) × ((entry_checked schedule st text).found ≡ no_entry)
  pub serials : (st : State) (serial : Name) → ((serial_checked st serial).number ≡ 0 → ⊥)
      → ((serial_checked st serial).state ≡ st) × ((serial_checked st serial).found ≡ no_entry)
  pub steps : (schedule : List (List ℕ)) (st : State) (j : List ℕ) → ((step_checked schedule st j).number ≡ 0 → ⊥)
      → ((step_checked schedule st j).state ≡ st) × ((step_checked schedule st j).found ≡ no_entry)

-- ---- Prepare

-- the text of Prepare is what stands before the second "." of the form that Issue appends, whatever the signature
abbrev pub PreparedIsIssued : Type 0
PreparedIsIssued = (st : State) (d : Details) (sig : List ℕ) → take (second_dot (text_of st d sig)) (text_of st d sig) ≡ prepared_text st d

-- if Issue is not refused, neither is Prepare with room for its text
abbrev pub PreparedBefore : Type 0
PreparedBefore =
    (st : State) (d : Details) (sig : List ℕ) (room space : ℕ) → issue_number st d sig room ≡ 0 → length (prepared_text st d) ≤ space
    → prepare_number st d space ≡ 0

-- ---- Take over

-- a refusal gives the number and the index of the first question answered no; and if there is such a question, its number and index are the answer
abbrev pub FirstNo : Type 0
FirstNo =
    (j key : List ℕ) (n : ℕ) → AllBytes j
    → (((take_over j key n).number ≡ 0 → ⊥) → NoAt j key n (take_over j key n).number (take_over j key n).index)
    × ((number index : ℕ) → NoAt j key n number index → take_over j key n ≡ refused number index)

-- ---- steps for other readers

-- from the fresh state on, as many steps as a valid journal has bytes read its entries, pair after pair and in order
abbrev pub StepsReadEntries : Type 0
StepsReadEntries =
    (j key : List ℕ) (n : ℕ) (v : Valid j key n) (m : ℕ) → length j ≤ m
    → read_by_steps (key_schedule key) m (fresh (head_of v.owner v.pairs) n key) j ≡ entries_in v.pairs

-- if an entry is left to read and is complete, the step in the journal is that of the entry's bytes
abbrev pub StepIsItsEntry : Type 0
StepIsItsEntry =
    (schedule : List (List ℕ)) (st : State) (j : List ℕ) → length j < 18446744073709551616 → sound st (length j) ≡ true → full st j ≡ false
    → there j st.length ≡ true → step_checked schedule st j ≡ entry_checked schedule st (text_at j st.length)

-- if the section is full and a pair starts at the state's place, the step in the journal is that of the pair's serial
abbrev pub StepIsItsStart : Type 0
StepIsItsStart =
    (schedule : List (List ℕ)) (st : State) (j : List ℕ) → length j < 18446744073709551616 → sound st (length j) ≡ true → full st j ≡ true
    → start_there j st.length ≡ true → step_checked schedule st j ≡ serial_checked st (serial_at j st.length)

-- of a good head, the check is that of its settings
abbrev pub HeadIsItsSettings : Type 0
HeadIsItsSettings = (j key : List ℕ) (n : ℕ) → head_good j ≡ true → check_head j key n ≡ settings_checked (head_settings j) key n
