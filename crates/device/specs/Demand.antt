-- Demand 3 in bytes: what a C program holds after ditgrux_open or ditgrux_open_shared and a list of ditgrux_issue, ditgrux_issue_list and ditgrux_change, and
-- what ditgrux_take_over answers.
use Rattle.std.specs.Prelude.{ℕ, ◌<◌, ◌≡◌, Bool, true, false, List, [], ◌∷◌, ◌++◌, map, pos, length, take, replicate, get_or}
use Rattle.primitives.specs.Bytes.{AllBytes}
use Rattle.primitives.specs.Counter.{fits_in}
use Rattle.primitives.specs.Questions.{ifZero}
use Rattle.receipt.specs.Settings.{name_text, name_of}
use Rattle.receipt.specs.declared.settings.Settings.{Settings}
use Rattle.receipt.specs.declared.details.Details.{Details}
use Rattle.receipt.specs.declared.entry.Entry.{Entry}
use Rattle.journal.specs.Receipts.{Receipt, receipts_in, sum}
use Rattle.journal.specs.Valid.{Pair, entries_in, state_after, Valid, head_of}
use Rattle.journal.specs.Calls.{Call, issue, issue_list, change, Register, opening, numbers_of, receipt_of_call, first_receipts, Period, periods_in, order_of}
use Rattle.device.specs.Layout.{state_bytes, settings_of, width_of, key_of, state_of, kept}
use Rattle.device.specs.Details.{kind_number, list_in}
use Rattle.device.specs.Calls.{settings_from, width_with, settings_answer, settings_buffer, Slices, opened_number, opened_slices, IssueCall, call_with, order_in, issued_number, issued_slices, listed_number, listed_count, listed_slices, changed_number, changed_slices, take_over_answer}

-- ---- lists of calls of ditgrux_issue, ditgrux_issue_list and ditgrux_change

-- what C's types say of a call: numbers of 32 bits, amounts of 64 with their signs, and bytes
pub record TypedIssueCall (c : IssueCall) : Type 0 where
  pub number : c.number < 4294967296
  pub year : c.year < 4294967296
  pub month : c.month < 4294967296
  pub day : c.day < 4294967296
  pub hour : c.hour < 4294967296
  pub minute : c.minute < 4294967296
  pub second : c.second < 4294967296
  pub standard : fits_in 8 c.standard ≡ true
  pub reduced1 : fits_in 8 c.reduced1 ≡ true
  pub reduced2 : fits_in 8 c.reduced2 ≡ true
  pub zero : fits_in 8 c.zero ≡ true
  pub special : fits_in 8 c.special ≡ true
  pub kind : c.kind < 4294967296
  pub signature : AllBytes c.signature

-- a call of ditgrux_issue, of ditgrux_issue_list with the bytes of a list, or of ditgrux_change with the bytes of a serial
pub data CallFromC : Type 0 where
  issuing : IssueCall → CallFromC
  listing : List ℕ → CallFromC
  changing : List ℕ → CallFromC

pub data TypedCallFromC : CallFromC → Type 0 where
  issues : {c : IssueCall} → TypedIssueCall c → TypedCallFromC (issuing c)
  lists : {list : List ℕ} → AllBytes list → TypedCallFromC (listing list)
  changes : {serial : List ℕ} → AllBytes serial → length serial < 18446744073709551616 → TypedCallFromC (changing serial)

pub data TypedCallsFromC : List CallFromC → Type 0 where
  none : TypedCallsFromC []
  more : {c : CallFromC} {cs : List CallFromC} → TypedCallFromC c → TypedCallsFromC cs → TypedCallsFromC (c ∷ cs)

-- the call of the journal that it makes
unfoldable pub call_in : CallFromC → Call
call_in (issuing c) = issue (order_in c)
call_in (listing list) = issue_list (list_in list)
call_in (changing serial) = change (name_of serial)

-- what it returns
unfoldable pub number_from_c : Slices → CallFromC → ℕ
number_from_c g (issuing c) = issued_number g c
number_from_c g (listing list) = listed_number g list
number_from_c g (changing serial) = changed_number g serial

-- what it leaves
unfoldable pub slices_after : Slices → CallFromC → Slices
slices_after g (issuing c) = issued_slices g c
slices_after g (listing list) = listed_slices g list
slices_after g (changing serial) = changed_slices g serial

-- "Each Issue gets the state that the call before it returned and the buffer as that call left it", and so does each list and each Change
unfoldable pub slices_after_all : Slices → List CallFromC → Slices
slices_after_all g [] = g
slices_after_all g (c ∷ cs) = slices_after_all (slices_after g c) cs

-- what each call returns
unfoldable pub numbers_from_c : Slices → List CallFromC → List ℕ
numbers_from_c g [] = []
numbers_from_c g (c ∷ cs) = number_from_c g c ∷ numbers_from_c (slices_after g c) cs

-- the receipts that a call of ditgrux_issue_list issues: the first ones, as many as it says
unfoldable pub receipts_of_list_from_c : Slices → List ℕ → List Receipt
receipts_of_list_from_c g list = first_receipts (listed_count g list) (list_in list)

-- the receipts that the calls issue, in order: that of each ditgrux_issue that returns 0, and those of each ditgrux_issue_list
unfoldable pub receipts_from_c : Slices → List CallFromC → List Receipt
receipts_from_c g [] = []
receipts_from_c g (issuing c ∷ cs) =
    ifZero (issued_number g c) (receipt_of_call (order_in c) ∷ receipts_from_c (issued_slices g c) cs) (receipts_from_c (issued_slices g c) cs)
receipts_from_c g (listing list ∷ cs) = receipts_of_list_from_c g list ++ receipts_from_c (listed_slices g list) cs
receipts_from_c g (changing serial ∷ cs) = receipts_from_c (changed_slices g serial) cs

-- the periods that the calls make: a ditgrux_change that returns 0 begins a new one
unfoldable pub periods_from_c : Slices → Period → List CallFromC → List Period
periods_from_c g x [] = x ∷ []
periods_from_c g x (issuing c ∷ cs) =
    ifZero (issued_number g c)
    (periods_from_c (issued_slices g c) (record { serial = x.serial; receipts = x.receipts ++ (receipt_of_call (order_in c) ∷ []) }) cs)
    (periods_from_c (issued_slices g c) x cs)
periods_from_c g x (listing list ∷ cs) =
    periods_from_c (listed_slices g list) (record { serial = x.serial; receipts = x.receipts ++ receipts_of_list_from_c g list }) cs
periods_from_c g x (changing serial ∷ cs) =
    ifZero (changed_number g serial) (x ∷ periods_from_c (changed_slices g serial) (record { serial = name_of serial; receipts = [] }) cs)
    (periods_from_c (changed_slices g serial) x cs)

-- the journal: as many bytes as ditgrux_journal_length says
unfoldable pub journal_in : Slices → List ℕ
journal_in g = take (state_of g.state).length g.journal

-- ---- what is accepted

-- "Accepted means that Take over returns no number, which is so exactly for a valid journal": with a key of 32 bytes and a state of 447
abbrev pub AcceptedIsValidInC : Type 0
AcceptedIsValidInC =
    (j key : List ℕ) (n size : ℕ) → AllBytes j
    → ((take_over_answer j key n size).number ≡ 0 → (size ≡ 447) × (length key ≡ 32) × Valid j key n)
    × (size ≡ 447 → length key ≡ 32 → Valid j key n → (take_over_answer j key n size).number ≡ 0)

-- and its state is that of its pairs: where the key is 32 bytes long, ditgrux_take_over writes the very bytes of that state into any slice of 447 bytes
abbrev pub StateOfJournalInC : Type 0
StateOfJournalInC =
    (j key : List ℕ) (n : ℕ) → length key ≡ 32 → (v : Valid j key n) → (out : List ℕ) → length out ≡ 447
    → (take_over_answer j key n (length out) ≡ record { number = 0; index = 0; state = state_after v.owner key n v.pairs })
    × (kept out (take_over_answer j key n (length out)).state ≡ state_bytes (state_after v.owner key n v.pairs))

-- ---- what is written is accepted

-- the register of the journal that ditgrux_open, or ditgrux_open_shared where the key is shared, makes of these settings and this buffer
abbrev pub register_in : List ℕ → Bool → List ℕ → Register
register_in settings shared buffer = opening (settings_of settings) (key_of settings) shared (width_of settings) buffer

-- what holds of the slices that the calls left, and of the receipts rs that they issued and the periods xs that they made, since ditgrux_open or
-- ditgrux_open_shared got these settings
pub record WrittenInC (settings : List ℕ) (left : Slices) (rs : List Receipt) (xs : List Period) : Type 0 where
  -- ditgrux_take_over accepts the journal under the key and the width of the settings, with the register's own state
  pub taken : take_over_answer (journal_in left) (key_of settings) (width_of settings) 447 ≡ record { number = 0; index = 0; state = state_of left.state }
  -- the bytes that it writes into any state's slice are those of the register's state
  pub state : (out : List ℕ) → length out ≡ 447 → kept out (state_of left.state) ≡ left.state
  -- the journal is valid, and its receipts are those of the calls, in order
  pub valid : Valid (journal_in left) (key_of settings) (width_of settings)
  pub receipts : (v : Valid (journal_in left) (key_of settings) (width_of settings)) → receipts_in (entries_in v.pairs) ≡ rs
  -- each under the serial that was the newest when it was issued
  pub periods : (v : Valid (journal_in left) (key_of settings) (width_of settings)) → periods_in v.pairs ≡ xs
  -- the counter that ditgrux_counter returns is the sum of their amounts
  pub counter : (state_of left.state).counter ≡ sum rs

-- from a ditgrux_open or a ditgrux_open_shared that returned 0, after every list of calls; and they return the numbers of the journal's calls
abbrev pub WrittenIsAcceptedInC : Type 0
WrittenIsAcceptedInC =
    (settings : List ℕ) (shared : Bool) (g : Slices) → AllBytes settings → length g.journal < 18446744073709551616 → opened_number settings shared g ≡ 0
    → (cs : List CallFromC) → TypedCallsFromC cs
    → WrittenInC settings (slices_after_all (opened_slices settings shared g) cs) (receipts_from_c (opened_slices settings shared g) cs)
    (periods_from_c (opened_slices settings shared g) (record { serial = (settings_of settings).serial; receipts = [] }) cs)
    × (numbers_from_c (opened_slices settings shared g) cs ≡ numbers_of (register_in settings shared g.journal) (map call_in cs))

-- ---- what is accepted is written

-- CSP, ID and serial of a head, as ditgrux_settings makes settings of them
abbrev pub settings_again : Settings → Settings
settings_again s = settings_from s.csp (name_text s.id) (name_text s.serial)

-- the call with these details
abbrev pub call_with_details : Details → List ℕ → IssueCall
call_with_details d signature =
    call_with d.number d.date.year d.date.month d.date.day d.date.hour d.date.minute d.date.second (get_or d.amounts 0 (pos 0))
    (get_or d.amounts 1 (pos 0)) (get_or d.amounts 2 (pos 0)) (get_or d.amounts 3 (pos 0)) (get_or d.amounts 4 (pos 0)) (kind_number d.kind) signature

-- the call that issues the receipt of an entry: with its 64 signature bytes, or with none where the device had failed
unfoldable pub issue_call_of : Entry → CallFromC
issue_call_of e = issuing (call_with_details e.fields.details (order_of e).signature)

-- a ditgrux_change to its serial at the start of each later pair, and a ditgrux_issue for each entry
unfoldable pub later_from_c : List Pair → List CallFromC
later_from_c [] = []
later_from_c (p ∷ ps) = changing (name_text p.serial) ∷ (map issue_call_of p.entries ++ later_from_c ps)

unfoldable pub calls_from_c : List Pair → List CallFromC
calls_from_c [] = []
calls_from_c (p ∷ ps) = map issue_call_of p.entries ++ later_from_c ps

-- what holds where the pairs ps of the journal j are written again, from the slices g that ditgrux_open left
pub record AgainInC (j key : List ℕ) (n : ℕ) (ps : List Pair) (g : Slices) : Type 0 where
  -- calls such as C's types allow: each returns 0
  pub typed : TypedCallsFromC (calls_from_c ps)
  pub none : numbers_from_c g (calls_from_c ps) ≡ replicate (length (calls_from_c ps)) 0
  -- the buffer is the journal, byte by byte
  pub journal : (slices_after_all g (calls_from_c ps)).journal ≡ j
  -- the state's bytes are those that ditgrux_take_over writes into any state's slice
  pub state : (out : List ℕ) → length out ≡ 447 → (slices_after_all g (calls_from_c ps)).state ≡ kept out (take_over_answer j key n 447).state
  -- the counter that ditgrux_counter returns is the sum of the amounts
  pub counter : (state_of (slices_after_all g (calls_from_c ps)).state).counter ≡ sum (receipts_in (entries_in ps))

-- for every accepted journal: ditgrux_settings returns 0 with the CSP, ID and serial of its head and the key and width under which it was accepted,
-- ditgrux_open returns 0 with what it writes "and any buffer of its length", and then the pairs are written again
abbrev pub AcceptedIsWrittenInC : Type 0
AcceptedIsWrittenInC =
    (j key : List ℕ) (n : ℕ) → length j < 18446744073709551616 → AllBytes key → length key ≡ 32 → (v : Valid j key n)
    → (out : List ℕ) → length out ≡ 123 → (g : Slices) → length g.journal ≡ length j → length g.state ≡ 447
    → (settings_answer (settings_again (head_of v.owner v.pairs)) (width_with key n) (length out) ≡ 0)
    × (opened_number (settings_buffer (settings_again (head_of v.owner v.pairs)) key n out) false g ≡ 0)
    × AgainInC j key n v.pairs (opened_slices (settings_buffer (settings_again (head_of v.owner v.pairs)) key n out) false g)

-- demand 3 of the C library as one theorem
pub record WritingAndCheckingAgreeInC : Type 0 where
  pub accepted : AcceptedIsValidInC
  pub state : StateOfJournalInC
  pub forth : WrittenIsAcceptedInC
  pub back : AcceptedIsWrittenInC
