-- Lists of calls that mix Issue, lists of receipts and Change: "Each Issue gets the state that the call before it returned and the buffer as that call left
-- it", and so does each list and each Change.
use Rattle.std.specs.Prelude.{ℕ, ◌<◌, ◌≡◌, Bool, cond, List, [], ◌∷◌, ◌++◌, map, length, take}
use Rattle.primitives.specs.Bytes.{AllBytes}
use Rattle.receipt.specs.Amount.{amount_limit}
use Rattle.receipt.specs.declared.settings.Name.{Name}
use Rattle.receipt.specs.declared.settings.Settings.{Settings}
use Rattle.receipt.specs.declared.details.Details.{Details}
use Rattle.receipt.specs.declared.entry.Entry.{Entry}
use Rattle.primitives.specs.Questions.{ifZero}
use Rattle.journal.specs.Opening.{opened, open_buffer}
use Rattle.journal.specs.Issuing.{issue_number, issued_within, issue_buffer_within, given_signature}
use Rattle.journal.specs.Listing.{issued_list, issued_list_within, list_buffer_within}
use Rattle.journal.specs.Changing.{change_number, changed, change_buffer}
use Rattle.journal.specs.Receipts.{Receipt, receipts_in}
use Rattle.journal.specs.State.{TypedName}
use Rattle.journal.specs.Valid.{Pair}
use Rattle.journal.specs.declared.state.State.{State}

-- ---- calls

-- what Issue is given
pub record Order : Type 0 where
  pub details : Details
  pub signature : List ℕ

-- what Issue is given for a receipt of a list: "all issued with a failed device"
unfoldable pub failed_order : Details → Order
failed_order d = record { details = d; signature = [] }

-- a call of Issue, of a list of receipts, or of Change with a serial
pub data Call : Type 0 where
  issue : Order → Call
  issue_list : List Details → Call
  change : Name → Call

-- what the code's types say of them
pub record TypedOrder (c : Order) : Type 0 where
  pub number : c.details.number < 4294967296
  pub amounts : length c.details.amounts ≡ 5
  pub bytes : AllBytes c.signature

pub data TypedList : List Details → Type 0 where
  nothing : TypedList []
  also : {d : Details} {ds : List Details} → TypedOrder (failed_order d) → TypedList ds → TypedList (d ∷ ds)

pub data TypedCall : Call → Type 0 where
  issues : {c : Order} → TypedOrder c → TypedCall (issue c)
  lists : {ds : List Details} → TypedList ds → TypedCall (issue_list ds)
  changes : {s : Name} → TypedName s → TypedCall (change s)

pub data TypedCalls : List Call → Type 0 where
  none : TypedCalls []
  more : {c : Call} {cs : List Call} → TypedCall c → TypedCalls cs → TypedCalls (c ∷ cs)

-- ---- registers

-- a register: its state and its buffer
pub record Register : Type 0 where
  pub state : State
  pub buf : List ℕ

-- "A register's journal is its buffer up to that length."
unfoldable pub journal_of : Register → List ℕ
journal_of g = take g.state.length g.buf

-- what Open leaves; the key is shared with other registers, or it is not
unfoldable pub opening : Settings → List ℕ → Bool → ℕ → List ℕ → Register
opening s key shared n buf = record { state = (opened s key shared n (length buf)).state; buf = open_buffer s shared n buf }

-- the number of a call: 0, or the one with which the call, or a receipt of its list, was refused
unfoldable pub number_of : Register → Call → ℕ
number_of g (issue c) = issue_number g.state c.details c.signature (length g.buf)
number_of g (issue_list ds) = (issued_list g.state ds g.buf).number
number_of g (change s) = change_number g.state s (length g.buf)

-- the register after a call, and after calls, with the limit of an amount as a parameter
unfoldable pub call_within : ℕ → Register → Call → Register
call_within limit g (issue c) =
    record {
      state = (issued_within limit g.state c.details c.signature (length g.buf)).state;
      buf = issue_buffer_within limit g.state c.details c.signature g.buf;
    }
call_within limit g (issue_list ds) =
    record { state = (issued_list_within limit g.state ds g.buf).state; buf = list_buffer_within limit g.state ds g.buf }
call_within limit g (change s) = record { state = (changed g.state s (length g.buf)).state; buf = change_buffer g.state s g.buf }

unfoldable pub calls_within : ℕ → Register → List Call → Register
calls_within limit g [] = g
calls_within limit g (c ∷ cs) = calls_within limit (call_within limit g c) cs

-- and under the limit that the calls have
abbrev pub call : Register → Call → Register
call g c = call_within amount_limit g c

abbrev pub calls : Register → List Call → Register
calls g cs = calls_within amount_limit g cs

-- the numbers of all calls, in order
unfoldable pub numbers_of : Register → List Call → List ℕ
numbers_of g [] = []
numbers_of g (c ∷ cs) = number_of g c ∷ numbers_of (call g c) cs

-- ---- their receipts

-- "The receipt of an Issue call is its details with its 64 signature bytes or the failed device."
unfoldable pub receipt_of_call : Order → Receipt
receipt_of_call c = record { details = c.details; signature = given_signature c.signature }

-- the receipts of the first details of a list, so many of them, with a failed device
abbrev pub first_receipts : ℕ → List Details → List Receipt
first_receipts k ds = map (λ (d : Details). receipt_of_call (failed_order d)) (take k ds)

-- the receipts that a list issues: the first ones, as many as the call says
unfoldable pub receipts_of_list : Register → List Details → List Receipt
receipts_of_list g ds = first_receipts (issued_list g.state ds g.buf).count ds

-- the receipts that the calls issue, in order
unfoldable pub receipts_of : Register → List Call → List Receipt
receipts_of g [] = []
receipts_of g (issue c ∷ cs) =
    ifZero (number_of g (issue c)) (receipt_of_call c ∷ receipts_of (call g (issue c)) cs) (receipts_of (call g (issue c)) cs)
receipts_of g (issue_list ds ∷ cs) = receipts_of_list g ds ++ receipts_of (call g (issue_list ds)) cs
receipts_of g (change s ∷ cs) = receipts_of (call g (change s)) cs

-- a serial, and the receipts issued under it
pub record Period : Type 0 where
  pub serial : Name
  pub receipts : List Receipt

-- the periods that the calls make: the last one takes the receipts that are issued, or a new serial ends it
unfoldable pub periods_from : Register → Period → List Call → List Period
periods_from g x [] = x ∷ []
periods_from g x (issue c ∷ cs) =
    ifZero (number_of g (issue c)) (periods_from (call g (issue c)) (record { serial = x.serial; receipts = x.receipts ++ (receipt_of_call c ∷ []) }) cs)
    (periods_from (call g (issue c)) x cs)
periods_from g x (issue_list ds ∷ cs) =
    periods_from (call g (issue_list ds)) (record { serial = x.serial; receipts = x.receipts ++ receipts_of_list g ds }) cs
periods_from g x (change s ∷ cs) =
    ifZero (number_of g (change s)) (x ∷ periods_from (call g (change s)) (record { serial = s; receipts = [] }) cs)
    (periods_from (call g (change s)) x cs)

-- the periods of a journal's pairs
unfoldable pub periods_in : List Pair → List Period
periods_in [] = []
periods_in (p ∷ ps) = record { serial = p.serial; receipts = receipts_in p.entries } ∷ periods_in ps

-- ---- a journal written again

-- what issues the receipt of an entry again: with its 64 signature bytes, or with no bytes if the device had failed
unfoldable pub order_of : Entry → Order
order_of e = record { details = e.fields.details; signature = cond e.signature.failed [] e.signature.bytes }

-- "one Issue for each entry, in order"
unfoldable pub issues_of : List Entry → List Call
issues_of [] = []
issues_of (e ∷ es) = issue (order_of e) ∷ issues_of es

-- "at the start of each later pair, a Change to that pair's serial"
unfoldable pub later_calls : List Pair → List Call
later_calls [] = []
later_calls (p ∷ ps) = change p.serial ∷ (issues_of p.entries ++ later_calls ps)

-- "the list that writes a journal again opens with its first serial"
unfoldable pub calls_of : List Pair → List Call
calls_of [] = []
calls_of (p ∷ ps) = issues_of p.entries ++ later_calls ps
