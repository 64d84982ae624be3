-- Journals and calls from before the limit of an amount was raised: "Every old journal is accepted as before."
-- What is said here holds for every limit that is not above the one of the calls.
use Rattle.std.specs.Prelude.{ℕ, ◌≤◌, ◌≡◌, Bool, true, false, List, ◌∷◌, ◌++◌, length}
use Rattle.primitives.specs.Bytes.{AllBytes}
use Rattle.receipt.specs.Amount.{amount_limit}
use Rattle.receipt.specs.Settings.{TypedSettings}
use Rattle.receipt.specs.Details.{amounts_within}
use Rattle.receipt.specs.declared.settings.Settings.{Settings}
use Rattle.receipt.specs.declared.details.Details.{Details}
use Rattle.journal.specs.Opening.{open_number}
use Rattle.journal.specs.Issuing.{issue_number_within, issued, issued_within, issue_buffer, issue_buffer_within}
use Rattle.journal.specs.Checking.{accepted, take_over}
use Rattle.journal.specs.Valid.{Placed, all_placed, Valid, ValidWithin, state_after}
use Rattle.journal.specs.Calls.{Call, TypedCalls, journal_of, opening, calls_within}
use Rattle.journal.specs.declared.state.State.{State}

-- a journal that was valid under a limit is valid, with the same CSP, ID and pairs, and Take over gives their state
pub record StaysAccepted (limit : ℕ) (j key : List ℕ) (n : ℕ) (v : ValidWithin limit j key n) : Type 0 where
  pub valid : Valid j key n
  pub owner : valid.owner ≡ v.owner
  pub pairs : valid.pairs ≡ v.pairs
  pub taken : take_over j key n ≡ accepted (state_after v.owner key n v.pairs)

-- every old journal is accepted as before
pub record OldJournalsStayAccepted : Type 0 where
  -- "each from -9,999,999,999 to 9,999,999,999": the former limit is one of these
  pub former : 9999999999 ≤ amount_limit
  -- a journal that was valid, with number and index 0 and the state that its pairs give
  pub valid : (limit : ℕ) → limit ≤ amount_limit → (j key : List ℕ) (n : ℕ) (v : ValidWithin limit j key n) → StaysAccepted limit j key n v
  -- a journal that a register wrote by any list of calls, refused ones among them, with the state that this register has
  pub written : (limit : ℕ) → limit ≤ amount_limit → (s : Settings) (key : List ℕ) (shared : Bool) (n : ℕ) (buf : List ℕ) → TypedSettings s → AllBytes key
      → open_number s shared n (length buf) ≡ 0 → (cs : List Call) → TypedCalls cs
      → take_over (journal_of (calls_within limit (opening s key shared n buf) cs)) key n ≡ accepted (calls_within limit (opening s key shared n buf) cs).state

-- every old call of Issue is answered as before
pub record OldCallsStay : Type 0 where
  -- with the same number and state, and the same bytes in the buffer, unless it got 9
  pub same : (limit : ℕ) → limit ≤ amount_limit → (st : State) (d : Details) (sig buf : List ℕ)
      → (issue_number_within limit st d sig (length buf) ≡ 9 → ⊥)
      → (issued st d sig (length buf) ≡ issued_within limit st d sig (length buf)) × (issue_buffer st d sig buf ≡ issue_buffer_within limit st d sig buf)
  -- and it got 9 only for an amount beyond the limit
  pub nine : (limit : ℕ) (st : State) (d : Details) (sig : List ℕ) (room : ℕ) → issue_number_within limit st d sig room ≡ 9
      → amounts_within limit d.amounts ≡ false

-- nothing but the limit moves: a valid journal is valid under every limit that its amounts keep
abbrev pub OnlyTheLimitMoved : Type 0
OnlyTheLimitMoved =
    (limit : ℕ) (j key : List ℕ) (n : ℕ) (v : Valid j key n)
    → ((before : List Placed) (x : Placed) (later : List Placed) → all_placed v.owner v.pairs ≡ before ++ (x ∷ later)
    → amounts_within limit x.entry.fields.details.amounts ≡ true)
    → ValidWithin limit j key n
