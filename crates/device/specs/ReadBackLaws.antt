-- What holds of a receipt that is read back. Proved in proofs/ReadBackLaws.antt.
use Rattle.std.specs.Prelude.{ℕ, ◌+◌, ◌-◌, ◌<◌, ◌≡◌, true, List, ◌∷◌, ◌++◌, length, take, drop}
use Rattle.primitives.specs.Bytes.{AllBytes}
use Rattle.primitives.specs.Counter.{width_good}
use Rattle.primitives.specs.Place.{overwrite}
use Rattle.receipt.specs.Settings.{settings_good}
use Rattle.receipt.specs.Compact.{compact}
use Rattle.receipt.specs.Exact.{Spelled}
use Rattle.journal.specs.State.{used}
use Rattle.journal.specs.Valid.{Placed, all_placed, Valid}
use Rattle.journal.specs.Calls.{Order, order_of}
use Rattle.device.specs.Layout.{settings_of, width_of, state_of}
use Rattle.device.specs.Details.{details_bytes, details_in}
use Rattle.device.specs.Calls.{settings_in_buffer, Slices, IssueCall, order_in, issued_number, issued_slices}
use Rattle.device.specs.Demand.{TypedIssueCall}
use Rattle.device.specs.ReadBack.{ReadBack, read_back}

-- what ditgrux_read answers and leaves for the receipt of this call
abbrev pub read_as : Order → List ℕ → ReadBack
read_as c signature = record { number = 0; details = details_bytes c.details; signature = overwrite signature 0 c.signature; length = length c.signature }

-- it returns 0 exactly where the settings are good, the outputs have their lengths and the form is the compact form of an entry under these settings,
-- and then its outputs hold the details of that entry, and its signature
pub record Readable (settings form details signature : List ℕ) : Type 0 where
  pub good : settings_good (settings_of settings) ≡ true
  pub width : width_good (width_of settings) ≡ true
  pub spelled : Spelled (settings_of settings) (width_of settings) form
  pub details_length : length details ≡ 72
  pub signature_length : length signature ≡ 64

abbrev pub ReadIsExact : Type 0
ReadIsExact =
    (settings form details signature : List ℕ) → AllBytes settings → AllBytes form
    → ((read_back settings form details signature).number ≡ 0 → Readable settings form details signature)
    × ((w : Readable settings form details signature) → read_back settings form details signature ≡ read_as (order_of w.spelled.entry) signature)

-- refused, it leaves both outputs as they were, with length 0
abbrev pub RefusedReadChangesNothing : Type 0
RefusedReadChangesNothing =
    (settings form details signature : List ℕ) → ((read_back settings form details signature).number ≡ 0 → ⊥)
    → ((read_back settings form details signature).details ≡ details) × ((read_back settings form details signature).signature ≡ signature)
    × ((read_back settings form details signature).length ≡ 0)

-- so every receipt of an accepted journal is read back, under settings with its CSP, ID and serial and its width
abbrev pub AcceptedIsRead : Type 0
AcceptedIsRead =
    (j key : List ℕ) (n : ℕ) (v : Valid j key n) (before : List Placed) (x : Placed) (later : List Placed) → all_placed v.owner v.pairs ≡ before ++ (x ∷ later)
    → (settings : List ℕ) → AllBytes settings → settings_of settings ≡ x.settings → width_of settings ≡ n
    → (details signature : List ℕ) → length details ≡ 72 → length signature ≡ 64
    → read_back settings (compact x.settings n x.entry) details signature ≡ read_as (order_of x.entry) signature

-- the compact form that a call of ditgrux_issue appended: from two bytes after the old length of the journal up to the new one
unfoldable pub appended : Slices → IssueCall → List ℕ
appended g c =
    take ((state_of (issued_slices g c).state).length - ((state_of g.state).length + 2)) (drop ((state_of g.state).length + 2) (issued_slices g c).journal)

-- where ditgrux_issue returned 0, ditgrux_read gives back what it was given, details and signature, under the settings that ditgrux_settings_in
-- takes from the state for its newest serial
abbrev pub IssuedIsRead : Type 0
IssuedIsRead =
    (g : Slices) → AllBytes g.state → length g.journal < 18446744073709551616 → (c : IssueCall) → TypedIssueCall c → issued_number g c ≡ 0
    → (out details signature : List ℕ) → length out ≡ 123 → length details ≡ 72 → length signature ≡ 64
    → (read_back (settings_in_buffer (state_of g.state) (length (used (state_of g.state).serials) - 1) out) (appended g c) details signature ≡ read_as (order_in c) signature)
    × (details_in (details_bytes (order_in c).details) ≡ (order_in c).details)
