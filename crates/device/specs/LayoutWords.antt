-- The layouts of include/ditgrux.h in its own words, apart from the definitions that code follows: settings, state and details as bytes, and what is read of
-- a state. The proofs are in proofs/LaidOut.antt.
use Rattle.std.specs.Prelude.{ℕ, ◌+◌, ◌-◌, ◌*◌, ◌≤◌, ◌<◌, ◌≡◌, List, [], ◌++◌, ℤ, pos, negsuc, length, get_or, take, drop, replicate}
use Rattle.primitives.specs.Bytes.{AllBytes}
use Rattle.receipt.specs.declared.settings.Name.{Name}
use Rattle.journal.specs.State.{no_name}
use Rattle.journal.specs.declared.state.State.{State}
use Rattle.device.specs.Layout.{settings_of, width_of, key_of, state_of}
use Rattle.device.specs.Details.{no_details, details_in, list_in}
use Rattle.device.specs.Calls.{counter_in, last_number_in, receipt_count_in, journal_length_in, serial_count_in, serial_text_in, settings_in_returned, settings_in_left, IssueCall, order_in}

-- ---- numbers

-- "Numbers are big-endian": four bytes from a place on
abbrev pub four : List ℕ → ℕ → ℕ
four b at = ((get_or b at 0 * 256 + get_or b (at + 1) 0) * 256 + get_or b (at + 2) 0) * 256 + get_or b (at + 3) 0

-- and eight
abbrev pub eight : List ℕ → ℕ → ℕ
eight b at = four b at * 4294967296 + four b (at + 4)

-- "two's complement": what eight bytes with this value stand for; negsuc k is - (k + 1)
pub record InTwos (v : ℕ) (z : ℤ) : Type 0 where
  pub low : v < 9223372036854775808 → z ≡ pos v
  pub high : 9223372036854775808 ≤ v → z ≡ negsuc (18446744073709551615 - v)

-- 32 bytes, "then zeros", and the length in 8
pub record NameThere (b : List ℕ) (at : ℕ) (n : Name) : Type 0 where
  pub bytes : n.bytes ≡ take 32 (drop at b)
  pub len : n.len ≡ eight b (at + 32)

-- ---- "The settings, which ditgrux_settings writes"

pub record SettingsThere (b : List ℕ) : Type 0 where
  pub csp : (settings_of b).csp ≡ take 3 b
  pub id : NameThere b 3 (settings_of b).id
  pub serial : NameThere b 43 (settings_of b).serial
  pub width : width_of b ≡ eight b 83
  pub key : key_of b ≡ take 32 (drop 91 b)

abbrev pub SettingsAreLaidOut : Type 0
SettingsAreLaidOut = (b : List ℕ) → AllBytes b → length b ≡ 123 → SettingsThere b

-- ---- "The state"

pub record StateThere (b : List ℕ) (st : State) : Type 0 where
  pub csp : st.csp ≡ take 3 b
  pub id : NameThere b 3 st.id
  -- "eight serials, 40 bytes each"
  pub most : length st.serials ≡ 8
  pub serials : (i : ℕ) → i < 8 → NameThere b (43 + 40 * i) (get_or st.serials i no_name)
  pub width : st.width ≡ eight b 363
  pub key : st.key ≡ take 32 (drop 371 b)
  pub counter : InTwos (eight b 403) st.counter
  pub last : st.last ≡ four b 411
  pub issued : st.issued ≡ four b 415
  pub chain : st.chain ≡ take 8 (drop 419 b)
  pub length : st.length ≡ eight b 427
  pub since : st.since ≡ four b 435
  pub place : st.place ≡ eight b 439

abbrev pub StateIsLaidOut : Type 0
StateIsLaidOut = (b : List ℕ) → AllBytes b → length b ≡ 447 → StateThere b (state_of b)

-- ---- "The details of a receipt, as bytes"

-- a call of ditgrux_issue with the thirteen numbers that stand in these bytes
pub record CallThere (b : List ℕ) (c : IssueCall) : Type 0 where
  pub number : c.number ≡ four b 0
  pub year : c.year ≡ four b 4
  pub month : c.month ≡ four b 8
  pub day : c.day ≡ four b 12
  pub hour : c.hour ≡ four b 16
  pub minute : c.minute ≡ four b 20
  pub second : c.second ≡ four b 24
  pub kind : c.kind ≡ four b 28
  pub standard : InTwos (eight b 32) c.standard
  pub reduced1 : InTwos (eight b 40) c.reduced1
  pub reduced2 : InTwos (eight b 48) c.reduced2
  pub zero : InTwos (eight b 56) c.zero
  pub special : InTwos (eight b 64) c.special

-- 72 bytes stand for the details of that call
abbrev pub DetailsAreLaidOut : Type 0
DetailsAreLaidOut = (b : List ℕ) (c : IssueCall) → AllBytes b → length b ≡ 72 → CallThere b c → details_in b ≡ (order_in c).details

-- "the details of the receipts, 72 bytes each, one after the other"
abbrev pub ListIsLaidOut : Type 0
ListIsLaidOut =
    (b : List ℕ) (k : ℕ) → length b ≡ 72 * k
    → (length (list_in b) ≡ k) × ((i : ℕ) → i < k → get_or (list_in b) i no_details ≡ details_in (take 72 (drop (72 * i) b)))

-- ---- "what a state says"

-- "How many serials the register has had: those before the first whose length is 0, at most 8."
pub record SerialsBefore (b : List ℕ) (k : ℕ) : Type 0 where
  pub most : k ≤ 8
  pub before : (i : ℕ) → i < k → eight b (75 + 40 * i) ≡ 0 → ⊥
  pub first : k < 8 → eight b (75 + 40 * k) ≡ 0

-- "The turnover counter in cents, the last receipt number, the number of receipts issued and the length of the journal."
pub record Says (b : List ℕ) : Type 0 where
  pub counter : InTwos (eight b 403) (counter_in b)
  pub last : last_number_in b ≡ four b 411
  pub receipts : receipt_count_in b ≡ four b 415
  pub journal : journal_length_in b ≡ eight b 427
  pub serials : SerialsBefore b (serial_count_in b)

-- "All four return 0 if the state is not 447 bytes long"; and 0 serials "if the state has none or is not 447 bytes long"
pub record SaysNothing (b : List ℕ) : Type 0 where
  pub counter : counter_in b ≡ pos 0
  pub last : last_number_in b ≡ 0
  pub receipts : receipt_count_in b ≡ 0
  pub journal : journal_length_in b ≡ 0
  pub serials : serial_count_in b ≡ 0

pub record StateIsReadInC : Type 0 where
  pub long : (b : List ℕ) → AllBytes b → length b ≡ 447 → Says b
  pub other : (b : List ℕ) → (length b ≡ 447 → ⊥) → SaysNothing b

-- ---- one of the serials

-- the text of ditgrux_serial: "number 0 is the first, ditgrux_serials - 1 the newest", at most 32 bytes, whatever a damaged state says; nothing "if there is no
-- such serial, or if the state is not 447 bytes long"
pub record SerialIsReadInC : Type 0 where
  pub there : (b : List ℕ) (which : ℕ) → AllBytes b → length b ≡ 447 → which < serial_count_in b
      → serial_text_in b which ≡ take (eight b (75 + 40 * which)) (take 32 (drop (43 + 40 * which) b))
  pub none : (b : List ℕ) (which : ℕ) → serial_count_in b ≤ which → serial_text_in b which ≡ []

-- "CSP, ID, that serial, width and key", copied byte by byte; zeros in its place if the register has had no such serial; "With a state that is not
-- 447 bytes long the settings are all zero"; "DITGRUX_OUTPUT_SHORT (settings_length is not 123, be it less or more). Refused: `settings` is unchanged."
pub record SettingsInAreRead : Type 0 where
  pub there : (b : List ℕ) (which : ℕ) (out : List ℕ) → AllBytes b → length b ≡ 447 → length out ≡ 123 → which < serial_count_in b
      → settings_in_left b which out ≡ take 43 b ++ take 40 (drop (43 + 40 * which) b) ++ take 40 (drop 363 b)
  pub none : (b : List ℕ) (which : ℕ) (out : List ℕ) → AllBytes b → length b ≡ 447 → length out ≡ 123 → serial_count_in b ≤ which
      → settings_in_left b which out ≡ take 43 b ++ replicate 40 0 ++ take 40 (drop 363 b)
  pub other : (b : List ℕ) (which : ℕ) (out : List ℕ) → (length b ≡ 447 → ⊥) → length out ≡ 123 → settings_in_left b which out ≡ replicate 123 0
  pub done : (out : List ℕ) → length out ≡ 123 → settings_in_returned out ≡ 0
  pub short : (b : List ℕ) (which : ℕ) (out : List ℕ) → (length out ≡ 123 → ⊥) → (settings_in_returned out ≡ 23) × (settings_in_left b which out ≡ out)
