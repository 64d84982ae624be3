-- What good settings are, in the paper's words and apart from the tests that code follows, and in which order they are asked; the proofs are in
-- proofs/SettingsMeaning.antt.
use Rattle.std.specs.Prelude.{ℕ, suc, ◌≤◌, ◌<◌, Bool, true, List, ◌⊎◌, ◌≡◌, length, get_or}
use Prim.Native.Char.{code}
use Rattle.primitives.specs.Counter.{width_good}
use Rattle.primitives.specs.Questions.{Row, asked_all, question, GivesFirstNo}
use Rattle.receipt.specs.Settings.{csp_good, id_good, serial_good, id_allowed, settings_good, settings_number_for, settings_number, SettingsLengths}
use Rattle.receipt.specs.declared.settings.Name.{Name}
use Rattle.receipt.specs.declared.settings.Settings.{Settings}

-- what the answer to a question means: it is yes exactly where this holds
pub record Means (answer : Bool) (holds : Type 0) : Type 0 where
  pub only : answer ≡ true → holds
  pub always : holds → answer ≡ true

-- ---- letters

-- "A-Z"
pub record Capital (b : ℕ) : Type 0 where
  pub least : code "A" ≤ b
  pub most : b ≤ code "Z"

-- "0-9"
pub record Digit (b : ℕ) : Type 0 where
  pub least : code "0" ≤ b
  pub most : b ≤ code "9"

-- "each 33 to 126 decimal, never '_'"
pub record IdByte (b : ℕ) : Type 0 where
  pub least : 33 ≤ b
  pub most : b ≤ 126
  pub no_mark : b ≡ code "_" → ⊥

-- "a-f"
pub record LowHex (b : ℕ) : Type 0 where
  pub least : code "a" ≤ b
  pub most : b ≤ code "f"

-- "0-9 a-f"
abbrev pub SerialByte : ℕ → Type 0
SerialByte b = Digit b ⊎ LowHex b

-- ---- settings

-- "CSP, the certification provider: two letters A-Z and one digit"
pub record GoodCsp (csp : List ℕ) : Type 0 where
  pub first : Capital (get_or csp 0 0)
  pub second : Capital (get_or csp 1 0)
  pub third : Digit (get_or csp 2 0)

-- "Register ID: 1 to 32 bytes, each 33 to 126 decimal, never '_'"; "a length over 32, or a byte behind the end that isn't zero, makes ID or serial bad"
pub record GoodId (id : Name) : Type 0 where
  pub some : 1 ≤ id.len
  pub most : id.len ≤ 32
  pub letters : (i : ℕ) → i < id.len → IdByte (get_or id.bytes i 0)
  pub zeros : (i : ℕ) → id.len ≤ i → get_or id.bytes i 0 ≡ 0

-- "Serial: 1 to 32 of 0-9 a-f", and zeros after its end
pub record GoodSerial (serial : Name) : Type 0 where
  pub some : 1 ≤ serial.len
  pub most : serial.len ≤ 32
  pub letters : (i : ℕ) → i < serial.len → SerialByte (get_or serial.bytes i 0)
  pub zeros : (i : ℕ) → serial.len ≤ i → get_or serial.bytes i 0 ≡ 0

-- "Width N: counter bytes, 5 to 8"
pub record GoodWidth (n : ℕ) : Type 0 where
  pub least : 5 ≤ n
  pub most : n ≤ 8

-- "32 for a marked ID ending in a digit": if the key is shared, the ID's last byte is no digit
pub record NoDigitIfShared (shared : Bool) (id : Name) : Type 0 where
  pub last : shared ≡ true → (i : ℕ) → suc i ≡ id.len → Digit (get_or id.bytes i 0) → ⊥

-- CSP, ID and serial
pub record AllGood (s : Settings) : Type 0 where
  pub csp : GoodCsp s.csp
  pub id : GoodId s.id
  pub serial : GoodSerial s.serial

-- ---- what the answers mean

abbrev pub CspGoodMeans : Type 0
CspGoodMeans = (csp : List ℕ) → Means (csp_good csp) (GoodCsp csp)

abbrev pub IdGoodMeans : Type 0
IdGoodMeans = (id : Name) → length id.bytes ≡ 32 → Means (id_good id) (GoodId id)

abbrev pub SerialGoodMeans : Type 0
SerialGoodMeans = (serial : Name) → length serial.bytes ≡ 32 → Means (serial_good serial) (GoodSerial serial)

abbrev pub WidthGoodMeans : Type 0
WidthGoodMeans = (n : ℕ) → Means (width_good n) (GoodWidth n)

-- of an ID that has a last byte
abbrev pub IdAllowedMeans : Type 0
IdAllowedMeans = (shared : Bool) (id : Name) → 1 ≤ id.len → Means (id_allowed shared id) (NoDigitIfShared shared id)

abbrev pub SettingsGoodMeans : Type 0
SettingsGoodMeans = (s : Settings) → SettingsLengths s → Means (settings_good s) (AllGood s)

-- ---- the questions in their order

-- "CSP good? 1. ID good? 2. Serial good? 3. N from 5 to 8? 4.", with 32 "between 2 and 3", and then other questions
abbrev pub settings_row : Settings → Bool → ℕ → Row → Row
settings_row s shared n rest =
    question (GoodCsp s.csp) 1
    (question (GoodId s.id) 2
    (question (NoDigitIfShared shared s.id) 32 (question (GoodSerial s.serial) 3 (question (GoodWidth n) 4 rest))))

-- the number is that of the first "no"
abbrev pub SettingsNumberIsFirstNo : Type 0
SettingsNumberIsFirstNo =
    (s : Settings) (shared : Bool) (n : ℕ) → SettingsLengths s → GivesFirstNo (settings_number_for s shared n 0) (settings_row s shared n asked_all)

-- questions 1 to 4 alone, and then other questions
abbrev pub one_to_four : Settings → ℕ → Row → Row
one_to_four s n rest =
    question (GoodCsp s.csp) 1 (question (GoodId s.id) 2 (question (GoodSerial s.serial) 3 (question (GoodWidth n) 4 rest)))

abbrev pub OneToFourIsFirstNo : Type 0
OneToFourIsFirstNo = (s : Settings) (n : ℕ) → SettingsLengths s → GivesFirstNo (settings_number s n 0) (one_to_four s n asked_all)
