-- The settings of a register: CSP, register ID and serial, and which of them are good.
use Rattle.std.specs.Prelude.{ℕ, ◌-◌, Bool, true, false, not, ◌&&◌, ◌||◌, List, [], ◌∷◌, ◌++◌, ◌≡◌, leb, eqb, length, get_or, take, drop, replicate}
use Prim.Native.Char.{code}
use Rattle.primitives.specs.Bytes.{AllBytes}
use Rattle.primitives.specs.Counter.{width_good}
use Rattle.primitives.specs.Questions.{ask}
use Rattle.receipt.specs.Texts.{separator}
use Rattle.receipt.specs.declared.settings.Name.{Name}
use Rattle.receipt.specs.declared.settings.Settings.{Settings}
use Rattle.receipt.specs.declared.settings.Letters.{Letters}
use Rattle.receipt.specs.declared.settings.Letters.TheVariants.{Id, Serial, Zero}

-- ---- letters

unfoldable pub between : ℕ → ℕ → ℕ → Bool
between low high b = leb low b && leb b high

-- A-Z
abbrev pub capital : ℕ → Bool
capital b = between (code "A") (code "Z") b

-- 0-9
abbrev pub digit : ℕ → Bool
digit b = between (code "0") (code "9") b

-- "each 33 to 126 decimal, never '_'"
unfoldable pub id_letter : ℕ → Bool
id_letter b = not (eqb b separator) && between 33 126 b

-- "0-9 a-f"
unfoldable pub serial_letter : ℕ → Bool
serial_letter b = digit b || between (code "a") (code "f") b

abbrev pub letter_good : Letters → ℕ → Bool
letter_good Id b = id_letter b
letter_good Serial b = serial_letter b
letter_good Zero b = eqb b 0

-- every byte is of the class
unfoldable pub every : Letters → List ℕ → Bool
every class [] = true
every class (b ∷ bs) = letter_good class b && every class bs

-- every byte is zero
abbrev pub zeros : List ℕ → Bool
zeros bs = every Zero bs

-- ---- names

-- the bytes of a name, without the zeros after its end
unfoldable pub name_text : Name → List ℕ
name_text n = take n.len n.bytes

-- "1 to 32" letters; "a length over 32, or a byte behind the end that isn't zero, makes ID or serial bad"
unfoldable pub name_good : Letters → Name → Bool
name_good class n = leb 1 n.len && (leb n.len 32 && (every class (name_text n) && zeros (drop n.len n.bytes)))

-- the name with this text; if the text is over 32 bytes long, the array holds the first 32, and the length makes the name bad
unfoldable pub name_of : List ℕ → Name
name_of text = record { bytes = take 32 text ++ replicate (32 - length text) 0; len = length text }

-- ---- settings

-- "two letters A-Z and one digit"
unfoldable pub csp_good : List ℕ → Bool
csp_good csp = capital (get_or csp 0 0) && (capital (get_or csp 1 0) && digit (get_or csp 2 0))

abbrev pub id_good : Name → Bool
id_good id = name_good Id id

abbrev pub serial_good : Name → Bool
serial_good serial = name_good Serial serial

unfoldable pub settings_good : Settings → Bool
settings_good s = csp_good s.csp && (id_good s.id && serial_good s.serial)

-- the last byte of a good name is a digit
unfoldable pub ends_in_digit : Name → Bool
ends_in_digit name = digit (get_or name.bytes (name.len - 1) 0)

-- a register may have this good ID if its key is not shared, or if the ID does not end in a digit
unfoldable pub id_allowed : Bool → Name → Bool
id_allowed shared id = not (shared && ends_in_digit id)

-- "CSP good? 1. ID good? 2. Serial good? 3. N from 5 to 8? 4.", with "32 for a marked ID ending in a digit, between 2 and 3", and then the rest
unfoldable pub settings_number_for : Settings → Bool → ℕ → ℕ → ℕ
settings_number_for s shared n rest =
    ask (csp_good s.csp) 1
    (ask (id_good s.id) 2 (ask (id_allowed shared s.id) 32 (ask (serial_good s.serial) 3 (ask (width_good n) 4 rest))))

-- questions 1 to 4 alone: 32 is not asked
abbrev pub settings_number : Settings → ℕ → ℕ → ℕ
settings_number s n rest = settings_number_for s false n rest

-- both names end within their arrays
unfoldable pub sized : Settings → Bool
sized s = leb s.id.len 32 && leb s.serial.len 32

-- what the code's types say: arrays of fixed lengths, whose elements are bytes
pub record SettingsLengths (s : Settings) : Type 0 where
  pub csp : length s.csp ≡ 3
  pub id : length s.id.bytes ≡ 32
  pub serial : length s.serial.bytes ≡ 32

pub record SettingsBytes (s : Settings) : Type 0 where
  pub csp : AllBytes s.csp
  pub id : AllBytes s.id.bytes
  pub serial : AllBytes s.serial.bytes

pub record TypedSettings (s : Settings) : Type 0 where
  pub lengths : SettingsLengths s
  pub bytes : SettingsBytes s

-- ---- what holds of them

-- a good ID ends in a digit exactly if its text is some bytes and then a digit
abbrev pub EndsInLastByte : Type 0
EndsInLastByte =
    (id : Name) → length id.bytes ≡ 32 → id_good id ≡ true → (front : List ℕ) (last : ℕ) → name_text id ≡ front ++ (last ∷ [])
    → ends_in_digit id ≡ digit last

-- 32 is asked only where the key is shared
abbrev pub UnsharedAsksOneToFour : Type 0
UnsharedAsksOneToFour =
    (s : Settings) (n rest : ℕ)
    → settings_number s n rest
    ≡ ask (csp_good s.csp) 1 (ask (id_good s.id) 2 (ask (serial_good s.serial) 3 (ask (width_good n) 4 rest)))
