-- Settings and the state of a register as bytes. Numbers are big-endian, the counter is in two's complement.
-- Any 447 bytes decode to a state, and each state has exactly one encoding.
use Rattle.std.specs.Prelude.{ℕ, zero, suc, ◌+◌, cond, List, [], ◌∷◌, ◌++◌, eqb, length, take, drop, replicate}
use Rattle.primitives.specs.Number.{bytes_of, count_at}
use Rattle.primitives.specs.Counter.{counter_bytes, counter_value}
use Rattle.receipt.specs.declared.settings.Name.{Name}
use Rattle.receipt.specs.declared.settings.Settings.{Settings}
use Rattle.journal.specs.State.{no_name, unopened}
use Rattle.journal.specs.declared.state.State.{State}

-- the version of these layouts and of the details as bytes: it rises when one of them changes
abbrev pub version : ℕ
version = 2

-- ---- writing

-- a name: its 32 bytes, and its length in 8
abbrev pub name_bytes : Name → List ℕ
name_bytes n = n.bytes ++ bytes_of 8 n.len

-- settings, width and key: 3, 32, 8, 32, 8, 8 and 32 bytes
unfoldable pub settings_bytes : Settings → ℕ → List ℕ → List ℕ
settings_bytes s n key =
    s.csp ++ s.id.bytes ++ bytes_of 8 s.id.len ++ s.serial.bytes ++ bytes_of 8 s.serial.len ++ bytes_of 8 n ++ key

-- names, one after the other
unfoldable pub names_bytes : List Name → List ℕ
names_bytes [] = []
names_bytes (n ∷ ns) = name_bytes n ++ names_bytes ns

-- CSP, ID, eight serials, width and key: 3, 40, 320, 8 and 32 bytes
unfoldable pub register_bytes : State → List ℕ
register_bytes st = st.csp ++ name_bytes st.id ++ names_bytes st.serials ++ bytes_of 8 st.width ++ st.key

-- counter, last number, receipts issued, chain value and length of the journal: 8, 4, 4, 8 and 8 bytes;
-- then the receipts in the open section, and the place of its count: 4 and 8
unfoldable pub figures_bytes : State → List ℕ
figures_bytes st =
    counter_bytes 8 st.counter ++ bytes_of 4 st.last ++ bytes_of 4 st.issued ++ st.chain ++ bytes_of 8 st.length ++ bytes_of 4 st.since
    ++ bytes_of 8 st.place

unfoldable pub state_bytes : State → List ℕ
state_bytes st = register_bytes st ++ figures_bytes st

-- ---- reading, where no byte is missing

-- a name at a place: 32 bytes, and its length in 8
unfoldable pub name_at : List ℕ → ℕ → Name
name_at b at = record { bytes = take 32 (drop at b); len = count_at b (at + 32) 8 }

unfoldable pub settings_at : List ℕ → Settings
settings_at b = record { csp = take 3 (drop 0 b); id = name_at b 3; serial = name_at b 43 }

unfoldable pub width_at : List ℕ → ℕ
width_at b = count_at b 83 8

unfoldable pub key_at : List ℕ → List ℕ
key_at b = take 32 (drop 91 b)

-- so many names from a place on
unfoldable pub names_at : List ℕ → ℕ → ℕ → List Name
names_at b at zero = []
names_at b at (suc k) = name_at b at ∷ names_at b (at + 40) k

unfoldable pub state_at : List ℕ → State
state_at b =
    record {
      csp = take 3 (drop 0 b);
      id = name_at b 3;
      serials = names_at b 43 8;
      width = count_at b 363 8;
      key = take 32 (drop 371 b);
      counter = counter_value 8 (take 8 (drop 403 b));
      last = count_at b 411 4;
      issued = count_at b 415 4;
      chain = take 8 (drop 419 b);
      length = count_at b 427 8;
      since = count_at b 435 4;
      place = count_at b 439 8;
    }

-- ---- slices of any length

-- n bytes: the slice; zeros if it is not n bytes long
unfoldable pub array_of : ℕ → List ℕ → List ℕ
array_of n b = cond (eqb (length b) n) b (replicate n 0)

-- settings that are all zero
abbrev pub no_settings : Settings
no_settings = record { csp = replicate 3 0; id = no_name; serial = no_name }

-- settings, width and key in a slice: all zero if it is not 123 bytes long
unfoldable pub settings_of : List ℕ → Settings
settings_of b = cond (eqb (length b) 123) (settings_at b) no_settings

unfoldable pub width_of : List ℕ → ℕ
width_of b = cond (eqb (length b) 123) (width_at b) 0

unfoldable pub key_of : List ℕ → List ℕ
key_of b = cond (eqb (length b) 123) (key_at b) (replicate 32 0)

-- the state in a slice: the unopened state if it is not 447 bytes long
unfoldable pub state_of : List ℕ → State
state_of b = cond (eqb (length b) 447) (state_at b) unopened

-- what a state's slice holds after a call: the state; what it held before if it is not 447 bytes long
unfoldable pub kept : List ℕ → State → List ℕ
kept b st = cond (eqb (length b) 447) (state_bytes st) b
