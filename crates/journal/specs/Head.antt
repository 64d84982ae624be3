-- The layout of a journal: "four sections, each after its count in four bytes, big-endian: CSP (count 3), ID, serial (both counts in bytes),
-- receipts (count of entries). The first three with all four counts are the head". A change of the certificate "appends a new serial section
-- and an empty receipts section": serial and receipts sections come in pairs.
use Rattle.std.specs.Prelude.{ℕ, ◌+◌, ◌-◌, Bool, ◌&&◌, List, ◌++◌, leb, eqb, length, take, drop}
use Rattle.primitives.specs.Number.{bytes_of, count_at}
use Rattle.receipt.specs.Settings.{name_text, name_of, serial_good, settings_good}
use Rattle.receipt.specs.declared.settings.Name.{Name}
use Rattle.receipt.specs.declared.settings.Settings.{Settings}

-- ---- a section

-- a text after its count
unfoldable pub section : List ℕ → List ℕ
section text = bytes_of 4 (length text) ++ text

-- the text of the section at a place, and the place after it
unfoldable pub section_text : List ℕ → ℕ → List ℕ
section_text j at = take (count_at j at 4) (drop (at + 4) j)

unfoldable pub section_end : List ℕ → ℕ → ℕ
section_end j at = at + 4 + count_at j at 4

-- ---- a pair

-- its start: the section of its serial, and the count of its entries
unfoldable pub pair_start : Name → ℕ → List ℕ
pair_start serial count = section (name_text serial) ++ bytes_of 4 count

-- the serial in the section at a place
unfoldable pub serial_at : List ℕ → ℕ → Name
serial_at j at = name_of (section_text j at)

-- 21: "a good serial with a whole receipts count" stands at a place
unfoldable pub start_there : List ℕ → ℕ → Bool
start_there j at = leb (section_end j at + 4) (length j) && serial_good (serial_at j at)

-- ---- the head, written

-- what stands before the receipts count
unfoldable pub front : Settings → List ℕ
front s = section s.csp ++ section (name_text s.id) ++ section (name_text s.serial)

-- the head of a journal with this many receipts
unfoldable pub head : Settings → ℕ → List ℕ
head s count = front s ++ bytes_of 4 count

-- "19 bytes + ID + serial"
unfoldable pub head_length : Settings → ℕ
head_length s = 19 + s.id.len + s.serial.len

-- the place of the first receipts count, at the end of the head
unfoldable pub count_place : Settings → ℕ
count_place s = head_length s - 4

-- ---- the head, read

-- the section of the CSP takes 7 bytes, that of the ID follows; then come those of the serial and of the receipts
unfoldable pub serial_place : List ℕ → ℕ
serial_place j = section_end j 7

unfoldable pub count_place_in : List ℕ → ℕ
count_place_in j = section_end j (serial_place j)

unfoldable pub head_settings : List ℕ → Settings
head_settings j = record { csp = section_text j 0; id = name_of (section_text j 7); serial = serial_at j (serial_place j) }

-- 14: "Head whole and good by 1 to 3?"
unfoldable pub head_good : List ℕ → Bool
head_good j = eqb (count_at j 0 4) 3 && (leb (count_place_in j + 4) (length j) && settings_good (head_settings j))

-- ---- an entry

-- "An entry is a two-byte big-endian length and the compact form."
unfoldable pub entry_text : List ℕ → List ℕ
entry_text t = bytes_of 2 (length t) ++ t

-- the length of the entry at a place
unfoldable pub length_at : List ℕ → ℕ → ℕ
length_at j at = count_at j at 2

-- 15: "length and bytes all there?"
unfoldable pub there : List ℕ → ℕ → Bool
there j at = leb (at + 2) (length j) && leb (at + 2 + length_at j at) (length j)

-- "The bytes of one entry are read as a part of the journal"
unfoldable pub text_at : List ℕ → ℕ → List ℕ
text_at j at = take (length_at j at) (drop (at + 2) j)
