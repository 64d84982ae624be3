-- The chain between receipts, and the encrypted counter.
use Rattle.std.specs.Prelude.{ℕ, ◌-◌, ◌≤◌, ◌<◌, false, true, List, ◌++◌, ◌≡◌, ℤ, length, take, replicate}
use Rattle.primitives.specs.Sha256.{sha256}
use Rattle.primitives.specs.Aes.{cipher}
use Rattle.primitives.specs.Counter.{counter_fits, counter_bytes, counter_value, xor_first}
use Rattle.receipt.specs.Decimal.{digits}
use Rattle.receipt.specs.Settings.{name_text, id_good, ends_in_digit}
use Rattle.receipt.specs.declared.settings.Name.{Name}

-- "the first 8 bytes of SHA-256 of the previous receipt's compact form, for the first receipt of the ID"
unfoldable pub chain_value : List ℕ → List ℕ
chain_value text = take 8 (sha256 text)

-- "ID then number as spelled"
unfoldable pub hash_input : Name → ℕ → List ℕ
hash_input id number = name_text id ++ digits number

-- "IV: bytes 0 to 15 of SHA-256 of ID then number as spelled"
unfoldable pub iv : Name → ℕ → List ℕ
iv id number = take 16 (sha256 (hash_input id number))

-- AES-256 of the IV, under the key's schedule
unfoldable pub key_stream : List (List ℕ) → Name → ℕ → List ℕ
key_stream schedule id number = cipher schedule (iv id number)

-- "N bytes, big-endian two's complement, combined by exclusive or with the first N bytes of AES-256 of the IV".
-- `counter_bytes` is eight zeros if n is not a valid width or the counter does not fit n bytes: then the key stream's own bytes come out, not a counter field
unfoldable pub encrypted_counter : List (List ℕ) → Name → ℕ → ℕ → ℤ → List ℕ
encrypted_counter schedule id number n counter = xor_first n (counter_bytes n counter) (key_stream schedule id number)

-- what comes out in that case, as a statement
abbrev pub NothingToEncrypt : Type 0
NothingToEncrypt =
    (schedule : List (List ℕ)) (id : Name) (number n : ℕ) (counter : ℤ) → counter_fits n counter ≡ false
    → encrypted_counter schedule id number n counter ≡ xor_first n (replicate 8 0) (key_stream schedule id number)

-- decryption, the way back
unfoldable pub decrypted_counter : List (List ℕ) → Name → ℕ → ℕ → List ℕ → ℤ
decrypted_counter schedule id number n bytes = counter_value n (xor_first n bytes (key_stream schedule id number))

-- ---- what holds of them

-- what was encrypted is decrypted, for every width
abbrev pub DecryptionUndoesEncryption : Type 0
DecryptionUndoesEncryption =
    (schedule : List (List ℕ)) (id : Name) (number n : ℕ) (counter : ℤ) → counter_fits n counter ≡ true
    → decrypted_counter schedule id number n (encrypted_counter schedule id number n counter) ≡ counter

-- under one ID no two numbers have the same hash input for the IV
abbrev pub OneHashInput : Type 0
OneHashInput = (id : Name) (a b : ℕ) → a < 4294967296 → b < 4294967296 → hash_input id a ≡ hash_input id b → a ≡ b

-- equal hash inputs of two good IDs that do not end in a digit mean the same ID and the same number
abbrev pub OneIdOneHashInput : Type 0
OneIdOneHashInput =
    (id other : Name) → length id.bytes ≡ 32 → length other.bytes ≡ 32 → id_good id ≡ true → id_good other ≡ true
    → ends_in_digit id ≡ false → ends_in_digit other ≡ false
    → (a b : ℕ) → a < 4294967296 → b < 4294967296 → hash_input id a ≡ hash_input other b → (id ≡ other) × (a ≡ b)

-- if two IDs have the same hash input under some numbers, the longer ID is the shorter one with the first digits of that one's number after it
abbrev pub LongerIdHasDigits : Type 0
LongerIdHasDigits =
    (id other : Name) (a b : ℕ) → hash_input id a ≡ hash_input other b → length (name_text id) ≤ length (name_text other)
    → name_text other ≡ name_text id ++ take (length (name_text other) - length (name_text id)) (digits a)
