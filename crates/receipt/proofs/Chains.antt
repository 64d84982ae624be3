-- The chain value and the encrypted counter: the code's steps, and what is known of them.
use Rattle.std.proofs.Common.{ℕ, ◌+◌, ◌-◌, ◌<◌, ◌≤◌, ◌^◌, ◌≡◌, sym, ap, ◌∙◌, true, List, arith, ℤ, length, take, drop, replicate, length-append, length-take-le}
use lib.Seq.{drop-append_seam}
use Rattle.primitives.specs.Place.{overwrite, placed, place_after}
use Rattle.primitives.specs.Bytes.{AllBytes}
use Rattle.primitives.specs.Sha256.{sha256}
use Rattle.primitives.specs.Counter.{counter_fits, counter_bytes, counter_value, xor_first}
use Rattle.primitives.proofs.ByteLists.{bytes_take}
use Rattle.primitives.proofs.Over.{placed_room, after_room, length_over, read_over, then}
use Rattle.primitives.proofs.Digest.{length_sha256, bytes_sha256}
use Rattle.primitives.proofs.Cipher.{AllWords, length_cipher, cipher_bytes}
use Rattle.primitives.proofs.Twos.{counter_bytes_none, length_counter_bytes, bytes_counter_bytes, counter_back}
use Rattle.primitives.proofs.Xors.{bytes_xor_first, length_xor_first, xor_first_back}
use Rattle.receipt.specs.Decimal.{digits}
use Rattle.receipt.specs.Settings.{name_text}
use Rattle.receipt.specs.Chain.{chain_value, hash_input, iv, key_stream, encrypted_counter, NothingToEncrypt, decrypted_counter, DecryptionUndoesEncryption, OneHashInput}
use Rattle.receipt.specs.declared.settings.Name.{Name}
use Rattle.receipt.proofs.Missing.{after_counter, after_xor_first}
use Rattle.receipt.proofs.Digits.{length_digits, width_short, digits_same}
use Rattle.receipt.proofs.Names.{text_short}

-- ---- the input of the hash

-- a number of 32 bits has at most ten digits
number_short : (number : ℕ) → number < 2 ^ 32 → length (digits number) ≤ 10
number_short number k = omega (arith, length_digits number, width_short 9 number (omega arith))

pub input_short : (id : Name) (number : ℕ) → length id.bytes ≡ 32 → number < 2 ^ 32 → length (hash_input id number) ≤ 42
unfolding hash_input
input_short id number l k = omega (arith, length-append (name_text id) (digits number), text_short id l, number_short number k)

-- the input, written to a buffer and lent from it: the name's text t, then the number m
module _ (id : Name) (number : ℕ) (out : List ℕ) {t : List ℕ} {p m : ℕ} {out₁ : List ℕ} (l : length id.bytes ≡ 32) (k : number < 2 ^ 32)
    (room : length out ≡ 42) (e : t ≡ name_text id) (q : p ≡ place_after out 0 t) (w : out₁ ≡ placed out 0 t) (n : m ≡ number) where
  fits : 0 + length (name_text id) ≤ length out
  fits = omega (arith, text_short id l)

  place : p ≡ 0 + length (name_text id)
  place = q ∙ ap (place_after out 0) e ∙ after_room out 0 (name_text id) fits

  written : out₁ ≡ overwrite out 0 (name_text id)
  written = w ∙ ap (placed out 0) e ∙ placed_room out 0 (name_text id) fits

  pub input_room : p + length (digits m) ≤ length out₁
  input_room = rw n (omega (arith, ap length written, length_over out 0 (name_text id) fits, place, text_short id l, number_short number k))

  module _ {end : ℕ} {out₂ : List ℕ} (f : end ≡ p + length (digits m)) (g : out₂ ≡ overwrite out₁ p (digits m)) where
    input_end : end ≡ length (hash_input id number)
    unfolding hash_input
    input_end = f ∙ rw n (omega (arith, place, length-append (name_text id) (digits number)))

    pub input_within : end ≤ 42
    input_within = omega (arith, input_end, input_short id number l k)

    pub input_lent : take end out₂ ≡ hash_input id number
    unfolding hash_input
    input_lent =
        (λ i. take (input_end i) (then out (name_text id) (digits number) 0 p written (g ∙ ap (λ (j : ℕ). overwrite out₁ p (digits j)) n) place fits i))
        ∙ read_over out 0 (hash_input id number) (omega (arith, input_short id number l k))

-- ---- what is known of the chain value

pub length_chain : (m : List ℕ) → length (chain_value m) ≡ 8
unfolding chain_value
length_chain m = length-take-le 8 (sha256 m) (omega (arith, length_sha256 m))

pub bytes_chain : (m : List ℕ) → AllBytes (chain_value m)
unfolding chain_value
bytes_chain m = bytes_take 8 (bytes_sha256 m)

-- ---- and of the encrypted counter

-- two numbers under one ID have different inputs
pub input_same : (id : Name) (a b : ℕ) → a < 2 ^ 32 → b < 2 ^ 32 → hash_input id a ≡ hash_input id b → a ≡ b
unfolding hash_input
input_same id a b h k e =
    digits_same a b (omega arith) (omega arith)
    (sym (drop-append_seam (name_text id) (digits a)) ∙ ap (drop (length (name_text id))) e ∙ drop-append_seam (name_text id) (digits b))

module _ (schedule : List (List ℕ)) (id : Name) (number n : ℕ) where
  long_enough : (z : ℤ) → length (counter_bytes n z) ≤ length (key_stream schedule id number)
  unfolding key_stream
  long_enough z = omega (arith, length_counter_bytes n z, length_cipher schedule (iv id number))

  module _ (z : ℤ) where
    pub length_encrypted : length (encrypted_counter schedule id number n z) ≡ 8
    unfolding encrypted_counter
    length_encrypted = length_xor_first n (counter_bytes n z) (key_stream schedule id number) (long_enough z) ∙ length_counter_bytes n z

    pub bytes_encrypted : AllWords schedule → AllBytes (encrypted_counter schedule id number n z)
    unfolding encrypted_counter key_stream
    bytes_encrypted w = bytes_xor_first n (bytes_counter_bytes n z) (cipher_bytes (iv id number) w)

    -- zeros after the n bytes
    pub after_encrypted : drop n (encrypted_counter schedule id number n z) ≡ replicate (8 - n) 0
    unfolding encrypted_counter
    after_encrypted = after_xor_first n (counter_bytes n z) (key_stream schedule id number) (long_enough z) ∙ after_counter n z

    -- what was encrypted is decrypted
    pub decrypt_back : counter_fits n z ≡ true → decrypted_counter schedule id number n (encrypted_counter schedule id number n z) ≡ z
    unfolding encrypted_counter decrypted_counter
    decrypt_back e = ap (counter_value n) (xor_first_back n (counter_bytes n z) (key_stream schedule id number) (long_enough z)) ∙ counter_back n z e

-- ---- a counter that does not fit n bytes

pub nothing_to_encrypt : NothingToEncrypt
unfolding encrypted_counter
nothing_to_encrypt schedule id number n counter e = ap (λ (b : List ℕ). xor_first n b (key_stream schedule id number)) (counter_bytes_none n counter e)

-- ---- the statements

pub decryption_undoes_encryption : DecryptionUndoesEncryption
decryption_undoes_encryption schedule id number n counter e = decrypt_back schedule id number n counter e

pub one_hash_input : OneHashInput
one_hash_input id a b h k e = input_same id a b h k e
