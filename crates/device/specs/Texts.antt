-- What the calls on texts answer and leave.
use Rattle.std.specs.Prelude.{ℕ, ◌-◌, cond, List, leb, eqb, length, Result, Ok, Err}
use Rattle.primitives.specs.Place.{overwrite, placed}
use Rattle.primitives.specs.Sha256.{sha256}
use Rattle.primitives.specs.Base32.{encoding32, decoding32}
use Rattle.primitives.specs.Base64.{encoding, decoding}
use Rattle.primitives.specs.declared.base64.Alphabet.{Alphabet}
use Rattle.primitives.specs.declared.base64.Alphabet.TheVariants.{Standard, UrlSafe}
use Rattle.primitives.specs.declared.base64.DecodeError.{DecodeError}
use Rattle.primitives.specs.declared.base64.DecodeError.TheVariants.{Refused, NoRoom}
use Rattle.receipt.specs.Code.{id_place}
use Rattle.primitives.specs.Answers.{Answer, written, answer_with, bufferWith}

-- ---- the ID field of a code

-- 24 where there is none
unfoldable pub fields_number : List ℕ → ℕ
fields_number code = cond (eqb (id_place code).start (id_place code).end) 24 0

unfoldable pub fields_length : List ℕ → ℕ
fields_length code = (id_place code).end - (id_place code).start

-- ---- SHA-256

-- 23 if the output is shorter than 32 bytes
unfoldable pub hash_number : List ℕ → ℕ
hash_number out = cond (leb 32 (length out)) 0 23

-- the hash value at the start of the output
unfoldable pub hash_buffer : List ℕ → List ℕ → List ℕ
hash_buffer m out = cond (leb 32 (length out)) (overwrite out 0 (sha256 m)) out

-- ---- BASE64

-- 0 is padded BASE64, any other number BASE64-URL
unfoldable pub alphabet_of : ℕ → Alphabet
alphabet_of url = cond (eqb url 0) Standard UrlSafe

-- 23 if the text does not fit
unfoldable pub encode_answer : ℕ → List ℕ → List ℕ → Answer
encode_answer url xs out = written out (encoding (alphabet_of url) xs)

unfoldable pub encode_buffer : ℕ → List ℕ → List ℕ → List ℕ
encode_buffer url xs out = placed out 0 (encoding (alphabet_of url) xs)

-- 22 if the text is not canonical, 23 if its bytes do not fit
unfoldable pub decode_answer : ℕ → List ℕ → List ℕ → Answer
decode_answer url text out = answer_with 22 (decoding (alphabet_of url) text) out

unfoldable pub decode_buffer : ℕ → List ℕ → List ℕ → List ℕ
decode_buffer url text out = bufferWith (decoding (alphabet_of url) text) out

-- ---- BASE32

-- 23 if the text does not fit
unfoldable pub encode_answer32 : List ℕ → List ℕ → Answer
encode_answer32 xs out = written out (encoding32 xs)

unfoldable pub encode_buffer32 : List ℕ → List ℕ → List ℕ
encode_buffer32 xs out = placed out 0 (encoding32 xs)

-- 22 if the text is not canonical, 23 if its bytes do not fit
unfoldable pub decode_answer32 : List ℕ → List ℕ → Answer
decode_answer32 text out = answer_with 22 (decoding32 text) out

unfoldable pub decode_buffer32 : List ℕ → List ℕ → List ℕ
decode_buffer32 text out = bufferWith (decoding32 text) out

-- ---- the answers of the primitives, as numbers

-- of a text of n bytes that ends at a place: it did not fit where some bytes end at 0
unfoldable pub written_number : ℕ → ℕ → ℕ
written_number n end = cond (eqb n 0) 0 (cond (eqb end 0) 23 0)

abbrev pub decoded_length : Result ℕ DecodeError → ℕ
decoded_length (Ok end) = end
decoded_length (Err _) = 0

abbrev pub decoded_number : Result ℕ DecodeError → ℕ
decoded_number (Ok end) = 0
decoded_number (Err Refused) = 22
decoded_number (Err NoRoom) = 23
