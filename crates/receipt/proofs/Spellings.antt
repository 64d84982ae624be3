-- The two spellings of a field, BASE64 and BASE32: each is read back and has no other text, and has no "_".
use Rattle.std.proofs.Common.{ℕ, ◌+◌, ◌*◌, ◌/◌, ◌≡◌, List, length}
use mathlib.Core.Option.{some}
use Rattle.primitives.specs.Bytes.{AllBytes}
use Rattle.primitives.specs.Base32.{encoded_length32}
use Rattle.primitives.specs.declared.base64.Alphabet.TheVariants.{Standard}
use Rattle.primitives.proofs.Base64Lengths.{length_encoding}
use Rattle.primitives.proofs.Base64Laws.{no_underscore, encoding_bytes, decode_encode, encode_decode, decoded_bytes}
use Rattle.primitives.proofs.Base32Laws.{length_encoding32, no_underscore32, encoding_bytes32, decode_encode32, encode_decode32, decoded_bytes32}
use Rattle.receipt.specs.Form.{Without}
use Rattle.receipt.specs.Line.{spell, unspell}
use Rattle.receipt.specs.declared.optical_line.Spelling.{Spelling}
use Rattle.receipt.specs.declared.optical_line.Spelling.TheVariants.{Base64, Base32}

-- what was spelled is read back
pub spell_back : (s : Spelling) (xs : List ℕ) → AllBytes xs → unspell s (spell s xs) ≡ some xs
spell_back Base64 xs p = decode_encode Standard xs p
spell_back Base32 xs p = decode_encode32 xs p

-- an accepted text is the spelling of its bytes
pub spell_only : (s : Spelling) (text xs : List ℕ) → AllBytes text → unspell s text ≡ some xs → text ≡ spell s xs
spell_only Base64 text xs p e = encode_decode Standard text xs p e
spell_only Base32 text xs p e = encode_decode32 text xs p e

pub unspell_bytes : (s : Spelling) (text xs : List ℕ) → unspell s text ≡ some xs → AllBytes xs
unspell_bytes Base64 text xs e = decoded_bytes Standard text xs e
unspell_bytes Base32 text xs e = decoded_bytes32 text xs e

pub spell_bytes : (s : Spelling) (xs : List ℕ) → AllBytes (spell s xs)
spell_bytes Base64 xs = encoding_bytes Standard xs
spell_bytes Base32 xs = encoding_bytes32 xs

-- no "_"
pub spell_none : (s : Spelling) (xs : List ℕ) → Without 95 (spell s xs)
spell_none Base64 xs = record { at = no_underscore xs }
spell_none Base32 xs = record { at = no_underscore32 xs }

-- ---- lengths

abbrev pub spelled_length : Spelling → ℕ → ℕ
spelled_length Base64 n = (n + 2) / 3 * 4
spelled_length Base32 n = encoded_length32 n

pub length_spell : (s : Spelling) (xs : List ℕ) → length (spell s xs) ≡ spelled_length s (length xs)
length_spell Base64 xs = length_encoding Standard xs
length_spell Base32 xs = length_encoding32 xs
