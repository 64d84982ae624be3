-- The fixed texts: how long they are, and that they are bytes.
use Rattle.std.proofs.Common.{ℕ, ◌≡◌, refl, Bool, true, ◌&&◌, List, [], ◌∷◌, arith, ltb-true, ltb, length, length-append}
use Rattle.primitives.specs.Bytes.{AllBytes}
use Rattle.primitives.specs.Base64.{encoding}
use Rattle.primitives.specs.declared.base64.Alphabet.TheVariants.{UrlSafe}
use Rattle.primitives.proofs.ByteLists.{bytes_nil, bytes_cons}
use Rattle.primitives.proofs.Base64Lengths.{length_encoding}
use Rattle.primitives.proofs.Rows.{both}
use Rattle.receipt.specs.Texts.{dot, beginning, cancellation_text, training_text}
use Rattle.receipt.specs.Form.{header, failure_text, first_element}

-- ---- lengths

pub beginning_long : length beginning ≡ 4
unfolding beginning
beginning_long = refl

pub cancellation_long : length cancellation_text ≡ 3
unfolding cancellation_text
cancellation_long = refl

pub training_long : length training_text ≡ 3
unfolding training_text
training_long = refl

pub failure_long : length failure_text ≡ 34
unfolding failure_text
failure_long = refl

header_text_long : length header ≡ 15
unfolding header
header_text_long = refl

pub first_long : length first_element ≡ 21
first_long =
    omega (arith, length-append (encoding UrlSafe header) (dot ∷ []), length_encoding UrlSafe header, header_text_long)

-- ---- bytes

-- every element of a list that is written out is a byte
below : List ℕ → Bool
below [] = true
below (b ∷ bs) = ltb b 256 && below bs

below_bytes : (bs : List ℕ) → below bs ≡ true → AllBytes bs
unfolding below
below_bytes [] e = bytes_nil
below_bytes (b ∷ bs) e = let p = both (ltb b 256) (below bs) e in bytes_cons (ltb-true b 256 p.0) (below_bytes bs p.1)

pub beginning_bytes : AllBytes beginning
unfolding below beginning
beginning_bytes = below_bytes beginning refl

pub failure_bytes : AllBytes failure_text
unfolding below failure_text
failure_bytes = below_bytes failure_text refl
