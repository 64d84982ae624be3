-- The compact form of a receipt, as payload and signature: written, and read.
use Rattle.std.specs.Prelude.{ℕ, suc, ◌+◌, ◌-◌, ◌<◌, Bool, cond, ◌&&◌, ◌||◌, List, [], ◌∷◌, ◌++◌, ◌≡◌, ltb, leb, eqb, length, get_or, take, drop}
use Rattle.std.proofs.Math.Option.{Option, none, some}
use Rattle.primitives.specs.Bytes.{AllBytes, same}
use Rattle.primitives.specs.Text.{ascii}
use Rattle.primitives.specs.Base64.{encoding, decoding}
use Rattle.primitives.specs.declared.base64.Alphabet.TheVariants.{UrlSafe}
use Rattle.receipt.specs.Payload.{longest_payload}
use Rattle.receipt.specs.Texts.{dot, beginning}

-- ---- fixed texts

unfoldable pub header : List ℕ
unfolding ascii
header = ascii "{\"alg\":\"ES256\"}"

unfoldable pub failure_text : List ℕ
unfolding ascii
failure_text = ascii "Sicherheitseinrichtung ausgefallen"

-- the element of the header, with its "."
abbrev pub first_element : List ℕ
first_element = encoding UrlSafe header ++ (dot ∷ [])

-- ---- finding a byte

-- the number of bytes before the first b; the length if there is none
unfoldable pub first_at : ℕ → List ℕ → ℕ
first_at b [] = 0
first_at b (x ∷ xs) = cond (eqb x b) 0 (suc (first_at b xs))

-- the place of the first b from a place on; if there is none, the length, or the place itself if it is beyond the end
unfoldable pub next_at : ℕ → List ℕ → ℕ → ℕ
next_at b text from = from + first_at b (drop from text)

-- the bytes from the place a up to the place e
abbrev pub part : ℕ → ℕ → List ℕ → List ℕ
part a e text = take (e - a) (drop a text)

-- where such a part lies in memory, for a text that lies at p: p is a block and an offset in it
abbrev pub further : ℕ × ℕ → ℕ → ℕ × ℕ
further p a = (p.0, p.1 + a)

-- b does not occur
pub record Without (b : ℕ) (s : List ℕ) : Type 0 where
  pub at : (i : ℕ) → i < length s → get_or s i 0 ≡ b → ⊥

-- ---- payload and signature

pub record Parts : Type 0 where
  pub payload : List ℕ
  pub signature : List ℕ

abbrev pub parts : List ℕ → List ℕ → Parts
parts p s = record { payload = p; signature = s }

-- 4 to 200 bytes beginning "_R1-"
unfoldable pub payload_good : List ℕ → Bool
payload_good p = leb 4 (length p) && (leb (length p) longest_payload && same (take 4 p) beginning)

-- 64 bytes, or the text of a failed device
unfoldable pub signature_good : List ℕ → Bool
signature_good s = eqb (length s) 64 || same s failure_text

abbrev pub parts_good : Parts → Bool
parts_good p = payload_good p.payload && signature_good p.signature

-- what a slice gives: both are bytes
pub record PartsOfBytes (p : Parts) : Type 0 where
  pub payload : AllBytes p.payload
  pub signature : AllBytes p.signature

-- ---- the text

-- "." and the element of a text
abbrev pub element : List ℕ → List ℕ
element xs = (dot ∷ []) ++ encoding UrlSafe xs

-- what is signed: the elements of header and payload, with "." between them
abbrev pub signed_input : List ℕ → List ℕ
signed_input payload = first_element ++ encoding UrlSafe payload

-- compact form: the elements of header, payload and signature, with "." between them
unfoldable pub signed_form : Parts → List ℕ
signed_form p = signed_input p.payload ++ (dot ∷ []) ++ encoding UrlSafe p.signature

-- ---- reading it

-- the two parts, if both are given and good
unfoldable pub good_parts : Option (List ℕ) → Option (List ℕ) → Option Parts
good_parts (some p) (some s) = cond (parts_good (parts p s)) (some (parts p s)) none
good_parts (some p) none = none
good_parts none s = none

-- the place of the "." after the second element, if the first is the header's and a "." follows it; the length if there is none
unfoldable pub second_dot : List ℕ → ℕ
second_dot text = cond (same (take 21 text) first_element) (next_at dot text 21) (length text)

-- three canonical elements, the first fixed, and good parts
unfoldable pub parts_of_form : List ℕ → Option Parts
parts_of_form text =
    cond (ltb (second_dot text) (length text))
    (good_parts (decoding UrlSafe (part 21 (second_dot text) text)) (decoding UrlSafe (drop (second_dot text + 1) text))) none
