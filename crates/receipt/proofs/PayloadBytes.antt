-- A payload is bytes, four at least, and begins with "_R1-".
use Rattle.std.proofs.Common.{◌≡◌, refl, List, [], ◌∷◌, ◌++◌, ℕ, ◌<◌, ◌≤◌, arith, ℤ, length, take, length-append}
use Rattle.primitives.specs.Bytes.{AllBytes}
use Rattle.primitives.specs.declared.base64.Alphabet.TheVariants as alphabet
use Rattle.primitives.proofs.ByteLists.{bytes_nil, bytes_cons, bytes_append, bytes_take}
use Rattle.primitives.proofs.Base64Laws.{encoding_bytes}
use Rattle.primitives.proofs.Each.{Each, none_left, one_more}
use Rattle.receipt.specs.Settings.{name_text, SettingsBytes}
use Rattle.receipt.specs.Amount.{amounts_text}
use Rattle.receipt.specs.Texts.{beginning}
use Rattle.receipt.proofs.Texts.{beginning_long, beginning_bytes}
use Rattle.receipt.specs.Payload.{register_part, moment, counter_field, closing, body, payload}
use Rattle.receipt.specs.declared.datetime.DateTime.{DateTime}
use Rattle.receipt.specs.declared.settings.Name.{Name}
use Rattle.receipt.specs.declared.settings.Settings.{Settings}
use Rattle.receipt.specs.declared.payload.PayloadFields.{PayloadFields}
use Rattle.receipt.proofs.Signs.{Signs, each_digits, each_amount, each_date}

each_bytes : {xs : List ℕ} → Each (λ b. b < 256) xs → AllBytes xs
each_bytes none_left = bytes_nil
each_bytes (one_more h e) = bytes_cons h (each_bytes e)

a_byte : Signs (λ b. b < 256)
a_byte =
    record { digit = λ d h. omega arith; comma = omega arith; minus = omega arith; colon = omega arith; letter = omega arith }

-- with its '_'
field_bytes : {xs : List ℕ} → AllBytes xs → AllBytes (xs ++ (95 ∷ []))
field_bytes p = bytes_append p (bytes_cons (omega arith) bytes_nil)

name_bytes_lem : (n : Name) → AllBytes n.bytes → AllBytes (name_text n)
unfolding name_text
name_bytes_lem n p = bytes_take n.len p

register_bytes_lem : (s : Settings) → SettingsBytes s → AllBytes (register_part s)
unfolding register_part
register_bytes_lem s p =
    bytes_append
    (bytes_append
    beginning_bytes
    (field_bytes p.csp))
    (field_bytes (name_bytes_lem s.id p.id))

moment_bytes : (n : ℕ) (t : DateTime) → AllBytes (moment n t)
unfolding moment
moment_bytes n t = field_bytes (bytes_append (field_bytes (each_bytes (each_digits a_byte.digit n))) (each_bytes (each_date a_byte t)))

amounts_bytes_lem : (zs : List ℤ) → AllBytes (amounts_text zs)
unfolding amounts_text
amounts_bytes_lem [] = bytes_nil
amounts_bytes_lem (z ∷ zs) = bytes_append (field_bytes (each_bytes (each_amount a_byte z))) (amounts_bytes_lem zs)

closing_bytes : (s : Settings) (n : ℕ) (f : PayloadFields) → SettingsBytes s → AllBytes (closing s n f)
unfolding closing counter_field
closing_bytes s n f p =
    bytes_append
    (bytes_append (field_bytes (encoding_bytes alphabet.Standard _)) (field_bytes (name_bytes_lem s.serial p.serial)))
    (encoding_bytes alphabet.Standard f.chain)

pub payload_bytes_lem : (s : Settings) (n : ℕ) (f : PayloadFields) → SettingsBytes s → AllBytes (payload s n f)
unfolding payload body
payload_bytes_lem s n f p =
    bytes_append (register_bytes_lem s p)
    (bytes_append
    (bytes_append (moment_bytes f.details.number f.details.date) (amounts_bytes_lem f.details.amounts))
    (closing_bytes s n f p))

pub payload_begins : (s : Settings) (n : ℕ) (f : PayloadFields) → take 4 (payload s n f) ≡ beginning
unfolding payload register_part beginning
payload_begins s n f = refl

pub payload_long : (s : Settings) (n : ℕ) (f : PayloadFields) → 4 ≤ length (payload s n f)
unfolding payload register_part
payload_long s n f = simp length-append (omega (arith, beginning_long))
