-- The loose reader of a payload. It decides nothing: what it finds is spelled again, and compared.
use Rattle.std.specs.Prelude.{ℕ, ◌+◌, ◌-◌, ◌%◌, Bool, cond, ◌&&◌, List, leb, eqb, pos, length, take, drop, get_or, replicate}
use Prim.Native.Char.{code}
use Rattle.primitives.specs.Base64.{decode_buffer}
use Rattle.primitives.specs.declared.base64.Alphabet.TheVariants as alphabet
use Rattle.receipt.specs.Decimal.{value_of}
use Rattle.receipt.specs.DateTime.{read_date}
use Rattle.receipt.specs.Separated.{skip, read_amounts}
use Rattle.receipt.specs.Texts.{separator}
use Rattle.receipt.specs.declared.details.Kind.{Kind}
use Rattle.receipt.specs.declared.details.Kind.TheVariants.{Standard, Cancellation, Training}
use Rattle.receipt.specs.declared.details.Details.{Details}
use Rattle.receipt.specs.declared.settings.Settings.{Settings}
use Rattle.receipt.specs.declared.payload.PayloadFields.{PayloadFields}

-- the bytes of a BASE64 text, then zeros up to eight bytes; eight zeros if the text is refused or has more than eight bytes
unfoldable pub eight : List ℕ → List ℕ
eight text = decode_buffer alphabet.Standard text (replicate 8 0) 0

-- the number of letters in the counter field of a standard receipt: BASE64 of 5 to 8 bytes
unfoldable pub field_width : ℕ → ℕ
field_width n = cond (leb n 6) 8 12

-- four letters are "U1RP" or "VFJB"
unfoldable pub kind_of : List ℕ → Kind
kind_of bs = cond (eqb (get_or bs 4 0) separator) (cond (eqb (get_or bs 0 0) (code "U")) Cancellation Training) Standard

unfoldable pub read_counter : ℕ → Kind → List ℕ → List ℕ
read_counter n Standard bs = eight (take (field_width n) bs)
read_counter n Cancellation bs = replicate 8 0
read_counter n Training bs = replicate 8 0

-- the chain field is the last twelve bytes
unfoldable pub read_chain : List ℕ → List ℕ
read_chain text = eight (drop (length text - 12) text)

-- the details, from what follows the register part
unfoldable pub read_details : List ℕ → Details
read_details bs =
    record {
      number = value_of bs % 4294967296;
      date = read_date (skip 1 bs);
      amounts = read_amounts 5 (skip 2 bs);
      kind = kind_of (skip 7 bs);
    }

-- long enough to be read
unfoldable pub readable : List ℕ → Bool
readable bs = leb 19 (length (skip 1 bs)) && leb 12 (length (skip 7 bs))

-- the fields of a text, given what follows its register part
unfoldable pub found_in : ℕ → List ℕ → List ℕ → PayloadFields
found_in n text bs =
    record { details = read_details bs; counter = read_counter n (kind_of (skip 7 bs)) (skip 7 bs); chain = read_chain text }

-- blank fields, for a text that is too short
unfoldable pub blank : PayloadFields
blank =
    record {
      details =
          record {
            number = 0;
            date = record { year = 0; month = 0; day = 0; hour = 0; minute = 0; second = 0 };
            amounts = replicate 5 (pos 0);
            kind = Standard;
          };
      counter = replicate 8 0;
      chain = replicate 8 0;
    }

-- the ID is not searched for: its length comes from the settings
unfoldable pub read_fields : Settings → ℕ → List ℕ → PayloadFields
read_fields s n text = cond (readable (drop (9 + s.id.len) text)) (found_in n text (drop (9 + s.id.len) text)) blank
