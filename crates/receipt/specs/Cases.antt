-- The cases marked P of the paper: what the definitions make, and what the paper says of it.
use Rattle.std.specs.Prelude.{ℕ, Bool, true, false, cond, ◌&&◌, List, [], ◌∷◌, ◌≡◌, pos, negsuc, take}
use Rattle.primitives.specs.Bytes.{same}
use Rattle.primitives.specs.Text.{ascii}
use Rattle.primitives.specs.Counter.{counter_bytes}
use Rattle.primitives.specs.Base64.{encoding}
use Rattle.primitives.specs.declared.base64.Alphabet.TheVariants.{Standard, UrlSafe}
use Rattle.receipt.specs.Amount.{amount}
use Rattle.receipt.specs.DateTime.{date_good}
use Rattle.receipt.specs.Form.{header}
use Rattle.receipt.specs.Texts.{cancellation_text, training_text}
use Rattle.receipt.specs.declared.datetime.DateTime.{DateTime}

pub record Case : Type 0 where
  pub made : List ℕ
  pub paper : List ℕ

-- the start of a day
unfoldable pub day : ℕ → ℕ → ℕ → DateTime
day y m d = record { year = y; month = m; day = d; hour = 0; minute = 0; second = 0 }

-- yes is 1, and no is 0
unfoldable pub answer : Bool → List ℕ
answer b = cond b 1 0 ∷ []

unfoldable pub cases : List Case
cases =
    record { made = amount (pos 0); paper = ascii "0,00" }
    ∷ record { made = amount (negsuc 4); paper = ascii "-0,05" }
    ∷ record { made = amount (pos 1050); paper = ascii "10,50" }
    ∷ record { made = amount (pos 9999999999); paper = ascii "99999999,99" }
    ∷ record { made = encoding Standard training_text; paper = ascii "VFJB" }
    ∷ record { made = encoding Standard cancellation_text; paper = ascii "U1RP" }
    ∷ record { made = encoding Standard (0x0E ∷ 0x78 ∷ 0x1F ∷ 0x86 ∷ 0x98 ∷ 0x21 ∷ 0x2A ∷ 0xEF ∷ []); paper = ascii "DngfhpghKu8=" }
    -- -1 in five bytes
    ∷ record { made = take 5 (counter_bytes 5 (negsuc 0)); paper = 0xFF ∷ 0xFF ∷ 0xFF ∷ 0xFF ∷ 0xFF ∷ [] }
    ∷ record { made = take 5 (counter_bytes 5 (pos 549755813887)); paper = 0x7F ∷ 0xFF ∷ 0xFF ∷ 0xFF ∷ 0xFF ∷ [] }
    ∷ record { made = answer (date_good (day 2016 2 29)); paper = answer true }
    ∷ record { made = answer (date_good (day 2017 2 29)); paper = answer false }
    ∷ record { made = encoding UrlSafe header; paper = ascii "eyJhbGciOiJFUzI1NiJ9" }
    ∷ []

-- every case is as the paper says
unfoldable pub all_as_paper : List Case → Bool
all_as_paper [] = true
all_as_paper (c ∷ cs) = same c.made c.paper && all_as_paper cs

-- the cases marked P, as one statement
abbrev pub AsThePaperSays : Type 0
AsThePaperSays = all_as_paper cases ≡ true
