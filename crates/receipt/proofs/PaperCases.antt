-- The cases marked P of the paper, as one fact about the definitions. It computes.
use Rattle.std.proofs.Common.{◌≡◌, refl, true, List, [], ◌∷◌, ℕ, zero, suc, ◌<◌, arith, length, get_or}
use Rattle.primitives.specs.Text.{ascii}
use Rattle.primitives.specs.declared.base64.Alphabet.TheVariants.{Standard, UrlSafe}
use Rattle.primitives.proofs.ByteLists.{same_true}
use Rattle.primitives.proofs.Rows.{both}
use Rattle.primitives.specs.Bytes.{same}
use Rattle.primitives.specs.Number.{digits_of, bytes_of}
use Rattle.primitives.specs.Counter.{width_good, half, fits_in, counter_fits, twos, counter_bytes}
use Rattle.primitives.specs.Base64.{letter, quad, letters, encoding}
use Rattle.receipt.specs.Decimal.{fixed_onto, fixed, width_up, width, digits}
use Rattle.receipt.specs.Amount.{cents, amount}
use Rattle.receipt.specs.DateTime.{leap, days_in, day_good, time_good, date_good}
use Rattle.receipt.specs.Form.{header}
use Rattle.receipt.specs.Texts.{cancellation_text, training_text}
use Rattle.receipt.specs.Cases.{Case, day, answer, cases, all_as_paper, AsThePaperSays}

pub as_the_paper_says : AsThePaperSays
unfolding all_as_paper cases ascii cancellation_text training_text header day answer same amount cents digits width width_up fixed fixed_onto date_good day_good time_good days_in leap counter_bytes counter_fits width_good fits_in half twos digits_of bytes_of encoding letters quad letter
as_the_paper_says = refl

-- ---- what the table says of a case, for the laws that need it

-- the case at a place of the table
made_is_paper : (cs : List Case) (i : ℕ) (other : Case) → all_as_paper cs ≡ true → i < length cs → (get_or cs i other).made ≡ (get_or cs i other).paper
unfolding all_as_paper
made_is_paper [] i other e h = absurd (omega arith)
made_is_paper (c ∷ cs) zero other e h = same_true c.made c.paper (both (same c.made c.paper) (all_as_paper cs) e).0
made_is_paper (c ∷ cs) (suc i) other e h = made_is_paper cs i other (both (same c.made c.paper) (all_as_paper cs) e).1 (omega arith)

no_case : Case
no_case = record { made = []; paper = [] }

pub training_letters : encoding Standard training_text ≡ ascii "VFJB"
unfolding cases
training_letters = made_is_paper cases 4 no_case as_the_paper_says (omega arith)

pub cancellation_letters : encoding Standard cancellation_text ≡ ascii "U1RP"
unfolding cases
cancellation_letters = made_is_paper cases 5 no_case as_the_paper_says (omega arith)

pub header_letters : encoding UrlSafe header ≡ ascii "eyJhbGciOiJFUzI1NiJ9"
unfolding cases
header_letters = made_is_paper cases 11 no_case as_the_paper_says (omega arith)
