-- The details of a receipt for C: as thirteen numbers, and as 72 bytes. Numbers are big-endian, amounts are in two's complement.
use Rattle.std.specs.Prelude.{ℕ, zero, suc, ◌+◌, ◌*◌, ◌/◌, ◌%◌, cond, List, [], ◌∷◌, ◌++◌, eqb, ℤ, pos, length, take, drop, replicate}
use Rattle.primitives.specs.Number.{bytes_of, count_at}
use Rattle.primitives.specs.Counter.{counter_bytes, counter_value}
use Rattle.receipt.specs.declared.datetime.DateTime.{DateTime}
use Rattle.receipt.specs.declared.details.Kind.{Kind}
use Rattle.receipt.specs.declared.details.Kind.TheVariants.{Standard, Cancellation, Training}
use Rattle.receipt.specs.declared.details.Details.{Details}

-- ---- from thirteen numbers

-- all zero: question 7 refuses number 0 always
unfoldable pub no_details : Details
no_details =
    record {
      number = 0;
      date = record { year = 0; month = 0; day = 0; hour = 0; minute = 0; second = 0 };
      amounts = replicate 5 (pos 0);
      kind = Standard;
    }

unfoldable pub date_of : ℕ → ℕ → ℕ → ℕ → ℕ → ℕ → DateTime
date_of year month day hour minute second =
    record { year = year; month = month; day = day; hour = hour; minute = minute; second = second }

unfoldable pub details_with : ℕ → DateTime → List ℤ → Kind → Details
details_with number date amounts kind = record { number = number; date = date; amounts = amounts; kind = kind }

-- details of kind 0, 1 or 2; all zero for any other kind
unfoldable pub of_kind : ℕ → DateTime → List ℤ → ℕ → Details
of_kind number date amounts kind =
    cond (eqb kind 0) (details_with number date amounts Standard)
    (cond (eqb kind 1) (details_with number date amounts Cancellation)
    (cond (eqb kind 2) (details_with number date amounts Training) no_details))

unfoldable pub details_of : ℕ → ℕ → ℕ → ℕ → ℕ → ℕ → ℕ → ℤ → ℤ → ℤ → ℤ → ℤ → ℕ → Details
details_of number year month day hour minute second a b c d e kind =
    of_kind number (date_of year month day hour minute second) (a ∷ b ∷ c ∷ d ∷ e ∷ []) kind

-- ---- as bytes

abbrev pub kind_number : Kind → ℕ
kind_number Standard = 0
kind_number Cancellation = 1
kind_number Training = 2

-- one piece for each element of a list, one after the other
unfoldable pub pieces : {A : Type 0} → (A → List ℕ) → List A → List ℕ
pieces f [] = []
pieces f (x ∷ xs) = f x ++ pieces f xs

-- numbers of four bytes each
abbrev pub numbers_bytes : List ℕ → List ℕ
numbers_bytes xs = pieces (bytes_of 4) xs

-- amounts of eight bytes each
abbrev pub amounts_bytes : List ℤ → List ℕ
amounts_bytes zs = pieces (counter_bytes 8) zs

-- number, date, time and kind: eight numbers
abbrev pub details_numbers : Details → List ℕ
details_numbers d =
    d.number ∷ d.date.year ∷ d.date.month ∷ d.date.day ∷ d.date.hour ∷ d.date.minute ∷ d.date.second ∷ kind_number d.kind ∷ []

-- eight numbers, and then five amounts: 72 bytes
unfoldable pub details_bytes : Details → List ℕ
details_bytes d = numbers_bytes (details_numbers d) ++ amounts_bytes d.amounts

-- ---- the details that 72 bytes stand for

unfoldable pub number_in : List ℕ → ℕ → ℕ
number_in b i = count_at b (4 * i) 4

unfoldable pub amount_in : List ℕ → ℕ → ℤ
amount_in b i = counter_value 8 (take 8 (drop (32 + 8 * i) b))

unfoldable pub details_in : List ℕ → Details
details_in b =
    details_of (number_in b 0) (number_in b 1) (number_in b 2) (number_in b 3) (number_in b 4) (number_in b 5) (number_in b 6) (amount_in b 0) (amount_in b 1)
    (amount_in b 2) (amount_in b 3) (amount_in b 4) (number_in b 7)

-- ---- the list that bytes stand for

-- so many details, 72 bytes each
unfoldable pub details_from : ℕ → List ℕ → List Details
details_from zero b = []
details_from (suc k) b = details_in (take 72 b) ∷ details_from k (drop 72 b)

-- if the bytes are not a whole number of details, one receipt that is all zero: question 7 refuses receipt number 0
unfoldable pub list_in : List ℕ → List Details
list_in b = cond (eqb (length b % 72) 0) (details_from (length b / 72) b) (no_details ∷ [])
