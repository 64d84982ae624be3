-- Date and time as 2016-02-29T08:05:00.
use Rattle.std.specs.Prelude.{ℕ, ◌+◌, ◌*◌, ◌%◌, Bool, true, false, cond, ◌&&◌, List, [], ◌∷◌, ◌++◌, leb, eqb, get_or}
use Prim.Native.Char.{code}
use Rattle.receipt.specs.Decimal.{fixed}
use Rattle.receipt.specs.declared.datetime.DateTime.{DateTime}

-- ---- question 8: "Year 2000 to 2099, date in the Gregorian calendar, hour 0 to 23, minute and second 0 to 59?"

unfoldable pub leap : ℕ → Bool
leap y = cond (eqb (y % 400) 0) true (cond (eqb (y % 100) 0) false (eqb (y % 4) 0))

-- the number of days of a month from 1 to 12
unfoldable pub days_in : ℕ → ℕ → ℕ
days_in y m =
    cond (eqb m 2) (cond (leap y) 29 28)
    (get_or (0 ∷ 31 ∷ 28 ∷ 31 ∷ 30 ∷ 31 ∷ 30 ∷ 31 ∷ 31 ∷ 30 ∷ 31 ∷ 30 ∷ 31 ∷ []) m 0)

unfoldable pub day_good : DateTime → Bool
day_good t =
    leb 2000 t.year && (leb t.year 2099 && (leb 1 t.month && (leb t.month 12 && (leb 1 t.day && leb t.day (days_in t.year t.month)))))

unfoldable pub time_good : DateTime → Bool
time_good t = leb t.hour 23 && (leb t.minute 59 && leb t.second 59)

unfoldable pub date_good : DateTime → Bool
date_good t = day_good t && time_good t

-- ---- the spelling

-- a letter and two digits
unfoldable pub pair : ℕ → ℕ → List ℕ
pair letter n = (letter ∷ []) ++ fixed 2 n

unfoldable pub date_text : DateTime → List ℕ
date_text t =
    fixed 4 t.year ++ pair (code "-") t.month ++ pair (code "-") t.day ++ pair (code "T") t.hour ++ pair (code ":") t.minute
    ++ pair (code ":") t.second

-- ---- the loose reader

-- two digits at a place
unfoldable pub two_at : List ℕ → ℕ → ℕ
two_at bs k = get_or bs k 0 % 16 * 10 + get_or bs (k + 1) 0 % 16

unfoldable pub read_date : List ℕ → DateTime
read_date bs =
    record {
      year = two_at bs 0 * 100 + two_at bs 2;
      month = two_at bs 5;
      day = two_at bs 8;
      hour = two_at bs 11;
      minute = two_at bs 14;
      second = two_at bs 17;
    }
