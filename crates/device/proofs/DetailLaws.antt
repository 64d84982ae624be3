-- The details of a receipt, as numbers and as 72 bytes.
use Rattle.std.proofs.Common.{ℕ, zero, suc, ◌+◌, ◌*◌, ◌^◌, ◌≤◌, ◌<◌, ◌≡◌, refl, sym, ap, ◌∙◌, true, List, [], ◌∷◌, ◌++◌, append-nil, add-one, arith, lt-ltb, ℤ, pos, negsuc, length, take, drop, get_or, length-append, drop_at, drop-drop}
use Rattle.primitives.specs.Place.{overwrite}
use Rattle.primitives.specs.Number.{bytes_of, value_of}
use Rattle.primitives.specs.Counter.{width_good, fits_in, counter_bytes, counter_value}
use Rattle.primitives.proofs.Over.{then}
use Rattle.primitives.proofs.Rows.{both}
use Rattle.primitives.proofs.Numbers.{length_bytes_of, value_bytes_of}
use Rattle.primitives.proofs.Counts.{count_is}
use Rattle.primitives.proofs.Twos.{width_test, fits_64, fits_wide, counter_back, length_counter_bytes}
use Rattle.receipt.specs.Amount.{within_limit}
use Rattle.receipt.specs.Details.{amounts_good}
use Rattle.receipt.specs.declared.datetime.DateTime.{DateTime}
use Rattle.receipt.specs.declared.details.Kind.{Kind}
use Rattle.receipt.specs.declared.details.Kind.TheVariants.{Standard, Cancellation, Training}
use Rattle.receipt.specs.declared.details.Details.{Details}
use Rattle.receipt.proofs.Cents.{within_most}
use Rattle.receipt.proofs.Joined.{ok_here}
use Rattle.device.specs.Details.{date_of, details_with, of_kind, details_of, kind_number, numbers_bytes, amounts_bytes, details_numbers, details_bytes, number_in, amount_in, details_in}
use Rattle.device.specs.Laws.{DetailsAreRead}
use Rattle.device.proofs.Reading.{over_all}
use Rattle.device.proofs.Pieces.{length_pieces, piece_at}

-- ---- amounts within their limit, and kinds

within_fits : (z : ℤ) → within_limit z ≡ true → fits_in 8 z ≡ true
within_fits (pos m) h = fits_64 (pos m) ∙ lt-ltb m (2 ^ 63) (omega (arith, within_most (pos m) h))
within_fits (negsuc m) h = fits_64 (negsuc m) ∙ lt-ltb m (2 ^ 63) (omega (arith, within_most (negsuc m) h))

good_from : (zs : List ℤ) (i : ℕ) → amounts_good zs ≡ true → i ≤ length zs → amounts_good (drop i zs) ≡ true
good_from zs zero h l = h
good_from zs (suc i) h l =
    let r : amounts_good (drop (i + 1) zs) ≡ true = (both (within_limit (get_or zs i (pos 0))) (amounts_good (drop (i + 1) zs)) (sym (ok_here zs i (omega arith)) ∙ good_from zs i h (omega arith))).1 in
    rw add-one at r

pub amount_fits : (zs : List ℤ) (i : ℕ) → amounts_good zs ≡ true → i < length zs → fits_in 8 (get_or zs i (pos 0)) ≡ true
amount_fits zs i h l =
    within_fits (get_or zs i (pos 0)) (both (within_limit (get_or zs i (pos 0))) (amounts_good (drop (i + 1) zs)) (sym (ok_here zs i l) ∙ good_from zs i h (omega arith))).0

pub five : (zs : List ℤ) → length zs ≡ 5 → get_or zs 0 (pos 0) ∷ get_or zs 1 (pos 0) ∷ get_or zs 2 (pos 0) ∷ get_or zs 3 (pos 0) ∷ get_or zs 4 (pos 0) ∷ [] ≡ zs
five [] l = absurd (omega arith)
five (a ∷ []) l = absurd (omega arith)
five (a ∷ b ∷ []) l = absurd (omega arith)
five (a ∷ b ∷ c ∷ []) l = absurd (omega arith)
five (a ∷ b ∷ c ∷ d ∷ []) l = absurd (omega arith)
five (a ∷ b ∷ c ∷ d ∷ e ∷ []) l = refl
five (a ∷ b ∷ c ∷ d ∷ e ∷ f ∷ zs) l = absurd (omega arith)

pub kind_same : (number : ℕ) (date : DateTime) (amounts : List ℤ) (k : Kind) → of_kind number date amounts (kind_number k) ≡ details_with number date amounts k
unfolding of_kind
kind_same number date amounts Standard = refl
kind_same number date amounts Cancellation = refl
kind_same number date amounts Training = refl

pub kind_word : (k : Kind) → kind_number k < 4294967296
kind_word Standard = omega arith
kind_word Cancellation = omega arith
kind_word Training = omega arith

-- ---- as bytes

pub eight_good : width_good 8 ≡ true
eight_good = sym (width_test 8 (omega arith))

-- the lengths of the parts: 32 and 40
numbers_long : (d : Details) → length (numbers_bytes (details_numbers d)) ≡ 32
numbers_long d = length_pieces (bytes_of 4) 0 4 (length_bytes_of 4) (details_numbers d)

amounts_long : (zs : List ℤ) → length zs ≡ 5 → length (amounts_bytes zs) ≡ 40
amounts_long zs l = length_pieces (counter_bytes 8) (pos 0) 8 (length_counter_bytes 8) zs ∙ ap (λ (k : ℕ). 8 * k) l

pub details_long : (d : Details) → length d.amounts ≡ 5 → length (details_bytes d) ≡ 72
unfolding details_bytes
details_long d l =
    length-append (numbers_bytes (details_numbers d)) (amounts_bytes d.amounts) ∙ omega (arith, numbers_long d, amounts_long d.amounts l)

-- what their writer leaves
pub put_details : (d : Details) (b : List ℕ) {k : ℕ} {b₁ b₂ : List ℕ} → length d.amounts ≡ 5 → length b ≡ 72 → k ≡ kind_number d.kind
    → b₁ ≡ overwrite b 0 (numbers_bytes (d.number ∷ d.date.year ∷ d.date.month ∷ d.date.day ∷ d.date.hour ∷ d.date.minute ∷ d.date.second ∷ k ∷ []))
    → b₂ ≡ overwrite b₁ 32 (amounts_bytes d.amounts) → b₂ ≡ details_bytes d
unfolding details_bytes
put_details d b l m e e₁ e₂ =
    let n = numbers_long d in
    let q = ap (λ (k : ℕ). numbers_bytes (d.number ∷ d.date.year ∷ d.date.month ∷ d.date.day ∷ d.date.hour ∷ d.date.minute ∷ d.date.second ∷ k ∷ [])) e in
    then b (numbers_bytes (details_numbers d)) (amounts_bytes d.amounts) 0 32 (e₁ ∙ ap (overwrite b 0) q) e₂ (omega arith) (omega arith)
    ∙ over_all b (details_bytes d) (details_long d l ∙ sym m)

module _ (d : Details) where
  -- the number at an index, and the amount
  number_read : (i : ℕ) → i < 8 → get_or (details_numbers d) i 0 < 4294967296 → number_in (details_bytes d) i ≡ get_or (details_numbers d) i 0
  unfolding number_in details_bytes
  number_read i h small =
      let x = get_or (details_numbers d) i 0 in
      count_is (numbers_bytes (details_numbers d) ++ amounts_bytes d.amounts) (4 * i) 4
      ∙ ap value_of (piece_at (bytes_of 4) 0 4 (length_bytes_of 4) (details_numbers d) i (amounts_bytes d.amounts) h)
      ∙ value_bytes_of 4 x small

  amount_read : (i : ℕ) → i < length d.amounts → fits_in 8 (get_or d.amounts i (pos 0)) ≡ true → amount_in (details_bytes d) i ≡ get_or d.amounts i (pos 0)
  unfolding amount_in details_bytes
  amount_read i h fits =
      let xs = numbers_bytes (details_numbers d) in
      let ys = amounts_bytes d.amounts in
      let z = get_or d.amounts i (pos 0) in
      ap (λ (l : List ℕ). counter_value 8 (take 8 l))
      (sym (drop-drop (8 * i) 32 (xs ++ ys)) ∙ ap (drop (8 * i)) (drop_at xs ys 32 (numbers_long d) ∙ sym (append-nil ys)))
      ∙ ap (counter_value 8) (piece_at (counter_bytes 8) (pos 0) 8 (length_counter_bytes 8) d.amounts i [] h)
      ∙ counter_back 8 z (fits_wide 8 z eight_good ∙ fits)

pub details_are_read : DetailsAreRead
unfolding details_in details_of date_of details_with
details_are_read d t =
    let b = details_bytes d in
    let n = number_read d in
    let a : (i : ℕ) → i < 5 → amount_in b i ≡ get_or d.amounts i (pos 0) = λ i h. amount_read d i (omega (arith, t.five)) (t.amounts i h) in
    let date : date_of (number_in b 1) (number_in b 2) (number_in b 3) (number_in b 4) (number_in b 5) (number_in b 6) ≡ d.date =
    λ i. record {
      year = n 1 (omega arith) t.year i;
      month = n 2 (omega arith) t.month i;
      day = n 3 (omega arith) t.day i;
      hour = n 4 (omega arith) t.hour i;
      minute = n 5 (omega arith) t.minute i;
      second = n 6 (omega arith) t.second i;
    } in
    let zs : amount_in b 0 ∷ amount_in b 1 ∷ amount_in b 2 ∷ amount_in b 3 ∷ amount_in b 4 ∷ [] ≡ d.amounts =
    (λ i. a 0 (omega arith) i ∷ a 1 (omega arith) i ∷ a 2 (omega arith) i ∷ a 3 (omega arith) i ∷ a 4 (omega arith) i ∷ []) ∙ five d.amounts t.five in
    let e : of_kind (number_in b 0) (date_of (number_in b 1) (number_in b 2) (number_in b 3) (number_in b 4) (number_in b 5) (number_in b 6))
    (amount_in b 0 ∷ amount_in b 1 ∷ amount_in b 2 ∷ amount_in b 3 ∷ amount_in b 4 ∷ []) (number_in b 7)
    ≡ of_kind d.number d.date d.amounts (kind_number d.kind) =
    λ i. of_kind (n 0 (omega arith) t.number i) (date i) (zs i) (n 7 (omega arith) (kind_word d.kind) i) in
    (details_long d t.five, e ∙ kind_same d.number d.date d.amounts d.kind)
