-- The hash input of an IV under a shared key: where the ID in it ends, and that it has only one ID and one number.
use Rattle.std.proofs.Common.{ℕ, zero, suc, ◌+◌, ◌-◌, ◌<◌, ◌≤◌, ◌≡◌, refl, sym, ap, ◌∙◌, Bool, true, false, List, [], ◌∷◌, ◌++◌, arith, le-leb, leb-true, leb-false, leb, length, get_or, take, drop, length-append, get_or-append-add, get_or-take}
use native.Mathlib.Nat.{sub-zero}
use lib.ListN.{get_or-append}
use lib.Seq.{get_or-append_seam, take-append_seam, drop-append_seam}
use Rattle.primitives.proofs.Each.{Each, each_at}
use Rattle.primitives.proofs.Rows.{true-is-not-false}
use Rattle.receipt.specs.Decimal.{digits}
use Rattle.receipt.specs.Settings.{between, digit, name_text, id_good, ends_in_digit, EndsInLastByte}
use Rattle.receipt.specs.Chain.{hash_input, OneIdOneHashInput, LongerIdHasDigits}
use Rattle.receipt.specs.declared.settings.Name.{Name}
use Rattle.receipt.specs.declared.settings.Letters.TheVariants.{Id}
use Rattle.receipt.proofs.Digits.{digits_same}
use Rattle.receipt.proofs.Names.{GoodName, good_name, length_text, same_name_lem}
use Rattle.receipt.proofs.Signs.{each_digits}

-- ---- where two texts of the same bytes change into digits

abbrev Digits : List ℕ → Type 0
Digits bs = Each (λ b. digit b ≡ true) bs

digits_are : (n : ℕ) → Digits (digits n)
unfolding between
digits_are n = each_digits (λ d h. rw (le-leb 48 (48 + d) (omega arith), le-leb (48 + d) 57 (omega arith))) n

-- a front whose last byte is not a digit is not longer than another front with only digits after it
front_not_longer : (front other after tail : List ℕ) → 1 ≤ length front → digit (get_or front (length front - 1) 0) ≡ false → Digits tail
    → front ++ after ≡ other ++ tail → length front ≤ length other
front_not_longer front other after tail some last-no ds e = go (leb (length front) (length other)) refl
  where
    go : (t : Bool) → leb (length front) (length other) ≡ t → length front ≤ length other
    go true h = leb-true (length front) (length other) h
    go false h =
        let longer : length other < length front = leb-false (length front) (length other) h in
        let last = length front - 1 in
        let i = last - length other in
        let place : length other + i ≡ last = omega arith in
        let long : length front + length after ≡ length other + length tail = sym (length-append front after) ∙ ap length e ∙ length-append other tail in
        let same : get_or front last 0 ≡ get_or tail i 0 =
        sym (get_or-append front after 0 last (omega arith)) ∙ ap (λ (l : List ℕ). get_or l last 0) e
        ∙ ap (λ (k : ℕ). get_or (other ++ tail) k 0) (sym place) ∙ get_or-append-add other tail i 0 in
        true-is-not-false (sym last-no ∙ ap digit same ∙ each_at ds i (omega arith))

-- if neither front ends in a digit, and only digits are after them, the fronts are the same and so are the digits
one_seam : (front other after tail : List ℕ) → 1 ≤ length front → 1 ≤ length other → digit (get_or front (length front - 1) 0) ≡ false
    → digit (get_or other (length other - 1) 0) ≡ false → Digits after → Digits tail → front ++ after ≡ other ++ tail → (front ≡ other) × (after ≡ tail)
one_seam front other after tail some more front-no other-no ds es e =
    let here = front_not_longer front other after tail some front-no es e in
    let there = front_not_longer other front tail after more other-no ds (sym e) in
    let long : length front ≡ length other = omega arith in (
      sym (take-append_seam front after) ∙ (λ i. take (long i) (e i)) ∙ take-append_seam other tail,
      sym (drop-append_seam front after) ∙ (λ i. drop (long i) (e i)) ∙ drop-append_seam other tail,
    )

-- ---- the last byte of an ID

module _ (id : Name) (l : length id.bytes ≡ 32) (good : id_good id ≡ true) where
  known : GoodName Id id
  known = good_name Id id good

  text_long : length (name_text id) ≡ id.len
  text_long = length_text id l known.most

  text_some : 1 ≤ length (name_text id)
  text_some = omega (arith, text_long, known.some)

  text_last : get_or (name_text id) (length (name_text id) - 1) 0 ≡ get_or id.bytes (id.len - 1) 0
  unfolding name_text
  text_last = ap (λ (k : ℕ). get_or (name_text id) (k - 1) 0) text_long ∙ get_or-take id.len id.bytes (id.len - 1) 0 (omega (arith, known.some))

  last_is : ends_in_digit id ≡ digit (get_or (name_text id) (length (name_text id) - 1) 0)
  unfolding ends_in_digit
  last_is = ap digit (sym text_last)

-- ---- the statements

pub ends_in_last_byte : EndsInLastByte
ends_in_last_byte id l good front last e =
    let place : length (name_text id) - 1 ≡ length front = omega (arith, ap length e ∙ length-append front (last ∷ [])) in
    last_is id l good ∙ ap digit ((λ i. get_or (e i) (place i) 0) ∙ get_or-append_seam front last [] 0)

pub one_id_one_hash_input : OneIdOneHashInput
unfolding hash_input
one_id_one_hash_input id other l m good fine id-no other-no a b h k e =
    let p = one_seam (name_text id) (name_text other) (digits a) (digits b) (text_some id l good) (text_some other m fine)
    (sym (last_is id l good) ∙ id-no) (sym (last_is other m fine) ∙ other-no) (digits_are a) (digits_are b) e in
    (same_name_lem Id id other l m good fine p.0, digits_same a b (omega arith) (omega arith) p.1)

-- ---- any two IDs

-- the first bytes of two texts in a row, beyond the first text
take_past : (front after : List ℕ) (n : ℕ) → length front ≤ n → take n (front ++ after) ≡ front ++ take (n - length front) after
take_past [] after n h = ap (λ (k : ℕ). take k after) (sym (sub-zero n))
take_past (x ∷ front) after zero h = absurd (omega (arith, h))
take_past (x ∷ front) after (suc n) h =
    let e : n - length front ≡ suc n - length (x ∷ front) = omega arith in
    ap (λ (l : List ℕ). x ∷ l) (take_past front after n (omega (arith, h)) ∙ ap (λ (k : ℕ). front ++ take k after) e)

pub longer_id_has_digits : LongerIdHasDigits
unfolding hash_input
longer_id_has_digits id other a b e h =
    sym (take-append_seam (name_text other) (digits b)) ∙ ap (take (length (name_text other))) (sym e) ∙ take_past (name_text id) (digits a) (length (name_text other)) h
