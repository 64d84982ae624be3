-- BASE64: letters and numbers determine each other, and so do a group of 24 bits, its bytes and its numbers.
use Rattle.std.proofs.Common.{◌≡◌, ℕ, ◌+◌, ◌*◌, ◌/◌, ◌%◌, ◌<◌, ◌≤◌, Bool, true, false, not, ◌&&◌, ◌||◌, T, eqb, ltb, leb, List, length, replicate, sym, refl, ap, subst, arith, eqb→eq, ltb→lt, leb→le}
use Rattle.primitives.specs.declared.base64.Alphabet.{Alphabet}
use Rattle.primitives.specs.declared.base64.Alphabet.TheVariants.{Standard, UrlSafe}
use Rattle.primitives.specs.Base64.{pad, letter, digit, from_bytes, from_digits, LetterTable, DigitTable}
use Rattle.primitives.proofs.Table.{every, at, by_rule}

-- at each byte: its number is at most 64, and where it is below, its letter is the byte
right : Alphabet → ℕ → ℕ → Bool
right a c x = leb (digit a c) 64 && (not (ltb (digit a c) 64) || eqb (letter a (digit a c)) c)

all_right : (a : Alphabet) → T (every (right a) 0 (replicate 256 0))
unfolding right digit letter
all_right Standard = tt
all_right UrlSafe = tt

-- at each number below 64: its letter is a byte, and the letter's number is the number
back : Alphabet → ℕ → ℕ → Bool
back a k x = ltb (letter a k) 256 && eqb (digit a (letter a k)) k

all_back : (a : Alphabet) → T (every (back a) 0 (replicate 64 0))
unfolding back digit letter
all_back Standard = tt
all_back UrlSafe = tt

pub both_0 : (a b : Bool) → T (a && b) → T a
both_0 true b t = tt
both_0 false b t = absurd t

pub both_1 : (a b : Bool) → T (a && b) → T b
both_1 true b t = t
both_1 false b t = absurd t

pub implied : (a b : Bool) → T (not a || b) → a ≡ true → T b
implied true b t e = t
implied false b t e = absurd (subst (λ (x : Bool). T (not x)) e tt)

module _ (a : Alphabet) where
  pub digit_small : (c : ℕ) → c < 256 → digit a c ≤ 64
  unfolding right
  digit_small c h =
      leb→le (digit a c) 64
      (both_0 (leb (digit a c) 64) (not (ltb (digit a c) 64) || eqb (letter a (digit a c)) c) (at (right a) (replicate 256 0) (all_right a) c h))

  pub letter_digit : (c : ℕ) → c < 256 → ltb (digit a c) 64 ≡ true → letter a (digit a c) ≡ c
  unfolding right
  letter_digit c h e =
      eqb→eq (letter a (digit a c)) c
      (implied (ltb (digit a c) 64) (eqb (letter a (digit a c)) c)
      (both_1 (leb (digit a c) 64) (not (ltb (digit a c) 64) || eqb (letter a (digit a c)) c) (at (right a) (replicate 256 0) (all_right a) c h))
      e)

  pub letter_small : (k : ℕ) → k < 64 → letter a k < 256
  unfolding back
  letter_small k h =
      ltb→lt (letter a k) 256
      (both_0 (ltb (letter a k) 256) (eqb (digit a (letter a k)) k) (at (back a) (replicate 64 0) (all_back a) k h))

  pub digit_letter : (k : ℕ) → k < 64 → digit a (letter a k) ≡ k
  unfolding back
  digit_letter k h =
      eqb→eq (digit a (letter a k)) k
      (both_1 (ltb (letter a k) 256) (eqb (digit a (letter a k)) k) (at (back a) (replicate 64 0) (all_back a) k h))

  -- a foreign byte is not a letter
  pub foreign : (c : ℕ) → digit a c ≡ 64 → (k : ℕ) → k < 64 → letter a k ≡ c → ⊥
  foreign c f k h e = omega (arith, digit_letter k h, ap (digit a) e, f)

pub pad_foreign : (a : Alphabet) → digit a pad ≡ 64
unfolding digit
pad_foreign Standard = refl
pad_foreign UrlSafe = refl

pub dot_foreign : (a : Alphabet) → digit a 46 ≡ 64
unfolding digit
dot_foreign Standard = refl
dot_foreign UrlSafe = refl

-- ---- a list that passes the test is the table

module _ (a b : Alphabet) (xs : List ℕ) (told : a ≡ b) where
  pub letter_table : length xs ≡ 64 → T (every (λ k x. eqb x (letter b k)) 0 xs) → LetterTable a xs
  letter_table l t =
      subst (λ (u : Alphabet). LetterTable u xs) (sym told) (record { at = λ k h. by_rule (letter b) xs t k (omega (arith, l)) })

  pub digit_table : length xs ≡ 256 → T (every (λ c x. eqb x (digit b c)) 0 xs) → DigitTable a xs
  digit_table l t =
      subst (λ (u : Alphabet). DigitTable u xs) (sym told) (record { at = λ c h. by_rule (digit b) xs t c (omega (arith, l)) })

-- ---- groups of 24 bits

base_64 : (g h i p q r s : ℕ) → g ≡ h * 64 + s → h ≡ i * 64 + r → i ≡ p * 64 + q → from_digits p q r s ≡ g
base_64 g h i p q r s e f k = omega arith

module _ (g : ℕ) (h : g < 16777216) where
  pub digits_group : from_digits (g / 262144 % 64) (g / 4096 % 64) (g / 64 % 64) (g % 64) ≡ g
  digits_group =
      let e : g / 4096 ≡ g / 64 / 64 = omega arith in
      let f : g / 262144 ≡ g / 64 / 64 / 64 = omega arith in
      rw (e, f)
      (base_64 g (g / 64) (g / 64 / 64) (g / 64 / 64 / 64 % 64) (g / 64 / 64 % 64) (g / 64 % 64) (g % 64) (omega arith) (omega arith) (last (omega arith)))
    where
      last : g / 64 / 64 < 4096 → g / 64 / 64 ≡ g / 64 / 64 / 64 % 64 * 64 + g / 64 / 64 % 64
      last k = omega arith

  pub bytes_group : from_bytes (g / 65536 % 256) (g / 256 % 256) (g % 256) ≡ g
  bytes_group = omega arith

module _ (x y z : ℕ) (hx : x < 256) (hy : y < 256) (hz : z < 256) where
  pub byte_1 : from_bytes x y z / 65536 % 256 ≡ x
  byte_1 = omega arith

  pub byte_2 : from_bytes x y z / 256 % 256 ≡ y
  byte_2 = omega arith

  pub byte_3 : from_bytes x y z % 256 ≡ z
  byte_3 = omega arith

module _ (w x y z : ℕ) (hw : w < 64) (hx : x < 64) (hy : y < 64) (hz : z < 64) where
  pub sum_small : from_digits w x y z < 16777216
  sum_small = omega arith

  pub digit_1 : from_digits w x y z / 262144 % 64 ≡ w
  digit_1 = omega arith

  pub digit_2 : from_digits w x y z / 4096 % 64 ≡ x
  digit_2 = omega arith

  pub digit_3 : from_digits w x y z / 64 % 64 ≡ y
  digit_3 = omega arith

  pub digit_4 : from_digits w x y z % 64 ≡ z
  digit_4 = omega arith
