-- Numbers in decimal: writing them, and reading what was written.
use Rattle.std.proofs.Common.{◌≡◌, refl, sym, ap, ◌∙◌, Bool, true, false, cond, List, [], ◌∷◌, ◌++◌, ℕ, zero, suc, ◌+◌, ◌-◌, ◌*◌, ◌/◌, ◌%◌, ◌^◌, ◌<◌, ◌≤◌, pow-suc, add-one, arith, lt-ltb, le-ltb, ne_eqb, ltb-true, ltb-false, lit<, Option, Some, None, unwrap_or, IfNone, IfSome, ltb, length, drop, get_or, set, drop_of_length-le, drop-cons}
use Rattle.std.proofs.Math.Nat.{pow-le-pow_right}
use Rattle.primitives.specs.Place.{overwrite}
use Rattle.primitives.proofs.Over.{over_cons, over_nil}
use Rattle.receipt.specs.Decimal.{fixed_onto, fixed, width_up, width, digits, read_limit, more, value_from, value_of}

-- ---- lengths

length_onto : (w n : ℕ) (acc : List ℕ) → length (fixed_onto w n acc) ≡ w + length acc
unfolding fixed_onto
length_onto zero n acc = omega arith
length_onto (suc w) n acc = length_onto w (n / 10) ((48 + n % 10) ∷ acc) ∙ omega arith

pub length_fixed : (w n : ℕ) → length (fixed w n) ≡ w
unfolding fixed
length_fixed w n = length_onto w n [] ∙ omega arith

pub length_digits : (n : ℕ) → length (digits n) ≡ width n
unfolding digits
length_digits n = length_fixed (width n) n

-- ---- writing from the end: i digits are left to write, of the number v

pub record Putting (out₀ : List ℕ) (at w n : ℕ) (out : List ℕ) (v i : ℕ) : Type 0 where
  pub done : List ℕ
  pub long : length done + i ≡ w
  pub room : at + w ≤ length out₀
  pub is : out ≡ overwrite out₀ (at + i) done
  pub left : fixed_onto i v done ≡ fixed w n

pub start : (out₀ : List ℕ) (at w n : ℕ) → at + w ≤ length out₀ → Putting out₀ at w n out₀ n w
unfolding fixed
start out₀ at w n h = record { done = []; long = omega arith; room = h; is = sym (over_nil out₀ (at + w)); left = refl }

one_less : (i v : ℕ) (acc : List ℕ) → 0 < i → fixed_onto (i - 1) (v / 10) ((48 + v % 10) ∷ acc) ≡ fixed_onto i v acc
unfolding fixed_onto
one_less zero v acc h = absurd (omega arith)
one_less (suc i) v acc h = let e : suc i - 1 ≡ i = omega arith in ap (λ (k : ℕ). fixed_onto k (v / 10) ((48 + v % 10) ∷ acc)) e

module _ {out₀ out : List ℕ} {at w n v i : ℕ} (p : Putting out₀ at w n out v i) where
  pub put_one : 0 < i → Putting out₀ at w n (set out (at + (i - 1)) (48 + v % 10)) (v / 10) (i - 1)
  put_one h =
      record {
        done = (48 + v % 10) ∷ p.done;
        long = omega (arith, p.long);
        room = p.room;
        is = ap (λ (l : List ℕ). set l (at + (i - 1)) (48 + v % 10)) (p.is ∙ ap (λ (k : ℕ). overwrite out₀ k p.done) e)
            ∙ over_cons out₀ (at + (i - 1)) p.done (48 + v % 10) (omega (arith, p.room, p.long));
        left = one_less i v p.done h ∙ p.left;
      }
    where
      e : at + i ≡ at + (i - 1) + 1
      e = omega arith

  pub put_all : i ≤ 0 → out ≡ overwrite out₀ at (fixed w n)
  unfolding fixed_onto
  put_all h =
      let e : i ≡ 0 = omega arith in
      let a : at + i ≡ at = omega arith in
      p.is ∙ (λ j. overwrite out₀ (a j) p.done) ∙ ap (overwrite out₀ at) (sym (ap (λ (k : ℕ). fixed_onto k v p.done) e) ∙ p.left)

-- ---- the number of digits

-- a number has at most k + 1 digits where it is below 10 ^ (k + 1), and at least one
width_up_short : (k m n : ℕ) → n < 10 ^ suc k → width_up m n ≤ suc k
unfolding width_up
width_up_short k zero n h = omega arith
width_up_short zero (suc m) n h = rw (lt-ltb n 10 h) (omega arith)
width_up_short (suc k) (suc m) n h = go (ltb n 10) (width_up_short k m (n / 10) (omega (arith, pow-suc 10 (suc k))))
  where
    go : (t : Bool) {r : ℕ} → r ≤ suc k → cond t 1 (suc r) ≤ suc (suc k)
    go true q = omega arith
    go false q = omega arith

pub width_short : (k n : ℕ) → n < 10 ^ suc k → width n ≤ suc k
unfolding width
width_short k n h = width_up_short k 19 n h

pub width_some : (n : ℕ) → 1 ≤ width n
unfolding width width_up
width_some n = go (ltb n 10) (width_up 18 (n / 10))
  where
    go : (t : Bool) (r : ℕ) → 1 ≤ cond t 1 (suc r)
    go true r = omega arith
    go false r = omega arith

-- and it fits in that many digits
width_up_holds : (k n : ℕ) → n < 10 ^ suc k → n < 10 ^ width_up k n
unfolding width_up
width_up_holds zero n h = h
width_up_holds (suc k) n h = go (ltb n 10) refl (width_up_holds k (n / 10) (omega (arith, pow-suc 10 (suc k))))
  where
    go : (t : Bool) → ltb n 10 ≡ t → n / 10 < 10 ^ width_up k (n / 10) → n < 10 ^ cond t 1 (suc (width_up k (n / 10)))
    go true e q = ltb-true n 10 e
    go false e q = omega (arith, pow-suc 10 (width_up k (n / 10)))

pub width_holds : (n : ℕ) → n < 10 ^ 20 → n < 10 ^ width n
unfolding width
width_holds n h = width_up_holds 19 n h

-- the largest power of ten within a number tells their count
pub width_is : (k n : ℕ) → n < 10 ^ 20 → 10 ^ k ≤ n → n < 10 * 10 ^ k → k + 1 ≡ width n
width_is k n h l u = omega (arith, width_short k n (omega (arith, pow-suc 10 k)), more)
  where
    more : k < width n
    more = go (ltb k (width n)) refl
      where
        go : (t : Bool) → ltb k (width n) ≡ t → k < width n
        go true e = ltb-true k (width n) e
        go false e =
            let w : width n ≤ k = ltb-false k (width n) e in
            let p : 10 ^ width n ≤ 10 ^ k = pow-le-pow_right (lit< tt) w in
            absurd (omega (arith, width_holds n h))

-- and 0 has one digit
pub width_from : (n : ℕ) (log : Option ℕ) → n < 10 ^ 20 → IfNone log (n ≡ 0) → IfSome log (λ k. 10 ^ k ≤ n) → IfSome log (λ k. n < 10 * 10 ^ k)
    → unwrap_or log 0 + 1 ≡ width n
unfolding width width_up
width_from n None h e l u = rw e
width_from n (Some k) h e l u = width_is k n h l u

-- ---- reading

more_below : (v b : ℕ) → v < read_limit → more v b < read_limit
unfolding more
more_below v b h = go (ltb b 48)
  where
    go : (t : Bool) → cond t v ((v * 10 + b % 16) % read_limit) < read_limit
    go true = h
    go false = omega arith

pub more_low : (v b : ℕ) → b < 48 → v ≡ more v b
unfolding more
more_low v b h = rw (lt-ltb b 48 h)

pub more_high : (v b : ℕ) → 48 ≤ b → (v * 10 + b % 16) % read_limit ≡ more v b
unfolding more
more_high v b h = rw (le-ltb b 48 h)

-- a digit that was written
more_digit : (v d : ℕ) → d < 10 → v * 10 + d < read_limit → more v (48 + d) ≡ v * 10 + d
more_digit v d h l =
    let e : (48 + d) % 16 ≡ d = omega arith in
    sym (more_high v (48 + d) (omega arith)) ∙ rw e (omega arith)

pub from_mark : (v : ℕ) (bs : List ℕ) → value_from v (95 ∷ bs) ≡ v
unfolding value_from
from_mark v bs = refl

pub from_other : (v b : ℕ) (bs : List ℕ) → (b ≡ 95 → ⊥) → value_from v (b ∷ bs) ≡ value_from (more v b) bs
unfolding value_from
from_other v b bs h = rw (ne_eqb b 95 h)

pub from_digit : (v d : ℕ) (bs : List ℕ) → d < 10 → v * 10 + d < read_limit → value_from v ((48 + d) ∷ bs) ≡ value_from (v * 10 + d) bs
from_digit v d bs h l = from_other v (48 + d) bs (λ e. omega arith) ∙ ap (λ (k : ℕ). value_from k bs) (more_digit v d h l)

onto_append : (w n : ℕ) (acc rest : List ℕ) → fixed_onto w n acc ++ rest ≡ fixed_onto w n (acc ++ rest)
unfolding fixed_onto
onto_append zero n acc rest = refl
onto_append (suc w) n acc rest = onto_append w (n / 10) ((48 + n % 10) ∷ acc) rest

from_onto : (w n : ℕ) (rest : List ℕ) → n < 10 ^ w → n < read_limit → value_from 0 (fixed_onto w n rest) ≡ value_from n rest
unfolding fixed_onto
from_onto zero n rest h l = ap (λ (k : ℕ). value_from k rest) (omega arith)
from_onto (suc w) n rest h l =
    let e : n / 10 * 10 + n % 10 ≡ n = omega arith in
    from_onto w (n / 10) ((48 + n % 10) ∷ rest) (omega (arith, pow-suc 10 w)) (omega arith)
    ∙ from_digit (n / 10) (n % 10) rest (omega arith) (omega arith)
    ∙ ap (λ (k : ℕ). value_from k rest) e

-- digits that were written are read back, whatever follows them
pub from_digits_lem : (n : ℕ) (rest : List ℕ) → n < read_limit → value_from 0 (digits n ++ rest) ≡ value_from n rest
unfolding digits fixed
from_digits_lem n rest l =
    ap (value_from 0) (onto_append (width n) n [] rest) ∙ from_onto (width n) n rest (width_holds n (omega arith)) l

pub value_digits : (n : ℕ) (rest : List ℕ) → n < read_limit → value_of (digits n ++ (95 ∷ rest)) ≡ n
unfolding value_of
value_digits n rest l = from_digits_lem n (95 ∷ rest) l ∙ from_mark n rest

-- digits do not begin with '-', and contain no '_'
first_onto : (w n : ℕ) (rest : List ℕ) → 1 ≤ w → get_or (fixed_onto w n rest) 0 0 ≡ 45 → ⊥
unfolding fixed_onto
first_onto zero n rest h e = absurd (omega arith)
first_onto (suc zero) n rest h e = omega arith
first_onto (suc (suc w)) n rest h e = first_onto (suc w) (n / 10) ((48 + n % 10) ∷ rest) (omega arith) e

pub first_digits : (n : ℕ) (rest : List ℕ) → get_or (digits n ++ rest) 0 0 ≡ 45 → ⊥
unfolding digits fixed
first_digits n rest e = first_onto (width n) n rest (width_some n) (rw (onto_append (width n) n [] rest) at e)

-- different numbers are spelled differently
pub digits_same : (m n : ℕ) → m < read_limit → n < read_limit → digits m ≡ digits n → m ≡ n
digits_same m n hm hn e = sym (value_digits m [] hm) ∙ ap (λ (l : List ℕ). value_of (l ++ (95 ∷ []))) e ∙ value_digits n [] hn

-- ---- the loop that reads: after i bytes the number is v

pub record Reading (bs : List ℕ) (v i : ℕ) : Type 0 where
  pub is : value_of bs ≡ value_from v (drop i bs)
  pub below : v < read_limit

pub reading_start : (bs : List ℕ) → Reading bs 0 0
unfolding value_of
reading_start bs = record { is = refl; below = omega arith }

module _ {bs : List ℕ} {v i : ℕ} (r : Reading bs v i) where
  pub reading_mark : i < length bs → get_or bs i 0 ≡ 95 → v ≡ value_of bs
  reading_mark h e = sym (r.is ∙ rw (drop-cons bs i 0 h, e) (from_mark v (drop (suc i) bs)))

  pub reading_more : {v' : ℕ} → i < length bs → (get_or bs i 0 ≡ 95 → ⊥) → v' ≡ more v (get_or bs i 0) → Reading bs v' (i + 1)
  reading_more h n e =
      record {
        is = r.is ∙ rw (drop-cons bs i 0 h, add-one i, e) (from_other v (get_or bs i 0) (drop (suc i) bs) n);
        below = rw e (more_below v (get_or bs i 0) r.below);
      }

  pub reading_end : length bs ≤ i → v ≡ value_of bs
  unfolding value_from
  reading_end h = sym (r.is ∙ ap (value_from v) (drop_of_length-le bs h))

-- ---- the contract of the writer, from those that it calls

module _ (n w : ℕ) (e : w ≡ width n) where
  pub counted : w ≡ length (digits n)
  counted = e ∙ sym (length_digits n)

  pub put_digits : (b : List ℕ) (at : ℕ) {b' : List ℕ} → b' ≡ overwrite b at (fixed w n) → b' ≡ overwrite b at (digits n)
  unfolding digits
  put_digits b at p = p ∙ ap (λ (k : ℕ). overwrite b at (fixed k n)) e
