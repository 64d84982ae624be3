-- Laws of numbers as bytes, over every count of bytes.
use Rattle.std.proofs.Common.{◌≡◌, ℕ, ◌+◌, ◌*◌, ◌^◌, ◌<◌, ◌≤◌, Bool, true, false, cond, ◌&&◌, leb, List, [], ◌∷◌, ◌++◌, length, take, drop, sym, refl, ap, ◌∙◌, subst, arith, lit<, length-append, length-drop, length-take-le, take_at, drop_at, le-leb, leb-true}
use Rattle.primitives.specs.Bytes.{AllBytes}
use Rattle.primitives.specs.Place.{overwrite}
use Rattle.primitives.specs.Number.{number_of, bytes_of, value_after, value_of, number_at}
use Rattle.std.specs.Prelude.{Some, None}
use Rattle.primitives.proofs.ByteLists.{bytes_take, bytes_drop, bytes_each, each_bytes}
use Rattle.primitives.proofs.Radix.{length_digits, digits_below, digits_low, number_snoc, number_append, number_lt, number_digits, digits_number}
use Rattle.primitives.proofs.Over.{read_over, length_over}

-- ---- the bytes of a number

pub length_bytes_of : (n v : ℕ) → length (bytes_of n v) ≡ n
unfolding bytes_of
length_bytes_of = length_digits 256

pub bytes_bytes_of : (n v : ℕ) → AllBytes (bytes_of n v)
unfolding bytes_of
bytes_bytes_of n v = each_bytes (digits_below 256 (lit< tt) n v)

-- bytes above the n low ones do not count
pub bytes_of_low : (n q v : ℕ) → bytes_of n (q * 256 ^ n + v) ≡ bytes_of n v
unfolding bytes_of
bytes_of_low = digits_low 256 (lit< tt)

-- ---- the value of bytes

-- one byte more
pub value_snoc : (xs : List ℕ) (b : ℕ) → value_of (xs ++ (b ∷ [])) ≡ value_of xs * 256 + b
unfolding value_of value_after number_of
value_snoc = number_snoc 256

pub value_append : (xs ys : List ℕ) → value_of (xs ++ ys) ≡ value_of xs * 256 ^ length ys + value_of ys
unfolding value_of value_after number_of
value_append = number_append 256

pub value_lt : (bs : List ℕ) → AllBytes bs → value_of bs < 256 ^ length bs
unfolding value_of value_after number_of
value_lt bs p = number_lt 256 (bytes_each p)

-- ---- there and back

pub value_bytes_of : (n v : ℕ) → v < 256 ^ n → value_of (bytes_of n v) ≡ v
unfolding bytes_of value_of value_after number_of
value_bytes_of = number_digits 256 (lit< tt)

pub bytes_of_value : (bs : List ℕ) → AllBytes bs → bytes_of (length bs) (value_of bs) ≡ bs
unfolding bytes_of value_of value_after number_of
bytes_of_value bs p = digits_number 256 (bytes_each p)

-- ---- the number at a place

module _ (s : List ℕ) (at n : ℕ) where
  pub number_there : n ≤ 8 → at + n ≤ length s → number_at s at n ≡ Some (value_of (take n (drop at s)))
  unfolding number_at
  number_there h r = rw (le-leb n 8 h, le-leb (at + n) (length s) r)

-- what was written is read
pub number_written : (s : List ℕ) (at n v : ℕ) → n ≤ 8 → v < 256 ^ n → at + n ≤ length s → number_at (overwrite s at (bytes_of n v)) at n ≡ Some v
number_written s at n v h l r =
    let e = length_bytes_of n v in
    let k : at + length (bytes_of n v) ≤ length s = omega arith in
    number_there (overwrite s at (bytes_of n v)) at n h (rw (length_over s at (bytes_of n v) k) r)
    ∙ ap Some (ap value_of (rw e at (read_over s at (bytes_of n v) k)) ∙ value_bytes_of n v l)

-- a number that stands in a text
pub number_in : (p q : List ℕ) (n v : ℕ) → n ≤ 8 → v < 256 ^ n → number_at (p ++ (bytes_of n v ++ q)) (length p) n ≡ Some v
number_in p q n v h l =
    let t = bytes_of n v ++ q in
    let e = length_bytes_of n v in
    number_there (p ++ t) (length p) n h (omega (arith, length-append p t, length-append (bytes_of n v) q))
    ∙ ap Some (ap value_of (ap (take n) (drop_at p t (length p) refl) ∙ take_at (bytes_of n v) q n e) ∙ value_bytes_of n v l)

-- what holds if a number was found
pub record Found (s : List ℕ) (at n v : ℕ) : Type 0 where
  pub wide : n ≤ 8
  pub room : at + n ≤ length s
  pub is : v ≡ value_of (take n (drop at s))

pub number_found : (s : List ℕ) (at n : ℕ) {v : ℕ} → number_at s at n ≡ Some v → Found s at n v
unfolding number_at
number_found s at n {v} e = go (leb n 8) (leb (at + n) (length s)) refl refl e
  where
    go : (t u : Bool) → leb n 8 ≡ t → leb (at + n) (length s) ≡ u → cond (t && u) (Some (value_of (take n (drop at s)))) None ≡ Some v → Found s at n v
    go true true p q e = record { wide = leb-true n 8 p; room = leb-true (at + n) (length s) q; is = cc }
    go true false p q e = let z : ◌≡◌ {A = ℕ} 0 1 = cc in absurd (omega arith)
    go false u p q e = let z : ◌≡◌ {A = ℕ} 0 1 = cc in absurd (omega arith)

module _ {s : List ℕ} {at n v : ℕ} (p : AllBytes s) (f : Found s at n v) where
  part_bytes : AllBytes (take n (drop at s))
  part_bytes = bytes_take n (bytes_drop at p)

  part_length : length (take n (drop at s)) ≡ n
  part_length = length-take-le n (drop at s) (omega (arith, length-drop at s, f.room))

  pub found_lt : v < 256 ^ n
  found_lt = subst (λ (k : ℕ). k < 256 ^ n) (sym f.is) (rw part_length at (value_lt (take n (drop at s)) part_bytes))

  pub found_bytes : bytes_of n v ≡ take n (drop at s)
  found_bytes = ap (bytes_of n) f.is ∙ rw part_length at (bytes_of_value (take n (drop at s)) part_bytes)
