-- Counts at a place in a list of bytes.
use Rattle.std.proofs.Common.{◌≡◌, ℕ, ◌+◌, ◌^◌, ◌<◌, ◌≤◌, List, ◌++◌, length, take, drop, sym, refl, ap, ◌∙◌, subst, arith, lit<, length-drop, take-append-drop, length-take-le, drop-drop, take_at, drop_at}
use Rattle.std.proofs.Math.Nat.{pow-le-pow_right}
use Rattle.primitives.specs.Bytes.{AllBytes}
use Rattle.primitives.specs.Number.{bytes_of, value_of, count_at, number_at}
use Rattle.std.specs.Prelude.{Some, None}
use Rattle.primitives.proofs.ByteLists.{bytes_take, bytes_drop}
use Rattle.primitives.proofs.Numbers.{length_bytes_of, value_bytes_of, bytes_of_value, value_lt, number_found, number_there, found_lt}

-- ---- what stands in the middle

pub part_at : (p m q : List ℕ) (at n : ℕ) → length p ≡ at → length m ≡ n → take n (drop at (p ++ (m ++ q))) ≡ m
part_at p m q at n e f = ap (take n) (drop_at p (m ++ q) at e) ∙ take_at m q n f

-- a count is read back
pub count_in : (p q : List ℕ) (at n v : ℕ) → length p ≡ at → v < 256 ^ n → count_at (p ++ (bytes_of n v ++ q)) at n ≡ v
unfolding count_at
count_in p q at n v e h = ap value_of (part_at p (bytes_of n v) q at n e (length_bytes_of n v)) ∙ value_bytes_of n v h

-- the rest from a place on, cut in two
pub cut : (j : List ℕ) (at n : ℕ) → drop at j ≡ take n (drop at j) ++ drop (at + n) j
cut j at n = sym (take-append-drop n (drop at j)) ∙ ap (λ (l : List ℕ). take n (drop at j) ++ l) (drop-drop n at j)

module _ (j : List ℕ) (b : AllBytes j) (at n : ℕ) (room : at + n ≤ length j) where
  pub part_length : length (take n (drop at j)) ≡ n
  part_length = length-take-le n (drop at j) (omega (arith, length-drop at j))

  -- a count that was read has these bytes
  pub count_bytes : bytes_of n (count_at j at n) ≡ take n (drop at j)
  unfolding count_at
  count_bytes =
      ap (λ (k : ℕ). bytes_of k (value_of (take n (drop at j)))) (sym part_length)
      ∙ bytes_of_value (take n (drop at j)) (bytes_take n (bytes_drop at b))

  pub count_lt : count_at j at n < 256 ^ n
  unfolding count_at
  count_lt = subst (λ (k : ℕ). value_of (take n (drop at j)) < 256 ^ k) part_length (value_lt (take n (drop at j)) (bytes_take n (bytes_drop at b)))

-- ---- a count

module _ (j : List ℕ) (at n : ℕ) (few : n ≤ 4) where
  pub count_found : {v : ℕ} → AllBytes j → number_at j at n ≡ Some v → (v ≡ count_at j at n) × (v < 4294967296)
  unfolding count_at
  count_found b e =
      let f = number_found j at n e in
      (f.is, omega (arith, found_lt b f, pow-le-pow_right {n = 256} (lit< tt) few))

  pub count-missing {ℓ} : {X : Type ℓ} → at + n ≤ length j → number_at j at n ≡ None → X
  count-missing h e =
      let q = number_there j at n (omega arith) h in
      let z : ◌≡◌ {A = ℕ} 0 1 = cc in
      absurd (omega arith)

-- a count is the number of its bytes
pub count_is : (b : List ℕ) (at n : ℕ) → count_at b at n ≡ value_of (take n (drop at b))
unfolding count_at
count_is b at n = refl
