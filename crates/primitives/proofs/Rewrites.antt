-- Laws of writing over a part of a larger buffer: the parts outside are unchanged, and writes at two places commute.
use Rattle.std.proofs.Common.{◌≡◌, ℕ, ◌+◌, ◌-◌, ◌<◌, ◌≤◌, List, ◌++◌, length, get_or, take, drop, sym, refl, ap, ◌∙◌, append_assoc, add_assoc, arith, length-drop, take-append-drop, length-take-le, get_or-drop, get_or-take, take-take, take_at, drop_at}
use Rattle.std.proofs.Math.Seq.{take-append-le, drop-append-le, take-append-add, drop-append-add}
use Rattle.primitives.specs.Place.{overwrite}
use Rattle.primitives.proofs.Over.{length_over, before_over, read_over}

-- ---- a buffer in two parts, and in three

module _ (p q : List ℕ) (at : ℕ) (ys : List ℕ) where
  -- a write within the first part
  pub over_first : at + length ys ≤ length p → overwrite (p ++ q) at ys ≡ overwrite p at ys ++ q
  unfolding overwrite
  over_first h =
      (λ i. take-append-le at p q (omega arith) i ++ (ys ++ drop-append-le (at + length ys) p q h i))
      ∙ ap (λ (l : List ℕ). take at p ++ l) (sym (append_assoc ys (drop (at + length ys) p) q))
      ∙ sym (append_assoc (take at p) (ys ++ drop (at + length ys) p) q)

  -- a write within the second part
  pub over_second : overwrite (p ++ q) (length p + at) ys ≡ p ++ overwrite q at ys
  unfolding overwrite
  over_second =
      (λ i. take-append-add p q at i ++ (ys ++ (ap (λ (n : ℕ). drop n (p ++ q)) (add_assoc (length p) at (length ys)) ∙ drop-append-add p q (at + length ys)) i))
      ∙ append_assoc p (take at q) (ys ++ drop (at + length ys) q)

-- the middle part written over
pub over_middle : (p m q m' : List ℕ) → length m ≡ length m' → overwrite (p ++ (m ++ q)) (length p) m' ≡ p ++ (m' ++ q)
unfolding overwrite
over_middle p m q m' e =
    (λ i. take_at p (m ++ q) (length p) refl i ++ (m' ++ (drop-append-add p (m ++ q) (length m') ∙ drop_at m q (length m') e) i))

-- ---- the parts outside

module _ (xs : List ℕ) (at : ℕ) (ys : List ℕ) where
  pub take_before : (n : ℕ) → n ≤ at → at ≤ length xs → take n (overwrite xs at ys) ≡ take n xs
  take_before n h l = sym (take-take n at (overwrite xs at ys) h) ∙ ap (take n) (before_over xs at ys l) ∙ take-take n at xs h

  -- the buffer in two parts at n, the write in the second one
  cut : (n : ℕ) → n ≤ at → n ≤ length xs → overwrite xs at ys ≡ take n xs ++ overwrite (drop n xs) (at - n) ys
  cut n h l =
      let e : at ≡ length (take n xs) + (at - n) = omega (arith, length-take-le n xs l) in
      (λ i. overwrite (sym (take-append-drop n xs) i) (e i) ys) ∙ over_second (take n xs) (drop n xs) (at - n) ys

  pub drop_before : (n : ℕ) → n ≤ at → n ≤ length xs → drop n (overwrite xs at ys) ≡ overwrite (drop n xs) (at - n) ys
  drop_before n h l = ap (drop n) (cut n h l) ∙ drop_at (take n xs) (overwrite (drop n xs) (at - n) ys) n (length-take-le n xs l)

  module _ (n : ℕ) (h : at + length ys ≤ n) (l : n ≤ length xs) where
    -- the write in the first part
    cut' : overwrite xs at ys ≡ overwrite (take n xs) at ys ++ drop n xs
    cut' =
        ap (λ (l : List ℕ). overwrite l at ys) (sym (take-append-drop n xs))
        ∙ over_first (take n xs) (drop n xs) at ys (omega (arith, length-take-le n xs l))

    long : length (overwrite (take n xs) at ys) ≡ n
    long = length_over (take n xs) at ys (omega (arith, length-take-le n xs l)) ∙ length-take-le n xs l

    pub take_after : take n (overwrite xs at ys) ≡ overwrite (take n xs) at ys
    take_after = ap (take n) cut' ∙ take_at (overwrite (take n xs) at ys) (drop n xs) n long

    pub drop_after : drop n (overwrite xs at ys) ≡ drop n xs
    drop_after = ap (drop n) cut' ∙ drop_at (overwrite (take n xs) at ys) (drop n xs) n long

  pub get_d_before : (i : ℕ) → i < at → at ≤ length xs → get_or (overwrite xs at ys) i 0 ≡ get_or xs i 0
  get_d_before i h l = sym (get_or-take at (overwrite xs at ys) i 0 h) ∙ ap (λ (k : List ℕ). get_or k i 0) (before_over xs at ys l) ∙ get_or-take at xs i 0 h

  pub get_d_after : (i : ℕ) → at + length ys ≤ i → at + length ys ≤ length xs → get_or (overwrite xs at ys) i 0 ≡ get_or xs i 0
  get_d_after i h l =
      let k = at + length ys in
      let e : k + (i - k) ≡ i = omega arith in
      sym (get_or-drop k (overwrite xs at ys) (i - k) 0 ∙ ap (λ (j : ℕ). get_or (overwrite xs at ys) j 0) e)
      ∙ ap (λ (r : List ℕ). get_or r (i - k) 0) (drop_after k (omega arith) l)
      ∙ (get_or-drop k xs (i - k) 0 ∙ ap (λ (j : ℕ). get_or xs j 0) e)

  pub get_d_inside : (j : ℕ) → j < length ys → at + length ys ≤ length xs → get_or (overwrite xs at ys) (at + j) 0 ≡ get_or ys j 0
  get_d_inside j h l =
      sym (get_or-drop at (overwrite xs at ys) j 0)
      ∙ sym (get_or-take (length ys) (drop at (overwrite xs at ys)) j 0 h)
      ∙ ap (λ (r : List ℕ). get_or r j 0) (read_over xs at ys l)

-- a part that is read before the written one
pub part_before : (xs : List ℕ) (at : ℕ) (ys : List ℕ) (m n : ℕ) → m + n ≤ at → at ≤ length xs → take n (drop m (overwrite xs at ys)) ≡ take n (drop m xs)
part_before xs at ys m n h l =
    ap (take n) (drop_before xs at ys m (omega arith) (omega arith))
    ∙ take_before (drop m xs) (at - m) ys n (omega arith) (omega (arith, length-drop m xs))

-- ---- two writes

module _ (xs : List ℕ) (at : ℕ) (ys : List ℕ) where
  -- at one place
  pub over_again : (zs : List ℕ) → length ys ≡ length zs → at + length ys ≤ length xs → overwrite (overwrite xs at ys) at zs ≡ overwrite xs at zs
  unfolding overwrite
  over_again zs e l = λ i. before_over xs at ys (omega arith) i ++ (zs ++ drop_after xs at ys (at + length zs) (omega arith) (omega arith) i)

  -- at two places that do not meet
  pub over_comm : (at' : ℕ) (zs : List ℕ) → at + length ys ≤ at' → at' + length zs ≤ length xs → overwrite (overwrite xs at ys) at' zs ≡ overwrite (overwrite xs at' zs) at ys
  over_comm at' zs h l =
      let k = at + length ys in
      let m : length (overwrite xs at ys) ≡ length xs = length_over xs at ys (omega arith) in
      let m' : length (overwrite xs at' zs) ≡ length xs = length_over xs at' zs l in
      cut (overwrite xs at ys) at' zs k h (omega arith)
      ∙ (λ i. take_after xs at ys k (omega arith) (omega arith) i ++ overwrite (drop_after xs at ys k (omega arith) (omega arith) i) (at' - k) zs)
      ∙ sym (λ i. overwrite (take_before xs at' zs k h (omega arith) i) at ys ++ drop_before xs at' zs k h (omega arith) i)
      ∙ sym (cut' (overwrite xs at' zs) at ys k (omega arith) (omega arith))
