-- Laws of the primitives' definitions that follow from their laws.
use Rattle.std.proofs.Common.{ℕ, zero, suc, ◌-◌, ◌<◌, ◌≤◌, ◌≡◌, refl, sym, ap, ◌∙◌, Bool, true, false, List, [], append-nil, add-one, arith, leb-true, leb-false, leb, bit_xor, ℤ, length, get_or, drop, replicate, drop_of_length-le, drop_at, drop-set-lt}
use native.Mathlib.Nat.{sub-zero, zero-sub, suc-sub-suc}
use Rattle.primitives.specs.Place.{overwrite, placed}
use Rattle.primitives.specs.Number.{bytes_of}
use Rattle.primitives.specs.Counter.{twos, counter_fits, counter_bytes, xor_first}
use Rattle.primitives.proofs.Over.{placed_room}
use Rattle.primitives.proofs.Rewrites.{over_middle}
use Rattle.primitives.proofs.Numbers.{length_bytes_of}
use Rattle.primitives.proofs.Twos.{counter_bytes_is, counter_bytes_none}
use Rattle.primitives.proofs.Xors.{length_xor_first, xor_first_start, xor_first_more}

-- a buffer that is overwritten completely
pub filled : (xs ys : List ℕ) → length xs ≡ length ys → placed xs 0 ys ≡ ys
filled xs ys e =
    placed_room xs 0 ys (omega arith) ∙ ap (λ (l : List ℕ). overwrite l 0 ys) (sym (append-nil xs)) ∙ over_middle [] xs [] ys e ∙ append-nil ys

drop_replicate : (n m a : ℕ) → drop n (replicate m a) ≡ replicate (m - n) a
drop_replicate zero m a = ap (λ (k : ℕ). replicate k a) (sym (sub-zero m))
drop_replicate (suc n) zero a = ap (λ (k : ℕ). replicate k a) (sym (zero-sub (suc n)))
drop_replicate (suc n) (suc m) a = drop_replicate n m a ∙ ap (λ (k : ℕ). replicate k a) (sym (suc-sub-suc m n))

-- zeros follow the n bytes of a counter
pub after_counter : (n : ℕ) (z : ℤ) → drop n (counter_bytes n z) ≡ replicate (8 - n) 0
after_counter n z = go (counter_fits n z) refl
  where
    go : (t : Bool) → counter_fits n z ≡ t → drop n (counter_bytes n z) ≡ replicate (8 - n) 0
    go true e = ap (drop n) (counter_bytes_is n z e) ∙ drop_at (bytes_of n (twos n z)) (replicate (8 - n) 0) n (length_bytes_of n (twos n z))
    go false e = ap (drop n) (counter_bytes_none n z e) ∙ drop_replicate n 8 0

-- what follows the combined bytes is unchanged
after_first : (n i : ℕ) (b k : List ℕ) → i ≤ n → n ≤ length b → n ≤ length k → drop n (xor_first i b k) ≡ drop n b
after_first n zero b k h l m = ap (drop n) (xor_first_start b k)
after_first n (suc i) b k h l m =
    ap (λ (j : ℕ). drop n (xor_first j b k)) (sym (add-one i))
    ∙ ap (drop n) (sym (xor_first_more {r = xor_first i b k} i b k refl (omega arith) (omega arith)))
    ∙ drop-set-lt n (xor_first i b k) i (bit_xor (get_or b i 0) (get_or k i 0)) (omega arith)
    ∙ after_first n i b k (omega arith) l m

pub after_xor_first : (n : ℕ) (b k : List ℕ) → length b ≤ length k → drop n (xor_first n b k) ≡ drop n b
after_xor_first n b k h = go (leb n (length b)) refl
  where
    go : (t : Bool) → leb n (length b) ≡ t → drop n (xor_first n b k) ≡ drop n b
    go true e = let l : n ≤ length b = leb-true n (length b) e in after_first n n b k (omega arith) l (omega arith)
    go false e =
        let l : length b < n = leb-false n (length b) e in
        let m : length b ≤ n = omega arith in
        let j : length (xor_first n b k) ≤ n = omega (arith, length_xor_first n b k h) in
        drop_of_length-le (xor_first n b k) j ∙ sym (drop_of_length-le b m)
