-- Equal counters.
use Rattle.std.proofs.Common.{ℕ, ◌≡◌, sym, ap, true, ◌&&◌, arith, leb-true, le-leb, leb, ℤ, pos, negsuc}
use Rattle.primitives.proofs.Rows.{both, true-is-not-false}
use Rattle.journal.specs.Checking.{equal}

same_le : (m n : ℕ) → leb m n && leb n m ≡ true → m ≡ n
same_le m n e = let p = both (leb m n) (leb n m) e in omega (arith, leb-true m n p.0, leb-true n m p.1)

pub equal_true : (a b : ℤ) → equal a b ≡ true → a ≡ b
unfolding equal
equal_true (pos m) (pos n) e = ap pos (same_le m n e)
equal_true (pos m) (negsuc n) e = true-is-not-false e
equal_true (negsuc m) (pos n) e = true-is-not-false e
equal_true (negsuc m) (negsuc n) e = ap negsuc (sym (same_le n m e))

pub equal_refl : (a : ℤ) → equal a a ≡ true
unfolding equal
equal_refl (pos m) = rw (le-leb m m (omega arith))
equal_refl (negsuc m) = rw (le-leb m m (omega arith))
