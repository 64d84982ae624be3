-- Laws of the field: b times its inverse is 1, doubling is the product by 2, each by one test that is computed at every byte. The last law makes a table of such a test.
use Rattle.std.proofs.Common.{◌≡◌, ℕ, ◌-◌, ◌*◌, ◌%◌, ◌<◌, ◌≤◌, Bool, true, false, cond, ◌||◌, T, eqb, List, length, replicate, ap, ◌∙◌, arith, eqb→eq, le-ltb, lt-ltb, bit_xor}
use Rattle.primitives.specs.Field.{xtime, times, inverse}
use Rattle.primitives.specs.Aes.{TableOf}
use Rattle.primitives.proofs.Table.{at, every, by_rule}

-- a test that computes to true at each byte
pub each_byte : (f : ℕ → Bool) → T (every (λ k x. f k) 0 (replicate 256 0)) → (k : ℕ) → k < 256 → T (f k)
each_byte f t k h = at (λ k x. f k) (replicate 256 0) t k h

other : (a b : Bool) → T (a || b) → (T a → ⊥) → T b
other true b t n = absurd (n tt)
other false b t n = t

undone : ℕ → Bool
undone k = eqb k 0 || eqb (times k (inverse k)) 1

all_undone : T (every (λ k x. undone k) 0 (replicate 256 0))
unfolding undone inverse
all_undone = tt

pub inverse_is : (k : ℕ) → 0 < k → k < 256 → times k (inverse k) ≡ 1
unfolding undone
inverse_is k p h =
    eqb→eq (times k (inverse k)) 1
    (other (eqb k 0) (eqb (times k (inverse k)) 1) (each_byte undone all_undone k h) (λ t. not_zero (eqb→eq k 0 t)))
  where
    not_zero : k ≡ 0 → ⊥
    not_zero e = omega arith

doubled : ℕ → Bool
doubled k = eqb (times k 2) (xtime k)

all_doubled : T (every (λ k x. doubled k) 0 (replicate 256 0))
unfolding doubled times xtime
all_doubled = tt

pub times_two : (k : ℕ) → k < 256 → times k 2 ≡ xtime k
unfolding doubled
times_two k h = eqb→eq _ _ (each_byte doubled all_doubled k h)

tripled : ℕ → Bool
tripled k = eqb (times k 3) (bit_xor (xtime k) k)

all_tripled : T (every (λ k x. tripled k) 0 (replicate 256 0))
unfolding tripled times xtime
all_tripled = tt

pub times_three : (k : ℕ) → k < 256 → times k 3 ≡ bit_xor (xtime k) k
unfolding tripled
times_three k h = eqb→eq _ _ (each_byte tripled all_tripled k h)

-- doubling is a shift below 0x80, and a shift and the reduction from there on
pub xtime_shifts : (k : ℕ) → k < 0x80 → xtime k ≡ k * 2
unfolding xtime
xtime_shifts k h = ap (λ (b : Bool). bit_xor (cond b 0 0x1b) (k * 2 % 256)) (lt-ltb k 0x80 h) ∙ omega (arith, h)

pub xtime_reduces : (k : ℕ) → 0x80 ≤ k → k < 256 → xtime k ≡ bit_xor 0x1b (k * 2 - 256)
unfolding xtime
xtime_reduces k h l = ap (λ (b : Bool). bit_xor (cond b 0 0x1b) (k * 2 % 256)) (le-ltb k 0x80 h) ∙ ap (bit_xor 0x1b) (omega (arith, h, l))

-- a table whose entries pass the test is one of f
pub table_is : (f : ℕ → ℕ) {table : List ℕ} → length table ≡ 256 → T (every (λ k x. eqb x (f k)) 0 table) → TableOf f table
table_is f {table} e t = record { at = λ k h. by_rule f table t k (rw e h) }
