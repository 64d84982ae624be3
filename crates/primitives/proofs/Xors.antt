-- Laws of exclusive or: of numbers, and of the first bytes of a list with a key stream.
use Rattle.std.proofs.lemmas.Nat.{xor_lt, xor_shr}
use Rattle.std.proofs.Common.{min, Bool, true, false, leb, leb-true, leb-false, ◌≡◌, ℕ, zero, suc, ◌+◌, ◌*◌, ◌/◌, ◌%◌, ◌<◌, ◌≤◌, List, [], ◌∷◌, ◌++◌, length, get_or, take, drop, set, sym, refl, ap, ◌∙◌, ap₂, append-nil, le_of_suc-le-suc, div-add-mod', add-one, arith, drop_of_length-le, take_all, bit_xor}
use Rattle.std.proofs.Math.Arith.{bin_ind}
use lib.Bits.{differ, xor_step, xor_self}
use Rattle.primitives.specs.Bytes.{AllBytes}
use Rattle.primitives.specs.Counter.{xor_list, xor_first}
use Rattle.primitives.proofs.ByteLists.{bytes_nil, bytes_cons, bytes_head, bytes_tail, bytes_append, bytes_take, bytes_drop}

-- ---- the same number twice

-- of one binary digit
bit : (x y : ℕ) → x < 2 → y < 2 → (differ x y < 2) × (differ (differ x y) y ≡ x)
bit zero zero h k = (h, refl)
bit zero (suc zero) h k = (k, refl)
bit (suc zero) zero h k = (h, refl)
bit (suc zero) (suc zero) h k = (omega arith, refl)
bit zero (suc (suc y)) h k = absurd (omega arith)
bit (suc zero) (suc (suc y)) h k = absurd (omega arith)
bit (suc (suc x)) y h k = absurd (omega arith)

pub xor_back : (a b : ℕ) → bit_xor (bit_xor a b) b ≡ a
xor_back = bin_ind (λ (n : ℕ). (b : ℕ) → bit_xor (bit_xor n b) b ≡ n) xor_self step
  where
    step : (n : ℕ) → ((b : ℕ) → bit_xor (bit_xor (n / 2) b) b ≡ n / 2) → (b : ℕ) → bit_xor (bit_xor n b) b ≡ n
    step n ih b =
        let d = bit (n % 2) (b % 2) (omega arith) (omega arith) in
        let low : bit_xor n b % 2 ≡ differ (n % 2) (b % 2) = omega (arith, xor_step n b, d.0) in
        xor_step (bit_xor n b) b
        ∙ ap₂ (λ (x y : ℕ). x * 2 + y) (ap (λ (x : ℕ). bit_xor x (b / 2)) (xor_shr n b 1) ∙ ih (b / 2)) (ap (λ (x : ℕ). differ x (b % 2)) low ∙ d.1)
        ∙ div-add-mod' n 2

-- ---- the first bytes of a list

list_bytes : (xs ys : List ℕ) → AllBytes xs → AllBytes ys → AllBytes (xor_list xs ys)
unfolding xor_list
list_bytes [] ys p q = bytes_nil
list_bytes (x ∷ xs) [] p q = bytes_nil
list_bytes (x ∷ xs) (y ∷ ys) p q = bytes_cons (xor_lt 8 x y (bytes_head p) (bytes_head q)) (list_bytes xs ys (bytes_tail p) (bytes_tail q))

pub bytes_xor_first : (n : ℕ) {b k : List ℕ} → AllBytes b → AllBytes k → AllBytes (xor_first n b k)
unfolding xor_first
bytes_xor_first n {b} {k} p q = bytes_append (list_bytes (take n b) k (bytes_take n p) q) (bytes_drop n p)

pub length_xor_first : (n : ℕ) (b k : List ℕ) → length b ≤ length k → length (xor_first n b k) ≡ length b
unfolding xor_first xor_list
length_xor_first zero b k h = refl
length_xor_first (suc n) [] k h = refl
length_xor_first (suc n) (x ∷ b) [] h = absurd (omega arith)
length_xor_first (suc n) (x ∷ b) (y ∷ k) h = ap suc (length_xor_first n b k (le_of_suc-le-suc h))

-- the first bytes, and those after them
pub take_xor_first : (n : ℕ) (b k : List ℕ) → length b ≤ length k → take n (xor_first n b k) ≡ xor_list (take n b) k
unfolding xor_first xor_list
take_xor_first zero b k h = refl
take_xor_first (suc n) [] k h = refl
take_xor_first (suc n) (x ∷ b) [] h = absurd (omega arith)
take_xor_first (suc n) (x ∷ b) (y ∷ k) h = ap (λ (r : List ℕ). bit_xor x y ∷ r) (take_xor_first n b k (le_of_suc-le-suc h))

pub drop_xor_first : (n : ℕ) (b k : List ℕ) → length b ≤ length k → drop n (xor_first n b k) ≡ drop n b
unfolding xor_first xor_list
drop_xor_first zero b k h = refl
drop_xor_first (suc n) [] k h = refl
drop_xor_first (suc n) (x ∷ b) [] h = absurd (omega arith)
drop_xor_first (suc n) (x ∷ b) (y ∷ k) h = drop_xor_first n b k (le_of_suc-le-suc h)

-- combined twice, the bytes are unchanged
pub xor_first_back : (n : ℕ) (b k : List ℕ) → length b ≤ length k → xor_first n (xor_first n b k) k ≡ b
unfolding xor_first xor_list
xor_first_back zero b k h = refl
xor_first_back (suc n) [] k h = refl
xor_first_back (suc n) (x ∷ b) [] h = absurd (omega arith)
xor_first_back (suc n) (x ∷ b) (y ∷ k) h = λ i. xor_back x y i ∷ xor_first_back n b k (le_of_suc-le-suc h) i

-- all of the bytes, if n is at least their count
all : (n : ℕ) (b k : List ℕ) → length b ≤ n → xor_first n b k ≡ xor_list b k
unfolding xor_first
all n b k h = (λ i. xor_list (take_all n b h i) k ++ drop_of_length-le b h i) ∙ append-nil (xor_list b k)

pub xor_first_all : (n m : ℕ) (b k : List ℕ) → length b ≤ n → length b ≤ m → xor_first n b k ≡ xor_first m b k
xor_first_all n m b k h l = all n b k h ∙ sym (all m b k l)

-- no byte
pub xor_first_start : (b k : List ℕ) → xor_first 0 b k ≡ b
unfolding xor_first xor_list
xor_first_start b k = refl

-- one byte more
more : (i : ℕ) (b k : List ℕ) → i < length b → i < length k → set (xor_first i b k) i (bit_xor (get_or b i 0) (get_or k i 0)) ≡ xor_first (suc i) b k
unfolding xor_first xor_list
more i [] k h l = absurd (omega arith)
more i (x ∷ b) [] h l = absurd (omega arith)
more zero (x ∷ b) (y ∷ k) h l = refl
more (suc i) (x ∷ b) (y ∷ k) h l = ap (λ (r : List ℕ). bit_xor x y ∷ r) (more i b k (le_of_suc-le-suc h) (le_of_suc-le-suc l))

pub xor_first_more : {r : List ℕ} (i : ℕ) (b k : List ℕ) → r ≡ xor_first i b k → i < length b → i < length k → set r i (bit_xor (get_or b i 0) (get_or k i 0)) ≡ xor_first (i + 1) b k
xor_first_more i b k e h l = ap (λ (r : List ℕ). set r i (bit_xor (get_or b i 0) (get_or k i 0))) e ∙ more i b k h l ∙ ap (λ (n : ℕ). xor_first n b k) (sym (add-one i))

-- bytes past the end are none
pub xor_first_min : (n m : ℕ) (b k : List ℕ) → length b ≤ m → xor_first (min n m) b k ≡ xor_first n b k
xor_first_min n m b k h = go (leb n m) refl
  where
    go : (t : Bool) → leb n m ≡ t → xor_first (min n m) b k ≡ xor_first n b k
    go true e = let l : n ≤ m = leb-true n m e in ap (λ (i : ℕ). xor_first i b k) (omega arith)
    go false e = let l : m < n = leb-false n m e in xor_first_all (min n m) n b k (omega arith) (omega arith)
