-- Laws of SHA-256 up to the hash value of many blocks: the lists that loops fill, rounds after rounds, and blocks
-- that agree.
use Rattle.std.proofs.Common.{◌≡◌, ℕ, zero, suc, ◌+◌, ◌-◌, ◌*◌, ◌<◌, ◌≤◌, List, [], ◌∷◌, ◌++◌, length, get_or, take, set, sym, refl, ap, ◌∙◌, ap₂, le_refl, add-zero, add_assoc, add-suc, zero-add, add-one, arith, get_or-take, take-suc-set}
use Rattle.primitives.specs.declared.hash.HashValue.{HashValue}
use Rattle.primitives.specs.Sha256.{word_at, words, next_word, schedule, round, K, rounds, sums, compress, blocks}

-- one more element stored after the first i
put_next : (w : List ℕ) (i : ℕ) (p : List ℕ) (x y : ℕ) → i < length w → take i w ≡ p → x ≡ y → take (i + 1) (set w i x) ≡ p ++ y ∷ []
put_next w i p x y h e f =
    ap (λ (k : ℕ). take k (set w i x)) (add-one i) ∙ take-suc-set w i x h ∙ ap₂ (λ (l : List ℕ) (z : ℕ). l ++ z ∷ []) e f

pub words_next : (m w : List ℕ) (k t x : ℕ) → t < length w → take t w ≡ words m k t → x ≡ word_at m (k + 4 * t) → take (t + 1) (set w t x) ≡ words m k (t + 1)
unfolding words
words_next m w k t x h e f = put_next w t (words m k t) x (word_at m (k + 4 * t)) h e f ∙ ap (words m k) (sym (add-one t))

-- ---- the message schedule

-- a word of the schedule reads only what stands before it
next_take : (W : List ℕ) (t : ℕ) → 16 ≤ t → next_word (take t W) t ≡ next_word W t
unfolding next_word
next_take W t h =
    rw (
      get_or-take t W (t - 2) 0 (omega arith),
      get_or-take t W (t - 7) 0 (omega arith),
      get_or-take t W (t - 15) 0 (omega arith),
      get_or-take t W (t - 16) 0 (omega arith),
    )

pub schedule_next : (M w : List ℕ) (t x : ℕ) → 16 ≤ t → t < length w → take t w ≡ schedule M (t - 16) → x ≡ next_word w t → take (t + 1) (set w t x) ≡ schedule M (t + 1 - 16)
unfolding schedule
schedule_next M w t x low h e f =
    let n : ℕ = t - 16 in
    let p : t ≡ 16 + n = omega arith in
    let s : suc n ≡ t + 1 - 16 = omega arith in
    put_next w t (schedule M n) x (next_word (schedule M n) (16 + n)) h e
    (f ∙ sym (next_take w t low) ∙ ap₂ next_word e p)
    ∙ ap (schedule M) s

-- ---- rounds

rounds_add : (v : HashValue) (W : List ℕ) (t n k : ℕ) → rounds (rounds v W t n) W (t + n) k ≡ rounds v W t (n + k)
unfolding rounds
rounds_add v W t n zero = ap (rounds v W t) (sym (add-zero n))
rounds_add v W t n (suc k) =
    ap (λ (u : HashValue). round u (get_or K (t + n + k) 0) (get_or W (t + n + k) 0)) (rounds_add v W t n k)
    ∙ ap (λ (i : ℕ). round (rounds v W t (n + k)) (get_or K i 0) (get_or W i 0)) (add_assoc t n k)
    ∙ ap (rounds v W t) (sym (add-suc n k))

-- one round, where k holds the constants
pub round_one : (v r : HashValue) (W k : List ℕ) (t : ℕ) → k ≡ K → r ≡ round v (get_or k t 0) (get_or W t 0) → r ≡ rounds v W t 1
unfolding rounds
round_one v r W k t e f = rw (add-zero, ← e) f

-- k rounds after n rounds
pub rounds_then : (v u r : HashValue) (W : List ℕ) (t n k : ℕ) → u ≡ rounds v W t n → r ≡ rounds u W (t + n) k → r ≡ rounds v W t (n + k)
rounds_then v u r W t n k e f = f ∙ ap (λ (x : HashValue). rounds x W (t + n) k) e ∙ rounds_add v W t n k

-- k rounds after the first t
pub rounds_more : (v u r : HashValue) (W : List ℕ) (t k : ℕ) → u ≡ rounds v W 0 t → r ≡ rounds u W t k → r ≡ rounds v W 0 (t + k)
rounds_more v u r W t k e f = rounds_then v u r W 0 t k e (f ∙ ap (λ (i : ℕ). rounds u W i k) (sym (zero-add t)))

-- ---- blocks

pub blocks_next : (s : HashValue) (m : List ℕ) (n : ℕ) → compress (blocks s m n) m (n * 64) ≡ blocks s m (n + 1)
unfolding blocks
blocks_next s m n = ap (blocks s m) (sym (add-one n))

-- two messages with the same block, at byte k of the one and at byte k' of the other
module _ (m m' : List ℕ) (k k' : ℕ) (same : (j : ℕ) → j < 64 → get_or m (k + j) 0 ≡ get_or m' (k' + j) 0) where
  word_agree : (n : ℕ) → n < 16 → word_at m (k + 4 * n) ≡ word_at m' (k' + 4 * n)
  unfolding word_at
  word_agree n h =
      rw (
        same (4 * n) (omega arith),
        add_assoc k (4 * n) 1,
        add_assoc k (4 * n) 2,
        add_assoc k (4 * n) 3,
        add_assoc k' (4 * n) 1,
        add_assoc k' (4 * n) 2,
        add_assoc k' (4 * n) 3,
        same (4 * n + 1) (omega arith),
        same (4 * n + 2) (omega arith),
        same (4 * n + 3) (omega arith),
      )

  words_agree : (n : ℕ) → n ≤ 16 → words m k n ≡ words m' k' n
  unfolding words
  words_agree zero h = refl
  words_agree (suc n) h = ap₂ (λ (l : List ℕ) (x : ℕ). l ++ x ∷ []) (words_agree n (omega arith)) (word_agree n h)

  compress_agree : (s : HashValue) → compress s m k ≡ compress s m' k'
  unfolding compress
  compress_agree s = ap (λ (ws : List ℕ). sums (rounds s (schedule ws 48) 0 64) s) (words_agree 16 (le_refl 16))

-- n blocks of b after q blocks of p, where b continues as p does
pub blocks_then : (s : HashValue) (p b : List ℕ) (q n : ℕ) → ((j : ℕ) → j < n * 64 → get_or b j 0 ≡ get_or p (q * 64 + j) 0) → blocks (blocks s p q) b n ≡ blocks s p (q + n)
unfolding blocks
blocks_then s p b q zero same = ap (blocks s p) (sym (add-zero q))
blocks_then s p b q (suc n) same =
    ap (λ (v : HashValue). compress v b (n * 64)) (blocks_then s p b q n (λ j h. same j (omega arith)))
    ∙ compress_agree b p (n * 64) ((q + n) * 64) here (blocks s p (q + n))
    ∙ ap (blocks s p) (sym (add-suc q n))
  where
    here : (j : ℕ) → j < 64 → get_or b (n * 64 + j) 0 ≡ get_or p ((q + n) * 64 + j) 0
    here j h =
        let e : q * 64 + (n * 64 + j) ≡ (q + n) * 64 + j = omega arith in
        same (n * 64 + j) (omega arith) ∙ ap (λ (i : ℕ). get_or p i 0) e
