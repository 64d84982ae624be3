-- Laws of finding a byte: the first from a place on, and the last.
use Rattle.std.proofs.lemmas.List.{take-append-le, drop-append-le, get_or_at}
use Rattle.std.proofs.lemmas.Bool.{eqb-false}
use Rattle.std.proofs.Common.{ℕ, zero, suc, ◌+◌, ◌-◌, ◌≤◌, ◌<◌, ◌≡◌, refl, sym, ap, ◌∙◌, Bool, true, false, cond, List, [], ◌∷◌, ◌++◌, add-zero, arith, ltb-true, ltb-false, eq-eqb, ne_eqb, eqb-true, ltb, eqb, length, get_or, take, drop, length-append, length-take, length-drop, take-append-drop, drop_at, length-take-le, get_or-append-add, get_or-take, get_or-drop}
use Rattle.receipt.specs.Form.{first_at, next_at, part, Without}
use Rattle.receipt.specs.Code.{last_before, last_at}

-- ---- the first

first_is : (b : ℕ) (s : List ℕ) → first_at b s < length s → get_or s (first_at b s) 0 ≡ b
unfolding first_at
first_is b [] h = absurd (omega arith)
first_is b (x ∷ s) h = go (first_is b s) (eqb x b) refl h
  where
    go : (first_at b s < length s → get_or s (first_at b s) 0 ≡ b) → (t : Bool) → eqb x b ≡ t → cond t 0 (suc (first_at b s)) < suc (length s)
        → get_or (x ∷ s) (cond t 0 (suc (first_at b s))) 0 ≡ b
    go f true e k = eqb-true x b e
    go f false e k = f (omega arith)

module _ (b : ℕ) (s : List ℕ) (from : ℕ) where
  pub next_from : from ≤ next_at b s from
  unfolding next_at
  next_from = omega arith

  -- where there is one, it stands there
  pub next_is : next_at b s from < length s → get_or s (next_at b s from) 0 ≡ b
  unfolding next_at
  next_is h =
      sym (get_or-drop from s (first_at b (drop from s)) 0) ∙ first_is b (drop from s) (omega (arith, length-drop from s))

-- ---- parts

-- a part of the front is a part of the whole
pub part_front : (s : List ℕ) (n a e : ℕ) → n ≤ length s → a ≤ e → e ≤ n → part a e (take n s) ≡ part a e s
part_front s n a e h k l =
    let m : length (take n s) ≡ n = length-take-le n s h in
    sym (take-append-le (e - a) (drop a (take n s)) (drop n s) (omega (arith, length-drop a (take n s))))
    ∙ ap (take (e - a)) (sym (drop-append-le a (take n s) (drop n s) (omega arith)) ∙ ap (drop a) (take-append-drop n s))

-- ---- lists without a byte

without_tail : {b x : ℕ} {s : List ℕ} → Without b (x ∷ s) → Without b s
without_tail w = record { at = λ i h e. w.at (suc i) (omega arith) e }

first_without : (b : ℕ) (xs ys : List ℕ) → Without b xs → first_at b (xs ++ (b ∷ ys)) ≡ length xs
unfolding first_at
first_without b [] ys w = rw (eq-eqb b b refl)
first_without b (x ∷ xs) ys w = rw (ne_eqb x b (w.at 0 (omega arith)), first_without b xs ys (without_tail w))

-- none stands before the first
first_before : (b : ℕ) (s : List ℕ) (i : ℕ) → i < first_at b s → get_or s i 0 ≡ b → ⊥
unfolding first_at
first_before b [] i h q = absurd (omega arith)
first_before b (x ∷ s) i h q = go (first_before b s) (eqb x b) refl i h q
  where
    go : ((j : ℕ) → j < first_at b s → get_or s j 0 ≡ b → ⊥) → (t : Bool) → eqb x b ≡ t → (i : ℕ) → i < cond t 0 (suc (first_at b s)) → get_or (x ∷ s) i 0 ≡ b → ⊥
    go f true e i k q = absurd (omega arith)
    go f false e zero k q = eqb-false x b e q
    go f false e (suc i) k q = f i (omega arith) q

module _ (b : ℕ) (s : List ℕ) (from : ℕ) where
  -- a place where it stands is the next, if it does not stand before it
  pub next_here : (i : ℕ) → from ≤ i → i < length s → get_or s i 0 ≡ b → ((k : ℕ) → from ≤ k → k < i → get_or s k 0 ≡ b → ⊥) → next_at b s from ≡ i
  unfolding next_at
  next_here i h l e n = go (ltb (first_at b (drop from s)) (i - from)) refl (ltb (i - from) (first_at b (drop from s))) refl
    where
      go : (u : Bool) → ltb (first_at b (drop from s)) (i - from) ≡ u → (v : Bool) → ltb (i - from) (first_at b (drop from s)) ≡ v → from + first_at b (drop from s) ≡ i
      go true p v q =
          let f : first_at b (drop from s) < i - from = ltb-true (first_at b (drop from s)) (i - from) p in
          let w : get_or (drop from s) (first_at b (drop from s)) 0 ≡ b = first_is b (drop from s) (omega (arith, length-drop from s)) in
          absurd (n (from + first_at b (drop from s)) (omega arith) (omega arith) (sym (get_or-drop from s (first_at b (drop from s)) 0) ∙ w))
      go false p true q =
          let m : from + (i - from) ≡ i = omega arith in
          let w : get_or (drop from s) (i - from) 0 ≡ b = get_or-drop from s (i - from) 0 ∙ ap (λ (k : ℕ). get_or s k 0) m ∙ e in
          absurd (first_before b (drop from s) (i - from) (ltb-true (i - from) (first_at b (drop from s)) q) w)
      go false p false q = omega (arith, ltb-false (first_at b (drop from s)) (i - from) p, ltb-false (i - from) (first_at b (drop from s)) q)

  -- there is no next
  pub next_nowhere : ((k : ℕ) → from ≤ k → k < length s → get_or s k 0 ≡ b → ⊥) → length s ≤ next_at b s from
  next_nowhere n = go (ltb (next_at b s from) (length s)) refl
    where
      go : (u : Bool) → ltb (next_at b s from) (length s) ≡ u → length s ≤ next_at b s from
      go true p =
          let h : next_at b s from < length s = ltb-true (next_at b s from) (length s) p in
          absurd (n (next_at b s from) (next_from b s from) h (next_is b s from h))
      go false p = ltb-false (next_at b s from) (length s) p

-- nor from a place on up to the next
pub part_without : (b : ℕ) (s : List ℕ) (from : ℕ) → Without b (part from (next_at b s from) s)
unfolding next_at
part_without b s from =
    let t : List ℕ = drop from s in
    let n : ℕ = from + first_at b t - from in
    record { at = λ i h q. first_before b t i (omega (arith, length-take n t)) (sym (get_or-take n t i 0 (omega (arith, length-take n t))) ∙ q) }

-- after a front and a list without it, the next b is the one that follows
pub next_without : (b : ℕ) (front xs ys : List ℕ) (from : ℕ) → length front ≡ from → Without b xs
    → next_at b (front ++ (xs ++ (b ∷ ys))) from ≡ from + length xs
unfolding next_at
next_without b front xs ys from e w = rw (drop_at front (xs ++ (b ∷ ys)) from e, first_without b xs ys w)

-- ---- the last

module _ (b : ℕ) (s : List ℕ) where
  before_is : (n : ℕ) → last_before b s n < length s → get_or s (last_before b s n) 0 ≡ b
  unfolding last_before
  before_is zero h = absurd (omega arith)
  before_is (suc n) h = go (before_is n) (eqb (get_or s n 0) b) refl h
    where
      go : (last_before b s n < length s → get_or s (last_before b s n) 0 ≡ b) → (t : Bool) → eqb (get_or s n 0) b ≡ t → cond t n (last_before b s n) < length s
          → get_or s (cond t n (last_before b s n)) 0 ≡ b
      go f true e k = eqb-true (get_or s n 0) b e
      go f false e k = f k

  -- where there is one, it stands there
  pub last_is : last_at b s < length s → get_or s (last_at b s) 0 ≡ b
  unfolding last_at
  last_is h = before_is (length s) h

  -- none stands after it
  before_after : (n j : ℕ) → last_before b s n < j → j < n → get_or s j 0 ≡ b → ⊥
  unfolding last_before
  before_after zero j h k q = absurd (omega arith)
  before_after (suc n) j h k q = go (before_after n j) (eqb (get_or s n 0) b) refl h (ltb j n) refl
    where
      go : (last_before b s n < j → j < n → get_or s j 0 ≡ b → ⊥) → (t : Bool) → eqb (get_or s n 0) b ≡ t → cond t n (last_before b s n) < j → (u : Bool) → ltb j n ≡ u → ⊥
      go f true e l u p = absurd (omega arith)
      go f false e l true p = f l (ltb-true j n p) q
      go f false e l false p =
          let w : j ≡ n = omega (arith, ltb-false j n p) in
          eqb-false (get_or s n 0) b e (ap (λ (i : ℕ). get_or s i 0) (sym w) ∙ q)

  pub last_after : (j : ℕ) → last_at b s < j → j < length s → get_or s j 0 ≡ b → ⊥
  unfolding last_at
  last_after j h k q = before_after (length s) j h k q

  -- where there is one, the last is found
  before_within : (n i : ℕ) → i < n → get_or s i 0 ≡ b → last_before b s n < n
  unfolding last_before
  before_within zero i h e = absurd (omega arith)
  before_within (suc n) i h e = go (before_within n i) (eqb (get_or s n 0) b) refl
    where
      go : (i < n → get_or s i 0 ≡ b → last_before b s n < n) → (t : Bool) → eqb (get_or s n 0) b ≡ t → cond t n (last_before b s n) < suc n
      go f true q = omega arith
      go f false q = below (ltb i n) refl
        where
          below : (u : Bool) → ltb i n ≡ u → last_before b s n < suc n
          below true p = let k : last_before b s n < n = f (ltb-true i n p) e in omega arith
          below false p =
              let w : i ≡ n = omega (arith, ltb-false i n p) in
              absurd (eqb-false (get_or s n 0) b q (ap (λ (k : ℕ). get_or s k 0) (sym w) ∙ e))

  last_within : (i : ℕ) → i < length s → get_or s i 0 ≡ b → last_at b s < length s
  unfolding last_at
  last_within i h e = before_within (length s) i h e

  -- a place where it stands is the last, if it does not stand after it
  pub last_here : (i : ℕ) → i < length s → get_or s i 0 ≡ b → ((k : ℕ) → i < k → k < length s → get_or s k 0 ≡ b → ⊥) → last_at b s ≡ i
  last_here i h e n = go (ltb (last_at b s) i) refl (ltb i (last_at b s)) refl
    where
      go : (t : Bool) → ltb (last_at b s) i ≡ t → (u : Bool) → ltb i (last_at b s) ≡ u → last_at b s ≡ i
      go true p u q = absurd (last_after i (ltb-true (last_at b s) i p) h e)
      go false p true q =
          let w : last_at b s < length s = last_within i h e in
          absurd (n (last_at b s) (ltb-true i (last_at b s) q) w (last_is w))
      go false p false q = omega (arith, ltb-false (last_at b s) i p, ltb-false i (last_at b s) q)

  -- there is none
  pub last_nowhere : ((k : ℕ) → k < length s → get_or s k 0 ≡ b → ⊥) → length s ≤ last_at b s
  last_nowhere n = go (ltb (last_at b s) (length s)) refl
    where
      go : (t : Bool) → ltb (last_at b s) (length s) ≡ t → length s ≤ last_at b s
      go true q =
          let h : last_at b s < length s = ltb-true (last_at b s) (length s) q in
          absurd (n (last_at b s) h (last_is h))
      go false q = ltb-false (last_at b s) (length s) q

-- the last b is followed by a list without it
module _ (b : ℕ) (xs ys : List ℕ) (w : Without b ys) where
  text : List ℕ
  text = xs ++ (b ∷ ys)

  after_last : (n : ℕ) → n ≤ length ys → last_before b text (suc (length xs + n)) ≡ length xs
  unfolding last_before text
  after_last zero h = rw (add-zero (length xs), get_or_at xs b ys 0 (length xs) refl, eq-eqb b b refl)
  after_last (suc n) h =
      let e : length xs + suc n ≡ suc (length xs + n) = omega arith in
      let g : get_or text (length xs + suc n) 0 ≡ get_or ys n 0 = get_or-append-add xs (b ∷ ys) (suc n) 0 in
      rw (g, ne_eqb (get_or ys n 0) b (w.at n (omega arith)), e) (after_last n (omega arith))

  pub last_without : last_at b (xs ++ (b ∷ ys)) ≡ length xs
  unfolding last_at text
  last_without =
      let e : length (xs ++ (b ∷ ys)) ≡ suc (length xs + length ys) = omega (arith, length-append xs (b ∷ ys)) in
      rw e (after_last (length ys) (omega arith))
