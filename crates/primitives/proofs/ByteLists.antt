-- Laws of lists of bytes.
use Rattle.std.proofs.Common.{◌≡◌, ℕ, zero, suc, ◌+◌, ◌<◌, Bool, true, false, ◌&&◌, eqb, List, [], ◌∷◌, ◌++◌, length, get_or, take, drop, replicate, sym, refl, ap, subst, arith, get_or-drop, eq-eqb, eqb-true}
use Rattle.std.specs.Cmp.Lexicographic.{pointwise}
use Rattle.primitives.specs.Bytes.{AllBytes, same}
use Rattle.primitives.proofs.Each.{Each, none_left, one_more}

pub bytes_nil : AllBytes []
bytes_nil = record { at = λ i. omega arith }

module _ {x : ℕ} {xs : List ℕ} where
  pub bytes_cons : x < 256 → AllBytes xs → AllBytes (x ∷ xs)
  bytes_cons h p = record { at = go }
    where
      go : (i : ℕ) → get_or (x ∷ xs) i 0 < 256
      go zero = h
      go (suc i) = p.at i

  pub bytes_head : AllBytes (x ∷ xs) → x < 256
  bytes_head p = p.at 0

  pub bytes_tail : AllBytes (x ∷ xs) → AllBytes xs
  bytes_tail p = record { at = λ i. p.at (suc i) }

append_of : (xs : List ℕ) {ys : List ℕ} → AllBytes xs → AllBytes ys → AllBytes (xs ++ ys)
append_of [] p q = q
append_of (x ∷ xs) p q = bytes_cons (bytes_head p) (append_of xs (bytes_tail p) q)

pub bytes_append : {xs ys : List ℕ} → AllBytes xs → AllBytes ys → AllBytes (xs ++ ys)
bytes_append {xs} p q = append_of xs p q

pub bytes_drop : (n : ℕ) {xs : List ℕ} → AllBytes xs → AllBytes (drop n xs)
bytes_drop n {xs} p = record { at = λ i. subst (λ (b : ℕ). b < 256) (sym (get_or-drop n xs i 0)) (p.at (n + i)) }

take_of : (n : ℕ) (xs : List ℕ) → AllBytes xs → AllBytes (take n xs)
take_of zero xs p = bytes_nil
take_of (suc n) [] p = bytes_nil
take_of (suc n) (x ∷ xs) p = bytes_cons (bytes_head p) (take_of n xs (bytes_tail p))

pub bytes_take : (n : ℕ) {xs : List ℕ} → AllBytes xs → AllBytes (take n xs)
bytes_take n {xs} p = take_of n xs p

pub bytes_replicate : (n : ℕ) {b : ℕ} → b < 256 → AllBytes (replicate n b)
bytes_replicate zero h = bytes_nil
bytes_replicate (suc n) h = bytes_cons h (bytes_replicate n h)

-- ---- the same as a rule for each element

pub each_bytes : {xs : List ℕ} → Each (λ b. b < 256) xs → AllBytes xs
each_bytes none_left = bytes_nil
each_bytes (one_more h e) = bytes_cons h (each_bytes e)

each_of : (xs : List ℕ) → AllBytes xs → Each (λ b. b < 256) xs
each_of [] p = none_left
each_of (x ∷ xs) p = one_more (bytes_head p) (each_of xs (bytes_tail p))

pub bytes_each : {xs : List ℕ} → AllBytes xs → Each (λ b. b < 256) xs
bytes_each {xs} p = each_of xs p

-- ---- the test that two lists are the same

false_true : false ≡ true → ⊥
false_true e = subst is_false e tt
  where
    is_false : Bool → Type 0
    is_false true = ⊥
    is_false false = Unit {0}

pub same_refl : (xs : List ℕ) → same xs xs ≡ true
unfolding same
same_refl [] = refl
same_refl (x ∷ xs) = rw (eq-eqb x x refl) (same_refl xs)

pub same_true : (xs ys : List ℕ) → same xs ys ≡ true → xs ≡ ys
unfolding same
same_true [] [] e = refl
same_true [] (y ∷ ys) e = absurd (false_true e)
same_true (x ∷ xs) [] e = absurd (false_true e)
same_true (x ∷ xs) (y ∷ ys) e = go (same_true xs ys) (eqb x y) refl e
  where
    go : (same xs ys ≡ true → xs ≡ ys) → (t : Bool) → eqb x y ≡ t → t && same xs ys ≡ true → x ∷ xs ≡ y ∷ ys
    go f true p q = λ i. eqb-true x y p i ∷ f q i
    go f false p q = absurd (false_true q)

pub same_length : (xs ys : List ℕ) → (length xs ≡ length ys → ⊥) → same xs ys ≡ false
unfolding same
same_length [] [] n = absurd (n refl)
same_length [] (y ∷ ys) n = refl
same_length (x ∷ xs) [] n = refl
same_length (x ∷ xs) (y ∷ ys) n = go (same_length xs ys (λ e. n (ap suc e))) (eqb x y)
  where
    go : same xs ys ≡ false → (t : Bool) → t && same xs ys ≡ false
    go e true = e
    go e false = refl

-- the library's comparison of slices is `same`
pub pointwise_is : (xs ys : List ℕ) → pointwise eqb xs ys ≡ same xs ys
unfolding same
pointwise_is [] [] = refl
pointwise_is [] (y ∷ ys) = refl
pointwise_is (x ∷ xs) [] = refl
pointwise_is (x ∷ xs) (y ∷ ys) = ap (λ (t : Bool). eqb x y && t) (pointwise_is xs ys)
