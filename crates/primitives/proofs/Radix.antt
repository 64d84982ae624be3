-- Laws of digits, over every base and every count of digits.
use Rattle.std.proofs.Common.{◌≡◌, ℕ, zero, suc, ◌+◌, ◌*◌, ◌/◌, ◌%◌, ◌^◌, ◌<◌, ◌≤◌, List, [], ◌∷◌, ◌++◌, length, sym, refl, ap, ◌∙◌, subst, append_assoc, append-nil, lt_of_lt_of_le, add-zero, add-suc, mul-le-mul_right, mod-lt, mul_assoc, div-lt_iff_lt-mul, add-mul, pow-suc, div-add-mod', zero-add, arith, length-append}
use Rattle.std.proofs.Math.Nat.{pow-zero, pow-succ'}
use Rattle.std.proofs.Math.Arith.{digits_div, digits_mod}
use Rattle.primitives.specs.Number.{digits_of, number_after, number_of}
use Rattle.primitives.proofs.Each.{Each, none_left, one_more, each_append}

-- each digit is below the base
abbrev pub Below : ℕ → List ℕ → Type 0
Below b ds = Each (λ d. d < b) ds

module _ (b : ℕ) where
  -- ---- the digits of a number

  pub digits_zero : (v : ℕ) → digits_of b 0 v ≡ []
  unfolding digits_of
  digits_zero v = refl

  pub digits_suc : (n v : ℕ) → digits_of b (suc n) v ≡ digits_of b n (v / b) ++ (v % b ∷ [])
  unfolding digits_of
  digits_suc n v = refl

  pub length_digits : (n v : ℕ) → length (digits_of b n v) ≡ n
  unfolding digits_of
  length_digits zero v = refl
  length_digits (suc n) v = length-append (digits_of b n (v / b)) (v % b ∷ []) ∙ omega (arith, length_digits n (v / b))

  pub digits_below : 0 < b → (n v : ℕ) → Below b (digits_of b n v)
  unfolding digits_of
  digits_below p zero v = none_left
  digits_below p (suc n) v = each_append (digits_below p n (v / b)) (one_more (mod-lt v p) none_left)

  -- a number of m and n digits, cut after the first m
  module _ (p : 0 < b) (m n q v : ℕ) where
    whole : q * b ^ suc n + v ≡ (q * b ^ n + v / b) * b + v % b
    whole =
        let e : q * b ^ suc n ≡ q * b ^ n * b = ap (λ (k : ℕ). q * k) (pow-suc b n) ∙ sym (mul_assoc q (b ^ n) b) in
        omega (arith, e, add-mul (q * b ^ n) (v / b) b, div-add-mod' v b)

    pub join_div : (q * b ^ suc n + v) / b ≡ q * b ^ n + v / b
    join_div = ap (λ (w : ℕ). w / b) whole ∙ digits_div (q * b ^ n + v / b) (mod-lt v p)

    pub join_mod : (q * b ^ suc n + v) % b ≡ v % b
    join_mod = ap (λ (w : ℕ). w % b) whole ∙ digits_mod (q * b ^ n + v / b) (mod-lt v p)

    pub div_below : v < b ^ suc n → v / b < b ^ n
    div_below h = (div-lt_iff_lt-mul p).1 (subst (λ (k : ℕ). v < k) (pow-suc b n) h)

  pub digits_join : 0 < b → (m n q v : ℕ) → v < b ^ n → digits_of b (m + n) (q * b ^ n + v) ≡ digits_of b m q ++ digits_of b n v
  unfolding digits_of
  digits_join p m zero q v h =
      let z : v ≡ 0 = omega (arith, pow-zero b) in
      let e : q * b ^ 0 + v ≡ q = omega (arith, pow-zero b, ap (λ (k : ℕ). q * k) (pow-zero b)) in
      (λ i. digits_of b (add-zero m i) (e i)) ∙ sym (append-nil (digits_of b m q))
  digits_join p m (suc n) q v h =
      ap (λ (k : ℕ). digits_of b k (q * b ^ suc n + v)) (add-suc m n)
      ∙ (λ i. digits_of b (m + n) (join_div p m n q v i) ++ (join_mod p m n q v i ∷ []))
      ∙ ap (λ (l : List ℕ). l ++ (v % b ∷ [])) (digits_join p m n q (v / b) (div_below p m n q v h))
      ∙ append_assoc (digits_of b m q) (digits_of b n (v / b)) (v % b ∷ [])

  -- digits above the n low ones do not count
  pub digits_low : 0 < b → (n q v : ℕ) → digits_of b n (q * b ^ n + v) ≡ digits_of b n v
  unfolding digits_of
  digits_low p zero q v = refl
  digits_low p (suc n) q v =
      (λ i. digits_of b n (join_div p 0 n q v i) ++ (join_mod p 0 n q v i ∷ []))
      ∙ ap (λ (l : List ℕ). l ++ (v % b ∷ [])) (digits_low p n q (v / b))

  -- ---- the value of digits

  after_append : (v : ℕ) (xs ys : List ℕ) → number_after b v (xs ++ ys) ≡ number_after b (number_after b v xs) ys
  unfolding number_after
  after_append v [] ys = refl
  after_append v (x ∷ xs) ys = after_append (v * b + x) xs ys

  -- one digit more
  pub number_snoc : (xs : List ℕ) (d : ℕ) → number_of b (xs ++ (d ∷ [])) ≡ number_of b xs * b + d
  unfolding number_of number_after
  number_snoc xs d = after_append 0 xs (d ∷ [])

  after_is : (v : ℕ) (ds : List ℕ) → number_after b v ds ≡ v * b ^ length ds + number_after b 0 ds
  unfolding number_after
  after_is v [] = omega (arith, ap (λ (k : ℕ). v * k) (pow-zero b))
  after_is v (d ∷ ds) =
      let n : ℕ = length ds in
      let e : (v * b + d) * b ^ n ≡ v * b ^ suc n + (0 * b + d) * b ^ n =
      add-mul (v * b) d (b ^ n) ∙ (λ i. (mul_assoc v b (b ^ n) ∙ ap (λ (k : ℕ). v * k) (sym (pow-succ' b n))) i + (zeroed d) i * b ^ n) in
      omega (arith, e, after_is (v * b + d) ds, after_is (0 * b + d) ds)
    where
      zeroed : (d : ℕ) → d ≡ 0 * b + d
      zeroed d = omega arith

  pub number_append : (xs ys : List ℕ) → number_of b (xs ++ ys) ≡ number_of b xs * b ^ length ys + number_of b ys
  unfolding number_of
  number_append xs ys = after_append 0 xs ys ∙ after_is (number_after b 0 xs) ys

  after_lt : (v : ℕ) {ds : List ℕ} → Below b ds → number_after b v ds < suc v * b ^ length ds
  unfolding number_after
  after_lt v none_left = omega (arith, ap (λ (k : ℕ). suc v * k) (pow-zero b))
  after_lt v (one_more {x} {xs} h e) =
      lt_of_lt_of_le (after_lt (v * b + x) e)
      (subst (λ (k : ℕ). suc (v * b + x) * b ^ length xs ≤ k) f (mul-le-mul_right (b ^ length xs) g))
    where
      g : suc (v * b + x) ≤ suc v * b
      g = omega (arith, add-mul v 1 b, h, ap (λ (k : ℕ). k * b) one)
        where
          one : suc v ≡ v + 1
          one = omega arith

      f : suc v * b * b ^ length xs ≡ suc v * b ^ suc (length xs)
      f = mul_assoc (suc v) b (b ^ length xs) ∙ ap (λ (k : ℕ). suc v * k) (sym (pow-succ' b (length xs)))

  pub number_lt : {ds : List ℕ} → Below b ds → number_of b ds < b ^ length ds
  unfolding number_of
  number_lt {ds} e = omega (arith, after_lt 0 e)

  -- ---- there and back

  pub number_digits : 0 < b → (n v : ℕ) → v < b ^ n → number_of b (digits_of b n v) ≡ v
  unfolding digits_of number_of number_after
  number_digits p zero v h = omega (arith, pow-zero b)
  number_digits p (suc n) v h =
      number_snoc (digits_of b n (v / b)) (v % b)
      ∙ ap (λ (w : ℕ). w * b + v % b) (number_digits p n (v / b) (div_below p 0 n 0 v h))
      ∙ div-add-mod' v b

  digits_after : (n v : ℕ) {ds : List ℕ} → Below b ds → digits_of b (n + length ds) (number_after b v ds) ≡ digits_of b n v ++ ds
  unfolding digits_of number_after
  digits_after n v none_left = ap (λ (k : ℕ). digits_of b k v) (add-zero n) ∙ sym (append-nil (digits_of b n v))
  digits_after n v (one_more {x} {xs} h e) =
      let k : n + suc (length xs) ≡ suc n + length xs = omega arith in
      ap (λ (k : ℕ). digits_of b k (number_after b (v * b + x) xs)) k
      ∙ digits_after (suc n) (v * b + x) e
      ∙ (λ i. (digits_of b n (digits_div v h i) ++ (digits_mod v h i ∷ [])) ++ xs)
      ∙ append_assoc (digits_of b n v) (x ∷ []) xs

  pub digits_number : {ds : List ℕ} → Below b ds → digits_of b (length ds) (number_of b ds) ≡ ds
  unfolding digits_of number_of
  digits_number {ds} e = ap (λ (k : ℕ). digits_of b k (number_after b 0 ds)) (sym (zero-add (length ds))) ∙ digits_after 0 0 e
