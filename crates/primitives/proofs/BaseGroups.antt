-- The rule of RFC 4648, over every good base: bytes that fill whole letters are written, and letters that fill whole bytes are read, before
-- the rest.
use Rattle.std.proofs.Common.{◌≡◌, ℕ, ◌+◌, ◌-◌, ◌*◌, ◌/◌, ◌%◌, ◌^◌, ◌<◌, List, ◌++◌, map, length, sym, ap, ◌∙◌, subst, mul_assoc, div-lt_iff_lt-mul, add-mul, arith, lit<, length-append, pow_pos, pow-add}
use Rattle.std.proofs.Math.Nat.{add-mul-div_right}
use Rattle.std.proofs.Math.ListN.{length-map}
use Rattle.primitives.specs.Bytes.{AllBytes}
use Rattle.primitives.specs.Number.{digits_of, number_of, bytes_of, value_of}
use Rattle.primitives.specs.BaseRule.{Base, GoodBase, letters_for, spare_bits, letters_of, number_in, bytes_for, bits_after, bytes_in}
use Rattle.primitives.proofs.Each.{Each}
use Rattle.primitives.proofs.Numbers.{value_append}
use Rattle.primitives.proofs.Radix.{digits_join, number_append, number_lt}
use Rattle.primitives.proofs.BaseTexts.{pow_bits, letters_bits, in_bytes, map_append, each_map, number_small}

module _ (b : Base) (g : GoodBase b) where
  -- the first bytes fill m letters
  module _ (xs ys : List ℕ) (m : ℕ) (e : m * b.bits ≡ length xs * 8) where
    k : ℕ
    k = b.bits

    long : length (xs ++ ys) ≡ length xs + length ys
    long = length-append xs ys

    letters_more : letters_for k (length (xs ++ ys)) ≡ m + letters_for k (length ys)
    unfolding letters_for k
    letters_more =
        let f : length (xs ++ ys) * 8 + (k - 1) ≡ (length ys * 8 + (k - 1)) + m * k = omega (arith, long, e) in
        ap (λ (x : ℕ). x / k) f ∙ add-mul-div_right (length ys * 8 + (k - 1)) m g.some ∙ omega arith

    spare_same : spare_bits k (length (xs ++ ys)) ≡ spare_bits k (length ys)
    unfolding spare_bits k
    spare_same = ap (λ (c : ℕ). c * k - length (xs ++ ys) * 8) letters_more ∙ omega (arith, long, e, add-mul m (letters_for k (length ys)) k)

    module _ (p : AllBytes ys) where
      s : ℕ
      s = spare_bits k (length ys)

      c : ℕ
      c = letters_for k (length ys)

      shifted : 256 ^ length ys * 2 ^ s ≡ (2 ^ k) ^ c
      unfolding k s c
      shifted =
          ap (λ (x : ℕ). x * 2 ^ s) (pow_bits 8 (length ys)) ∙ sym (pow-add 2 (length ys * 8) s)
          ∙ ap (λ (x : ℕ). 2 ^ x) (sym (letters_bits k (length ys) g.some))
          ∙ sym (pow_bits k c)

      value_more : value_of (xs ++ ys) * 2 ^ s ≡ value_of xs * (2 ^ k) ^ c + value_of ys * 2 ^ s
      value_more =
          ap (λ (x : ℕ). x * 2 ^ s) (value_append xs ys) ∙ add-mul (value_of xs * 256 ^ length ys) (value_of ys) (2 ^ s)
          ∙ ap (λ (x : ℕ). x + value_of ys * 2 ^ s) (mul_assoc (value_of xs) (256 ^ length ys) (2 ^ s) ∙ ap (λ (x : ℕ). value_of xs * x) shifted)

      pub letters_append : letters_of b (xs ++ ys) ≡ map b.letter (digits_of (2 ^ b.bits) m (value_of xs)) ++ letters_of b ys
      unfolding letters_of k s c
      letters_append =
          rw (letters_more, spare_same, value_more)
          (ap (map b.letter) (digits_join (2 ^ k) (pow_pos k) m c (value_of xs) (value_of ys * 2 ^ s) (number_small b g ys p))
          ∙ map_append b.letter (digits_of (2 ^ k) m (value_of xs)) (digits_of (2 ^ k) c (value_of ys * 2 ^ s)))

  -- the first letters spell m bytes
  module _ (xs ys : List ℕ) (m : ℕ) (e : length xs * b.bits ≡ m * 8) where
    k₂ : ℕ
    k₂ = b.bits

    q₂ : ℕ
    q₂ = bytes_for k₂ (length ys)

    s₂ : ℕ
    s₂ = bits_after k₂ (length ys)

    times₂ : length (xs ++ ys) * k₂ ≡ m * 8 + length ys * k₂
    unfolding k₂
    times₂ = ap (λ (x : ℕ). x * k₂) (length-append xs ys) ∙ add-mul (length xs) (length ys) k₂ ∙ ap (λ (x : ℕ). x + length ys * k₂) e

    bytes_more : bytes_for k₂ (length (xs ++ ys)) ≡ m + q₂
    unfolding bytes_for q₂ k₂
    bytes_more = ap (λ (x : ℕ). x / 8) times₂ ∙ omega arith

    after_same : bits_after k₂ (length (xs ++ ys)) ≡ s₂
    unfolding bits_after s₂ k₂
    after_same = ap (λ (x : ℕ). x % 8) times₂ ∙ omega arith

    number_more : number_in b (xs ++ ys) ≡ number_in b xs * (2 ^ k₂) ^ length ys + number_in b ys
    unfolding number_in k₂
    number_more =
        ap (number_of (2 ^ k₂)) (map_append b.digit xs ys) ∙ number_append (2 ^ k₂) (map b.digit xs) (map b.digit ys)
        ∙ ap (λ (x : ℕ). number_in b xs * (2 ^ k₂) ^ x + number_in b ys) (length-map ys b.digit)

    power₂ : (2 ^ k₂) ^ length ys ≡ 256 ^ q₂ * 2 ^ s₂
    unfolding k₂ q₂ s₂
    power₂ =
        pow_bits k₂ (length ys) ∙ ap (λ (x : ℕ). 2 ^ x) (in_bytes k₂ (length ys)) ∙ pow-add 2 (q₂ * 8) s₂
        ∙ ap (λ (x : ℕ). x * 2 ^ s₂) (sym (pow_bits 8 q₂))

    module _ (known : Each (λ x. b.digit x < 2 ^ b.bits) ys) where
      small₂ : number_in b ys < 256 ^ q₂ * 2 ^ s₂
      unfolding number_in k₂
      small₂ =
          subst (λ (x : ℕ). number_in b ys < x) (ap (λ (x : ℕ). (2 ^ k₂) ^ x) (length-map ys b.digit) ∙ power₂)
          (number_lt (2 ^ k₂) (each_map b.digit (λ x h. h) known))

      shifted₂ : number_in b (xs ++ ys) / 2 ^ s₂ ≡ number_in b xs * 256 ^ q₂ + number_in b ys / 2 ^ s₂
      shifted₂ =
          let f : number_in b (xs ++ ys) ≡ number_in b ys + number_in b xs * 256 ^ q₂ * 2 ^ s₂ =
          number_more ∙ ap (λ (x : ℕ). number_in b xs * x + number_in b ys) power₂ ∙ omega (arith, mul_assoc (number_in b xs) (256 ^ q₂) (2 ^ s₂)) in
          ap (λ (x : ℕ). x / 2 ^ s₂) f ∙ add-mul-div_right (number_in b ys) (number_in b xs * 256 ^ q₂) (pow_pos s₂) ∙ omega arith

      pub bytes_append_in : bytes_in b (xs ++ ys) ≡ bytes_of m (number_in b xs) ++ bytes_in b ys
      unfolding bytes_in bytes_of k₂ q₂ s₂
      bytes_append_in =
          rw (bytes_more, after_same, shifted₂)
          (digits_join 256 (lit< tt) m q₂ (number_in b xs) (number_in b ys / 2 ^ s₂) ((div-lt_iff_lt-mul (pow_pos s₂)).1 small₂))
