-- Numbers as digits that letters spell: the loops that write and read them.
use Rattle.std.proofs.Common.{◌≡◌, ℕ, suc, ◌+◌, ◌*◌, ◌/◌, ◌%◌, ◌^◌, ◌<◌, ◌≤◌, List, [], ◌∷◌, ◌++◌, map, length, get_or, take, sym, refl, ap, ◌∙◌, arith, lit<, add-one, add-mul, pow-suc, take-suc}
use Rattle.std.proofs.Math.Nat.{pow-zero, pow-le-pow_left, pow-le-pow_right, mul-le-mul_right}
use Rattle.primitives.specs.Number.{digits_of, number_of, number_after, bytes_of, value_of, value_after}
use Rattle.primitives.proofs.Radix.{digits_zero, digits_suc, number_snoc}
use Rattle.primitives.proofs.BaseTexts.{map_append}

-- the n low digits of v, spelled
abbrev pub spelled : (ℕ → ℕ) → ℕ → ℕ → ℕ → List ℕ
spelled letter b n v = map letter (digits_of b n v)

module _ (letter : ℕ → ℕ) (b v : ℕ) where
  pub spelled_zero : spelled letter b 0 v ≡ []
  spelled_zero = ap (map letter) (digits_zero b v)

  pub spelled_suc : (n : ℕ) → spelled letter b (suc n) v ≡ spelled letter b n (v / b) ++ (letter (v % b) ∷ [])
  spelled_suc n = ap (map letter) (digits_suc b n v) ∙ map_append letter (digits_of b n (v / b)) (v % b ∷ [])

-- v is the number that the first i letters spell
pub record Counted (digit : ℕ → ℕ) (b : ℕ) (s : List ℕ) (v i : ℕ) : Type 0 where
  pub is : v ≡ number_of b (map digit (take i s))
  pub low : v < b ^ i

module _ (digit : ℕ → ℕ) (b : ℕ) (s : List ℕ) where
  pub counted_none : Counted digit b s 0 0
  unfolding number_of number_after
  counted_none = record { is = refl; low = omega (arith, pow-zero b) }

  module _ {v i : ℕ} (p : Counted digit b s v i) where
    -- with one more digit it still fits 64 bits
    pub counted_small : {d : ℕ} → b ≤ 256 → i < 8 → d < b → v * b + d < 2 ^ 64
    counted_small {d} h k l =
        let w : i ≤ 7 = omega arith in
        let u : v + 1 ≤ 2 ^ 56 = omega (arith, p.low, pow-le-pow_left h i, pow-le-pow_right {n = 256} (lit< tt) w) in
        let e : (v + 1) * b ≤ 2 ^ 56 * b = mul-le-mul_right b u in
        omega (arith, add-mul v 1 b, e)

    pub counted_more : i < length s → digit (get_or s i 0) < b → Counted digit b s (v * b + digit (get_or s i 0)) (i + 1)
    counted_more h l =
        record {
          is =
              sym
              (ap (number_of b) (ap (map digit) (ap (λ (k : ℕ). take k s) (add-one i) ∙ take-suc s i 0 h) ∙ map_append digit (take i s) (get_or s i 0 ∷ []))
              ∙ number_snoc b (map digit (take i s)) (digit (get_or s i 0))
              ∙ ap (λ (k : ℕ). k * b + digit (get_or s i 0)) (sym p.is));
          low =
              let e : (v + 1) * b ≤ b ^ i * b = mul-le-mul_right b (omega (arith, p.low)) in
              rw (add-one i, pow-suc b i) (omega (arith, add-mul v 1 b, e));
        }

-- ---- bytes spell themselves

same_map : (xs : List ℕ) → map (λ x. x) xs ≡ xs
same_map [] = refl
same_map (x ∷ xs) = ap (λ (l : List ℕ). x ∷ l) (same_map xs)

pub bytes_spelled : (n v : ℕ) → map (λ x. x) (digits_of 256 n v) ≡ bytes_of n v
unfolding bytes_of
bytes_spelled n v = same_map (digits_of 256 n v)

pub value_spelled : (s : List ℕ) → number_of 256 (map (λ x. x) s) ≡ value_of s
unfolding value_of value_after number_of
value_spelled s = ap (number_of 256) (same_map s)
