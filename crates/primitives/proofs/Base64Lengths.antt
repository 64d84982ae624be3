-- BASE64: the lengths of a text and of the bytes it encodes.
use Rattle.std.proofs.Common.{◌≡◌, ℕ, zero, suc, ◌+◌, ◌-◌, ◌*◌, ◌/◌, ◌%◌, List, [], ◌∷◌, length, refl, ◌∙◌, arith, length-append}
use Rattle.std.proofs.Math.ListN.{length-replicate}
use Rattle.primitives.specs.declared.base64.Alphabet.{Alphabet}
use Rattle.primitives.specs.declared.base64.Alphabet.TheVariants.{Standard, UrlSafe}
use Rattle.primitives.specs.Base64.{quad, triple, letters, pad, padding_count, padding, encoding, encoded_length, bytes}

module _ (a : Alphabet) where
  pub length_letters : (xs : List ℕ) → length (letters a xs) ≡ (length xs * 4 + 2) / 3
  unfolding letters quad
  length_letters [] = refl
  length_letters (x ∷ []) = refl
  length_letters (x ∷ y ∷ []) = refl
  length_letters (x ∷ y ∷ z ∷ rest) = omega (arith, length_letters rest)

  pub length_bytes : (text : List ℕ) → length (bytes a text) ≡ length text / 4 * 3 + length text % 4 * 3 / 4
  unfolding bytes triple
  length_bytes [] = refl
  length_bytes (w ∷ []) = refl
  length_bytes (w ∷ x ∷ []) = refl
  length_bytes (w ∷ x ∷ y ∷ []) = refl
  length_bytes (w ∷ x ∷ y ∷ z ∷ rest) = omega (arith, length_bytes rest)

-- whole groups, and the letters of the rest
pub in_groups : (n : ℕ) → n / 3 * 4 + (n % 3 * 4 + 2) / 3 ≡ encoded_length UrlSafe n
in_groups n = omega arith

padded_length : (a : Alphabet) (n : ℕ) → (n * 4 + 2) / 3 + padding_count a n ≡ encoded_length a n
padded_length Standard n = go (n % 3) refl
  where
    go : (r : ℕ) → n % 3 ≡ r → (n * 4 + 2) / 3 + (3 - n % 3) % 3 ≡ (n + 2) / 3 * 4
    go zero e = let p : (n * 4 + 2) / 3 ≡ n / 3 * 4 + 0 = omega arith in let q : (n + 2) / 3 ≡ n / 3 + 0 = omega arith in rw (e, p, q) (omega arith)
    go (suc zero) e = let p : (n * 4 + 2) / 3 ≡ n / 3 * 4 + 2 = omega arith in let q : (n + 2) / 3 ≡ n / 3 + 1 = omega arith in rw (e, p, q) (omega arith)
    go (suc (suc zero)) e = let p : (n * 4 + 2) / 3 ≡ n / 3 * 4 + 3 = omega arith in let q : (n + 2) / 3 ≡ n / 3 + 1 = omega arith in rw (e, p, q) (omega arith)
    go (suc (suc (suc r))) e = absurd (omega arith)
padded_length UrlSafe n = omega arith

module _ (a : Alphabet) (xs : List ℕ) where
  -- the text's length, from the number of bytes alone
  pub length_encoding : length (encoding a xs) ≡ encoded_length a (length xs)
  unfolding encoding
  length_encoding =
      length-append (letters a xs) (padding a (length xs))
      ∙ (λ i. length_letters a xs i + length-replicate (padding_count a (length xs)) pad i)
      ∙ padded_length a (length xs)

  pub length_parts : length (letters a xs) + padding_count a (length xs) ≡ encoded_length a (length xs)
  length_parts = omega (arith, length_letters a xs, padded_length a (length xs))
