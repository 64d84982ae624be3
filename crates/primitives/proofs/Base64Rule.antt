-- BASE64 follows the rule of RFC 4648 over letters of six bits (specs/BaseRule.antt): it writes the same texts and reads the same bytes.
use Rattle.std.proofs.Common.{◌≡◌, ℕ, zero, suc, ◌+◌, ◌-◌, ◌*◌, ◌/◌, ◌%◌, ◌<◌, List, [], ◌∷◌, ◌++◌, map, length, take, replicate, sym, refl, ap, ◌∙◌, arith, lt-ltb}
use Rattle.std.proofs.Math.Option.{Option, none, some}
use Rattle.primitives.specs.Bytes.{AllBytes}
use Rattle.primitives.specs.Number.{digits_of, number_after, value_after, value_of}
use Rattle.primitives.specs.BaseRule.{GoodBase, fill, letters_for, spare_bits, letters_of, fill_for, text_of, read_text}
use Rattle.primitives.specs.Base64.{letter, digit, group_letters, base64, from_bytes, quad, letters, padding_count, encoding, decoding}
use Rattle.primitives.specs.declared.base64.Alphabet.{Alphabet}
use Rattle.primitives.specs.declared.base64.Alphabet.TheVariants.{Standard, UrlSafe}
use Rattle.primitives.proofs.ByteLists.{bytes_tail}
use Rattle.primitives.proofs.Base64Letters.{digit_letter, letter_digit, letter_small, pad_foreign}
use Rattle.primitives.proofs.Base64Laws.{decode_encode, encode_decode, decoded_bytes}
use Rattle.primitives.proofs.BaseTexts.{read_back, read_bytes, text_only}
use Rattle.primitives.proofs.BaseGroups.{letters_append}

grouped : (a : Alphabet) → 0 < group_letters a
grouped Standard = omega arith
grouped UrlSafe = omega arith

pub base64_good : (a : Alphabet) → GoodBase (base64 a)
base64_good a =
    record {
      some = omega arith;
      most = omega arith;
      grouped = grouped a;
      small = letter_small a;
      back = digit_letter a;
      again = λ c h l. letter_digit a c h (lt-ltb (digit a c) 64 l);
      foreign = omega (arith, pad_foreign a);
    }

-- ---- writing

module _ (a : Alphabet) where
  -- three bytes are four letters
  four : (x y z : ℕ) → quad a (from_bytes x y z) ≡ map (letter a) (digits_of 64 4 (value_of (x ∷ y ∷ z ∷ [])))
  unfolding quad digits_of value_of value_after number_after
  four x y z =
      let e : from_bytes x y z / 262144 % 64 ≡ value_of (x ∷ y ∷ z ∷ []) / 64 / 64 / 64 % 64 = omega arith in
      let f : from_bytes x y z / 4096 % 64 ≡ value_of (x ∷ y ∷ z ∷ []) / 64 / 64 % 64 = omega arith in
      let h : from_bytes x y z / 64 % 64 ≡ value_of (x ∷ y ∷ z ∷ []) / 64 % 64 = omega arith in
      let k : from_bytes x y z % 64 ≡ value_of (x ∷ y ∷ z ∷ []) % 64 = omega arith in
      λ i. letter a (e i) ∷ letter a (f i) ∷ letter a (h i) ∷ letter a (k i) ∷ []

  -- one byte is two letters, and two bytes are three
  two : (x : ℕ) → take 2 (quad a (from_bytes x 0 0)) ≡ letters_of (base64 a) (x ∷ [])
  unfolding quad letters_for spare_bits letters_of digits_of value_of value_after number_after
  two x =
      let e : from_bytes x 0 0 / 262144 % 64 ≡ value_of (x ∷ []) * 16 / 64 % 64 = omega arith in
      let f : from_bytes x 0 0 / 4096 % 64 ≡ value_of (x ∷ []) * 16 % 64 = omega arith in
      λ i. letter a (e i) ∷ letter a (f i) ∷ []

  three : (x y : ℕ) → take 3 (quad a (from_bytes x y 0)) ≡ letters_of (base64 a) (x ∷ y ∷ [])
  unfolding quad letters_for spare_bits letters_of digits_of value_of value_after number_after
  three x y =
      let e : from_bytes x y 0 / 262144 % 64 ≡ value_of (x ∷ y ∷ []) * 4 / 64 / 64 % 64 = omega arith in
      let f : from_bytes x y 0 / 4096 % 64 ≡ value_of (x ∷ y ∷ []) * 4 / 64 % 64 = omega arith in
      let h : from_bytes x y 0 / 64 % 64 ≡ value_of (x ∷ y ∷ []) * 4 % 64 = omega arith in
      λ i. letter a (e i) ∷ letter a (f i) ∷ letter a (h i) ∷ []

  zero_letters : [] ≡ letters_of (base64 a) []
  unfolding letters_for letters_of digits_of
  zero_letters = refl

  letters_rule : (xs : List ℕ) → AllBytes xs → letters a xs ≡ letters_of (base64 a) xs
  unfolding letters
  letters_rule [] p = zero_letters
  letters_rule (x ∷ []) p = two x
  letters_rule (x ∷ y ∷ []) p = three x y
  letters_rule (x ∷ y ∷ z ∷ rest) p =
      let q : AllBytes rest = bytes_tail (bytes_tail (bytes_tail p)) in
      (λ i. four x y z i ++ letters_rule rest q i) ∙ sym (letters_append (base64 a) (base64_good a) (x ∷ y ∷ z ∷ []) rest 4 refl q)

-- as many '=' follow the letters
padding_rule : (a : Alphabet) (n : ℕ) → padding_count a n ≡ fill_for (group_letters a) (letters_for 6 n)
unfolding letters_for fill_for
padding_rule Standard n = go (n % 3) refl
  where
    -- whole groups, and c letters
    so : (r c : ℕ) → n % 3 ≡ r → (n * 8 + 5) / 6 ≡ n / 3 * 4 + c → c < 4 → (3 - r) % 3 ≡ (4 - c) % 4 → (3 - n % 3) % 3 ≡ (4 - (n * 8 + 5) / 6 % 4) % 4
    so r c e f h t = let d : (n * 8 + 5) / 6 % 4 ≡ c = omega arith in rw (e, d) t

    go : (r : ℕ) → n % 3 ≡ r → (3 - n % 3) % 3 ≡ (4 - (n * 8 + 5) / 6 % 4) % 4
    go zero e = so 0 0 e (omega arith) (omega arith) refl
    go (suc zero) e = so 1 2 e (omega arith) (omega arith) refl
    go (suc (suc zero)) e = so 2 3 e (omega arith) (omega arith) refl
    go (suc (suc (suc r))) e = absurd (omega arith)
padding_rule UrlSafe n = omega arith

pub encoding_rule : (a : Alphabet) (xs : List ℕ) → AllBytes xs → encoding a xs ≡ text_of (base64 a) xs
unfolding encoding text_of
encoding_rule a xs p = λ i. letters_rule a xs p i ++ replicate (padding_rule a (length xs) i) fill

-- ---- reading

-- both readers accept the text of each list of bytes, and no other text
pub decoding_rule : (a : Alphabet) (text : List ℕ) → AllBytes text → decoding a text ≡ read_text (base64 a) text
decoding_rule a text p = go (decoding a text) (read_text (base64 a) text) refl refl
  where
    go : (r s : Option (List ℕ)) → decoding a text ≡ r → read_text (base64 a) text ≡ s → r ≡ s
    go (some xs) s e f =
        let q : AllBytes xs = decoded_bytes a text xs e in
        let t : text ≡ text_of (base64 a) xs = encode_decode a text xs p e ∙ encoding_rule a xs q in
        sym (read_back (base64 a) (base64_good a) xs q) ∙ ap (read_text (base64 a)) (sym t) ∙ f
    go none none e f = refl
    go none (some ys) e f =
        let q : AllBytes ys = read_bytes (base64 a) (base64_good a) text ys f in
        let t : text ≡ encoding a ys = text_only (base64 a) (base64_good a) text ys f p ∙ sym (encoding_rule a ys q) in
        sym e ∙ ap (decoding a) t ∙ decode_encode a ys q
