-- BASE64, what a caller may rely on: reading what was written gives it back, an accepted text is the encoding of its bytes,
-- and which bytes a text consists of.
use Rattle.std.proofs.lemmas.Bool.{eqb-false}
use Rattle.std.proofs.Common.{◌≡◌, ℕ, zero, suc, ◌+◌, ◌-◌, ◌*◌, ◌/◌, ◌%◌, ◌<◌, ◌≤◌, Bool, true, false, cond, ◌&&◌, eqb, ltb, List, [], ◌∷◌, ◌++◌, length, get_or, take, drop, replicate, sym, refl, ap, ◌∙◌, subst, append_assoc, append-nil, arith, length-append, take-append-drop, drop_of_length-le, length-take-le, take_at, ltb-true, lt-ltb, eq-eqb, eqb-true}
use Rattle.std.proofs.Math.Option.{none, some}
use Rattle.std.proofs.Math.ListN.{get_or-append}
use Rattle.std.proofs.Math.Seq.{drop-length, get_or-append_seam}
use Rattle.primitives.specs.Bytes.{AllBytes}
use Rattle.primitives.specs.declared.base64.Alphabet.{Alphabet}
use Rattle.primitives.specs.declared.base64.Alphabet.TheVariants.{Standard, UrlSafe}
use Rattle.primitives.specs.Base64.{letter, digit, from_bytes, from_digits, quad, triple, letters, pad, padding_count, padding, encoding, encoded_length, bytes, known, ended, whole, unmarked, letter_count, unpadded, accepted, decoding}
use Rattle.primitives.proofs.ByteLists.{bytes_head, bytes_tail, bytes_take, each_bytes}
use Rattle.primitives.proofs.Each.{Each, none_left, one_more, each_append, each_replicate, each_at}
use Rattle.primitives.proofs.Writing.{drop_one, drop_two}
use Rattle.primitives.proofs.Base64Letters.{digit_letter, letter_digit, letter_small, foreign, pad_foreign, dot_foreign, digits_group, bytes_group, byte_1, byte_2, byte_3, sum_small, digit_1, digit_2, digit_3, digit_4}
use Rattle.primitives.proofs.Base64Lengths.{length_bytes, length_encoding}
use Rattle.primitives.proofs.Base64Answers.{marked, not_marked, unmarked_most, letters_most, few_marks}

the : {xs ys : List ℕ} → some xs ≡ some ys → xs ≡ ys
the e = cc

and_left : (s t : Bool) → s && t ≡ true → s ≡ true
and_left true t e = refl
and_left false t e = e

and_right : (s t : Bool) → s && t ≡ true → t ≡ true
and_right true t e = e
and_right false t e = cc

-- ---- the bytes of a text

module _ (a : Alphabet) (P : ℕ → Type 0) (rule : (k : ℕ) → k < 64 → P (letter a k)) where
  six : (k : ℕ) → P (letter a (k % 64))
  six k = rule (k % 64) (omega arith)

  pub each_letters : (xs : List ℕ) → Each P (letters a xs)
  unfolding letters quad
  each_letters [] = none_left
  each_letters (x ∷ []) = one_more (six _) (one_more (six _) none_left)
  each_letters (x ∷ y ∷ []) = one_more (six _) (one_more (six _) (one_more (six _) none_left))
  each_letters (x ∷ y ∷ z ∷ rest) = one_more (six _) (one_more (six _) (one_more (six _) (one_more (six _) (each_letters rest))))

  -- each byte of a text is a letter or '='
  pub each_encoding : P pad → (xs : List ℕ) → Each P (encoding a xs)
  unfolding encoding
  each_encoding h xs = each_append (each_letters xs) (each_replicate (padding_count a (length xs)) pad h)

-- a text is bytes
pub encoding_bytes : (a : Alphabet) (xs : List ℕ) → AllBytes (encoding a xs)
encoding_bytes a xs = each_bytes (each_encoding a (λ b. b < 256) (letter_small a) (omega arith) xs)

-- a byte that is neither a letter nor '=' occurs in no text
pub encoding_foreign : (a : Alphabet) (xs : List ℕ) (c : ℕ) → digit a c ≡ 64 → (pad ≡ c → ⊥) → Each (λ b. b ≡ c → ⊥) (encoding a xs)
encoding_foreign a xs c f n = each_encoding a (λ b. b ≡ c → ⊥) (foreign a c f) n xs

-- '.' occurs in no text, '_' in no padded one
pub no_dot : (a : Alphabet) (xs : List ℕ) (i : ℕ) → i < length (encoding a xs) → get_or (encoding a xs) i 0 ≡ 46 → ⊥
no_dot a xs = each_at (encoding_foreign a xs 46 (dot_foreign a) (λ e. omega arith))

pub no_underscore : (xs : List ℕ) (i : ℕ) → i < length (encoding Standard xs) → get_or (encoding Standard xs) i 0 ≡ 95 → ⊥
unfolding digit
no_underscore xs = each_at (encoding_foreign Standard xs 95 refl (λ e. omega arith))

-- ---- reading what was written

module _ (a : Alphabet) (g : ℕ) (h : g < 16777216) where
  -- the number of the letter of a number
  again : ℕ → ℕ
  again k = digit a (letter a (k % 64))

  again_is : (k : ℕ) → again k ≡ k % 64
  unfolding again
  again_is k = digit_letter a (k % 64) (omega arith)

  group_back : from_digits (again (g / 262144)) (again (g / 4096)) (again (g / 64)) (again g) ≡ g
  group_back = (λ i. from_digits (again_is (g / 262144) i) (again_is (g / 4096) i) (again_is (g / 64) i) (again_is g i)) ∙ digits_group g h

  -- the same where the last bits are zero, and their letters are left out
  two_back : g % 64 ≡ 0 → from_digits (again (g / 262144)) (again (g / 4096)) (again (g / 64)) 0 ≡ g
  two_back e = (λ i. from_digits (again (g / 262144)) (again (g / 4096)) (again (g / 64)) (sym (again_is g ∙ e) i)) ∙ group_back

  one_back : g % 4096 ≡ 0 → from_digits (again (g / 262144)) (again (g / 4096)) 0 0 ≡ g
  one_back e =
      let f : g / 64 % 64 ≡ 0 = omega arith in
      let k : g % 64 ≡ 0 = omega arith in
      (λ i. from_digits (again (g / 262144)) (again (g / 4096)) (sym (again_is (g / 64) ∙ f) i) 0) ∙ two_back k

triple_back : (x y z : ℕ) → x < 256 → y < 256 → z < 256 → triple (from_bytes x y z) ≡ x ∷ y ∷ z ∷ []
unfolding triple
triple_back x y z hx hy hz = λ i. byte_1 x y z hx hy hz i ∷ byte_2 x y z hx hy hz i ∷ byte_3 x y z hx hy hz i ∷ []

module _ (a : Alphabet) where
  bytes_letters : (xs : List ℕ) → AllBytes xs → bytes a (letters a xs) ≡ xs
  unfolding letters bytes quad again
  bytes_letters [] p = refl
  bytes_letters (x ∷ []) p =
      let hx : x < 256 = bytes_head p in
      ap (λ (g : ℕ). take 1 (triple g)) (one_back a (from_bytes x 0 0) (omega arith) (omega arith))
      ∙ ap (take 1) (triple_back x 0 0 hx (omega arith) (omega arith))
  bytes_letters (x ∷ y ∷ []) p =
      let hx : x < 256 = bytes_head p in
      let hy : y < 256 = bytes_head (bytes_tail p) in
      ap (λ (g : ℕ). take 2 (triple g)) (two_back a (from_bytes x y 0) (omega arith) (omega arith))
      ∙ ap (take 2) (triple_back x y 0 hx hy (omega arith))
  bytes_letters (x ∷ y ∷ z ∷ rest) p =
      let hx : x < 256 = bytes_head p in
      let hy : y < 256 = bytes_head (bytes_tail p) in
      let hz : z < 256 = bytes_head (bytes_tail (bytes_tail p)) in
      (λ i. triple (group_back a (from_bytes x y z) (omega arith) i) ++ bytes_letters rest (bytes_tail (bytes_tail (bytes_tail p))) i)
      ∙ ap (λ (l : List ℕ). l ++ rest) (triple_back x y z hx hy hz)

  ended_letters : (xs : List ℕ) → ended a (letters a xs) ≡ true
  unfolding letters ended quad
  ended_letters [] = refl
  ended_letters (x ∷ []) =
      let k : ℕ = from_bytes x 0 0 / 4096 in
      let e : k % 64 % 16 ≡ 0 = omega arith in
      eq-eqb (digit a (letter a (k % 64)) % 16) 0 (ap (λ (d : ℕ). d % 16) (digit_letter a (k % 64) (omega arith)) ∙ e)
  ended_letters (x ∷ y ∷ []) =
      let k : ℕ = from_bytes x y 0 / 64 in
      let e : k % 64 % 4 ≡ 0 = omega arith in
      eq-eqb (digit a (letter a (k % 64)) % 4) 0 (ap (λ (d : ℕ). d % 4) (digit_letter a (k % 64) (omega arith)) ∙ e)
  ended_letters (x ∷ y ∷ z ∷ rest) = ended_letters rest

  known_each : {text : List ℕ} → Each (λ c. digit a c < 64) text → known a text ≡ true
  unfolding known
  known_each none_left = refl
  known_each (one_more {x} {xs} h e) = ap (λ (t : Bool). t && known a xs) (lt-ltb (digit a x) 64 h) ∙ known_each e

  known_letters : (xs : List ℕ) → known a (letters a xs) ≡ true
  known_letters xs = known_each (each_letters a (λ c. digit a c < 64) (λ k h. subst (λ (d : ℕ). d < 64) (sym (digit_letter a k h)) h) xs)

-- ---- the padding is removed

Plain : List ℕ → Type 0
Plain u = Each (λ b. b ≡ pad → ⊥) u

module _ (u v : List ℕ) where
  goes : unmarked (u ++ (pad ∷ v)) (length u + 1) ≡ length u
  goes =
      let e : length u + 1 - 1 ≡ length u = omega arith in
      marked (u ++ (pad ∷ v)) (length u + 1) (ap (λ (n : ℕ). get_or (u ++ (pad ∷ v)) n 0) e ∙ get_or-append_seam u pad v 0) ∙ e

stays : (u v : List ℕ) → Plain u → unmarked (u ++ v) (length u) ≡ length u
unfolding Plain
stays [] v p = omega (arith, unmarked_most v 0)
stays (x ∷ u) v p =
    let e : suc (length u) - 1 ≡ length u = omega arith in
    not_marked (x ∷ (u ++ v)) (suc (length u))
    (λ q. each_at p (length u) (omega arith) (sym (get_or-append (x ∷ u) v 0 (length u) (omega arith)) ∙ ap (λ (n : ℕ). get_or (x ∷ (u ++ v)) n 0) (sym e) ∙ q))

-- zero, one or two '=' after letters
stripped : (u : List ℕ) (n : ℕ) → n ≤ 2 → Plain u → letter_count Standard (u ++ replicate n pad) ≡ length u
stripped u zero h p =
    let e : length (u ++ []) ≡ length u = ap length (append-nil u) in
    ap (λ (n : ℕ). unmarked (u ++ []) (unmarked (u ++ []) n)) e ∙ ap (unmarked (u ++ [])) (stays u [] p) ∙ stays u [] p
stripped u (suc zero) h p =
    let e : length (u ++ (pad ∷ [])) ≡ length u + 1 = length-append u (pad ∷ []) in
    ap (λ (n : ℕ). unmarked (u ++ (pad ∷ [])) (unmarked (u ++ (pad ∷ [])) n)) e
    ∙ ap (unmarked (u ++ (pad ∷ []))) (goes u [])
    ∙ stays u (pad ∷ []) p
stripped u (suc (suc zero)) h p =
    let t : List ℕ = u ++ (pad ∷ pad ∷ []) in
    let l : length (u ++ (pad ∷ [])) ≡ length u + 1 = length-append u (pad ∷ []) in
    let e : length t ≡ length (u ++ (pad ∷ [])) + 1 = omega (arith, l, length-append u (pad ∷ pad ∷ [])) in
    let s : (u ++ (pad ∷ [])) ++ (pad ∷ []) ≡ t = append_assoc u (pad ∷ []) (pad ∷ []) in
    ap (λ (n : ℕ). unmarked t (unmarked t n)) e
    ∙ ap (unmarked t) (ap (λ (w : List ℕ). unmarked w (length (u ++ (pad ∷ [])) + 1)) (sym s) ∙ goes (u ++ (pad ∷ [])) [] ∙ l)
    ∙ goes u (pad ∷ [])
stripped u (suc (suc (suc n))) h p = absurd (omega arith)

plain_letters : (a : Alphabet) (xs : List ℕ) → Plain (letters a xs)
unfolding Plain
plain_letters a xs = each_letters a (λ b. b ≡ pad → ⊥) (foreign a pad (pad_foreign a)) xs

count_letters : (a : Alphabet) (xs : List ℕ) → letter_count a (encoding a xs) ≡ length (letters a xs)
unfolding encoding
count_letters Standard xs = stripped (letters Standard xs) (padding_count Standard (length xs)) (few_marks Standard (length xs)) (plain_letters Standard xs)
count_letters UrlSafe xs = ap length (append-nil (letters UrlSafe xs))

unpadded_encoding : (a : Alphabet) (xs : List ℕ) → unpadded a (encoding a xs) ≡ letters a xs
unfolding encoding
unpadded_encoding a xs =
    ap (λ (n : ℕ). take n (encoding a xs)) (count_letters a xs) ∙ take_at (letters a xs) (padding a (length xs)) (length (letters a xs)) refl

whole_length : (a : Alphabet) (n : ℕ) → whole a (encoded_length a n) ≡ true
whole_length Standard n = eq-eqb (encoded_length Standard n % 4) 0 (omega arith)
whole_length UrlSafe n = refl

module _ (a : Alphabet) where
  accepted_encoding : (xs : List ℕ) → accepted a (encoding a xs) ≡ true
  unfolding accepted
  accepted_encoding xs =
      (λ i. whole a (length_encoding a xs i) && (ended a (unpadded_encoding a xs i) && known a (unpadded_encoding a xs i)))
      ∙ (λ i. whole_length a (length xs) i && (ended_letters a xs i && known_letters a xs i))

  -- reading what was written gives it back
  pub decode_encode : (xs : List ℕ) → AllBytes xs → decoding a (encoding a xs) ≡ some xs
  unfolding decoding
  decode_encode xs p =
      (λ i. cond (accepted_encoding xs i) (some (bytes a (unpadded_encoding a xs i))) none) ∙ ap some (bytes_letters a xs p)

  -- different bytes have different texts
  pub encoding_injective : (xs ys : List ℕ) → AllBytes xs → AllBytes ys → encoding a xs ≡ encoding a ys → xs ≡ ys
  encoding_injective xs ys p q e = the (sym (decode_encode xs p) ∙ ap (decoding a) e ∙ decode_encode ys q)

-- ---- what is accepted was written

zeros_1 : (w x : ℕ) → x % 16 ≡ 0 → from_digits w x 0 0 % 65536 ≡ 0
zeros_1 w x e = omega arith

zeros_2 : (w x y : ℕ) → y % 4 ≡ 0 → from_digits w x y 0 % 256 ≡ 0
zeros_2 w x y e = omega arith

false_true : false ≡ true → ⊥
false_true e = let z : ◌≡◌ {A = ℕ} 0 1 = cc in omega arith

module _ (a : Alphabet) where
  -- a group of the letters w, x, y and z
  quad_again : (w x y z : ℕ) → w < 64 → x < 64 → y < 64 → z < 64 → quad a (from_digits w x y z) ≡ letter a w ∷ letter a x ∷ letter a y ∷ letter a z ∷ []
  unfolding quad
  quad_again w x y z hw hx hy hz =
      λ i. letter a (digit_1 w x y z hw hx hy hz i) ∷ letter a (digit_2 w x y z hw hx hy hz i) ∷ letter a (digit_3 w x y z hw hx hy hz i) ∷ letter a (digit_4 w x y z hw hx hy hz i) ∷ []

  -- a byte that has a number
  abbrev Letter : ℕ → Type 0
  Letter c = (digit a c < 64) × (letter a (digit a c) ≡ c)

  known_head : (c : ℕ) (text : List ℕ) → c < 256 → known a (c ∷ text) ≡ true → Letter c × (known a text ≡ true)
  unfolding known
  known_head c text h e =
      let t : ltb (digit a c) 64 ≡ true = and_left (ltb (digit a c) 64) (known a text) e in
      ((ltb-true (digit a c) 64 t, letter_digit a c h t), and_right (ltb (digit a c) 64) (known a text) e)

  module _ (w x y z : ℕ) (hw : w < 64) (hx : x < 64) (hy : y < 64) (hz : z < 64) where
    g : ℕ
    g = from_digits w x y z

    small : g < 16777216
    unfolding g
    small = sum_small w x y z hw hx hy hz

    four_again : quad a (from_bytes (g / 65536 % 256) (g / 256 % 256) (g % 256)) ≡ letter a w ∷ letter a x ∷ letter a y ∷ letter a z ∷ []
    unfolding g
    four_again = ap (quad a) (bytes_group g small) ∙ quad_again w x y z hw hx hy hz

    -- the same where the last bits are zero
    three_again : g % 256 ≡ 0 → quad a (from_bytes (g / 65536 % 256) (g / 256 % 256) 0) ≡ letter a w ∷ letter a x ∷ letter a y ∷ letter a z ∷ []
    three_again e = ap (λ (b : ℕ). quad a (from_bytes (g / 65536 % 256) (g / 256 % 256) b)) (sym e) ∙ four_again

    two_again : g % 65536 ≡ 0 → quad a (from_bytes (g / 65536 % 256) 0 0) ≡ letter a w ∷ letter a x ∷ letter a y ∷ letter a z ∷ []
    two_again e =
        let f : g / 256 % 256 ≡ 0 = omega arith in
        let k : g % 256 ≡ 0 = omega arith in
        ap (λ (b : ℕ). quad a (from_bytes (g / 65536 % 256) b 0)) (sym f) ∙ three_again k

  module _ {w x : ℕ} (kw : Letter w) (kx : Letter x) where
    pair_back : digit a x % 16 ≡ 0 → take 2 (quad a (from_bytes (from_digits (digit a w) (digit a x) 0 0 / 65536 % 256) 0 0)) ≡ w ∷ x ∷ []
    unfolding g
    pair_back u =
        ap (take 2) (two_again (digit a w) (digit a x) 0 0 kw.0 kx.0 (omega arith) (omega arith) (zeros_1 (digit a w) (digit a x) u))
        ∙ (λ i. kw.1 i ∷ kx.1 i ∷ [])

    module _ {y : ℕ} (ky : Letter y) where
      g₃ : ℕ
      g₃ = from_digits (digit a w) (digit a x) (digit a y) 0

      three_back : digit a y % 4 ≡ 0 → take 3 (quad a (from_bytes (g₃ / 65536 % 256) (g₃ / 256 % 256) 0)) ≡ w ∷ x ∷ y ∷ []
      unfolding g g₃
      three_back u =
          ap (take 3) (three_again (digit a w) (digit a x) (digit a y) 0 kw.0 kx.0 ky.0 (omega arith) (zeros_2 (digit a w) (digit a x) (digit a y) u))
          ∙ (λ i. kw.1 i ∷ kx.1 i ∷ ky.1 i ∷ [])

      module _ {z : ℕ} (kz : Letter z) where
        g₄ : ℕ
        g₄ = from_digits (digit a w) (digit a x) (digit a y) (digit a z)

        four_back : quad a (from_bytes (g₄ / 65536 % 256) (g₄ / 256 % 256) (g₄ % 256)) ≡ w ∷ x ∷ y ∷ z ∷ []
        unfolding g g₄
        four_back =
            four_again (digit a w) (digit a x) (digit a y) (digit a z) kw.0 kx.0 ky.0 kz.0
            ∙ (λ i. kw.1 i ∷ kx.1 i ∷ ky.1 i ∷ kz.1 i ∷ [])

  letters_bytes : (text : List ℕ) → AllBytes text → known a text ≡ true → ended a text ≡ true → letters a (bytes a text) ≡ text
  unfolding letters bytes triple ended g₃ g₄
  letters_bytes [] p k e = refl
  letters_bytes (w ∷ []) p k e = absurd (false_true e)
  letters_bytes (w ∷ x ∷ []) p k e =
      let kw = known_head w (x ∷ []) (bytes_head p) k in
      let kx = known_head x [] (bytes_head (bytes_tail p)) kw.1 in
      pair_back kw.0 kx.0 (eqb-true (digit a x % 16) 0 e)
  letters_bytes (w ∷ x ∷ y ∷ []) p k e =
      let kw = known_head w (x ∷ y ∷ []) (bytes_head p) k in
      let kx = known_head x (y ∷ []) (bytes_head (bytes_tail p)) kw.1 in
      let ky = known_head y [] (bytes_head (bytes_tail (bytes_tail p))) kx.1 in
      three_back kw.0 kx.0 ky.0 (eqb-true (digit a y % 4) 0 e)
  letters_bytes (w ∷ x ∷ y ∷ z ∷ rest) p k e =
      let kw = known_head w (x ∷ y ∷ z ∷ rest) (bytes_head p) k in
      let kx = known_head x (y ∷ z ∷ rest) (bytes_head (bytes_tail p)) kw.1 in
      let ky = known_head y (z ∷ rest) (bytes_head (bytes_tail (bytes_tail p))) kx.1 in
      let kz = known_head z rest (bytes_head (bytes_tail (bytes_tail (bytes_tail p)))) ky.1 in
      λ i. four_back kw.0 kx.0 ky.0 kz.0 i ++ letters_bytes rest (bytes_tail (bytes_tail (bytes_tail (bytes_tail p)))) kz.1 e i

-- ---- the padding is as required

module _ (t : List ℕ) (m : ℕ) where
  one_mark : length t ≡ m + 1 → get_or t m 0 ≡ pad → drop m t ≡ pad ∷ []
  one_mark h e =
      let n : length t ≤ m + 1 = omega arith in
      drop_one t m (omega arith) ∙ (λ i. e i ∷ drop_of_length-le t n i)

  two_marks : length t ≡ m + 2 → get_or t m 0 ≡ pad → get_or t (m + 1) 0 ≡ pad → drop m t ≡ pad ∷ pad ∷ []
  two_marks h e f =
      let n : length t ≤ m + 2 = omega arith in
      drop_two t m (omega arith) ∙ (λ i. e i ∷ f i ∷ drop_of_length-le t n i)

-- the number of bytes that m letters encode
abbrev size : ℕ → ℕ
size m = m / 4 * 3 + m % 4 * 3 / 4

thirds : (q c n : ℕ) → c < 3 → n ≡ q * 3 + c → n % 3 ≡ c
thirds q c n h e = omega arith

pads : (m k : ℕ) → k ≤ 2 → (m + k) % 4 ≡ 0 → padding_count Standard (size m) ≡ k
pads m zero h e =
    let r : m % 4 ≡ 0 = omega arith in
    let q : size m ≡ m / 4 * 3 + 0 = rw r (omega arith) in
    let v : size m % 3 ≡ 0 = thirds (m / 4) 0 (size m) (omega arith) q in
    ap (λ (n : ℕ). (3 - n) % 3) v
pads m (suc zero) h e =
    let r : m % 4 ≡ 3 = omega arith in
    let q : size m ≡ m / 4 * 3 + 2 = rw r (omega arith) in
    let v : size m % 3 ≡ 2 = thirds (m / 4) 2 (size m) (omega arith) q in
    ap (λ (n : ℕ). (3 - n) % 3) v
pads m (suc (suc zero)) h e =
    let r : m % 4 ≡ 2 = omega arith in
    let q : size m ≡ m / 4 * 3 + 1 = rw r (omega arith) in
    let v : size m % 3 ≡ 1 = thirds (m / 4) 1 (size m) (omega arith) q in
    ap (λ (n : ℕ). (3 - n) % 3) v
pads m (suc (suc (suc k))) h e = absurd (omega arith)

filled : (t : List ℕ) → get_or t (length t - 1) 0 ≡ pad → 0 < length t
filled [] e = absurd (omega arith)
filled (x ∷ t) e = omega arith

padding_is : (a : Alphabet) (t : List ℕ) → whole a (length t) ≡ true → drop (letter_count a t) t ≡ padding a (size (letter_count a t))
padding_is UrlSafe t w = drop-length t
padding_is Standard t w = ends (eqb (get_or t (n - 1) 0) pad) refl
  where
    n : ℕ
    n = length t

    groups : n % 4 ≡ 0
    groups = eqb-true (n % 4) 0 w

    -- m letters, then k times '='
    so : (m k : ℕ) → letter_count Standard t ≡ m → k ≤ 2 → m + k ≡ n → drop m t ≡ replicate k pad → drop (letter_count Standard t) t ≡ padding Standard (size (letter_count Standard t))
    so m k c h l d =
        let g : (m + k) % 4 ≡ 0 = ap (λ (x : ℕ). x % 4) l ∙ groups in
        ap (λ (x : ℕ). drop x t) c ∙ d ∙ ap (λ (x : ℕ). replicate x pad) (sym (pads m k h g)) ∙ ap (λ (x : ℕ). padding Standard (size x)) (sym c)

    none_there : (get_or t (n - 1) 0 ≡ pad → ⊥) → drop (letter_count Standard t) t ≡ padding Standard (size (letter_count Standard t))
    none_there f = so n 0 (ap (unmarked t) (not_marked t n f) ∙ not_marked t n f) (omega arith) (omega arith) (drop-length t)

    some_there : get_or t (n - 1) 0 ≡ pad → (b : Bool) → eqb (get_or t (n - 1 - 1) 0) pad ≡ b → drop (letter_count Standard t) t ≡ padding Standard (size (letter_count Standard t))
    some_there f false e =
        so (n - 1) 1 (ap (unmarked t) (marked t n f) ∙ not_marked t (n - 1) (eqb-false (get_or t (n - 1 - 1) 0) pad e)) (omega arith) (omega (arith, filled t f))
        (one_mark t (n - 1) (omega (arith, filled t f)) f)
    some_there f true e =
        let b : 0 < length t = filled t f in
        let g : length t % 4 ≡ 0 = groups in
        let s : n - 1 - 1 + 1 ≡ n - 1 = omega arith in
        so (n - 1 - 1) 2 (ap (unmarked t) (marked t n f) ∙ marked t (n - 1) (eqb-true (get_or t (n - 1 - 1) 0) pad e)) (omega arith) (omega arith)
        (two_marks t (n - 1 - 1) (omega arith) (eqb-true (get_or t (n - 1 - 1) 0) pad e) (ap (λ (x : ℕ). get_or t x 0) s ∙ f))

    ends : (b : Bool) → eqb (get_or t (n - 1) 0) pad ≡ b → drop (letter_count Standard t) t ≡ padding Standard (size (letter_count Standard t))
    ends false e = none_there (eqb-false (get_or t (n - 1) 0) pad e)
    ends true e = some_there (eqb-true (get_or t (n - 1) 0) pad e) (eqb (get_or t (n - 1 - 1) 0) pad) refl

module _ (a : Alphabet) (t : List ℕ) where
  -- the bytes of an accepted text
  decoding_some : (xs : List ℕ) → decoding a t ≡ some xs → (accepted a t ≡ true) × (bytes a (unpadded a t) ≡ xs)
  unfolding decoding
  decoding_some xs e = go (accepted a t) refl e
    where
      go : (b : Bool) → accepted a t ≡ b → cond b (some (bytes a (unpadded a t))) none ≡ some xs → (accepted a t ≡ true) × (bytes a (unpadded a t) ≡ xs)
      go true q f = (q, the f)
      go false q f = let z : ◌≡◌ {A = ℕ} 0 1 = cc in absurd (omega arith)

  restored : AllBytes t → accepted a t ≡ true → t ≡ encoding a (bytes a (unpadded a t))
  unfolding accepted encoding
  restored p e =
      let w : whole a (length t) ≡ true = and_left (whole a (length t)) (ended a (unpadded a t) && known a (unpadded a t)) e in
      let r : ended a (unpadded a t) && known a (unpadded a t) ≡ true = and_right (whole a (length t)) (ended a (unpadded a t) && known a (unpadded a t)) e in
      let l : letters a (bytes a (unpadded a t)) ≡ unpadded a t =
      letters_bytes a (unpadded a t) (bytes_take (letter_count a t) p)
      (and_right (ended a (unpadded a t)) (known a (unpadded a t)) r)
      (and_left (ended a (unpadded a t)) (known a (unpadded a t)) r) in
      let n : length (bytes a (unpadded a t)) ≡ size (letter_count a t) =
      length_bytes a (unpadded a t) ∙ ap size (length-take-le (letter_count a t) t (letters_most a t)) in
      sym (take-append-drop (letter_count a t) t)
      ∙ (λ i. sym l i ++ padding_is a t w i)
      ∙ ap (λ (m : ℕ). letters a (bytes a (unpadded a t)) ++ padding a m) (sym n)

  -- an accepted text is the encoding of its bytes, so bytes have one text
  pub encode_decode : (xs : List ℕ) → AllBytes t → decoding a t ≡ some xs → t ≡ encoding a xs
  encode_decode xs p e = restored p (decoding_some xs e).0 ∙ ap (encoding a) (decoding_some xs e).1

eight : (k : ℕ) → k % 256 < 256
eight k = omega arith

each_read : (a : Alphabet) (text : List ℕ) → Each (λ b. b < 256) (bytes a text)
unfolding bytes triple
each_read a [] = none_left
each_read a (w ∷ []) = none_left
each_read a (w ∷ x ∷ []) = one_more (eight _) none_left
each_read a (w ∷ x ∷ y ∷ []) = one_more (eight _) (one_more (eight _) none_left)
each_read a (w ∷ x ∷ y ∷ z ∷ rest) = one_more (eight _) (one_more (eight _) (one_more (eight _) (each_read a rest)))

-- a text decodes to bytes
pub decoded_bytes : (a : Alphabet) (t xs : List ℕ) → decoding a t ≡ some xs → AllBytes xs
decoded_bytes a t xs e = subst AllBytes (decoding_some a t xs e).1 (each_bytes (each_read a (unpadded a t)))
