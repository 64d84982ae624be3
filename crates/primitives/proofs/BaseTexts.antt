-- The rule of RFC 4648, over every good base: a text is read back to the bytes that it was written from, and has no other spelling.
use Rattle.std.proofs.Common.{◌≡◌, ℕ, zero, suc, ◌+◌, ◌-◌, ◌*◌, ◌/◌, ◌%◌, ◌^◌, ◌<◌, ◌≤◌, Bool, true, false, cond, ◌&&◌, eqb, ltb, ◌⊎◌, List, [], ◌∷◌, ◌++◌, map, length, get_or, take, drop, replicate, sym, refl, ap, ◌∙◌, subst, inl, inr, le_of_suc-le-suc, add-zero, add-suc, mod-lt, suc-mul, eq-or-lt_of_le, pow-suc, div-add-mod', arith, length-append, length-drop, take-append-drop, length-take-le, get_or-drop, take_at, get_or-append-add, ext_get_or, pow_pos, pow-add, shl_lt, shr_lt, ltb-true, lt-ltb, eq-eqb, ne_eqb, eqb-true}
use Rattle.std.proofs.Math.Option.{none, some}
use Rattle.std.proofs.Math.Nat.{pow-zero}
use Rattle.std.proofs.Math.Arith.{digits_div}
use Rattle.std.proofs.Math.Pow.{shl-shr, split, low}
use Rattle.std.proofs.Math.ListN.{length-replicate, length-map, get_or-replicate, get_or-append}
use Rattle.primitives.specs.Bytes.{AllBytes}
use Rattle.primitives.specs.Number.{digits_of, number_of, value_of}
use Rattle.primitives.specs.BaseRule.{Base, GoodBase, fill, letters_for, spare_bits, letters_of, fill_for, text_of, number_in, bytes_for, bits_after, bytes_in, letters_known, well_ended, before_fill, letters_in, is_text, read_text}
use Rattle.primitives.proofs.ByteLists.{bytes_head, bytes_tail, bytes_take}
use Rattle.primitives.proofs.Each.{Each, none_left, one_more, each_append, each_replicate, each_at}
use Rattle.primitives.proofs.Numbers.{length_bytes_of, bytes_bytes_of, value_lt, value_bytes_of, bytes_of_value}
use Rattle.primitives.proofs.Radix.{Below, length_digits, digits_below, number_lt, number_digits, digits_number}
use Rattle.primitives.proofs.Rows.{both}

-- ---- powers

-- c digits of k bits each have c * k bits
pub pow_bits : (k c : ℕ) → (2 ^ k) ^ c ≡ 2 ^ (c * k)
pow_bits k zero = pow-zero (2 ^ k) ∙ ap (λ (n : ℕ). 2 ^ n) nought
  where
    nought : 0 ≡ 0 * k
    nought = omega arith
pow_bits k (suc c) =
    pow-suc (2 ^ k) c ∙ ap (λ (n : ℕ). n * 2 ^ k) (pow_bits k c) ∙ sym (pow-add 2 (c * k) k) ∙ ap (λ (n : ℕ). 2 ^ n) (sym (suc-mul c k))

-- ---- how bytes are cut into letters, and letters into bytes

ceiling : (x m y k : ℕ) → x + m ≡ y + (k - 1) → m < k → 0 < k → (x ≡ y + (x - y)) × (x - y < k)
ceiling x m y k e h p = (omega arith, omega arith)

module _ (k n : ℕ) (p : 0 < k) where
  cut : (letters_for k n * k ≡ n * 8 + spare_bits k n) × (spare_bits k n < k)
  unfolding letters_for spare_bits
  cut = ceiling _ _ (n * 8) k (div-add-mod' (n * 8 + (k - 1)) k) (mod-lt (n * 8 + (k - 1)) p) p

  pub letters_bits : letters_for k n * k ≡ n * 8 + spare_bits k n
  letters_bits = cut.0

  pub spare_lt : spare_bits k n < k
  spare_lt = cut.1

  -- the letters of n bytes hold n bytes
  module _ (h : k ≤ 8) where
    pub bytes_for_lem : bytes_for k (letters_for k n) ≡ n
    unfolding bytes_for
    bytes_for_lem = let q = spare_lt in ap (λ (x : ℕ). x / 8) letters_bits ∙ omega arith

    pub bits_after_lem : bits_after k (letters_for k n) ≡ spare_bits k n
    unfolding bits_after
    bits_after_lem = let q = spare_lt in ap (λ (x : ℕ). x % 8) letters_bits ∙ omega arith

pub in_bytes : (k n : ℕ) → n * k ≡ bytes_for k n * 8 + bits_after k n
unfolding bytes_for bits_after
in_bytes k n = omega arith

-- n letters after whose bytes fewer bits are left than a letter has are the letters of those bytes
module _ (k n : ℕ) (h : bits_after k n < k) where
  bytes_bits : n * k ≡ bytes_for k n * 8 + bits_after k n
  bytes_bits = in_bytes k n

  pub letters_for_lem : letters_for k (bytes_for k n) ≡ n
  unfolding letters_for
  letters_for_lem =
      let e : bytes_for k n * 8 + (k - 1) ≡ n * k + (k - 1 - bits_after k n) = omega (arith, bytes_bits) in
      let l : k - 1 - bits_after k n < k = omega arith in
      ap (λ (x : ℕ). x / k) e ∙ digits_div n l

  pub spare_bits_lem : spare_bits k (bytes_for k n) ≡ bits_after k n
  unfolding spare_bits
  spare_bits_lem = ap (λ (c : ℕ). c * k - bytes_for k n * 8) letters_for_lem ∙ omega (arith, bytes_bits)

-- ---- mapping a rule over a list

map_back : (f h : ℕ → ℕ) {P : ℕ → Type 0} → ((x : ℕ) → P x → f (h x) ≡ x) → {xs : List ℕ} → Each P xs → map f (map h xs) ≡ xs
map_back f h r none_left = refl
map_back f h r (one_more p e) = λ i. r _ p i ∷ map_back f h r e i

pub map_append : (f : ℕ → ℕ) (xs ys : List ℕ) → map f (xs ++ ys) ≡ map f xs ++ map f ys
map_append f [] ys = refl
map_append f (x ∷ xs) ys = ap (λ (l : List ℕ). f x ∷ l) (map_append f xs ys)

pub each_map : (f : ℕ → ℕ) {P Q : ℕ → Type 0} → ((x : ℕ) → P x → Q (f x)) → {xs : List ℕ} → Each P xs → Each Q (map f xs)
each_map f r none_left = none_left
each_map f r (one_more p e) = one_more (r _ p) (each_map f r e)

-- ---- the letters

known_each : (b : Base) {text : List ℕ} → Each (λ x. b.digit x < 2 ^ b.bits) text → letters_known b text ≡ true
unfolding letters_known
known_each b none_left = refl
known_each b (one_more {x} h e) = rw (lt-ltb (b.digit x) (2 ^ b.bits) h) (known_each b e)

-- letters that are known, one by one
pub known_letter : (b : Base) (t : List ℕ) → letters_known b t ≡ true → Each (λ x. b.digit x < 2 ^ b.bits) t
unfolding letters_known
known_letter b [] e = none_left
known_letter b (x ∷ t) e =
    let q = both (ltb (b.digit x) (2 ^ b.bits)) (letters_known b t) e in
    one_more (ltb-true (b.digit x) (2 ^ b.bits) q.0) (known_letter b t q.1)

known_inverted : (b : Base) (t : List ℕ) → AllBytes t → letters_known b t ≡ true → Each (λ x. (x < 256) × (b.digit x < 2 ^ b.bits)) t
unfolding letters_known
known_inverted b [] p e = none_left
known_inverted b (x ∷ t) p e =
    let q = both (ltb (b.digit x) (2 ^ b.bits)) (letters_known b t) e in
    one_more (bytes_head p, ltb-true (b.digit x) (2 ^ b.bits) q.0) (known_inverted b t (bytes_tail p) q.1)

module _ (b : Base) (g : GoodBase b) where
  radix : ℕ
  radix = 2 ^ b.bits

  radix_some : 0 < radix
  unfolding radix
  radix_some = pow_pos b.bits

  module _ (xs : List ℕ) where
    n : ℕ
    n = length xs

    c : ℕ
    c = letters_for b.bits n

    w : ℕ
    w = value_of xs * 2 ^ spare_bits b.bits n

    ds : List ℕ
    ds = digits_of radix c w

    below : Below radix ds
    unfolding ds
    below = digits_below radix radix_some c w

    pub length_letters : length (letters_of b xs) ≡ letters_for b.bits (length xs)
    unfolding letters_of n c w ds radix
    length_letters = length-map ds b.letter ∙ length_digits radix c w

    -- a rule of all letters
    pub each_letter : {P : ℕ → Type 0} → ((k : ℕ) → k < 2 ^ b.bits → P (b.letter k)) → Each P (letters_of b xs)
    unfolding letters_of n c w ds radix
    each_letter r = each_map b.letter r below

    -- and of the letters and '='
    pub each_of_text : {P : ℕ → Type 0} → ((k : ℕ) → k < 2 ^ b.bits → P (b.letter k)) → P fill → Each P (text_of b xs)
    unfolding text_of
    each_of_text r f = each_append (each_letter r) (each_replicate (fill_for b.group (letters_for b.bits (length xs))) fill f)

    pub number_small : AllBytes xs → value_of xs * 2 ^ spare_bits b.bits (length xs) < (2 ^ b.bits) ^ letters_for b.bits (length xs)
    unfolding n c w radix
    number_small p =
        subst (λ (m : ℕ). w < m) (ap (λ (m : ℕ). 2 ^ m) (sym (letters_bits b.bits n g.some)) ∙ sym (pow_bits b.bits c))
        (shl_lt (n * 8) (spare_bits b.bits n) (subst (λ (m : ℕ). value_of xs < m) (pow_bits 8 n) (value_lt xs p)))

    number_letters_lem : AllBytes xs → number_in b (letters_of b xs) ≡ w
    unfolding number_in letters_of n c w ds radix
    number_letters_lem p = ap (number_of radix) (map_back b.digit b.letter g.back below) ∙ number_digits radix radix_some c w (number_small p)

    known_letters : letters_known b (letters_of b xs) ≡ true
    known_letters = known_each b (each_letter (λ k h. subst (λ (d : ℕ). d < 2 ^ b.bits) (sym (g.back k h)) h))

    ended_letters : AllBytes xs → well_ended b (letters_of b xs) ≡ true
    unfolding well_ended n w
    ended_letters p =
        let s : ℕ = spare_bits b.bits n in
        let z : w % 2 ^ s ≡ 0 = ap (λ (x : ℕ). x % 2 ^ s) (sym (add-zero w)) ∙ low (value_of xs) s (pow_pos s) in
        rw (length_letters, bits_after_lem b.bits n g.some g.most, number_letters_lem p, lt-ltb s b.bits (spare_lt b.bits n g.some), eq-eqb (w % 2 ^ s) 0 z)

    bytes_letters : AllBytes xs → bytes_in b (letters_of b xs) ≡ xs
    unfolding bytes_in n w
    bytes_letters p =
        rw (length_letters, bytes_for_lem b.bits n g.some g.most, bits_after_lem b.bits n g.some g.most, number_letters_lem p, shl-shr (value_of xs) (spare_bits b.bits n))
        (bytes_of_value xs p)

-- ---- the padding

Plain : List ℕ → Type 0
Plain u = Each (λ x. x ≡ fill → ⊥) u

pub before_zero : (t : List ℕ) → before_fill t 0 ≡ 0
unfolding before_fill
before_zero t = refl

pub before_stop : (t : List ℕ) (n : ℕ) → (get_or t n 0 ≡ fill → ⊥) → before_fill t (suc n) ≡ suc n
unfolding before_fill
before_stop t n h = rw (ne_eqb (get_or t n 0) fill h)

pub before_go : (t : List ℕ) (n : ℕ) → get_or t n 0 ≡ fill → before_fill t (suc n) ≡ before_fill t n
unfolding before_fill
before_go t n h = rw (eq-eqb (get_or t n 0) fill h)

before_plain : (u v : List ℕ) → Plain u → before_fill (u ++ v) (length u) ≡ length u
unfolding Plain
before_plain [] v p = before_zero v
before_plain (x ∷ u) v p =
    before_stop ((x ∷ u) ++ v) (length u) (λ q. each_at p (length u) (omega arith) (sym (get_or-append (x ∷ u) v 0 (length u) (omega arith)) ∙ q))

before_fills : (u : List ℕ) (p i : ℕ) → i ≤ p → before_fill (u ++ replicate p fill) (length u + i) ≡ before_fill (u ++ replicate p fill) (length u)
before_fills u p zero h = ap (before_fill (u ++ replicate p fill)) (add-zero (length u))
before_fills u p (suc i) h =
    ap (before_fill (u ++ replicate p fill)) (add-suc (length u) i)
    ∙ before_go (u ++ replicate p fill) (length u + i) (get_or-append-add u (replicate p fill) i 0 ∙ get_or-replicate p i fill 0 h)
    ∙ before_fills u p i (omega arith)

-- letters and '=' after them
pub letters_in_lem : (u : List ℕ) (p : ℕ) → Each (λ x. x ≡ fill → ⊥) u → letters_in (u ++ replicate p fill) ≡ length u
unfolding letters_in Plain
letters_in_lem u p h =
    ap (before_fill (u ++ replicate p fill)) (length-append u (replicate p fill) ∙ ap (λ (n : ℕ). length u + n) (length-replicate p fill))
    ∙ before_fills u p p (omega arith)
    ∙ before_plain u (replicate p fill) h

before_most : (t : List ℕ) (n : ℕ) → before_fill t n ≤ n
unfolding before_fill
before_most t zero = omega arith
before_most t (suc n) = go (eqb (get_or t n 0) fill) (before_most t n)
  where
    go : (x : Bool) → before_fill t n ≤ n → cond x (before_fill t n) (suc n) ≤ suc n
    go true h = omega arith
    go false h = omega arith

pub letters_most : (t : List ℕ) → letters_in t ≤ length t
unfolding letters_in
letters_most t = before_most t (length t)

-- of a text that ends in so many '=', the letters are before them
pub letters_before : (u : List ℕ) (p : ℕ) → letters_in (u ++ replicate p fill) ≤ length u
unfolding letters_in
letters_before u p =
    let t : List ℕ = u ++ replicate p fill in
    let l : length t ≡ length u + p = length-append u (replicate p fill) ∙ ap (λ (n : ℕ). length u + n) (length-replicate p fill) in
    omega (arith, ap (before_fill t) l ∙ before_fills u p p (omega arith), before_most t (length u))

before_rest : (t : List ℕ) (n i : ℕ) → i < n → before_fill t n ≤ i → get_or t i 0 ≡ fill
unfolding before_fill
before_rest t zero i h l = absurd (omega arith)
before_rest t (suc n) i h l = go (eqb (get_or t n 0) fill) refl l (before_rest t n i) (eq-or-lt_of_le (le_of_suc-le-suc h))
  where
    go : (x : Bool) → eqb (get_or t n 0) fill ≡ x → cond x (before_fill t n) (suc n) ≤ i → (i < n → before_fill t n ≤ i → get_or t i 0 ≡ fill) → (i ≡ n) ⊎ (i < n) → get_or t i 0 ≡ fill
    go true e k f (inl q) = ap (λ (j : ℕ). get_or t j 0) q ∙ eqb-true (get_or t n 0) fill e
    go true e k f (inr m) = f m k
    go false e k f m = absurd (omega arith)

-- what follows the letters is '='
pub rest_fills : (t : List ℕ) → drop (letters_in t) t ≡ replicate (length t - letters_in t) fill
unfolding letters_in
rest_fills t =
    let n : ℕ = before_fill t (length t) in
    ext_get_or 0 (drop n t) (replicate (length t - n) fill) (length-drop n t ∙ sym (length-replicate (length t - n) fill))
    (λ i h. let l : n + i < length t = omega (arith, length-drop n t, before_most t (length t)) in
    get_or-drop n t i 0 ∙ before_rest t (length t) (n + i) l (omega arith) ∙ sym (get_or-replicate (length t - n) i fill 0 (omega arith)))

-- ---- texts

module _ (b : Base) (g : GoodBase b) where
  not_fill : (k : ℕ) → k < 2 ^ b.bits → b.letter k ≡ fill → ⊥
  not_fill k h e = omega (arith, h, g.foreign, g.back k h, ap b.digit e)

  module _ (xs : List ℕ) where
    us : List ℕ
    us = letters_of b xs

    pads : ℕ
    pads = fill_for b.group (letters_for b.bits (length xs))

    in_text : letters_in (text_of b xs) ≡ length us
    unfolding text_of us pads
    in_text = letters_in_lem us pads (each_letter b g xs not_fill)

    front : take (letters_in (text_of b xs)) (text_of b xs) ≡ us
    unfolding text_of us pads
    front = ap (λ (n : ℕ). take n (text_of b xs)) in_text ∙ take_at us (replicate pads fill) (length us) refl

    pub length_text : length (text_of b xs) ≡ letters_for b.bits (length xs) + fill_for b.group (letters_for b.bits (length xs))
    unfolding text_of us pads
    length_text = length-append us (replicate pads fill) ∙ (λ i. length_letters b g xs i + length-replicate pads fill i)

    text_is : AllBytes xs → is_text b (text_of b xs) ≡ true
    unfolding is_text us
    text_is p =
        let c : ℕ = letters_for b.bits (length xs) in
        let l : letters_in (text_of b xs) ≡ c = in_text ∙ length_letters b g xs in
        let e : length (text_of b xs) ≡ letters_in (text_of b xs) + fill_for b.group (letters_in (text_of b xs)) = length_text ∙ (λ i. sym l i + fill_for b.group (sym l i)) in
        rw (eq-eqb (length (text_of b xs)) (letters_in (text_of b xs) + fill_for b.group (letters_in (text_of b xs))) e, front, ended_letters b g xs p, known_letters b g xs)

    -- a text is read back to its bytes
    pub read_back : AllBytes xs → read_text b (text_of b xs) ≡ some xs
    unfolding read_text us
    read_back p = rw (text_is p, front) (ap some (bytes_letters b g xs p))

  -- ---- what is accepted was written

  module _ (u : List ℕ) (p : AllBytes u) (known : letters_known b u ≡ true) where
    letters_each : Each (λ x. (x < 256) × (b.digit x < 2 ^ b.bits)) u
    letters_each = known_inverted b u p known

    module _ (ended : well_ended b u ≡ true) where
      spared : (bits_after b.bits (length u) < b.bits) × (number_in b u % 2 ^ bits_after b.bits (length u) ≡ 0)
      unfolding well_ended
      spared =
          let q = both (ltb (bits_after b.bits (length u)) b.bits) (eqb (number_in b u % 2 ^ bits_after b.bits (length u)) 0) ended in
          (ltb-true (bits_after b.bits (length u)) b.bits q.0, eqb-true (number_in b u % 2 ^ bits_after b.bits (length u)) 0 q.1)

      s : ℕ
      s = bits_after b.bits (length u)

      m : ℕ
      m = bytes_for b.bits (length u)

      w₂ : ℕ
      w₂ = number_in b u

      ds₂ : List ℕ
      ds₂ = map b.digit u

      below₂ : Below (2 ^ b.bits) ds₂
      unfolding ds₂
      below₂ = each_map b.digit (λ x h. h.1) letters_each

      long₂ : length ds₂ ≡ length u
      unfolding ds₂
      long₂ = length-map u b.digit

      w_lt₂ : w₂ < 2 ^ (m * 8 + s)
      unfolding w₂ m s number_in ds₂
      w_lt₂ = subst (λ (x : ℕ). w₂ < x) (ap (λ (l : ℕ). (2 ^ b.bits) ^ l) long₂ ∙ pow_bits b.bits (length u) ∙ ap (λ (x : ℕ). 2 ^ x) (bytes_bits b.bits (length u) spared.0)) (number_lt (2 ^ b.bits) below₂)

      value₂ : value_of (bytes_in b u) ≡ w₂ / 2 ^ s
      unfolding bytes_in w₂ m s
      value₂ = value_bytes_of m (w₂ / 2 ^ s) (subst (λ (x : ℕ). w₂ / 2 ^ s < x) (sym (pow_bits 8 m)) (shr_lt (m * 8) s w_lt₂))

      long_bytes : length (bytes_in b u) ≡ m
      unfolding bytes_in m
      long_bytes = length_bytes_of (bytes_for b.bits (length u)) (number_in b u / 2 ^ bits_after b.bits (length u))

      count₂ : letters_for b.bits (length (bytes_in b u)) ≡ length u
      unfolding m
      count₂ = ap (letters_for b.bits) long_bytes ∙ letters_for_lem b.bits (length u) spared.0

      spare₂ : spare_bits b.bits (length (bytes_in b u)) ≡ s
      unfolding m s
      spare₂ = ap (spare_bits b.bits) long_bytes ∙ spare_bits_lem b.bits (length u) spared.0

      whole₂ : w₂ / 2 ^ s * 2 ^ s ≡ w₂
      unfolding w₂ s
      whole₂ = omega (arith, split w₂ s, spared.1)

      -- letters that are known and end well are the letters of their bytes
      pub letters_again : letters_of b (bytes_in b u) ≡ u
      unfolding letters_of ds₂ w₂ number_in
      letters_again =
          rw (count₂, spare₂, value₂, whole₂)
          (ap (λ (l : ℕ). map b.letter (digits_of (2 ^ b.bits) l (number_of (2 ^ b.bits) ds₂))) (sym long₂)
          ∙ ap (map b.letter) (digits_number (2 ^ b.bits) below₂)
          ∙ map_back b.letter b.digit (λ x h. g.again x h.0 h.1) letters_each)

  module _ (text ys : List ℕ) (e : read_text b text ≡ some ys) where
    taken : (is_text b text ≡ true) × (bytes_in b (take (letters_in text) text) ≡ ys)
    unfolding read_text
    taken = go (is_text b text) refl e
      where
        go : (x : Bool) → is_text b text ≡ x → cond x (some (bytes_in b (take (letters_in text) text))) none ≡ some ys → (is_text b text ≡ true) × (bytes_in b (take (letters_in text) text) ≡ ys)
        go true q f = (q, let d : bytes_in b (take (letters_in text) text) ≡ ys = cc in d)
        go false q f = let z : ◌≡◌ {A = ℕ} 0 1 = cc in absurd (omega arith)

    pub read_bytes : AllBytes ys
    unfolding bytes_in
    read_bytes = subst AllBytes taken.1 (bytes_bytes_of (bytes_for b.bits (length (take (letters_in text) text))) (number_in b (take (letters_in text) text) / 2 ^ bits_after b.bits (length (take (letters_in text) text))))

    -- an accepted text is the text of its bytes
    pub text_only : AllBytes text → text ≡ text_of b ys
    unfolding text_of is_text
    text_only p =
        let n : ℕ = letters_in text in
        let u : List ℕ = take n text in
        let l : length u ≡ n = length-take-le n text (letters_most text) in
        let q = both (eqb (length text) (n + fill_for b.group n)) (well_ended b u && letters_known b u) taken.0 in
        let r = both (well_ended b u) (letters_known b u) q.1 in
        let k : length text ≡ n + fill_for b.group n = eqb-true (length text) (n + fill_for b.group n) q.0 in
        let d : length text - n ≡ fill_for b.group n = omega arith in
        let again : letters_of b (bytes_in b u) ≡ u = letters_again u (bytes_take n p) r.1 r.0 in
        let c : letters_for b.bits (length (bytes_in b u)) ≡ n = sym (length_letters b g (bytes_in b u)) ∙ ap length again ∙ l in
        sym (take-append-drop n text)
        ∙ (λ i. sym again i ++ (rest_fills text ∙ (λ j. replicate (d j) fill) ∙ (λ j. replicate (fill_for b.group (sym c j)) fill)) i)
        ∙ ap (λ (x : List ℕ). letters_of b x ++ replicate (fill_for b.group (letters_for b.bits (length x))) fill) taken.1
