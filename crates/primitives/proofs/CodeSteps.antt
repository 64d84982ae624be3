-- RFC 4648 over a good base: what the steps of the writer and of the reader compute.
use Rattle.std.proofs.Common.{◌≡◌, ℕ, zero, suc, ◌+◌, ◌-◌, ◌*◌, ◌/◌, ◌%◌, ◌^◌, ◌<◌, ◌≤◌, ◌≢◌, ◌⊎◌, inl, inr, Bool, true, false, cond, ◌&&◌, eqb, List, [], ◌∷◌, ◌++◌, map, length, get_or, take, drop, replicate, sym, refl, ap, ◌∙◌, subst, append-nil, arith, lit<, eq-or-lt_of_le, mod-lt, length-append, length-drop, take-append-drop, length-take-le, take_all, take-suc, drop-drop, mul_assoc, pow_pos, pow-add, le-ltb, lt-ltb, eq-eqb, ne_eqb, eqb-true, ltb-true, ltb-false, add-one}
use Rattle.std.proofs.Math.Bool.{and-false, and-true}
use Rattle.std.specs.Prelude.{nat_lt, bit_or, Ok, Err}
use Rattle.std.proofs.Math.Nat.{pow-le-pow_right, mul-le-mul_right, mod-eq_of_lt, add-mul-mod_self_right}
use Rattle.std.proofs.lemmas.Nat.{pow_below, or_lt, le_or_l, le_or_r}
use Rattle.std.proofs.Math.Option.{Option, some}
use Rattle.std.proofs.Math.ListN.{length-replicate}
use Rattle.primitives.specs.Bytes.{AllBytes}
use Rattle.primitives.specs.Place.{overwrite, placed, place_after}
use Rattle.primitives.specs.Number.{digits_of, number_of, bytes_of, value_of}
use Rattle.primitives.specs.BaseRule.{Base, GoodBase, fill, letters_for, spare_bits, letters_of, fill_for, text_of, number_in, bytes_for, bits_after, bytes_in, letters_known, well_ended, before_fill, letters_in, is_text, read_text}
use Rattle.primitives.specs.Base64.{answer_of, buffer_of}
use Rattle.primitives.specs.declared.base64.DecodeError.TheVariants.{Refused, NoRoom}
use Rattle.primitives.proofs.Over.{then, placed_room, placed_full, after_room, room_true, room_false}
use Rattle.primitives.proofs.Numbers.{length_bytes_of}
use Rattle.primitives.proofs.ByteLists.{bytes_nil}
use Rattle.primitives.proofs.Rows.{both}
use Rattle.primitives.proofs.Each.{each_at, none_left}
use Rattle.primitives.proofs.Radix.{number_snoc}
use Rattle.primitives.proofs.Spelled.{bytes_spelled}
use Rattle.primitives.proofs.BaseTexts.{map_append, known_letter, before_go, before_stop, before_zero, letters_before, length_letters, letters_bits, spare_lt, number_small, pow_bits}
use Rattle.primitives.proofs.BaseGroups.{letters_append, bytes_append_in}

-- ---- letters of 5 to 8 bits

by_bits : (P : ℕ → Type 0) (k : ℕ) → 5 ≤ k → k ≤ 8 → P 5 → P 6 → P 7 → P 8 → P k
by_bits P k h l a b c d = go (k - 5) (omega arith)
  where
    go : (j : ℕ) → k ≡ 5 + j → P k
    go zero e = subst P (sym e) a
    go (suc zero) e = subst P (sym e) b
    go (suc (suc zero)) e = subst P (sym e) c
    go (suc (suc (suc zero))) e = subst P (sym e) d
    go (suc (suc (suc (suc j)))) e = absurd (omega arith)

module _ (k n : ℕ) (least : 5 ≤ k) (most : k ≤ 8) where
  -- bytes that fill at most eight letters
  pub letters_few : n ≤ k → letters_for k n ≤ 8
  unfolding letters_for
  letters_few h = by_bits (λ k. n ≤ k → (n * 8 + (k - 1)) / k ≤ 8) k least most (λ h. omega arith) (λ h. omega arith) (λ h. omega arith) (λ h. omega arith) h

  -- the letters of whole groups, and those of the rest
  parts : n / k * 8 + letters_for k (n % k) ≡ letters_for k n
  unfolding letters_for
  parts = by_bits (λ k. n / k * 8 + (n % k * 8 + (k - 1)) / k ≡ (n * 8 + (k - 1)) / k) k least most (omega arith) (omega arith) (omega arith) (omega arith)

  pub letters_parts : {i j l m : ℕ} → i ≡ k → j ≡ k → l ≡ k → m ≡ letters_for j (n % l) → n / i * 8 + m ≡ letters_for k n
  letters_parts {i} {j} {l} {m} p q r e = (λ x. n / p x * 8 + (e ∙ (λ y. letters_for (q y) (n % r y))) x) ∙ parts

  pub letters_fit : n < 2 ^ 63 → letters_for k n + 8 < 2 ^ 64
  unfolding letters_for
  letters_fit h = by_bits (λ k. (n * 8 + (k - 1)) / k + 8 < 2 ^ 64) k least most (omega arith) (omega arith) (omega arith) (omega arith)

  -- the bytes of whole groups, and those of the rest; and the bits after them
  pub bytes_parts : {i j : ℕ} → i ≡ k → j ≡ k → n / 8 * i + n % 8 * j / 8 ≡ bytes_for k n
  unfolding bytes_for
  bytes_parts p q = (λ x. n / 8 * p x + n % 8 * q x / 8) ∙ by_bits (λ k. n / 8 * k + n % 8 * k / 8 ≡ n * k / 8) k least most (omega arith) (omega arith) (omega arith) (omega arith)

  pub bits_parts : {j : ℕ} → j ≡ k → n % 8 * j % 8 ≡ bits_after k n
  unfolding bits_after
  bits_parts e =
      ap (λ (j : ℕ). n % 8 * j % 8) e ∙ by_bits (λ k. n % 8 * k % 8 ≡ n * k % 8) k least most (omega arith) (omega arith) (omega arith) (omega arith)

-- ---- the letters before the padding

-- the first n bytes end in a letter, and '=' follow them
module _ (s : List ℕ) (n : ℕ) (fills : (k : ℕ) → n ≤ k → k < length s → get_or s k 0 ≡ fill) (letter : 0 < n → get_or s (n - 1) 0 ≢ fill) where
  before_is : (m : ℕ) → n ≤ m → m ≤ length s → before_fill s m ≡ n
  before_is zero h l = before_zero s ∙ omega arith
  before_is (suc m) h l = go (eq-or-lt_of_le h) (λ k. before_is m k (omega arith))
    where
      go : (n ≡ suc m) ⊎ (n < suc m) → (n ≤ m → before_fill s m ≡ n) → before_fill s (suc m) ≡ n
      go (inl e) r =
          let p : n - 1 ≡ m = omega arith in
          let b : get_or s (n - 1) 0 ≢ fill = letter (omega arith) in
          before_stop s m (rw p at b) ∙ sym e
      go (inr k) r = before_go s m (fills m (omega arith) (omega arith)) ∙ r (omega arith)

  pub letters_end : n ≤ length s → (n ≡ letters_in s) × (n ≤ length s)
  unfolding letters_in
  letters_end h = (sym (before_is (length s) h (omega arith)), h)

-- ---- letters that are all known

both_below : (k a d : ℕ) → nat_lt (bit_or a d) (2 ^ k) ≡ (nat_lt a (2 ^ k) && nat_lt d (2 ^ k))
both_below k a d = go (nat_lt a (2 ^ k)) (nat_lt d (2 ^ k)) refl refl
  where
    go : (t u : Bool) → nat_lt a (2 ^ k) ≡ t → nat_lt d (2 ^ k) ≡ u → nat_lt (bit_or a d) (2 ^ k) ≡ (t && u)
    go true true e f = lt-ltb (bit_or a d) (2 ^ k) (or_lt k a d (ltb-true a (2 ^ k) e) (ltb-true d (2 ^ k) f))
    go true false e f = le-ltb (bit_or a d) (2 ^ k) (omega (arith, ltb-false d (2 ^ k) f, le_or_r a d))
    go false u e f = le-ltb (bit_or a d) (2 ^ k) (omega (arith, ltb-false a (2 ^ k) e, le_or_l a d))

module _ (b : Base) where
  known_snoc : (xs : List ℕ) (x : ℕ) → letters_known b (xs ++ (x ∷ [])) ≡ (letters_known b xs && nat_lt (b.digit x) (2 ^ b.bits))
  unfolding letters_known
  known_snoc [] x = and-true (nat_lt (b.digit x) (2 ^ b.bits))
  known_snoc (y ∷ xs) x = ap (λ (t : Bool). nat_lt (b.digit y) (2 ^ b.bits) && t) (known_snoc xs x) ∙ and_assoc (nat_lt (b.digit y) (2 ^ b.bits)) (letters_known b xs) (nat_lt (b.digit x) (2 ^ b.bits))
    where
      and_assoc : (t u v : Bool) → (t && (u && v)) ≡ ((t && u) && v)
      and_assoc true u v = refl
      and_assoc false u v = refl

  -- the letters of the first i bytes of s are known where the numbers joined are below r
  module _ (r : ℕ) (e : r ≡ 2 ^ b.bits) (s : List ℕ) where
    pub known_none : nat_lt 0 r ≡ letters_known b (take 0 s)
    unfolding letters_known
    known_none = let p : 0 < 2 ^ b.bits = pow_pos b.bits in rw e (lt-ltb 0 (2 ^ b.bits) p)

    pub known_more : (a d i : ℕ) → i < length s → d ≡ b.digit (get_or s i 0) → nat_lt a r ≡ letters_known b (take i s) → nat_lt (bit_or a d) r ≡ letters_known b (take (i + 1) s)
    known_more a d i h p q =
        rw e (both_below b.bits a d)
        ∙ (λ j. (ap (nat_lt a) (sym e) ∙ q) j && nat_lt (p j) (2 ^ b.bits))
        ∙ sym (ap (letters_known b) (ap (λ (k : ℕ). take k s) (add-one i) ∙ take-suc s i 0 h) ∙ known_snoc (take i s) (get_or s i 0))

-- ---- the length of a text

pub fill_small : (k n : ℕ) → 0 < k → fill_for k n < k
unfolding fill_for
fill_small k n h = mod-lt (k - n % k) h

module _ (b : Base) (g : GoodBase b) (s : List ℕ) where
  pub text_long : {m f : ℕ} → m ≡ letters_for b.bits (length s) → f ≡ fill_for b.group m → m + f ≡ length (text_of b s)
  unfolding text_of
  text_long {m} {f} e p =
      let q : f ≡ fill_for b.group (letters_for b.bits (length s)) = p ∙ ap (fill_for b.group) e in
      sym (length-append (letters_of b s) (replicate (fill_for b.group (letters_for b.bits (length s))) fill)
      ∙ (λ i. (length_letters b g s ∙ sym e) i + (length-replicate (fill_for b.group (letters_for b.bits (length s))) fill ∙ sym q) i))

-- ---- the letters of a group: at most as many bytes as a letter has bits

module _ (b : Base) (g : GoodBase b) (least : 5 ≤ b.bits) (s : List ℕ) (p : AllBytes s) (few : length s ≤ b.bits) where
  k : ℕ
  k = letters_for b.bits (length s)

  bits : k * b.bits ≡ length s * 8 + spare_bits b.bits (length s)
  unfolding k
  bits = letters_bits b.bits (length s) g.some

  wide : k * b.bits ≤ 64
  unfolding k
  wide =
      let h : k ≤ 8 = letters_few b.bits (length s) least g.most few in
      let e : k * b.bits ≤ 8 * b.bits = mul-le-mul_right b.bits h in
      omega (arith, e, g.most)

  -- the shift loses no bit
  shifted : value_of s * 2 ^ spare_bits b.bits (length s) < 2 ^ 64
  unfolding k
  shifted =
      let h : value_of s * 2 ^ spare_bits b.bits (length s) < (2 ^ b.bits) ^ k = number_small b g s p in
      let l : (2 ^ b.bits) ^ k ≤ 2 ^ 64 = rw (pow_bits b.bits k) (pow-le-pow_right {n = 2} (lit< tt) wide) in
      omega (arith, h, l)

  letters_are : map b.letter (digits_of (2 ^ b.bits) k (value_of s * 2 ^ (k * b.bits - length s * 8) % 2 ^ 64)) ≡ letters_of b s
  unfolding letters_of spare_bits k
  letters_are = ap (λ (w : ℕ). map b.letter (digits_of (2 ^ b.bits) k w)) (mod-eq_of_lt shifted)

  -- n letters of m bits
  pub record Group (n m : ℕ) : Type 0 where
    pub fits : n * m ≤ 64
    pub enough : length s * 8 ≤ n * m
    pub spare : n * m - length s * 8 < 64
    pub long : length (letters_of b s) ≡ n
    pub letters : (v r : ℕ) → v ≡ value_of s → r ≡ 2 ^ b.bits → map b.letter (digits_of r n (v * 2 ^ (n * m - length s * 8) % 2 ^ 64)) ≡ letters_of b s

  pub group : {n m j : ℕ} → j ≡ b.bits → m ≡ b.bits → n ≡ letters_for j (length s) → Group n m
  unfolding k
  group {n} {m} {j} p q e =
      let f : n ≡ k = e ∙ ap (λ (x : ℕ). letters_for x (length s)) p in
      rw (f, q) (record {
        fits = wide;
        enough = omega (arith, bits);
        spare = omega (arith, bits, spare_lt b.bits (length s) g.some, g.most);
        long = length_letters b g s;
        letters = λ v r x y. rw (x, y) letters_are;
      })

-- ---- the bytes of at most eight letters

module _ (b : Base) (g : GoodBase b) (s : List ℕ) (known : letters_known b s ≡ true) (few : length s ≤ 8) where
  pub known_digits : (r : ℕ) → r ≡ 2 ^ b.bits → (i : ℕ) → i < length s → b.digit (get_or s i 0) < r
  known_digits r e i h = rw e (each_at (known_letter b s known) i h)

  -- letters of m bits
  pub record Read (m : ℕ) : Type 0 where
    pub fits : length s * m ≤ 64
    pub long : length (bytes_in b s) ≡ length s * m / 8
    pub bytes : (v r : ℕ) → v ≡ number_of r (map b.digit s) → r ≡ 2 ^ b.bits
        → map (λ x. x) (digits_of 256 (length s * m / 8) (v / 2 ^ (length s * m % 8))) ≡ bytes_in b s

  read_fits : length s * b.bits ≤ 64
  read_fits =
      let e : length s * b.bits ≤ 8 * b.bits = mul-le-mul_right b.bits few in
      omega (arith, e, g.most)

  pub read : {m : ℕ} → m ≡ b.bits → Read m
  unfolding bytes_in bytes_for bits_after number_in
  read {m} q =
      rw q (record {
        fits = read_fits;
        long = length_bytes_of (length s * b.bits / 8) (number_of (2 ^ b.bits) (map b.digit s) / 2 ^ (length s * b.bits % 8));
        bytes = λ v r x y. rw (x, y) (bytes_spelled (length s * b.bits / 8) (number_of (2 ^ b.bits) (map b.digit s) / 2 ^ (length s * b.bits % 8)));
      })

-- ---- whole groups and what follows them

module _ (b : Base) (g : GoodBase b) (least : 5 ≤ b.bits) where
  no_letters : letters_of b [] ≡ []
  unfolding letters_of letters_for digits_of
  no_letters =
      let z : letters_for b.bits 0 ≡ 0 = by_bits (λ k. letters_for k 0 ≡ 0) b.bits least g.most refl refl refl refl in
      ap (λ (n : ℕ). map b.letter (digits_of (2 ^ b.bits) n (value_of [] * 2 ^ spare_bits b.bits 0))) z

  pub letters_cut : (xs ys : List ℕ) → AllBytes ys → length xs ≡ b.bits → letters_of b (xs ++ ys) ≡ letters_of b xs ++ letters_of b ys
  letters_cut xs ys p e =
      let f : 8 * b.bits ≡ length xs * 8 = omega arith in
      let alone : letters_of b xs ≡ map b.letter (digits_of (2 ^ b.bits) 8 (value_of xs)) =
      ap (letters_of b) (sym (append-nil xs)) ∙ letters_append b g xs [] 8 f bytes_nil
      ∙ ap (λ (l : List ℕ). map b.letter (digits_of (2 ^ b.bits) 8 (value_of xs)) ++ l) no_letters ∙ append-nil (map b.letter (digits_of (2 ^ b.bits) 8 (value_of xs))) in
      letters_append b g xs ys 8 f p ∙ ap (λ (l : List ℕ). l ++ letters_of b ys) (sym alone)

  no_bytes : bytes_in b [] ≡ []
  unfolding bytes_in bytes_for bytes_of digits_of
  no_bytes =
      let z : 0 * b.bits / 8 ≡ 0 = omega arith in
      ap (λ (n : ℕ). digits_of 256 n (number_in b [] / 2 ^ bits_after b.bits 0)) z

  pub bytes_cut : (xs ys : List ℕ) → letters_known b ys ≡ true → length xs ≡ 8 → bytes_in b (xs ++ ys) ≡ bytes_in b xs ++ bytes_in b ys
  bytes_cut xs ys k e =
      let f : length xs * b.bits ≡ b.bits * 8 = omega (arith, ap (λ (n : ℕ). n * b.bits) e) in
      let alone : bytes_in b xs ≡ bytes_of b.bits (number_in b xs) =
      ap (bytes_in b) (sym (append-nil xs)) ∙ bytes_append_in b g xs [] b.bits f none_left
      ∙ ap (λ (l : List ℕ). bytes_of b.bits (number_in b xs) ++ l) no_bytes ∙ append-nil (bytes_of b.bits (number_in b xs)) in
      bytes_append_in b g xs ys b.bits f (known_letter b ys k) ∙ ap (λ (l : List ℕ). l ++ bytes_in b ys) (sym alone)

pub known_parts : (b : Base) (xs ys : List ℕ) → letters_known b (xs ++ ys) ≡ true → (letters_known b xs ≡ true) × (letters_known b ys ≡ true)
unfolding letters_known
known_parts b [] ys e = (refl, e)
known_parts b (x ∷ xs) ys e =
    let q = both (nat_lt (b.digit x) (2 ^ b.bits)) (letters_known b (xs ++ ys)) e in
    let r = known_parts b xs ys q.1 in
    (rw (q.0, r.0), r.1)

pub known_drop : (b : Base) (i : ℕ) (s : List ℕ) → letters_known b s ≡ true → letters_known b (drop i s) ≡ true
known_drop b i s e = (known_parts b (take i s) (drop i s) (ap (letters_known b) (take-append-drop i s) ∙ e)).1

-- after a part of known letters the rest decides; a foreign letter in it does
pub known_after : (b : Base) (xs ys : List ℕ) → letters_known b xs ≡ true → letters_known b (xs ++ ys) ≡ letters_known b ys
unfolding letters_known
known_after b [] ys e = refl
known_after b (x ∷ xs) ys e =
    let q = both (nat_lt (b.digit x) (2 ^ b.bits)) (letters_known b xs) e in
    ap (λ (t : Bool). t && letters_known b (xs ++ ys)) q.0 ∙ known_after b xs ys q.1

pub known_not : (b : Base) (xs ys : List ℕ) → letters_known b xs ≡ false → letters_known b (xs ++ ys) ≡ false
known_not b xs ys e = go (letters_known b (xs ++ ys)) refl
  where
    go : (t : Bool) → letters_known b (xs ++ ys) ≡ t → letters_known b (xs ++ ys) ≡ false
    go false p = p
    go true p = let r : true ≡ false = sym (known_parts b xs ys p).0 ∙ e in cc

pub known_nothing : (b : Base) (xs : List ℕ) → length xs ≡ 0 → letters_known b xs ≡ true
unfolding letters_known
known_nothing b [] e = refl
known_nothing b (x ∷ xs) e = absurd (omega arith)

-- ---- the bits after the last byte

module _ (b : Base) (s : List ℕ) where
  by_last : 0 < length s → number_in b s ≡ b.digit (get_or s (length s - 1) 0) + number_in b (take (length s - 1) s) * 2 ^ b.bits
  unfolding number_in
  by_last h =
      let n : ℕ = length s - 1 in
      let e : suc n ≡ length s = omega arith in
      let f : n < length s = omega arith in
      ap (λ (l : List ℕ). number_of (2 ^ b.bits) (map b.digit l)) (sym (take_all (suc n) s (omega arith)) ∙ take-suc s n 0 f)
      ∙ ap (number_of (2 ^ b.bits)) (map_append b.digit (take n s) (get_or s n 0 ∷ []))
      ∙ number_snoc (2 ^ b.bits) (map b.digit (take n s)) (b.digit (get_or s n 0))
      ∙ omega arith

  module _ {r : ℕ} (e : r ≡ bits_after b.bits (length s)) where
    pub ended_not : b.bits ≤ r → false ≡ well_ended b s
    unfolding well_ended
    ended_not h = let f : b.bits ≤ bits_after b.bits (length s) = omega (arith, e) in rw (le-ltb (bits_after b.bits (length s)) b.bits f)

    pub ended_by : r < b.bits → r < 8 → 0 < length s → {d : ℕ} → d ≡ b.digit (get_or s (length s - 1) 0) → eqb (d % (1 * 2 ^ r % 256)) 0 ≡ well_ended b s
    unfolding well_ended
    ended_by h o l {d} q =
        let f : bits_after b.bits (length s) < b.bits = omega (arith, e) in
        let byte : 2 ^ r < 256 = pow_below r 8 o in
        let m : 1 * 2 ^ r % 256 ≡ 2 ^ r = ap (λ (x : ℕ). x % 256) (omega arith) ∙ mod-eq_of_lt byte in
        let p : 2 ^ b.bits ≡ 2 ^ (b.bits - r) * 2 ^ r = ap (λ (x : ℕ). 2 ^ x) (omega arith) ∙ pow-add 2 (b.bits - r) r in
        let n : number_in b s % 2 ^ r ≡ d % 2 ^ r =
        ap (λ (x : ℕ). x % 2 ^ r) (by_last l ∙ (λ i. sym q i + number_in b (take (length s - 1) s) * p i) ∙ ap (λ (x : ℕ). d + x) (sym (mul_assoc (number_in b (take (length s - 1) s)) (2 ^ (b.bits - r)) (2 ^ r))))
        ∙ add-mul-mod_self_right d (number_in b (take (length s - 1) s) * 2 ^ (b.bits - r)) (2 ^ r) in
        rw (lt-ltb (bits_after b.bits (length s)) b.bits f, sym e, n, m) refl

  pub ended_none : 0 < b.bits → length s ≡ 0 → true ≡ well_ended b s
  unfolding well_ended bits_after
  ended_none h e =
      let z : length s * b.bits % 8 ≡ 0 = omega (arith, ap (λ (n : ℕ). n * b.bits) e) in
      rw (z, lt-ltb 0 b.bits h) (sym (eq-eqb (number_in b s % 1) 0 (omega arith)))

-- ---- is it a text?

eqb_rest : (m n f : ℕ) → n ≤ m → eqb m (n + f) ≡ eqb (m - n) f
eqb_rest m n f h = go (eqb (m - n) f) refl
  where
    go : (t : Bool) → eqb (m - n) f ≡ t → eqb m (n + f) ≡ t
    go true e = let q : m - n ≡ f = eqb-true (m - n) f e in eq-eqb m (n + f) (omega arith)
    go false e = ne_eqb m (n + f) (λ p. let q : m - n ≡ f = omega arith in let r : true ≡ false = sym (eq-eqb (m - n) f q) ∙ e in cc)

module _ (b : Base) (s : List ℕ) {n f : ℕ} (count : n ≡ letters_in s) (h : n ≤ length s) (fills : f ≡ fill_for b.group n) where
  text_is : is_text b s ≡ (eqb (length s - n) f && (well_ended b (take n s) && letters_known b (take n s)))
  unfolding is_text
  text_is =
      ap (λ (m : ℕ). eqb (length s) (m + fill_for b.group m) && (well_ended b (take m s) && letters_known b (take m s))) (sym count)
      ∙ ap (λ (t : Bool). t && (well_ended b (take n s) && letters_known b (take n s)))
      (ap (λ (k : ℕ). eqb (length s) (n + k)) (sym fills) ∙ eqb_rest (length s) n f h)

  -- the questions are asked in another order, up to the first "no"
  pub text_filled : {r : Bool} → length s - n ≡ f → well_ended b (take n s) ≡ true → r ≡ letters_known b (take n s) → r ≡ is_text b s
  text_filled e w k = k ∙ sym (text_is ∙ (λ i. eq-eqb (length s - n) f e i && (w i && letters_known b (take n s))))

  pub text_not_ended : well_ended b (take n s) ≡ false → false ≡ is_text b s
  text_not_ended w = sym (text_is ∙ ap (λ (t : Bool). eqb (length s - n) f && (t && letters_known b (take n s))) w ∙ and-false (eqb (length s - n) f))

  pub text_not_filled : length s - n ≢ f → false ≡ is_text b s
  text_not_filled e = sym (text_is ∙ ap (λ (t : Bool). t && (well_ended b (take n s) && letters_known b (take n s))) (ne_eqb (length s - n) f e))

-- no group has eight '='
pub text_overfilled : (b : Base) → 0 < b.group → b.group ≤ 8 → (s u : List ℕ) → s ≡ u ++ replicate 8 fill → false ≡ is_text b s
unfolding is_text
text_overfilled b h k s u e =
    let n : ℕ = letters_in s in
    let m : letters_in (u ++ replicate 8 fill) ≤ length u = letters_before u 8 in
    let most : n ≤ length u = omega (arith, m, ap letters_in e) in
    let long : length s ≡ length u + 8 = ap length e ∙ length-append u (replicate 8 fill) ∙ ap (λ (j : ℕ). length u + j) (length-replicate 8 fill) in
    let f : fill_for b.group n < b.group = fill_small b.group n h in
    sym (ap (λ (t : Bool). t && (well_ended b (take n s) && letters_known b (take n s))) (ne_eqb (length s) (n + fill_for b.group n) (λ p. omega (arith, p, most, long, f))))

-- ---- the reader's answer

-- of bytes that were found: there is no room for them, or they are written
module _ (o : Option (List ℕ)) (ys out : List ℕ) (at : ℕ) (is : some ys ≡ o) where
  answer_full : length out < at + length ys → (Err NoRoom ≡ answer_of o out at) × (out ≡ buffer_of o out at)
  answer_full h =
      rw (sym is) (ap (λ (t : Bool). cond t (Ok (at + length ys)) (Err NoRoom)) (sym (room_false out at ys h)), sym (placed_full out at ys h))

  answer_room : at + length ys ≤ length out → {end : ℕ} {out' : List ℕ} → end ≡ at + length ys → out' ≡ overwrite out at ys
      → (Ok end ≡ answer_of o out at) × (out' ≡ buffer_of o out at)
  answer_room h p q =
      rw (sym is) (ap Ok p ∙ ap (λ (t : Bool). cond t (Ok (at + length ys)) (Err NoRoom)) (sym (room_true out at ys h)), q ∙ sym (placed_room out at ys h))

module _ (b : Base) (text out : List ℕ) (at : ℕ) where
  pub decode_refused : false ≡ is_text b text → (Err Refused ≡ answer_of (read_text b text) out at) × (out ≡ buffer_of (read_text b text) out at)
  unfolding read_text
  decode_refused e = rw (sym e) (refl, refl)

  module _ {n : ℕ} (count : n ≡ letters_in text) (h : n ≤ length text) (e : true ≡ is_text b text) where
    -- n letters before the padding, of which all are known
    pub decode_known : letters_known b (take n text) ≡ true
    unfolding is_text
    decode_known =
        let m : ℕ = letters_in text in
        ap (λ (k : ℕ). letters_known b (take k text)) count
        ∙ (both (well_ended b (take m text)) (letters_known b (take m text)) (both (eqb (length text) (m + fill_for b.group m)) (well_ended b (take m text) && letters_known b (take m text)) (sym e)).1).1

    size : length (bytes_in b (take n text)) ≡ bytes_for b.bits n
    unfolding bytes_in
    size = length_bytes_of (bytes_for b.bits (length (take n text))) (number_in b (take n text) / 2 ^ bits_after b.bits (length (take n text))) ∙ ap (bytes_for b.bits) (length-take-le n text h)

    found : some (bytes_in b (take n text)) ≡ read_text b text
    unfolding read_text
    found = rw (sym e) (ap (λ (m : ℕ). some (bytes_in b (take m text))) count)

    -- k bytes
    module _ {k : ℕ} (long : k ≡ bytes_for b.bits n) where
      pub decode_full : length out < at + k → (Err NoRoom ≡ answer_of (read_text b text) out at) × (out ≡ buffer_of (read_text b text) out at)
      decode_full full = answer_full (read_text b text) (bytes_in b (take n text)) out at found (omega (arith, size, long))

      module _ (fit : at + k ≤ length out) where
        pub decode_fits : at + length (bytes_in b (take n text)) ≤ length out
        decode_fits = omega (arith, size, long)

        pub decode_room : {end : ℕ} {out' : List ℕ} → end ≡ at + length (bytes_in b (take n text)) → out' ≡ overwrite out at (bytes_in b (take n text))
            → (Ok end ≡ answer_of (read_text b text) out at) × (out' ≡ buffer_of (read_text b text) out at)
        decode_room = answer_room (read_text b text) (bytes_in b (take n text)) out at found decode_fits

-- ---- the writer's answer

module _ (b : Base) (g : GoodBase b) (s out : List ℕ) (at : ℕ) where
  m : ℕ
  m = length (letters_of b s)

  -- a text is its letters and the padding
  text_parts : text_of b s ≡ letters_of b s ++ replicate (fill_for b.group m) fill
  unfolding text_of m
  text_parts = ap (λ (n : ℕ). letters_of b s ++ replicate (fill_for b.group n) fill) (sym (length_letters b g s))

  text_size : length (text_of b s) ≡ m + fill_for b.group m
  unfolding m
  text_size = sym (text_long b g s (length_letters b g s) refl)

  module _ {k : ℕ} (long : k ≡ length (text_of b s)) (fits : at + k ≤ length out) where
    pub letters_room : at + length (letters_of b s) ≤ length out
    unfolding m
    letters_room = omega (arith, text_size)

    -- o is the place after the letters
    module _ {o : ℕ} (here : o ≡ at + length (letters_of b s)) where
      pub fill_starts : o ≤ at + k
      unfolding m
      fill_starts = omega (arith, text_size)

      count_is : at + k - o ≡ fill_for b.group m
      unfolding m
      count_is = omega (arith, text_size)

      pub encode_room : {out₁ out₂ : List ℕ} → out₁ ≡ overwrite out at (letters_of b s) → out₂ ≡ overwrite out₁ o (replicate (at + k - o) fill)
          → (at + k ≡ place_after out at (text_of b s)) × (out₂ ≡ placed out at (text_of b s))
      unfolding m
      encode_room {out₁} {out₂} p q =
          let room : at + length (text_of b s) ≤ length out = omega (arith, long) in (
            omega (arith, long, after_room out at (text_of b s) room),
            then out (letters_of b s) (replicate (at + k - o) fill) at o p q here letters_room
                ∙ ap (overwrite out at) (ap (λ (x : ℕ). letters_of b s ++ replicate x fill) count_is ∙ sym text_parts)
                ∙ sym (placed_room out at (text_of b s) room),
          )

-- what `fill` leaves of a part of a buffer
pub filled : (xs : List ℕ) (at end x : ℕ) {ys : List ℕ} → at ≤ end → end ≤ length xs → ys ≡ replicate (length (take (end - at) (drop at xs))) x
    → take at xs ++ (ys ++ drop (end - at) (drop at xs)) ≡ overwrite xs at (replicate (end - at) x)
unfolding overwrite
filled xs at end x {ys} h k e =
    let l : length (take (end - at) (drop at xs)) ≡ end - at = length-take-le (end - at) (drop at xs) (omega (arith, length-drop at xs)) in
    let f : ys ≡ replicate (end - at) x = e ∙ ap (λ (k : ℕ). replicate k x) l in
    let r : drop (end - at) (drop at xs) ≡ drop (at + length (replicate (end - at) x)) xs = drop-drop (end - at) at xs ∙ ap (λ (k : ℕ). drop k xs) (omega (arith, length-replicate (end - at) x)) in
    λ i. take at xs ++ (f i ++ r i)
