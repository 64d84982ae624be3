-- Canonical BASE64, four letters at a time.
use Rattle.std.proofs.lemmas.Bool.{eqb-false}
use Rattle.std.proofs.Common.{Result, Ok, Err, not, ◌≡◌, refl, sym, ap, ◌∙◌, Bool, true, false, cond, ◌&&◌, List, [], ◌∷◌, ℕ, zero, suc, ◌+◌, ◌-◌, ◌%◌, ◌<◌, ◌≤◌, arith, eq-eqb, ne_eqb, eqb-true, eqb, ltb, length, take, get_or}
use Rattle.std.specs.Result.{result_eq}
use mathlib.Core.Bool.{and-true, and-false}
use Rattle.primitives.specs.Place.{room}
use Rattle.primitives.specs.Base64.{digit, pad, known, ended, unmarked, letter_count, unpadded, bytes, accepted, decoding, decode_answer}
use Rattle.primitives.specs.declared.base64.Alphabet.TheVariants.{Standard}
use Rattle.primitives.specs.declared.base64.DecodeError.{DecodeError}
use Rattle.primitives.specs.declared.base64.DecodeError.TheVariants.{Refused, NoRoom}
use Rattle.exports.specs.Reading.{canonical}
use Rattle.exports.specs.Spelled.{is_empty}

-- ---- four letters and the rest

unmarked_least : (text : List ℕ) (n : ℕ) → n ≤ unmarked text n + 1
unfolding unmarked
unmarked_least text n = go (eqb (get_or text (n - 1) 0) pad)
  where
    go : (t : Bool) → n ≤ cond t (n - 1) n + 1
    go true = omega arith
    go false = omega arith

module _ (w x y z : ℕ) (rest : List ℕ) where
  four_unmarked : (m : ℕ) → 0 < m → unmarked (w ∷ x ∷ y ∷ z ∷ rest) (4 + m) ≡ 4 + unmarked rest m
  unfolding unmarked
  four_unmarked zero h = absurd (omega arith)
  four_unmarked (suc m) h =
      let e : 4 + suc m - 1 ≡ suc (suc (suc (suc m))) = omega arith in
      let f : suc m - 1 ≡ m = omega arith in
      rw (e, f) (go (eqb (get_or rest m 0) pad))
    where
      go : (t : Bool) → cond t (suc (suc (suc (suc m)))) (4 + suc m) ≡ 4 + cond t m (suc m)
      go true = omega arith
      go false = omega arith

  four_take : (k : ℕ) → take (4 + k) (w ∷ x ∷ y ∷ z ∷ rest) ≡ w ∷ x ∷ y ∷ z ∷ take k rest
  four_take k = let e : 4 + k ≡ suc (suc (suc (suc k))) = omega arith in rw e

  four_unpadded : 1 < length rest → unpadded Standard (w ∷ x ∷ y ∷ z ∷ rest) ≡ w ∷ x ∷ y ∷ z ∷ unpadded Standard rest
  four_unpadded h =
      let n : length (w ∷ x ∷ y ∷ z ∷ rest) ≡ 4 + length rest = omega arith in
      let a : unmarked (w ∷ x ∷ y ∷ z ∷ rest) (length (w ∷ x ∷ y ∷ z ∷ rest)) ≡ 4 + unmarked rest (length rest)
      = ap (unmarked (w ∷ x ∷ y ∷ z ∷ rest)) n ∙ four_unmarked (length rest) (omega arith) in
      let b : letter_count Standard (w ∷ x ∷ y ∷ z ∷ rest) ≡ 4 + letter_count Standard rest
      = ap (unmarked (w ∷ x ∷ y ∷ z ∷ rest)) a ∙ four_unmarked (unmarked rest (length rest)) (omega (arith, unmarked_least rest (length rest))) in
      ap (λ (k : ℕ). take k (w ∷ x ∷ y ∷ z ∷ rest)) b ∙ four_take (letter_count Standard rest)

  four_known : known Standard (w ∷ x ∷ y ∷ z ∷ rest) ≡ known Standard (w ∷ x ∷ y ∷ z ∷ []) && known Standard rest
  unfolding known
  four_known = go (ltb (digit Standard w) 64) (ltb (digit Standard x) 64) (ltb (digit Standard y) 64) (ltb (digit Standard z) 64)
    where
      go : (a b c d : Bool) → a && (b && (c && (d && known Standard rest))) ≡ (a && (b && (c && (d && true)))) && known Standard rest
      go false b c d = refl
      go true false c d = refl
      go true true false d = refl
      go true true true false = refl
      go true true true true = refl

-- padding is no letter
padded_four : (w x y z : ℕ) → eqb z 61 ≡ true → known Standard (w ∷ x ∷ y ∷ z ∷ []) ≡ false
unfolding known digit
padded_four w x y z e = rw (eqb-true z 61 e) (go (ltb (digit Standard w) 64) (ltb (digit Standard x) 64) (ltb (digit Standard y) 64))
  where
    go : (a b c : Bool) → a && (b && (c && false)) ≡ false
    go false b c = refl
    go true false c = refl
    go true true false = refl
    go true true true = refl

not_whole : (text : List ℕ) → (length text % 4 ≡ 0 → ⊥) → accepted Standard text ≡ false
unfolding accepted
not_whole text h = rw (ne_eqb (length text % 4) 0 h)

is_whole : (text : List ℕ) → length text % 4 ≡ 0 → accepted Standard text ≡ ended Standard (unpadded Standard text) && known Standard (unpadded Standard text)
unfolding accepted
is_whole text h = rw (eq-eqb (length text % 4) 0 h)

-- four letters alone, without padding
module _ (w x y z : ℕ) (e : eqb z 61 ≡ false) where
  bare_count : unmarked (w ∷ x ∷ y ∷ z ∷ []) 4 ≡ 4
  unfolding unmarked
  bare_count = rw e

  bare_unpadded : unpadded Standard (w ∷ x ∷ y ∷ z ∷ []) ≡ w ∷ x ∷ y ∷ z ∷ []
  bare_unpadded = ap (λ (k : ℕ). take k (w ∷ x ∷ y ∷ z ∷ [])) (ap (unmarked (w ∷ x ∷ y ∷ z ∷ [])) bare_count ∙ bare_count)

  bare_four : accepted Standard (w ∷ x ∷ y ∷ z ∷ []) ≡ known Standard (w ∷ x ∷ y ∷ z ∷ [])
  unfolding ended
  bare_four = is_whole (w ∷ x ∷ y ∷ z ∷ []) refl ∙ ap (λ (u : List ℕ). ended Standard u && known Standard u) bare_unpadded

-- nothing is canonical
pub none_canonical : accepted Standard [] ≡ true
unfolding accepted unmarked ended known
none_canonical = refl

module _ (w x y z : ℕ) where
  abbrev four : Bool
  four = accepted Standard (w ∷ x ∷ y ∷ z ∷ [])

  -- something follows
  module _ (rest : List ℕ) (h : 0 < length rest) where
    long : length (w ∷ x ∷ y ∷ z ∷ rest) ≡ 4 + length rest
    long = omega arith

    uneven : (length rest % 4 ≡ 0 → ⊥) → accepted Standard (w ∷ x ∷ y ∷ z ∷ rest) ≡ four && cond (eqb z 61) false (accepted Standard rest)
    uneven n =
        let l = long in
        let k : length (w ∷ x ∷ y ∷ z ∷ rest) % 4 ≡ 0 → ⊥ = λ q. n (omega arith) in
        not_whole (w ∷ x ∷ y ∷ z ∷ rest) k ∙ sym (rw (not_whole rest n) (go (eqb z 61)))
      where
        go : (t : Bool) → four && cond t false false ≡ false
        go true = and-false four
        go false = and-false four

    even : length rest % 4 ≡ 0 → accepted Standard (w ∷ x ∷ y ∷ z ∷ rest) ≡ four && cond (eqb z 61) false (accepted Standard rest)
    unfolding ended
    even n =
        let l = long in
        let k : length (w ∷ x ∷ y ∷ z ∷ rest) % 4 ≡ 0 = omega arith in
        is_whole (w ∷ x ∷ y ∷ z ∷ rest) k
        ∙ ap (λ (u : List ℕ). ended Standard u && known Standard u) (four_unpadded w x y z rest (omega arith))
        ∙ ap (λ (b : Bool). ended Standard (unpadded Standard rest) && b) (four_known w x y z (unpadded Standard rest))
        ∙ go (eqb z 61) (ended Standard (unpadded Standard rest)) (known Standard (unpadded Standard rest)) refl (is_whole rest n)
      where
        go : (t e k : Bool) → eqb z 61 ≡ t → accepted Standard rest ≡ e && k
            → e && (known Standard (w ∷ x ∷ y ∷ z ∷ []) && k) ≡ four && cond t false (accepted Standard rest)
        go true e k p q = rw (padded_four w x y z p) (and-false e ∙ sym (and-false four))
        go false true k p q = rw (q, bare_four w x y z p)
        go false false k p q = rw q (sym (and-false four))

    follows : accepted Standard (w ∷ x ∷ y ∷ z ∷ rest) ≡ four && cond (eqb z 61) false (accepted Standard rest)
    follows = go (eqb (length rest % 4) 0) refl
      where
        go : (t : Bool) → eqb (length rest % 4) 0 ≡ t → accepted Standard (w ∷ x ∷ y ∷ z ∷ rest) ≡ four && cond (eqb z 61) false (accepted Standard rest)
        go true e = even (eqb-true (length rest % 4) 0 e)
        go false e = uneven (eqb-false (length rest % 4) 0 e)

  -- padding ends a text
  pub by_fours : (rest : List ℕ) → accepted Standard (w ∷ x ∷ y ∷ z ∷ rest) ≡ four && cond (eqb z 61) (is_empty rest) (accepted Standard rest)
  by_fours [] = rw none_canonical (go (eqb z 61))
    where
      go : (t : Bool) → four ≡ four && cond t true true
      go true = sym (and-true four)
      go false = sym (and-true four)
  by_fours (b ∷ rest) = follows (b ∷ rest) (omega arith)

-- one to three letters are not canonical
pub few_not : (text : List ℕ) → 0 < length text → length text < 4 → accepted Standard text ≡ false
few_not text h k = not_whole text (λ e. omega arith)

-- ---- the reader's answer to four letters

module _ (text out : List ℕ) (at : ℕ) where
  not_refused : accepted Standard text ≡ true → Err Refused ≡ decode_answer Standard text out at → ⊥
  unfolding decoding
  not_refused e q = go (room out at (bytes Standard (unpadded Standard text))) (rw e at q)
    where
      go : (t : Bool) → Err Refused ≡ cond t (Ok (at + length (bytes Standard (unpadded Standard text)))) (Err NoRoom) → ⊥
      go true p = cc
      go false p = cc

  is_refused : accepted Standard text ≡ false → decode_answer Standard text out at ≡ Err Refused
  unfolding decoding
  is_refused e = rw e

  module _ {d : Result ℕ DecodeError} (q : d ≡ decode_answer Standard text out at) where
    refused_bad : d ≡ Err Refused → false ≡ canonical text
    refused_bad r = go (accepted Standard text) refl
      where
        go : (t : Bool) → accepted Standard text ≡ t → false ≡ accepted Standard text
        go true e = absurd (not_refused e (sym r ∙ q))
        go false e = sym e

    accepted_good : (d ≡ Err Refused → ⊥) → true ≡ canonical text
    accepted_good r = go (accepted Standard text) refl
      where
        go : (t : Bool) → accepted Standard text ≡ t → true ≡ accepted Standard text
        go true e = sym e
        go false e = absurd (r (q ∙ is_refused e))

    -- as the code asks it, by the equality of answers
    pub told_good : (E : DecodeError → DecodeError → Bool) → E NoRoom Refused ≡ false → E Refused Refused ≡ true → {t : Bool}
        → t ≡ not (result_eq eqb E d (Err Refused)) → t ≡ canonical text
    told_good E n r {t} h = h ∙ go d refl
      where
        go : (x : Result ℕ DecodeError) → d ≡ x → not (result_eq eqb E x (Err Refused)) ≡ canonical text
        go (Ok k) e = accepted_good (λ w. let z = sym e ∙ w in cc)
        go (Err NoRoom) e = rw n (accepted_good (λ w. let z = sym e ∙ w in cc))
        go (Err Refused) e = rw r (refused_bad e)
