-- The bytes of a payload, read from its letters.
use Rattle.std.proofs.Common.{Result, Ok, Err, ℕ, zero, suc, ◌+◌, ◌-◌, ◌*◌, ◌/◌, ◌%◌, ◌≤◌, ◌<◌, min, ◌≡◌, refl, sym, ap, ◌∙◌, Bool, true, false, cond, ◌&&◌, List, [], ◌∷◌, ◌++◌, arith, ltb, eqb, length, take, drop, get_or, length-take}
use Rattle.std.specs.Result.{result_eq}
use mathlib.Core.Option.{Option, none, some}
use Rattle.std.proofs.lemmas.Grind.{common_steps}
use lib.ListN.{get_or-append}
use lib.Seq.{take-length}
use Rattle.primitives.specs.Place.{overwrite, room}
use Rattle.primitives.specs.Base64.{digit, from_digits, triple, bytes, known, ended, accepted, decoding, answer_of, buffer_of}
use Rattle.primitives.specs.declared.base64.Alphabet.TheVariants.{UrlSafe}
use Rattle.primitives.specs.declared.base64.DecodeError.{DecodeError}
use Rattle.primitives.specs.declared.base64.DecodeError.TheVariants.{Refused, NoRoom}
use Rattle.primitives.proofs.Over.{placed_room}
use Rattle.primitives.proofs.Rows.{both}
use Rattle.primitives.proofs.Base64Lengths.{length_bytes}

-- ---- what is accepted

module _ (m : List ℕ) where
  pub accepted_is : accepted UrlSafe m ≡ (ended UrlSafe m && known UrlSafe m)
  unfolding accepted
  accepted_is = λ i. ended UrlSafe (take-length m i) && known UrlSafe (take-length m i)

  pub decoding_is : decoding UrlSafe m ≡ cond (accepted UrlSafe m) (some (bytes UrlSafe m)) none
  unfolding decoding
  decoding_is = λ i. cond (accepted UrlSafe m) (some (bytes UrlSafe (take-length m i))) none

  -- the answers of the reader
  module _ (out : List ℕ) (at : ℕ) where
    answered : {d : Result ℕ DecodeError} → d ≡ answer_of (decoding UrlSafe m) out at → d ≡ answer_of (cond (accepted UrlSafe m) (some (bytes UrlSafe m)) none) out at
    answered e = e ∙ ap (λ (o : Option (List ℕ)). answer_of o out at) decoding_is

    canonical_read : {d : Result ℕ DecodeError} → d ≡ answer_of (decoding UrlSafe m) out at → (d ≡ Err Refused → ⊥) → accepted UrlSafe m ≡ true
    canonical_read {d} e n = go (accepted UrlSafe m) (answered e)
      where
        go : (t : Bool) → d ≡ answer_of (cond t (some (bytes UrlSafe m)) none) out at → t ≡ true
        go true k = refl
        go false k = absurd (n k)

    canonical_refused : Err Refused ≡ answer_of (decoding UrlSafe m) out at → accepted UrlSafe m ≡ false
    canonical_refused e = go (accepted UrlSafe m) (answered e)
      where
        fits : (t : Bool) → Err Refused ≡ cond t (Ok (at + length (bytes UrlSafe m))) (Err NoRoom) → true ≡ false
        fits true k = cc
        fits false k = cc

        go : (t : Bool) → Err Refused ≡ answer_of (cond t (some (bytes UrlSafe m)) none) out at → t ≡ false
        go true k = fits (room out at (bytes UrlSafe m)) k
        go false k = refl

    -- as the code asks it, by the equality of answers
    module _ {d : Result ℕ DecodeError} (q : d ≡ answer_of (decoding UrlSafe m) out at) (E : DecodeError → DecodeError → Bool) (n : E NoRoom Refused ≡ false) (r : E Refused Refused ≡ true) where
      pub told_refused : true ≡ result_eq eqb E d (Err Refused) → accepted UrlSafe m ≡ false
      told_refused h = go d refl h
        where
          go : (x : Result ℕ DecodeError) → d ≡ x → true ≡ result_eq eqb E x (Err Refused) → accepted UrlSafe m ≡ false
          go (Ok k) e t = cc
          go (Err NoRoom) e t = let z : true ≡ false = t ∙ n in cc
          go (Err Refused) e t = canonical_refused (sym e ∙ q)

      pub told_read : false ≡ result_eq eqb E d (Err Refused) → accepted UrlSafe m ≡ true
      told_read h = go d refl h
        where
          go : (x : Result ℕ DecodeError) → d ≡ x → false ≡ result_eq eqb E x (Err Refused) → accepted UrlSafe m ≡ true
          go (Ok k) e t = canonical_read q (λ w. let z = sym e ∙ w in cc)
          go (Err NoRoom) e t = canonical_read q (λ w. let z = sym e ∙ w in cc)
          go (Err Refused) e t = let z : false ≡ true = t ∙ r in cc

-- ---- one group

-- the byte at a place of the bytes is that of the group of four letters that has its number
record Grouped (m : List ℕ) (k r : ℕ) : Type 0 where
  good : ended UrlSafe (take 4 (drop (k * 4) m)) && known UrlSafe (take 4 (drop (k * 4) m)) ≡ true
  inside : r < length (bytes UrlSafe (take 4 (drop (k * 4) m)))
  is : get_or (bytes UrlSafe (take 4 (drop (k * 4) m))) r 0 ≡ get_or (bytes UrlSafe m) (k * 3 + r) 0

four_known : (a b c d : Bool) (e : Bool) → (a && (b && (c && (d && e)))) ≡ true → (a && (b && (c && (d && true)))) ≡ true
four_known true true true true e h = refl
four_known true true true false e h = h
four_known true true false d e h = h
four_known true false c d e h = h
four_known false b c d e h = h

first_three : (xs : List ℕ) (r : ℕ) → r < length xs → (ys : List ℕ) → get_or (xs ++ []) r 0 ≡ get_or (xs ++ ys) r 0
first_three xs r h ys = get_or-append xs [] 0 r h ∙ sym (get_or-append xs ys 0 r h)

grouped : (m : List ℕ) (k r : ℕ) → r < 3 → ended UrlSafe m && known UrlSafe m ≡ true → k * 3 + r < length (bytes UrlSafe m) → Grouped m k r
unfolding bytes ended known triple
grouped [] k r h g l = absurd (omega arith)
grouped (w ∷ []) k r h g l = absurd (omega arith)
grouped (w ∷ x ∷ []) zero r h g l = let e : zero * 3 + r ≡ r = omega arith in record { good = g; inside = rw e at l; is = rw e }
grouped (w ∷ x ∷ []) (suc k) r h g l = absurd (omega arith)
grouped (w ∷ x ∷ y ∷ []) zero r h g l = let e : zero * 3 + r ≡ r = omega arith in record { good = g; inside = rw e at l; is = rw e }
grouped (w ∷ x ∷ y ∷ []) (suc k) r h g l = absurd (omega arith)
grouped (w ∷ x ∷ y ∷ z ∷ rest) zero r h g l =
    let e : zero * 3 + r ≡ r = omega arith in
    record {
      good =
          four_known (ltb (digit UrlSafe w) 64) (ltb (digit UrlSafe x) 64) (ltb (digit UrlSafe y) 64) (ltb (digit UrlSafe z) 64) (known UrlSafe rest)
          (both (ended UrlSafe rest) (known UrlSafe (w ∷ x ∷ y ∷ z ∷ rest)) g).1;
      inside = h;
      is = rw e (first_three (triple (from_digits (digit UrlSafe w) (digit UrlSafe x) (digit UrlSafe y) (digit UrlSafe z))) r h (bytes UrlSafe rest));
    }
grouped (w ∷ x ∷ y ∷ z ∷ rest) (suc k) r h g l =
    next (grouped rest k r h (rw ((both (ended UrlSafe rest) (known UrlSafe (w ∷ x ∷ y ∷ z ∷ rest)) g).0, ks)) (omega (arith, e₃)))
  where
    e₄ : suc k * 4 ≡ suc (suc (suc (suc (k * 4))))
    e₄ = omega arith

    e₃ : suc k * 3 + r ≡ suc (suc (suc (k * 3 + r)))
    e₃ = omega arith

    ks : known UrlSafe rest ≡ true
    ks =
        let a = both (ended UrlSafe rest) (known UrlSafe (w ∷ x ∷ y ∷ z ∷ rest)) g in
        let b = both (ltb (digit UrlSafe w) 64) (known UrlSafe (x ∷ y ∷ z ∷ rest)) a.1 in
        let c = both (ltb (digit UrlSafe x) 64) (known UrlSafe (y ∷ z ∷ rest)) b.1 in
        let d = both (ltb (digit UrlSafe y) 64) (known UrlSafe (z ∷ rest)) c.1 in
        (both (ltb (digit UrlSafe z) 64) (known UrlSafe rest) d.1).1

    next : Grouped rest k r → Grouped (w ∷ x ∷ y ∷ z ∷ rest) (suc k) r
    next u = record { good = rw e₄ u.good; inside = rw e₄ u.inside; is = rw (e₄, e₃) u.is }

-- ---- the byte at a place

module _ (m : List ℕ) (i : ℕ) (pre : (accepted UrlSafe m ≡ true) × (i < length (bytes UrlSafe m))) where
  -- its group begins in the text
  pub group_inside : i / 3 * 4 ≤ length m
  group_inside = omega (arith, pre.1, length_bytes UrlSafe m)

  at_group : Grouped m (i / 3) (i % 3)
  at_group = grouped m (i / 3) (i % 3) (omega arith) (sym (accepted_is m) ∙ pre.0) (omega (arith, pre.1))

  group_short : length (bytes UrlSafe (take 4 (drop (i / 3 * 4) m))) ≤ 3
  group_short = omega (arith, length_bytes UrlSafe (take 4 (drop (i / 3 * 4) m)), length-take 4 (drop (i / 3 * 4) m))

  abbrev zeros : List ℕ
  zeros = 0 ∷ 0 ∷ 0 ∷ []

  group_read : get_or (buffer_of (decoding UrlSafe (take 4 (drop (i / 3 * 4) m))) zeros 0) (i % 3) 0 ≡ get_or (bytes UrlSafe m) i 0
  unfolding overwrite
  group_read =
      let g : List ℕ = take 4 (drop (i / 3 * 4) m) in
      let e : i / 3 * 3 + i % 3 ≡ i = omega arith in
      ap (λ (o : Option (List ℕ)). get_or (buffer_of o zeros 0) (i % 3) 0)
      (decoding_is g ∙ ap (λ (t : Bool). cond t (some (bytes UrlSafe g)) none) (accepted_is g ∙ at_group.good))
      ∙ ap (λ (l : List ℕ). get_or l (i % 3) 0) (placed_room zeros 0 (bytes UrlSafe g) (omega (arith, group_short)))
      ∙ get_or-append (bytes UrlSafe g) (drop (0 + length (bytes UrlSafe g)) zeros) 0 (i % 3) at_group.inside
      ∙ at_group.is ∙ ap (λ (j : ℕ). get_or (bytes UrlSafe m) j 0) e

  -- it is lent, or the rest of the letters
  pub group_lent : {n : ℕ} → n ≡ min (length (take (length m - i / 3 * 4) (drop (i / 3 * 4) m))) 4
      → take n (take (length m - i / 3 * 4) (drop (i / 3 * 4) m)) ≡ take 4 (drop (i / 3 * 4) m)
  group_lent {n} e = grind (arith, common_steps)

  pub byte_read : {text out : List ℕ} → text ≡ take 4 (drop (i / 3 * 4) m)
      → out ≡ buffer_of (decoding UrlSafe text) zeros 0 → get_or out (i % 3) 0 ≡ get_or (bytes UrlSafe m) i 0
  byte_read {text} {out} e b =
      ap (λ (l : List ℕ). get_or l (i % 3) 0) (b ∙ ap (λ (l : List ℕ). buffer_of (decoding UrlSafe l) zeros 0) e) ∙ group_read
