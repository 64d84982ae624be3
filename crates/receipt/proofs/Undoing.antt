-- Two calls that undo each other: what one wrote of a text, the other turns back into that text.
use Rattle.std.proofs.Common.{ℕ, ◌≤◌, ◌<◌, ◌≡◌, refl, sym, ap, ◌∙◌, Bool, true, false, List, arith, leb-true, leb-false, leb, length, take}
use mathlib.Core.Option.{Option, none, some, map}
use Rattle.primitives.specs.Place.{overwrite}
use Rattle.primitives.specs.Answers.{answer_with, bufferWith}
use Rattle.primitives.proofs.Over.{placed_room, read_over}
use Rattle.primitives.proofs.Answers.{written_room, written_full}

-- a call that was not refused found something, and its text fits
record Took {X : Type 0} (o : Option X) (f : X → List ℕ) (out : List ℕ) : Type 0 where
  found : X
  is : o ≡ some found
  fits : length (f found) ≤ length out

module _ {X : Type 0} (n : ℕ) (f : X → List ℕ) (out : List ℕ) where
  took : (o : Option X) → (n ≡ 0 → ⊥) → (answer_with n (map f o) out).number ≡ 0 → Took o f out
  took none nonzero e = absurd (nonzero e)
  took (some x) nonzero e = go (leb (length (f x)) (length out)) refl
    where
      go : (t : Bool) → leb (length (f x)) (length out) ≡ t → Took (some x) f out
      go true q = record { found = x; is = refl; fits = leb-true (length (f x)) (length out) q }
      go false q =
          let h : length out < length (f x) = leb-false (length (f x)) (length out) q in
          absurd (omega (arith, rw (written_full out (f x) h) at e))

  -- what such a call answers and writes
  module _ (o : Option X) (x : X) (is : o ≡ some x) (fits : length (f x) ≤ length out) where
    answer_is : answer_with n (map f o) out ≡ record { number = 0; length = length (f x) }
    answer_is = rw is (written_room out (f x) fits)

    buffer_is : bufferWith (map f o) out ≡ overwrite out 0 (f x)
    buffer_is = rw is (placed_room out 0 (f x) (omega arith))

    made_is : take (answer_with n (map f o) out).length (bufferWith (map f o) out) ≡ f x
    made_is = rw (answer_is, buffer_is) (read_over out 0 (f x) (omega arith))

-- a text in which o was found is the writing g of it; what f writes of it is read back to it, and g writes the text again
module _ {X : Type 0} (n m : ℕ) (f g : X → List ℕ) (o : Option X) (back : List ℕ → Option X) (text out again : List ℕ) (nonzero : n ≡ 0 → ⊥)
    (only : (x : X) → o ≡ some x → text ≡ g x) (reads : (x : X) → o ≡ some x → back (f x) ≡ some x)
    (accepted : (answer_with n (map f o) out).number ≡ 0) (room : length text ≤ length again) where
  abbrev pub made : List ℕ
  made = take (answer_with n (map f o) out).length (bufferWith (map f o) out)

  t : Took o f out
  t = took n f out o nonzero accepted

  read : back made ≡ some t.found
  read = ap back (made_is n f out o t.found t.is t.fits) ∙ reads t.found t.is

  again_is : g t.found ≡ text
  again_is = sym (only t.found t.is)

  pub round : (answer_with m (map g (back made)) again ≡ record { number = 0; length = length text }) × (bufferWith (map g (back made)) again ≡ overwrite again 0 text)
  round =
      let h : length (g t.found) ≤ length again = omega (arith, ap length again_is) in (
        answer_is m g again (back made) t.found read h ∙ (λ i. record { number = 0; length = length (again_is i) }),
        buffer_is m g again (back made) t.found read h ∙ ap (overwrite again 0) again_is,
      )
