-- Rows of tests and of questions, as code that returns at the first "no" answers them.
use Rattle.std.proofs.lemmas.Bool.{not-true, not-false, lt-leb}
use Rattle.std.proofs.Common.{◌≡◌, ℕ, zero, suc, Bool, true, false, not, ◌&&◌, sym, refl, ◌∙◌, subst, arith, le-ltb, lt-ltb, eq-eqb, ne_eqb, le-leb}
use Rattle.primitives.specs.Questions.{ask, ifZero}

-- ---- a conjunction

pub true-is-not-false {ℓ} : {X : Type ℓ} → false ≡ true → X
true-is-not-false e = absurd (subst f e tt)
  where
    f : Bool → Type 0
    f true = ⊥
    f false = Unit {0}

pub both : (a b : Bool) → a && b ≡ true → (a ≡ true) × (b ≡ true)
both true b e = (refl, e)
both false b e = true-is-not-false e

pub and_no : (a b : Bool) → a ≡ false → false ≡ a && b
and_no a b e = rw e

pub and_yes : (a b x : Bool) → a ≡ true → x ≡ b → x ≡ a && b
and_yes a b x e q = rw e q

pub not_no : (b x : Bool) → b ≡ x → not b ≡ true → x ≡ false
not_no b x e q = sym e ∙ not-true b q

pub not_yes : (b x : Bool) → b ≡ x → not b ≡ false → x ≡ true
not_yes b x e q = sym e ∙ not-false b q

-- for `search`
pub ruleset asks = (and_no, and_yes, not_no, not_yes, lt-ltb, le-ltb, le-leb, lt-leb, eq-eqb, ne_eqb)

-- ---- questions in a row

-- if the number is 0, every answer was yes
pub ask_zero : (b : Bool) (n rest : ℕ) → ask b (suc n) rest ≡ 0 → (b ≡ true) × (rest ≡ 0)
unfolding ask
ask_zero true n rest e = (refl, e)
ask_zero false n rest e = absurd (omega arith)

pub ask_yes : {b : Bool} (n rest : ℕ) → b ≡ true → ask b n rest ≡ rest
unfolding ask
ask_yes n rest e = rw e

pub ask_no : {b : Bool} (n rest : ℕ) → b ≡ false → ask b n rest ≡ n
unfolding ask
ask_no n rest e = rw e

-- a number that is not 0 picks the second
pub ifZero-no {ℓ} : {X : Type ℓ} (n : ℕ) (x y : X) → (n ≡ 0 → ⊥) → ifZero n x y ≡ y
unfolding ifZero
ifZero-no zero x y h = absurd (h refl)
ifZero-no (suc n) x y h = refl

pub ifZero-yes {ℓ} : {X : Type ℓ} {n : ℕ} (x y : X) → n ≡ 0 → ifZero n x y ≡ x
unfolding ifZero
ifZero-yes x y h = rw h

-- ---- for `search`: a number as a row of questions gives it

pub no_is : (b : Bool) (n rest : ℕ) → b ≡ false → n ≡ ask b n rest
no_is b n rest e = sym (ask_no n rest e)

pub yes_is : (b : Bool) (n rest x : ℕ) → b ≡ true → x ≡ rest → x ≡ ask b n rest
yes_is b n rest x e q = q ∙ sym (ask_yes n rest e)

pub ruleset rows = (no_is, yes_is, and_no, and_yes, not_no, not_yes, lt-ltb, le-ltb, le-leb, lt-leb, eq-eqb, ne_eqb)
