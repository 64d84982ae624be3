-- BASE64: how many "=" there are.
use Rattle.std.proofs.Common.{◌≡◌, ℕ, ◌-◌, ◌≤◌, Bool, true, false, cond, eqb, List, length, get_or, ap, arith, eq-eqb, ne_eqb}
use Rattle.primitives.specs.declared.base64.Alphabet.{Alphabet}
use Rattle.primitives.specs.declared.base64.Alphabet.TheVariants.{Standard, UrlSafe}
use Rattle.primitives.specs.Base64.{pad, padding_count, unmarked, letter_count}

-- at most two '='
pub few_marks : (a : Alphabet) (n : ℕ) → padding_count a n ≤ 2
few_marks Standard n = omega arith
few_marks UrlSafe n = omega arith

-- ---- the reader's tests

module _ (text : List ℕ) (n : ℕ) where
  pub marked : get_or text (n - 1) 0 ≡ pad → unmarked text n ≡ n - 1
  unfolding unmarked
  marked e = ap (λ (t : Bool). cond t (n - 1) n) (eq-eqb (get_or text (n - 1) 0) pad e)

  pub not_marked : (get_or text (n - 1) 0 ≡ pad → ⊥) → unmarked text n ≡ n
  unfolding unmarked
  not_marked e = ap (λ (t : Bool). cond t (n - 1) n) (ne_eqb (get_or text (n - 1) 0) pad e)

pub unmarked_most : (text : List ℕ) (n : ℕ) → unmarked text n ≤ n
unfolding unmarked
unmarked_most text n = go (eqb (get_or text (n - 1) 0) pad)
  where
    go : (t : Bool) → cond t (n - 1) n ≤ n
    go true = omega arith
    go false = omega arith

pub letters_most : (a : Alphabet) (text : List ℕ) → letter_count a text ≤ length text
letters_most Standard text = omega (arith, unmarked_most text (unmarked text (length text)), unmarked_most text (length text))
letters_most UrlSafe text = omega arith
