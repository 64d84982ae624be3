-- A question that a function answers by a bool, and the branch that was taken on it.
use Rattle.std.proofs.lemmas.Bool.{not-true, not-false}
use Rattle.std.proofs.Common.{◌≡◌, ℕ, ◌<◌, ◌≤◌, Bool, true, false, not, leb, sym, ◌∙◌, leb-false, leb-true}

-- `if !question(..)`, left or taken
module _ {q r : Bool} (e : r ≡ q) where
  pub yes : not r ≡ false → q ≡ true
  yes t = sym e ∙ not-false r t

  pub no : not r ≡ true → q ≡ false
  no t = sym e ∙ not-true r t

-- the same where the question is an order of numbers
module _ (m n : ℕ) {r : Bool} (e : r ≡ leb m n) where
  pub at_most : not r ≡ false → m ≤ n
  at_most t = leb-true m n (yes e t)

  pub above : not r ≡ true → n < m
  above t = leb-false m n (no e t)
