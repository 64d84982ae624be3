-- Questions in a row: "Questions come in this order. The first 'no' gives its number."
use Rattle.std.specs.Prelude.{◌≡◌, ℕ, zero, suc, Bool, true, false, ◌⊎◌, ◌≢◌}

-- a question: if the answer is yes, the questions after it decide; else its number is given
unfoldable pub ask : Bool → ℕ → ℕ → ℕ
ask true n rest = rest
ask false n rest = n

-- the first of two if the number is 0, that is if no question was answered no; else the second
unfoldable pub ifZero {ℓ} : {X : Type ℓ} → ℕ → X → X → X
ifZero zero x y = x
ifZero (suc n) x y = y

-- ---- a row of questions in the paper's words, apart from the answers that code computes

-- what a yes means and the number of a no, one question after the other
pub data Row : Type 1 where
  asked_all : Row
  question : Type 0 → ℕ → Row → Row

-- every answer is yes
abbrev pub AllYes : Row → Type 0
AllYes asked_all = Unit {0}
AllYes (question q k row) = q × AllYes row

-- the first no is that of a question with this number: every answer before it is yes
abbrev pub FirstNoIs : Row → ℕ → Type 0
FirstNoIs asked_all number = ⊥
FirstNoIs (question q k row) number = ((q → ⊥) × (number ≡ k)) ⊎ (q × FirstNoIs row number)

-- A call gives the number of the first no, both ways: 0 exactly where every answer is yes, and a number exactly where the first no has it
pub record GivesFirstNo (number : ℕ) (row : Row) : Type 0 where
  pub none : number ≡ 0 → AllYes row
  pub all : AllYes row → number ≡ 0
  pub some : (number ≢ 0) → FirstNoIs row number
  pub first : (k : ℕ) → FirstNoIs row k → number ≡ k
