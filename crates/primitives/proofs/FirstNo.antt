-- The number of a row of questions is that of its first no, question by question.
use Rattle.std.proofs.Common.{◌≡◌, ℕ, suc, Bool, true, false, sym, refl, inl, inr, arith}
use Rattle.primitives.specs.Questions.{ask, Row, asked_all, question, FirstNoIs, GivesFirstNo}
use Rattle.primitives.proofs.Rows.{true-is-not-false}

pub gives_none : GivesFirstNo 0 asked_all
gives_none = record { none = λ e. tt; all = λ y. refl; some = λ h. h refl; first = λ k n. absurd n }

-- a question that code answers by b: a yes to it, and the rest after a yes, give the number of the whole row
pub gives_ask : (b : Bool) (k rest : ℕ) (q : Type 0) (row : Row) → (b ≡ true → q) → (q → b ≡ true) → (q → GivesFirstNo rest row)
    → GivesFirstNo (ask b (suc k) rest) (question q (suc k) row)
unfolding ask
gives_ask true k rest q row only always more =
    record {
      none = λ e. (only refl, (more (only refl)).none e);
      all = λ y. (more (only refl)).all y.1;
      some = λ h. inr (only refl, (more (only refl)).some h);
      first = first;
    }
  where
    first : (m : ℕ) → FirstNoIs (question q (suc k) row) m → rest ≡ m
    first m (inl n) = absurd (n.0 (only refl))
    first m (inr n) = (more (only refl)).first m n.1
gives_ask false k rest q row only always more =
    record {
      none = λ e. absurd (omega (arith, e));
      all = λ y. true-is-not-false (always y.0);
      some = λ h. inl (λ y. true-is-not-false (always y), refl);
      first = first;
    }
  where
    first : (m : ℕ) → FirstNoIs (question q (suc k) row) m → suc k ≡ m
    first m (inl n) = sym n.1
    first m (inr n) = true-is-not-false (always n.0)

-- the number of another call that is the same
pub gives_same : {number other : ℕ} (row : Row) → other ≡ number → GivesFirstNo number row → GivesFirstNo other row
gives_same row e g = rw e g
