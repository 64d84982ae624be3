-- Rows of questions that mean the same.
use Rattle.std.proofs.Common.{ℕ, suc, ◌≡◌, refl, true, false, inl, inr}
use Rattle.primitives.specs.Questions.{ask, Row, question, AllYes, FirstNoIs, GivesFirstNo}
use Rattle.primitives.proofs.FirstNo.{gives_ask, gives_same}
use Rattle.primitives.proofs.Rows.{true-is-not-false}

-- ---- one question more in front

pub gives_yes : (k : ℕ) {number : ℕ} (q : Type 0) (row : Row) → q → GivesFirstNo number row → GivesFirstNo number (question q (suc k) row)
unfolding ask
gives_yes k {number} q row y g = gives_ask true k number q row (λ e. y) (λ z. refl) (λ z. g)

pub gives_no : (k : ℕ) {number : ℕ} (q : Type 0) (row : Row) → number ≡ suc k → (q → ⊥) → GivesFirstNo number (question q (suc k) row)
unfolding ask
gives_no k q row e n =
    gives_same (question q (suc k) row) e (gives_ask false k 0 q row (λ f. true-is-not-false f) (λ z. absurd (n z)) (λ z. absurd (n z)))

-- ---- rows with the same answers

pub record Like (r s : Row) : Type 0 where
  pub yes : AllYes r → AllYes s
  pub back : AllYes s → AllYes r
  pub no : (k : ℕ) → FirstNoIs r k → FirstNoIs s k
  pub undo : (k : ℕ) → FirstNoIs s k → FirstNoIs r k

pub like_same : (r : Row) → Like r r
like_same r = record { yes = λ y. y; back = λ y. y; no = λ k n. n; undo = λ k n. n }

pub like_question : (m : ℕ) (q p : Type 0) (r s : Row) → (q → p) → (p → q) → (q → Like r s) → Like (question q m r) (question p m s)
like_question m q p r s to from more =
    record {
      yes = λ y. (to y.0, (more y.0).yes y.1);
      back = λ y. (from y.0, (more (from y.0)).back y.1);
      no = no;
      undo = undo;
    }
  where
    no : (k : ℕ) → FirstNoIs (question q m r) k → FirstNoIs (question p m s) k
    no k (inl n) = inl (λ y. n.0 (from y), n.1)
    no k (inr n) = inr (to n.0, (more n.0).no k n.1)

    undo : (k : ℕ) → FirstNoIs (question p m s) k → FirstNoIs (question q m r) k
    undo k (inl n) = inl (λ y. n.0 (to y), n.1)
    undo k (inr n) = inr (from n.0, (more (from n.0)).undo k n.1)

pub gives_like : {number : ℕ} (r s : Row) → Like r s → GivesFirstNo number r → GivesFirstNo number s
gives_like r s l g =
    record {
      none = λ e. l.yes (g.none e);
      all = λ y. g.all (l.back y);
      some = λ h. l.no _ (g.some h);
      first = λ k n. g.first k (l.undo k n);
    }
