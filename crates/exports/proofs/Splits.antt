-- Texts that are split at a byte, and put together again.
use Rattle.std.proofs.Common.{ℕ, zero, suc, ◌+◌, ◌-◌, ◌<◌, ◌≡◌, refl, sym, ap, ◌∙◌, subst, Bool, true, false, cond, List, [], ◌∷◌, ◌++◌, append_assoc, arith, eqb-true, eq-eqb, ltb-true, ltb-false, eqb, ltb, length, take, drop, take_at}
use lib.Seq.{drop-append-add}
use Rattle.receipt.specs.Texts.{separator}
use Rattle.receipt.specs.Form.{first_at, next_at, Without}
use Rattle.receipt.specs.Line.{count_of}
use Rattle.receipt.specs.Separated.{after, skip}
use Rattle.receipt.proofs.Finding.{part_without, next_without}
use Rattle.receipt.proofs.MarkCounts.{count_append, count_none, none_counted}
use Rattle.exports.proofs.PayloadMarks.{after_is}
use Rattle.exports.proofs.ReceiptDots.{count_first, count_last}

-- ---- at the first b

module _ (b : ℕ) where
  abbrev pub front : List ℕ → List ℕ
  front s = take (first_at b s) s

  abbrev pub rest : List ℕ → List ℕ
  rest s = drop (suc (first_at b s)) s

  pub there : (s : List ℕ) → 0 < count_of b s → first_at b s < length s
  there s h = go (ltb (first_at b s) (length s)) refl
    where
      go : (t : Bool) → ltb (first_at b s) (length s) ≡ t → first_at b s < length s
      go true e = ltb-true (first_at b s) (length s) e
      go false e = absurd (omega (arith, count_last b s (ltb-false (first_at b s) (length s) e)))

  pub count_rest : (s : List ℕ) → 0 < count_of b s → count_of b s ≡ suc (count_of b (rest s))
  count_rest s h = count_first b s (there s h)

  split_there : (s : List ℕ) → first_at b s < length s → s ≡ front s ++ (b ∷ rest s)
  unfolding first_at
  split_there [] h = absurd (omega arith)
  split_there (x ∷ s) h = go (split_there s) (eqb x b) refl h
    where
      go : (first_at b s < length s → s ≡ take (first_at b s) s ++ (b ∷ drop (suc (first_at b s)) s)) → (t : Bool) → eqb x b ≡ t → cond t 0 (suc (first_at b s)) < suc (length s)
          → x ∷ s ≡ take (cond t 0 (suc (first_at b s))) (x ∷ s) ++ (b ∷ drop (suc (cond t 0 (suc (first_at b s)))) (x ∷ s))
      go f true e k = ap (λ (y : ℕ). y ∷ s) (eqb-true x b e)
      go f false e k = ap (λ (l : List ℕ). x ∷ l) (f (omega arith))

  pub split : (s : List ℕ) → 0 < count_of b s → s ≡ front s ++ (b ∷ rest s)
  split s h = split_there s (there s h)

  pub front_without : (s : List ℕ) → Without b (front s)
  unfolding next_at
  front_without s =
      let e : 0 + first_at b s - 0 ≡ first_at b s = omega arith in
      subst (λ (n : ℕ). Without b (take n s)) e (part_without b s 0)

  -- where a text without b is before it
  module _ (xs ys : List ℕ) (w : Without b xs) where
    first_at_lem : first_at b (xs ++ (b ∷ ys)) ≡ length xs
    unfolding next_at
    first_at_lem = omega (arith, next_without b [] xs ys 0 refl w)

    pub front_at : front (xs ++ (b ∷ ys)) ≡ xs
    front_at = take_at xs (b ∷ ys) (first_at b (xs ++ (b ∷ ys))) (sym first_at_lem)

    pub rest_at : rest (xs ++ (b ∷ ys)) ≡ ys
    rest_at =
        let e : suc (first_at b (xs ++ (b ∷ ys))) ≡ length xs + 1 = omega (arith, first_at_lem) in
        ap (λ (n : ℕ). drop n (xs ++ (b ∷ ys))) e ∙ drop-append-add xs (b ∷ ys) 1

    pub count_at : count_of b (xs ++ (b ∷ ys)) ≡ suc (count_of b ys)
    unfolding count_of
    count_at = rw (count_append b xs (b ∷ ys), count_none b xs w, eq-eqb b b refl) (omega arith)

-- ---- at the "_" with a number

pub after_at : (xs ys : List ℕ) → Without separator xs → after (xs ++ (separator ∷ ys)) ≡ ys
after_at xs ys w = after_is (xs ++ (separator ∷ ys)) ∙ rest_at separator xs ys w

pub split_after : (s : List ℕ) → 0 < count_of separator s → s ≡ front separator s ++ (separator ∷ after s)
split_after s h = split separator s h ∙ ap (λ (t : List ℕ). front separator s ++ (separator ∷ t)) (sym (after_is s))

pub count_after : (s : List ℕ) → 0 < count_of separator s → count_of separator s ≡ suc (count_of separator (after s))
count_after s h = count_rest separator s h ∙ ap (λ (t : List ℕ). suc (count_of separator t)) (sym (after_is s))

pub record Before (k : ℕ) (s : List ℕ) : Type 0 where
  pub text : List ℕ
  pub is : s ≡ text ++ (separator ∷ skip (suc k) s)
  pub count : count_of separator text ≡ k

pub split_many : (k : ℕ) (s : List ℕ) → k < count_of separator s → Before k s
unfolding skip
split_many zero s h = record { text = front separator s; is = split_after s h; count = count_none separator (front separator s) (front_without separator s) }
split_many (suc k) s h = go (split_many k (after s) (omega (arith, count_after s (omega arith))))
  where
    go : Before k (after s) → Before (suc k) s
    go u =
        let f : List ℕ = front separator s in
        record {
          text = f ++ (separator ∷ u.text);
          is = split_after s (omega arith) ∙ ap (λ (t : List ℕ). f ++ (separator ∷ t)) u.is ∙ sym (append_assoc f (separator ∷ u.text) (separator ∷ skip (suc k) (after s)));
          count = count_at separator f u.text (front_without separator s) ∙ ap suc u.count;
        }

pub count_many : (k : ℕ) (s : List ℕ) → Before k s → count_of separator s ≡ suc (k + count_of separator (skip (suc k) s))
unfolding count_of
count_many k s u =
    ap (count_of separator) u.is ∙ count_append separator u.text (separator ∷ skip (suc k) s)
    ∙ omega (arith, u.count)

pub skip_many : (k : ℕ) (m z : List ℕ) → count_of separator m ≡ k → skip (suc k) (m ++ (separator ∷ z)) ≡ z
unfolding skip after count_of
skip_many zero m z e = after_at m z (none_counted separator m e)
skip_many (suc k) m z e =
    ap (λ (t : List ℕ). skip (suc k) (after t)) (ap (λ (t : List ℕ). t ++ (separator ∷ z)) (split_after m (omega arith)) ∙ append_assoc f (separator ∷ after m) (separator ∷ z))
    ∙ ap (skip (suc k)) (after_at f (after m ++ (separator ∷ z)) (front_without separator m))
    ∙ skip_many k (after m) z (omega (arith, e, count_after m (omega arith)))
  where
    f : List ℕ
    f = front separator m
