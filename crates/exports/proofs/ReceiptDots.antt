-- What a receipt names, as the code splits it at its dots.
use Rattle.std.proofs.Common.{ℕ, suc, ◌+◌, ◌-◌, ◌≤◌, ◌<◌, ◌≡◌, refl, sym, ap, ◌∙◌, Bool, true, false, cond, not, ◌||◌, List, [], ◌∷◌, length, take, drop, nat_eq, nat_lt, Some, None, eq-eqb, add-one, arith, length-drop, ne_eqb, ltb-true, ltb-false, take_all, eqb}
use Rattle.std.specs.List.{position, position_or_len, list_any}
use mathlib.Core.Option.{none, some}
use Rattle.primitives.specs.Base64.{bytes, accepted, decoding}
use Rattle.primitives.specs.declared.base64.Alphabet.TheVariants.{UrlSafe}
use Rattle.primitives.proofs.Rows.{true-is-not-false}
use Rattle.receipt.specs.Texts.{dot}
use Rattle.receipt.specs.Form.{first_at, next_at}
use Rattle.receipt.specs.Line.{count_of}
use Rattle.exports.specs.Naming.{Named, middle, not_named, named_by, named}
use Rattle.exports.specs.Running.{SplitAtDot}
use Rattle.exports.proofs.PayloadLetters.{decoding_is}

-- ---- counting from one to the next

module _ (b : ℕ) where
  pub count_first : (s : List ℕ) → first_at b s < length s → count_of b s ≡ suc (count_of b (drop (suc (first_at b s)) s))
  unfolding first_at count_of
  count_first [] h = absurd (omega arith)
  count_first (x ∷ s) h = go (count_first s) (eqb x b) h
    where
      go : (first_at b s < length s → count_of b s ≡ suc (count_of b (drop (suc (first_at b s)) s))) → (t : Bool) → cond t 0 (suc (first_at b s)) < suc (length s)
          → cond t (suc (count_of b s)) (count_of b s) ≡ suc (count_of b (drop (suc (cond t 0 (suc (first_at b s)))) (x ∷ s)))
      go f true k = refl
      go f false k = f (omega arith)

  pub count_last : (s : List ℕ) → length s ≤ first_at b s → count_of b s ≡ 0
  unfolding first_at count_of
  count_last [] h = refl
  count_last (x ∷ s) h = go (count_last s) (eqb x b) h
    where
      go : (length s ≤ first_at b s → count_of b s ≡ 0) → (t : Bool) → suc (length s) ≤ cond t 0 (suc (first_at b s)) → cond t (suc (count_of b s)) (count_of b s) ≡ 0
      go f true k = absurd (omega arith)
      go f false k = f (omega arith)

-- ---- the search for a dot

abbrev is_dot : ℕ → Bool
is_dot b = nat_eq b 46

pub first_is : (s : List ℕ) → position_or_len is_dot s ≡ first_at dot s
unfolding first_at
first_is [] = refl
first_is (x ∷ s) = go (first_is s) (eqb x 46)
  where
    go : position_or_len is_dot s ≡ first_at dot s → (t : Bool) → cond (not t) (1 + position_or_len is_dot s) 0 ≡ cond t 0 (suc (first_at dot s))
    go e true = refl
    go e false = omega (arith, e)

-- none is found
pub dot_none : (s : List ℕ) → None ≡ position is_dot s → count_of dot s ≡ 0
dot_none s e = count_last dot s (go (nat_lt (position_or_len is_dot s) (length s)) refl e)
  where
    go : (t : Bool) → nat_lt (position_or_len is_dot s) (length s) ≡ t → None ≡ cond t (Some (position_or_len is_dot s)) None → length s ≤ first_at dot s
    go true h k = absurd (cc)
    go false h k = omega (arith, first_is s, ltb-false (position_or_len is_dot s) (length s) h)

-- one is found
pub dot_some : (s : List ℕ) (a : ℕ) → Some a ≡ position is_dot s → (n : ℕ) → n ≡ length s - (a + 1) → SplitAtDot s (take a s) (take n (drop (a + 1) s))
dot_some s a e n q =
    let h = go (nat_lt (position_or_len is_dot s) (length s)) refl e in
    record {
      some = omega (arith, h.0, h.1);
      before = ap (λ (k : ℕ). take k s) h.0;
      after = rw (q, h.0) (take_all (length s - (first_at dot s + 1)) (drop (first_at dot s + 1) s) (omega (arith, length-drop (first_at dot s + 1) s)));
    }
  where
    go : (t : Bool) → nat_lt (position_or_len is_dot s) (length s) ≡ t → Some a ≡ cond t (Some (position_or_len is_dot s)) None → (a ≡ first_at dot s) × (a < length s)
    go true h k = let m : a ≡ position_or_len is_dot s = cc in (m ∙ first_is s, omega (arith, m, ltb-true (position_or_len is_dot s) (length s) h))
    go false h k = absurd (cc)

-- none is found where there is none
pub none_there : (s : List ℕ) → count_of dot s ≡ 0 → list_any is_dot s ≡ false
unfolding count_of
none_there [] e = refl
none_there (x ∷ s) e = go (none_there s) (eqb x 46) e
  where
    go : (count_of dot s ≡ 0 → list_any is_dot s ≡ false) → (t : Bool) → cond t (suc (count_of dot s)) (count_of dot s) ≡ 0 → (t || list_any is_dot s) ≡ false
    go f true k = absurd (omega arith)
    go f false k = f k

pub none_found : (s : List ℕ) → list_any is_dot s ≡ false → count_of dot s ≡ 0
unfolding count_of
none_found [] e = refl
none_found (x ∷ s) e = go (none_found s) (eqb x 46) e
  where
    go : (list_any is_dot s ≡ false → count_of dot s ≡ 0) → (t : Bool) → (t || list_any is_dot s) ≡ false → cond t (suc (count_of dot s)) (count_of dot s) ≡ 0
    go f true k = true-is-not-false (sym k)
    go f false k = f k

-- ---- a receipt

module _ (w : List ℕ) where
  unlike : (count_of dot w ≡ 2 → ⊥) → not_named ≡ named w
  unfolding named
  unlike n = sym (ap (λ (t : Bool). cond t (named_by (decoding UrlSafe (middle w))) not_named) (ne_eqb (count_of dot w) 2 n))

  -- no dot
  pub dots_0 : count_of dot w ≡ 0 → not_named ≡ named w
  dots_0 n = unlike (λ k. omega arith)

  module _ {head rest : List ℕ} (first : SplitAtDot w head rest) where
    after_first : drop (suc (first_at dot w)) w ≡ rest
    after_first = ap (λ (n : ℕ). drop n w) (sym (add-one (first_at dot w))) ∙ sym first.after

    one : count_of dot w ≡ suc (count_of dot rest)
    one = count_first dot w first.some ∙ ap (λ (t : List ℕ). suc (count_of dot t)) after_first

    -- one
    pub dots_1 : count_of dot rest ≡ 0 → not_named ≡ named w
    dots_1 n = unlike (λ k. omega (arith, one, k))

    module _ {letters last : List ℕ} (second : SplitAtDot rest letters last) where
      two : count_of dot w ≡ suc (suc (count_of dot last))
      two =
          one
          ∙ ap suc (count_first dot rest second.some ∙ ap (λ (t : List ℕ). suc (count_of dot t)) (ap (λ (n : ℕ). drop n rest) (sym (add-one (first_at dot rest))) ∙ sym second.after))

      middle_part : middle w ≡ letters
      unfolding middle next_at
      middle_part =
          let k : ℕ = first_at dot w + 1 in
          let e : k + first_at dot (drop k w) - k ≡ first_at dot (drop k w) = omega arith in
          ap (λ (n : ℕ). take n (drop k w)) e ∙ ap (λ (l : List ℕ). take (first_at dot l) l) (sym first.after) ∙ sym second.before

      -- three or more
      pub dots_3 : list_any is_dot last ≡ true → not_named ≡ named w
      dots_3 n = unlike (λ k. true-is-not-false (sym (none_there last (omega (arith, two, k))) ∙ n))

      module _ (n : list_any is_dot last ≡ false) where
        named_here : (t : Bool) → accepted UrlSafe letters ≡ t → named w ≡ named_by (cond t (some (bytes UrlSafe letters)) none)
        unfolding named
        named_here t e =
            let k : count_of dot w ≡ 2 = omega (arith, two, none_found last n) in
            ap (λ (v : Bool). cond v (named_by (decoding UrlSafe (middle w))) not_named) (eq-eqb (count_of dot w) 2 k)
            ∙ ap (λ (m : List ℕ). named_by (decoding UrlSafe m)) middle_part
            ∙ ap named_by (decoding_is letters ∙ ap (λ (v : Bool). cond v (some (bytes UrlSafe letters)) none) e)

        pub dots_foreign : accepted UrlSafe letters ≡ false → not_named ≡ named w
        dots_foreign e = sym (named_here false e)

        pub dots_good : accepted UrlSafe letters ≡ true → {r : Named} → r ≡ named_by (some (bytes UrlSafe letters)) → r ≡ named w
        dots_good e q = q ∙ sym (named_here true e)
