-- Which bytes are blanks, marks and letters.
use Rattle.std.proofs.lemmas.Bool.{eqb-false, not-true}
use Rattle.std.proofs.Common.{ℕ, ◌≤◌, ◌≡◌, refl, subst, Bool, true, false, not, ◌&&◌, ◌||◌, List, [], ◌∷◌, ◌++◌, ◌↔◌, ◌⊎◌, inl, inr, le-leb, leb-true, eq-eqb, ne_eqb, eqb-true, eqb, leb}
use Rattle.primitives.proofs.Rows.{both, true-is-not-false}
use Rattle.exports.specs.Text.{Token, blank, is_mark, plain, every, Tokens, end}
use Rattle.exports.specs.Shape.{Element, document, Shape}
use Rattle.exports.specs.Letters.{In, AllIn, json_blanks, json_marks, BlanksExactly, MarksExactly, LettersExactly}
use Rattle.exports.proofs.Ordering.{blanks_between}
use Rattle.exports.proofs.Sized.{every_nil, every_one}

-- ---- a byte that is one of a table

unfoldable one_of : List ℕ → ℕ → Bool
one_of [] b = false
one_of (x ∷ []) b = eqb b x
one_of (x ∷ (y ∷ xs)) b = eqb b x || one_of (y ∷ xs) b

either : (s t : Bool) → s || t ≡ true → (s ≡ true) ⊎ (t ≡ true)
either true t e = inl refl
either false t e = inr e

first_of : (s t : Bool) → s ≡ true → s || t ≡ true
first_of s t e = rw e

second_of : (s t : Bool) → t ≡ true → s || t ≡ true
second_of true t e = refl
second_of false t e = e

in_of : (xs : List ℕ) (b : ℕ) → one_of xs b ≡ true → In b xs
unfolding one_of
in_of [] b e = true-is-not-false e
in_of (x ∷ []) b e = inl (eqb-true b x e)
in_of (x ∷ (y ∷ xs)) b e = go (λ h. in_of (y ∷ xs) b h) (either (eqb b x) (one_of (y ∷ xs) b) e)
  where
    go : (one_of (y ∷ xs) b ≡ true → In b (y ∷ xs)) → (eqb b x ≡ true) ⊎ (one_of (y ∷ xs) b ≡ true) → In b (x ∷ (y ∷ xs))
    go more (inl h) = inl (eqb-true b x h)
    go more (inr h) = inr (more h)

of_in : (xs : List ℕ) (b : ℕ) → In b xs → one_of xs b ≡ true
unfolding one_of
of_in [] b i = absurd i
of_in (x ∷ []) b (inl e) = eq-eqb b x e
of_in (x ∷ []) b (inr i) = absurd i
of_in (x ∷ (y ∷ xs)) b (inl e) = first_of (eqb b x) (one_of (y ∷ xs) b) (eq-eqb b x e)
of_in (x ∷ (y ∷ xs)) b (inr i) = second_of (eqb b x) (one_of (y ∷ xs) b) (of_in (y ∷ xs) b i)

-- ---- blanks

these_blanks : (b : ℕ) → (blank b ≡ true) ↔ In b json_blanks
unfolding blank one_of
these_blanks b = (in_of json_blanks b, of_in json_blanks b)

all_blank : (s : List ℕ) → AllIn json_blanks s → every blank s ≡ true
all_blank [] h = every_nil blank
all_blank (b ∷ s) h = every_one blank b s ((these_blanks b).1 h.0) (all_blank s h.1)

no_more : {A : Type 0} (xs : List A) → xs ++ [] ≡ xs
no_more [] = refl
no_more (x ∷ xs) = λ i. x ∷ no_more xs i

pub blanks_exactly : BlanksExactly
blanks_exactly = record { these = these_blanks; between = between; around = around }
  where
    between : (a s b : List ℕ) (ts us : List Token) → AllIn json_blanks s → Tokens a ts → Tokens b us → Tokens (a ++ (s ++ b)) (ts ++ us)
    between a s b ts us h t u = blanks_between a s b ts us (all_blank s h) t u

    around : (s text t : List ℕ) (es : List Element) → AllIn json_blanks s → AllIn json_blanks t → Shape text es → Shape (s ++ (text ++ t)) es
    around s text t es h k x =
        let after : Tokens (text ++ (t ++ [])) (document x.order ++ []) = between text t [] (document x.order) [] k x.spelled end in
        let tail : Tokens (text ++ t) (document x.order ++ []) = subst (λ (l : List ℕ). Tokens (text ++ l) (document x.order ++ [])) (no_more t) after in
        let whole : Tokens (text ++ t) (document x.order) = subst (λ (l : List Token). Tokens (text ++ t) l) (no_more (document x.order)) tail in
        record { order = x.order; same = x.same; spelled = between [] s (text ++ t) [] (document x.order) h end whole }

-- ---- marks

pub marks_exactly : MarksExactly
unfolding is_mark one_of
marks_exactly b = (in_of json_marks b, of_in json_marks b)

-- ---- letters

not_eqb : (b x : ℕ) → not (eqb b x) ≡ true → b ≡ x → ⊥
not_eqb b x h = eqb-false b x (not-true (eqb b x) h)

pub letters_exactly : LettersExactly
unfolding plain
letters_exactly b = (only, always)
  where
    only : plain b ≡ true → (32 ≤ b) × (b ≤ 126) × (b ≡ 34 → ⊥) × (b ≡ 92 → ⊥)
    only h =
        let p = both (leb 32 b) (leb b 126 && (not (eqb b 34) && not (eqb b 92))) h in
        let q = both (leb b 126) (not (eqb b 34) && not (eqb b 92)) p.1 in
        let r = both (not (eqb b 34)) (not (eqb b 92)) q.1 in
        (leb-true 32 b p.0, leb-true b 126 q.0, not_eqb b 34 r.0, not_eqb b 92 r.1)

    always : (32 ≤ b) × (b ≤ 126) × (b ≡ 34 → ⊥) × (b ≡ 92 → ⊥) → plain b ≡ true
    always h = rw (le-leb 32 b h.0, le-leb b 126 h.1, ne_eqb b 34 h.2, ne_eqb b 92 h.3)
