-- A string against a name: bytes are compared, and that decides what is spelled.
use Rattle.std.proofs.Common.{ℕ, suc, ◌<◌, ◌≡◌, refl, sym, ap, ◌∙◌, Bool, true, false, cond, ◌&&◌, List, [], ◌∷◌, ◌++◌, eqb, length, drop, get_or, arith, drop-cons, eq-eqb, ne_eqb, drop_of_length-le}
use Rattle.std.proofs.lemmas.Bool.{eqb-true, eqb-false, not-true}
use Rattle.std.specs.List.{starts_with}
use Rattle.std.proofs.lemmas.Slice.Eq.{starts_is}
use Rattle.std.proofs.lemmas.Bool.Decides.{Decides-eqb}
use Rattle.primitives.specs.Bytes.{same}
use Rattle.primitives.proofs.ByteLists.{same_true, same_refl}
use Rattle.exports.specs.Lexer.{content}
use Rattle.exports.specs.Shape.{certificate_name, issuers_name, receipts_name, group_name}
use Rattle.exports.specs.Places.{bare, spelling}
use Rattle.exports.specs.declared.walk.Name.{Name}
use Rattle.exports.specs.declared.walk.Name.TheVariants.{Certificate, Issuers, Receipts, Group}
use Rattle.exports.proofs.Lexing.{no_truth}

pub both : (a b : Bool) → (a && b) ≡ true → (a ≡ true) × (b ≡ true)
both true b e = (refl, e)
both false b e = no_truth e

differs : (b x : ℕ) (u v xs : List ℕ) (s t : Bool) → (x ≡ 61 → ⊥) → (b ≡ x → ⊥) → same (cond s [] (cond t (61 ∷ u) (b ∷ v))) (x ∷ xs) ≡ false
unfolding same
differs b x u v xs true t h n = refl
differs b x u v xs false true h n = rw (ne_eqb 61 x (λ e. h (sym e)))
differs b x u v xs false false h n = rw (ne_eqb b x n)

record Bare (x : ℕ) (xs : List ℕ) : Type 0 where
  pub quote : x ≡ 34 → ⊥
  pub backslash : x ≡ 92 → ⊥
  pub equals : x ≡ 61 → ⊥
  pub rest : bare xs ≡ true

bare_is : (x : ℕ) (xs : List ℕ) → bare (x ∷ xs) ≡ true → Bare x xs
unfolding bare
bare_is x xs e =
    let p = both _ _ e in
    let q = both _ _ p.0 in
    let r = both _ _ q.1 in
    record {
      quote = eqb-false x 34 (not-true _ q.0);
      backslash = eqb-false x 92 (not-true _ r.0);
      equals = eqb-false x 61 (not-true _ r.1);
      rest = p.1;
    }

-- ---- a name is spelled in one way

bare_content : (name rest : List ℕ) → bare name ≡ true → content (name ++ rest) 0 ≡ name ++ content rest 0
unfolding content
bare_content [] rest h = refl
bare_content (x ∷ xs) rest h =
    let b = bare_is x xs h in
    rw (ne_eqb x 34 b.quote, ne_eqb x 92 b.backslash, bare_content xs rest b.rest)

same_front : (name w : List ℕ) → same (name ++ w) name ≡ same w []
unfolding same
same_front [] w = refl
same_front (x ∷ xs) w = rw (eq-eqb x x refl) (same_front xs w)

pub spelled_end : (s name : List ℕ) → bare name ≡ true → s ≡ name ++ [] → same (content s 0) name ≡ true
unfolding content same
spelled_end s name h e = rw (e, bare_content name [] h, same_front name [])

pub spelled_before : (s name : List ℕ) (b : ℕ) (rest : List ℕ) → bare name ≡ true → s ≡ name ++ (b ∷ rest) → same (content s 0) name ≡ eqb b 34
unfolding content same
spelled_before s name b rest h e = rw (e, bare_content name (b ∷ rest) h, same_front name (content (b ∷ rest) 0)) (ends (eqb b 34) (eqb b 92))
  where
    ends : (q t : Bool) → same (cond q [] (cond t (61 ∷ content rest 5) (b ∷ content rest 0))) [] ≡ q
    ends true t = refl
    ends false true = refl
    ends false false = refl

pub spelled_not : (s name : List ℕ) → bare name ≡ true → ((rest : List ℕ) → s ≡ name ++ rest → ⊥) → same (content s 0) name ≡ false
unfolding content same
spelled_not s [] h n = absurd (n s refl)
spelled_not [] (x ∷ xs) h n = refl
spelled_not (b ∷ s) (x ∷ xs) h n = go (eqb b x) refl (λ m. spelled_not s xs (bare_is x xs h).rest m)
  where
    k : Bare x xs
    k = bare_is x xs h

    go : (t : Bool) → eqb b x ≡ t → (((rest : List ℕ) → s ≡ xs ++ rest → ⊥) → same (content s 0) xs ≡ false) → same (content (b ∷ s) 0) (x ∷ xs) ≡ false
    go true e ih =
        let q = eqb-true b x e in
        rw (q, ne_eqb x 34 k.quote, ne_eqb x 92 k.backslash, eq-eqb x x refl) (ih (λ rest r. n rest (λ t. q t ∷ r t)))
    go false e ih = differs b x _ _ xs (eqb b 34) (eqb b 92) k.equals (eqb-false b x e)

-- a string whose letters begin with the name spells it if the quote, or the end of the text, follows
pub spelled : (s name : List ℕ) (r : Bool) → bare name ≡ true → r ≡ starts_with eqb s name
    → (r ≡ false → same (content s 0) name ≡ false) × (r ≡ true → length s ≡ length name → same (content s 0) name ≡ true)
    × (r ≡ true → length name < length s → same (content s 0) name ≡ eqb (get_or s (length name) 0) 34)
spelled s name r h e =
    let i = starts_is Decides-eqb s name r e in (
      λ f. spelled_not s name h (λ rest q. no_truth (sym f ∙ i.1 rest q)),
      λ t l. spelled_end s name h (i.0 t ∙ ap (λ (x : List ℕ). name ++ x) (drop_of_length-le s (omega arith))),
      λ t l. spelled_before s name (get_or s (length name) 0) (drop (suc (length name)) s) h (i.0 t ∙ ap (λ (x : List ℕ). name ++ x) (drop-cons s (length name) 0 l)),
    )

-- ---- which name it is

pub name_yes : {w n : List ℕ} {r : Bool} → r ≡ same w n → r ≡ true → w ≡ n
name_yes {w} {n} e t = same_true w n (sym e ∙ t)

pub name_no : {w n : List ℕ} {r : Bool} → r ≡ same w n → r ≡ false → w ≡ n → ⊥
name_no {w} {n} e f q = no_truth (sym f ∙ e ∙ rw q (same_refl n))

pub name_none : {w : List ℕ} → (w ≡ certificate_name → ⊥) → (w ≡ issuers_name → ⊥) → (w ≡ receipts_name → ⊥) → (w ≡ group_name → ⊥) → (n : Name) → w ≡ spelling n → ⊥
name_none a b c d Certificate = a
name_none a b c d Issuers = b
name_none a b c d Receipts = c
name_none a b c d Group = d
