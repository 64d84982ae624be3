-- The escape stands for "=", and a backslash begins nothing else: a byte that stands neither between strings nor within an escape begins letters of a string.
use Rattle.std.proofs.Common.{ℕ, ◌≡◌, refl, sym, ◌∙◌, subst, true, false, List, [], ◌∷◌, ◌++◌, ◌⊎◌, inl, inr, arith}
use Rattle.primitives.specs.Text.{ascii}
use Rattle.primitives.proofs.Rows.{true-is-not-false}
use Rattle.exports.specs.Text.{Token, word, mark, blank, is_mark, plain, Inside, close, letter, escape, Tokens, end, space, sign, quoted}
use Rattle.exports.specs.Shape.{Element, Shape}
use Rattle.exports.specs.Letters.{EscapeExactly}

-- ---- where a byte stands

-- a byte that can only begin letters of a string
pub record Inner (x : ℕ) : Type 0 where
  pub blank : blank x ≡ false
  pub mark : is_mark x ≡ false
  pub quote : x ≡ 34 → ⊥
  pub u : x ≡ 117 → ⊥
  pub zero : x ≡ 48 → ⊥
  pub three : x ≡ 51 → ⊥
  pub d : x ≡ 100 → ⊥

-- letters of this string begin there, and other letters that spell the same can stand in their place
pub record Within (x : ℕ) (u a c rest : List ℕ) : Type 0 where
  pub content : List ℕ
  pub here : Inside (x ∷ u) content rest
  pub back : (v : List ℕ) → Inside v content rest → Inside (a ++ v) c rest

-- or it stands after the string
pub record After (x : ℕ) (u a c rest : List ℕ) : Type 0 where
  pub next : List ℕ
  pub is : rest ≡ next ++ (x ∷ u)
  pub back : (v : List ℕ) → Inside (a ++ v) c (next ++ v)

-- the letters that begin at a place of a text
pub record Spot (x : ℕ) (u a : List ℕ) (ts : List Token) : Type 0 where
  pub content : List ℕ
  pub rest : List ℕ
  pub here : Inside (x ∷ u) content rest
  pub back : (v : List ℕ) → Inside v content rest → Tokens (a ++ v) ts

no_list : (x : ℕ) (a u : List ℕ) → [] ≡ a ++ (x ∷ u) → ⊥
no_list x [] u e = let z : ◌≡◌ {A = ℕ} 0 1 = cc in omega arith
no_list x (y ∷ a) u e = let z : ◌≡◌ {A = ℕ} 0 1 = cc in omega arith

at_start : {x : ℕ} {u t c rest : List ℕ} → Inside t c rest → t ≡ x ∷ u → Within x u [] c rest
at_start {x} {u} {t} {c} {rest} p e = record { content = c; here = subst (λ (l : List ℕ). Inside l c rest) e p; back = λ v q. q }

module _ (x : ℕ) (u : List ℕ) (i : Inner x) where
  find_inside : {t c rest : List ℕ} → Inside t c rest → (a : List ℕ) → t ≡ a ++ (x ∷ u) → Within x u a c rest ⊎ After x u a c rest
  find_inside (close {rest}) [] e = let z : x ≡ 34 = cc in absurd (i.quote z)
  find_inside (close {rest}) (y ∷ a) e =
      let z : y ≡ 34 = cc in
      let r : rest ≡ a ++ (x ∷ u) = cc in
      inr (record { next = a; is = r; back = λ v. subst (λ (b : ℕ). Inside (b ∷ (a ++ v)) [] (a ++ v)) (sym z) close })
  find_inside (letter h p) [] e = inl (at_start (letter h p) e)
  find_inside (letter {b} {text} {content} {rest} h p) (y ∷ a) e =
      let z : b ≡ y = cc in
      let r : text ≡ a ++ (x ∷ u) = cc in
      more z (find_inside p a r)
    where
      more : b ≡ y → Within x u a content rest ⊎ After x u a content rest → Within x u (y ∷ a) (b ∷ content) rest ⊎ After x u (y ∷ a) (b ∷ content) rest
      more z (inl w) =
          inl (record { content = w.content; here = w.here; back = λ v q. subst (λ (k : ℕ). Inside (k ∷ (a ++ v)) (b ∷ content) rest) z (letter h (w.back v q)) })
      more z (inr w) =
          inr (record { next = w.next; is = w.is; back = λ v. subst (λ (k : ℕ). Inside (k ∷ (a ++ v)) (b ∷ content) (w.next ++ v)) z (letter h (w.back v)) })
  find_inside (escape p) [] e = inl (at_start (escape p) e)
  find_inside (escape p) (y₁ ∷ []) e = let z : x ≡ 117 = cc in absurd (i.u z)
  find_inside (escape p) (y₁ ∷ y₂ ∷ []) e = let z : x ≡ 48 = cc in absurd (i.zero z)
  find_inside (escape p) (y₁ ∷ y₂ ∷ y₃ ∷ []) e = let z : x ≡ 48 = cc in absurd (i.zero z)
  find_inside (escape p) (y₁ ∷ y₂ ∷ y₃ ∷ y₄ ∷ []) e = let z : x ≡ 51 = cc in absurd (i.three z)
  find_inside (escape p) (y₁ ∷ y₂ ∷ y₃ ∷ y₄ ∷ y₅ ∷ []) e = let z : x ≡ 100 = cc in absurd (i.d z)
  find_inside (escape {text} {content} {rest} p) (y₁ ∷ y₂ ∷ y₃ ∷ y₄ ∷ y₅ ∷ y₆ ∷ a) e =
      let r : text ≡ a ++ (x ∷ u) = cc in
      let s : (v : List ℕ) → 92 ∷ 117 ∷ 48 ∷ 48 ∷ 51 ∷ 100 ∷ (a ++ v) ≡ y₁ ∷ y₂ ∷ y₃ ∷ y₄ ∷ y₅ ∷ y₆ ∷ (a ++ v) = λ v. cc in
      more _ s (λ r' t q. escape q) (find_inside p a r)
    where
      more : (c : List ℕ) → ((v : List ℕ) → 92 ∷ 117 ∷ 48 ∷ 48 ∷ 51 ∷ 100 ∷ (a ++ v) ≡ y₁ ∷ y₂ ∷ y₃ ∷ y₄ ∷ y₅ ∷ y₆ ∷ (a ++ v))
          → ((r t : List ℕ) → Inside t content r → Inside (92 ∷ 117 ∷ 48 ∷ 48 ∷ 51 ∷ 100 ∷ t) c r)
          → Within x u a content rest ⊎ After x u a content rest
          → Within x u (y₁ ∷ y₂ ∷ y₃ ∷ y₄ ∷ y₅ ∷ y₆ ∷ a) c rest ⊎ After x u (y₁ ∷ y₂ ∷ y₃ ∷ y₄ ∷ y₅ ∷ y₆ ∷ a) c rest
      more c s step (inl w) =
          inl (record { content = w.content; here = w.here; back = λ v q. subst (λ (l : List ℕ). Inside l c rest) (s v) (step rest (a ++ v) (w.back v q)) })
      more c s step (inr w) =
          inr (record { next = w.next; is = w.is; back = λ v. subst (λ (l : List ℕ). Inside l c (w.next ++ v)) (s v) (step (w.next ++ v) (a ++ v) (w.back v)) })

  find : {t : List ℕ} {ts : List Token} → Tokens t ts → (a : List ℕ) → t ≡ a ++ (x ∷ u) → Spot x u a ts
  find end a e = absurd (no_list x a u e)
  find (space {b} {text} {ts} h p) [] e =
      let z : b ≡ x = cc in
      true-is-not-false (sym i.blank ∙ subst (λ (k : ℕ). blank k ≡ true) z h)
  find (space {b} {text} {ts} h p) (y ∷ a) e =
      let z : b ≡ y = cc in
      let r : text ≡ a ++ (x ∷ u) = cc in
      let s = find p a r in
      record { content = s.content; rest = s.rest; here = s.here; back = λ v q. subst (λ (k : ℕ). Tokens (k ∷ (a ++ v)) ts) z (space h (s.back v q)) }
  find (sign {b} {text} {ts} h p) [] e =
      let z : b ≡ x = cc in
      true-is-not-false (sym i.mark ∙ subst (λ (k : ℕ). is_mark k ≡ true) z h)
  find (sign {b} {text} {ts} h p) (y ∷ a) e =
      let z : b ≡ y = cc in
      let r : text ≡ a ++ (x ∷ u) = cc in
      let s = find p a r in
      record { content = s.content; rest = s.rest; here = s.here; back = λ v q. subst (λ (k : ℕ). Tokens (k ∷ (a ++ v)) (mark b ∷ ts)) z (sign h (s.back v q)) }
  find (quoted {text} {content} {rest} {ts} p q) [] e = let z : x ≡ 34 = cc in absurd (i.quote z)
  find (quoted {text} {content} {rest} {ts} p q) (y ∷ a) e =
      let z : 34 ≡ y = cc in
      let r : text ≡ a ++ (x ∷ u) = cc in
      go z (λ n l. find q n l) (find_inside p a r)
    where
      go : 34 ≡ y → ((n : List ℕ) → rest ≡ n ++ (x ∷ u) → Spot x u n ts) → Within x u a content rest ⊎ After x u a content rest → Spot x u (y ∷ a) (word content ∷ ts)
      go z onward (inl w) =
          record {
            content = w.content;
            rest = rest;
            here = w.here;
            back = λ v l. subst (λ (k : ℕ). Tokens (k ∷ (a ++ v)) (word content ∷ ts)) z (quoted (w.back v l) q);
          }
      go z onward (inr w) =
          let s = onward w.next w.is in
          record {
            content = s.content;
            rest = s.rest;
            here = s.here;
            back = λ v l. subst (λ (k : ℕ). Tokens (k ∷ (a ++ v)) (word content ∷ ts)) z (quoted (w.back v) (s.back v l));
          }

-- ---- "=" and the backslash

equals_inner : Inner 61
unfolding blank is_mark
equals_inner =
    record {
      blank = refl;
      mark = refl;
      quote = λ e. omega (arith, e);
      u = λ e. omega (arith, e);
      zero = λ e. omega (arith, e);
      three = λ e. omega (arith, e);
      d = λ e. omega (arith, e);
    }

backslash_inner : Inner 92
unfolding blank is_mark
backslash_inner =
    record {
      blank = refl;
      mark = refl;
      quote = λ e. omega (arith, e);
      u = λ e. omega (arith, e);
      zero = λ e. omega (arith, e);
      three = λ e. omega (arith, e);
      d = λ e. omega (arith, e);
    }

backslash_no_letter : plain 92 ≡ false
unfolding plain
backslash_no_letter = refl

equals_letter : plain 61 ≡ true
unfolding plain
equals_letter = refl

pub escape_exactly : EscapeExactly
unfolding ascii
escape_exactly = record { same = λ a b es. (to a b es, from a b es); only = only }
  where
    -- a "=" in a string, written as the escape
    to_escape : {t c rest : List ℕ} → Inside t c rest → (b : List ℕ) → t ≡ 61 ∷ b → Inside (92 ∷ 117 ∷ 48 ∷ 48 ∷ 51 ∷ 100 ∷ b) c rest
    to_escape close b e = let z : ◌≡◌ {A = ℕ} 34 61 = cc in absurd (omega (arith, z))
    to_escape (letter {b = y} {text} {content} {rest} h p) b e =
        let z : 61 ≡ y = cc in
        let r : text ≡ b = cc in
        subst (λ (k : ℕ). Inside (92 ∷ 117 ∷ 48 ∷ 48 ∷ 51 ∷ 100 ∷ b) (k ∷ content) rest) z (escape (subst (λ (l : List ℕ). Inside l content rest) r p))
    to_escape (escape p) b e = let z : ◌≡◌ {A = ℕ} 92 61 = cc in absurd (omega (arith, z))

    -- after a backslash stand the other five, and the six spell "="
    of_backslash : {t c rest : List ℕ} → Inside t c rest → (b : List ℕ) → t ≡ 92 ∷ b
        → (more : List ℕ) × (b ≡ 117 ∷ 48 ∷ 48 ∷ 51 ∷ 100 ∷ more) × Inside (61 ∷ more) c rest
    of_backslash close b e = let z : ◌≡◌ {A = ℕ} 34 92 = cc in absurd (omega (arith, z))
    of_backslash (letter {b = y} h p) b e =
        let z : y ≡ 92 = cc in
        true-is-not-false (sym backslash_no_letter ∙ subst (λ (k : ℕ). plain k ≡ true) z h)
    of_backslash (escape {text} {content} {rest} p) b e =
        let r : b ≡ 117 ∷ 48 ∷ 48 ∷ 51 ∷ 100 ∷ text = cc in
        (text, r, letter equals_letter p)

    to : (a b : List ℕ) (es : List Element) → Shape (a ++ (ascii "=" ++ b)) es → Shape (a ++ (ascii "\\u003d" ++ b)) es
    to a b es s =
        let p = find 61 b equals_inner s.spelled a refl in
        record { order = s.order; same = s.same; spelled = p.back (92 ∷ 117 ∷ 48 ∷ 48 ∷ 51 ∷ 100 ∷ b) (to_escape p.here b refl) }

    from : (a b : List ℕ) (es : List Element) → Shape (a ++ (ascii "\\u003d" ++ b)) es → Shape (a ++ (ascii "=" ++ b)) es
    from a b es s =
        let p = find 92 (117 ∷ 48 ∷ 48 ∷ 51 ∷ 100 ∷ b) backslash_inner s.spelled a refl in
        let q = of_backslash p.here (117 ∷ 48 ∷ 48 ∷ 51 ∷ 100 ∷ b) refl in
        let r : q.0 ≡ b = tail_of q.0 b (sym q.1) in
        record { order = s.order; same = s.same; spelled = p.back (61 ∷ b) (subst (λ (l : List ℕ). Inside (61 ∷ l) p.content p.rest) r q.2) }
      where
        tail_of : (l b : List ℕ) → 117 ∷ 48 ∷ 48 ∷ 51 ∷ 100 ∷ l ≡ 117 ∷ 48 ∷ 48 ∷ 51 ∷ 100 ∷ b → l ≡ b
        tail_of l b e = cc

    only : (a b : List ℕ) (es : List Element) → Shape (a ++ (ascii "\\" ++ b)) es → (rest : List ℕ) × (b ≡ ascii "u003d" ++ rest)
    only a b es s =
        let p = find 92 b backslash_inner s.spelled a refl in
        let q = of_backslash p.here b refl in
        (q.0, q.1)
