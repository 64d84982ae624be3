-- Names in any order, and blanks between tokens.
use Rattle.std.proofs.Common.{ℕ, ◌≡◌, refl, sym, ap, subst, true, List, [], ◌∷◌, ◌++◌, arith, length}
use Rattle.exports.specs.Text.{Token, blank, every, Inside, close, letter, escape, Tokens, end, space, sign, quoted}
use Rattle.exports.specs.Shape.{Member, certificate, issuers, receipts, certificates_of, issuers_of, receipts_of, Element}
use Rattle.exports.specs.Orders.{Order, szb, sbz, zsb, zbs, bsz, bzs, EachOnce, AnyOrder, BlanksBetween}
use Rattle.exports.proofs.Sized.{every_head, every_tail}

-- ---- names

-- the one item of a list
only : {A : Type 0} {x y : A} → x ∷ [] ≡ y ∷ [] → x ≡ y
only e = cc

once : (e : Element) {a b c : Member} → Order e a b c → EachOnce e a b c
unfolding certificates_of issuers_of receipts_of
once e szb = record { certificates = refl; issuers = refl; receipts = refl }
once e sbz = record { certificates = refl; issuers = refl; receipts = refl }
once e zsb = record { certificates = refl; issuers = refl; receipts = refl }
once e zbs = record { certificates = refl; issuers = refl; receipts = refl }
once e bsz = record { certificates = refl; issuers = refl; receipts = refl }
once e bzs = record { certificates = refl; issuers = refl; receipts = refl }

module _ (e : Element) where
  made : (P : List ℕ → List (List ℕ) → List (List ℕ) → Type 0) {w : List ℕ} {is rs : List (List ℕ)} → w ∷ [] ≡ e.certificate ∷ [] → is ∷ [] ≡ e.issuers ∷ [] → rs ∷ [] ≡ e.receipts ∷ []
      → P e.certificate e.issuers e.receipts → P w is rs
  made P {w} {is} {rs} x y z p =
      subst (λ (v : List ℕ). P v is rs) (sym (only x))
      (subst (λ (v : List (List ℕ)). P e.certificate v rs) (sym (only y)) (subst (λ (v : List (List ℕ)). P e.certificate e.issuers v) (sym (only z)) p))

  order : (a b c : Member) → EachOnce e a b c → Order e a b c
  unfolding certificates_of issuers_of receipts_of
  order (certificate w) (issuers is) (receipts rs) o = made (λ v y z. Order e (certificate v) (issuers y) (receipts z)) o.certificates o.issuers o.receipts szb
  order (certificate w) (receipts rs) (issuers is) o = made (λ v y z. Order e (certificate v) (receipts z) (issuers y)) o.certificates o.issuers o.receipts sbz
  order (issuers is) (certificate w) (receipts rs) o = made (λ v y z. Order e (issuers y) (certificate v) (receipts z)) o.certificates o.issuers o.receipts zsb
  order (issuers is) (receipts rs) (certificate w) o = made (λ v y z. Order e (issuers y) (receipts z) (certificate v)) o.certificates o.issuers o.receipts zbs
  order (receipts rs) (certificate w) (issuers is) o = made (λ v y z. Order e (receipts z) (certificate v) (issuers y)) o.certificates o.issuers o.receipts bsz
  order (receipts rs) (issuers is) (certificate w) o = made (λ v y z. Order e (receipts z) (issuers y) (certificate v)) o.certificates o.issuers o.receipts bzs
  order (certificate w) (certificate x) c o = absurd (two_certificates c o.issuers o.receipts)
    where
      two_certificates : (c : Member) → issuers_of (c ∷ []) ≡ e.issuers ∷ [] → receipts_of (c ∷ []) ≡ e.receipts ∷ [] → ⊥
      two_certificates (certificate v) p q = omega (arith, ap length p)
      two_certificates (issuers v) p q = omega (arith, ap length q)
      two_certificates (receipts v) p q = omega (arith, ap length p)
  order (certificate w) (issuers is) (certificate x) o = absurd (omega (arith, ap length o.receipts))
  order (certificate w) (issuers is) (issuers js) o = absurd (omega (arith, ap length o.receipts))
  order (certificate w) (receipts rs) (certificate x) o = absurd (omega (arith, ap length o.issuers))
  order (certificate w) (receipts rs) (receipts ss) o = absurd (omega (arith, ap length o.issuers))
  order (issuers is) (certificate w) (certificate x) o = absurd (omega (arith, ap length o.receipts))
  order (issuers is) (certificate w) (issuers js) o = absurd (omega (arith, ap length o.receipts))
  order (issuers is) (issuers js) (certificate w) o = absurd (omega (arith, ap length o.receipts))
  order (issuers is) (issuers js) (issuers ks) o = absurd (omega (arith, ap length o.receipts))
  order (issuers is) (issuers js) (receipts rs) o = absurd (omega (arith, ap length o.certificates))
  order (issuers is) (receipts rs) (issuers js) o = absurd (omega (arith, ap length o.certificates))
  order (issuers is) (receipts rs) (receipts ss) o = absurd (omega (arith, ap length o.certificates))
  order (receipts rs) (certificate w) (certificate x) o = absurd (omega (arith, ap length o.issuers))
  order (receipts rs) (certificate w) (receipts ss) o = absurd (omega (arith, ap length o.issuers))
  order (receipts rs) (issuers is) (issuers js) o = absurd (omega (arith, ap length o.certificates))
  order (receipts rs) (issuers is) (receipts ss) o = absurd (omega (arith, ap length o.certificates))
  order (receipts rs) (receipts ss) (certificate w) o = absurd (omega (arith, ap length o.issuers))
  order (receipts rs) (receipts ss) (issuers is) o = absurd (omega (arith, ap length o.certificates))
  order (receipts rs) (receipts ss) (receipts ts) o = absurd (omega (arith, ap length o.certificates))

pub any_order : AnyOrder
any_order e a b c = (order e a b c, once e)

-- ---- blanks

blanks_first : (s b : List ℕ) (us : List Token) → every blank s ≡ true → Tokens b us → Tokens (s ++ b) us
blanks_first [] b us h t = t
blanks_first (x ∷ s) b us h t = space (every_head blank x s h) (blanks_first s b us (every_tail blank x s h) t)

inside_more : {text content rest : List ℕ} (more : List ℕ) → Inside text content rest → Inside (text ++ more) content (rest ++ more)
inside_more more close = close
inside_more more (letter h i) = letter h (inside_more more i)
inside_more more (escape i) = escape (inside_more more i)

tokens_more : {a b : List ℕ} {ts us : List Token} → Tokens a ts → Tokens b us → Tokens (a ++ b) (ts ++ us)
tokens_more end t = t
tokens_more (space h a) t = space h (tokens_more a t)
tokens_more (sign h a) t = sign h (tokens_more a t)
tokens_more {b = b} (quoted i a) t = quoted (inside_more b i) (tokens_more a t)

pub blanks_between : BlanksBetween
blanks_between a s b ts us h x y = tokens_more x (blanks_first s b us h y)
