-- Good parts of compact form and code.
use Rattle.std.proofs.lemmas.Bool.{lt-leb}
use Rattle.std.proofs.Common.{ℕ, ◌≤◌, ◌<◌, ◌≡◌, refl, sym, ap, ◌∙◌, Bool, true, false, cond, ◌&&◌, ◌||◌, List, arith, le-leb, leb-true, leb-false, eq-eqb, ne_eqb, eqb-true, leb, eqb, length, take, length-take}
use mathlib.Core.Bool.{and-false}
use mathlib.Core.Option.{Option, none, some}
use Rattle.std.specs.Cmp.Lexicographic.{pointwise}
use Rattle.primitives.specs.Bytes.{same}
use Rattle.primitives.proofs.ByteLists.{same_true, same_length}
use Rattle.primitives.proofs.Rows.{both}
use Rattle.receipt.specs.Payload.{longest_payload}
use Rattle.receipt.specs.Texts.{beginning}
use Rattle.receipt.specs.Form.{Parts, parts, payload_good, signature_good, parts_good, good_parts, failure_text}
use Rattle.receipt.specs.FormReading.{fitting}
use Rattle.receipt.specs.CodeLaws.{MadeOf, Exactly}
use Rattle.receipt.proofs.Texts.{beginning_long, failure_long}
use Rattle.receipt.proofs.Worded.{same_is, same_turned}

-- ---- the payload

module _ (p : List ℕ) where
  pub payload_short : length p < 4 → false ≡ payload_good p
  unfolding payload_good
  payload_short h = rw (lt-leb 4 (length p) h)

  pub payload_long : longest_payload < length p → false ≡ payload_good p
  unfolding payload_good
  payload_long h = rw (lt-leb (length p) longest_payload h) (sym (and-false (leb 4 (length p))))

  pub payload_mark : {r : Bool} {mark : List ℕ} → 4 ≤ length p → length p ≤ longest_payload → r ≡ same (take 4 p) mark → mark ≡ beginning → r ≡ payload_good p
  unfolding payload_good
  payload_mark h k e b = rw (le-leb 4 (length p) h, le-leb (length p) longest_payload k) (e ∙ ap (same (take 4 p)) b)

  pub payload_begins : {r : Bool} {mark : List ℕ} → length p ≤ longest_payload → mark ≡ beginning → r ≡ pointwise eqb mark (take (length mark) p) → r ≡ payload_good p
  unfolding payload_good
  payload_begins k b e =
      e ∙ (λ i. pointwise eqb (b i) (take (length (b i)) p)) ∙ (λ i. pointwise eqb beginning (take (beginning_long i) p))
      ∙ same_is beginning (take 4 p) ∙ same_turned beginning (take 4 p) ∙ go (leb 4 (length p)) refl
    where
      go : (t : Bool) → leb 4 (length p) ≡ t → same (take 4 p) beginning ≡ t && (leb (length p) longest_payload && same (take 4 p) beginning)
      go true q = rw (le-leb (length p) longest_payload k)
      go false q = same_length (take 4 p) beginning (λ f. omega (arith, f, beginning_long, length-take 4 p, leb-false 4 (length p) q))

  pub payload_most : payload_good p ≡ true → length p ≤ longest_payload
  unfolding payload_good
  payload_most e =
      leb-true (length p) longest_payload
      (both (leb (length p) longest_payload) (same (take 4 p) beginning) (both (leb 4 (length p)) (leb (length p) longest_payload && same (take 4 p) beginning) e).1).0

  pub payload_starts : payload_good p ≡ true → take 4 p ≡ beginning
  unfolding payload_good
  payload_starts e =
      same_true (take 4 p) beginning
      (both (leb (length p) longest_payload) (same (take 4 p) beginning) (both (leb 4 (length p)) (leb (length p) longest_payload && same (take 4 p) beginning) e).1).1

-- ---- the signature

module _ (s : List ℕ) where
  pub signature_whole : length s ≡ 64 → true ≡ signature_good s
  unfolding signature_good
  signature_whole e = rw (eq-eqb (length s) 64 e)

  pub signature_text_lem : {r : Bool} {text : List ℕ} → (length s ≡ 64 → ⊥) → text ≡ failure_text → r ≡ pointwise eqb s text → r ≡ signature_good s
  unfolding signature_good
  signature_text_lem n t e = rw (ne_eqb (length s) 64 n) (e ∙ same_is s _ ∙ ap (same s) t)

  pub signature_other : (length s ≡ 64 → ⊥) → (length s ≡ 34 → ⊥) → false ≡ signature_good s
  unfolding signature_good
  signature_other n m = rw (ne_eqb (length s) 64 n, same_length s failure_text (λ e. m (e ∙ failure_long)))

  pub signature_most : signature_good s ≡ true → length s ≤ 64
  unfolding signature_good
  signature_most e = go (eqb (length s) 64) refl e
    where
      go : (t : Bool) → eqb (length s) 64 ≡ t → t || same s failure_text ≡ true → length s ≤ 64
      go true q f = omega (arith, eqb-true (length s) 64 q)
      go false q f = omega (arith, ap length (same_true s failure_text f), failure_long)

module _ (p : Parts) (g : parts_good p ≡ true) where
  pub good_payload : length p.payload ≤ longest_payload
  good_payload = payload_most p.payload (both (payload_good p.payload) (signature_good p.signature) g).0

  pub good_signature : length p.signature ≤ 64
  good_signature = signature_most p.signature (both (payload_good p.payload) (signature_good p.signature) g).1

-- ---- parts from two texts that may be refused

pub good_some : (p : Parts) → parts_good p ≡ true → good_parts (some p.payload) (some p.signature) ≡ some p
unfolding good_parts
good_some p g = rw g

pub record Inverted (o₁ o₂ : Option (List ℕ)) (p : Parts) : Type 0 where
  pub payload : o₁ ≡ some p.payload
  pub signature : o₂ ≡ some p.signature
  pub good : parts_good p ≡ true

pub good_inverted : (o₁ o₂ : Option (List ℕ)) (p : Parts) → good_parts o₁ o₂ ≡ some p → Inverted o₁ o₂ p
unfolding good_parts
good_inverted none o₂ p e = let z : ◌≡◌ {A = ℕ} 0 1 = cc in absurd (omega arith)
good_inverted (some x) none p e = let z : ◌≡◌ {A = ℕ} 0 1 = cc in absurd (omega arith)
good_inverted (some x) (some y) p e = go (parts_good (parts x y)) refl e
  where
    go : (t : Bool) → parts_good (parts x y) ≡ t → cond t (some (parts x y)) none ≡ some p → Inverted (some x) (some y) p
    go true q f =
        let d : parts x y ≡ p = cc in
        record { payload = ap (λ (r : Parts). some r.payload) d; signature = ap (λ (r : Parts). some r.signature) d; good = ap parts_good (sym d) ∙ q }
    go false q f = let z : ◌≡◌ {A = ℕ} 0 1 = cc in absurd (omega arith)

-- reading into a buffer of the longest payload and one of 64 bytes, and then asking, gives the good parts

unsigned : (p : List ℕ) (o : Option (List ℕ)) → good_parts (some p) (fitting 64 o) ≡ good_parts (some p) o
unfolding good_parts
unsigned p none = refl
unsigned p (some s) = go (leb (length s) 64) refl
  where
    go : (t : Bool) → leb (length s) 64 ≡ t → good_parts (some p) (cond t (some s) none) ≡ cond (payload_good p && signature_good s) (some (parts p s)) none
    go true e = refl
    go false e =
        let h : 64 < length s = leb-false (length s) 64 e in
        rw (sym (signature_other s (λ q. absurd (omega arith)) (λ q. absurd (omega arith))), and-false (payload_good p))

-- only a signature of 64 bytes or fewer is good
pub fit_signature : (o₁ o₂ : Option (List ℕ)) → good_parts o₁ (fitting 64 o₂) ≡ good_parts o₁ o₂
unfolding good_parts
fit_signature none o₂ = refl
fit_signature (some p) o₂ = unsigned p o₂

-- and only a payload of the longest or less
pub fit_parts : (o₁ o₂ : Option (List ℕ)) → good_parts (fitting longest_payload o₁) (fitting 64 o₂) ≡ good_parts o₁ o₂
unfolding good_parts
fit_parts none o₂ = refl
fit_parts (some p) o₂ = go (leb (length p) longest_payload) refl
  where
    dropped : (o : Option (List ℕ)) → false ≡ payload_good p → none ≡ good_parts (some p) o
    dropped none e = refl
    dropped (some s) e = rw (sym e)

    go : (t : Bool) → leb (length p) longest_payload ≡ t → good_parts (cond t (some p) none) (fitting 64 o₂) ≡ good_parts (some p) o₂
    go true e = unsigned p o₂
    go false e = dropped o₂ (payload_long p (leb-false (length p) longest_payload e))

-- ---- exact readers

-- a reader that finds only the parts a text is made of, and finds them, is exact
pub exactly : (write : Parts → List ℕ) (text : List ℕ) (o : Option Parts) → ((p : Parts) → o ≡ some p → MadeOf write text p) → ((p : Parts) → MadeOf write text p → o ≡ some p)
    → Exactly write text o
exactly write text o only all = record { only = only; all = all; refused = λ e p w. clash p e (all p w); nothing = none_found o refl }
  where
    clash : (p : Parts) → o ≡ none → o ≡ some p → ⊥
    clash p e f = let z : ◌≡◌ {A = ℕ} 0 1 = cc in omega arith

    none_found : (q : Option Parts) → o ≡ q → ((p : Parts) → MadeOf write text p → ⊥) → o ≡ none
    none_found none e h = e
    none_found (some p) e h = absurd (h p (only p e))
