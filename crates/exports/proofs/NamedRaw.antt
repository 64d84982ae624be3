-- A receipt names the same settings as it lies in a JSON string and as it is spelled there: an escape has no ".", and no payload has one.
use Rattle.std.proofs.Common.{◌≤◌, ℕ, suc, ◌+◌, ◌-◌, ◌≡◌, refl, sym, ap, ◌∙◌, Bool, true, false, cond, ◌&&◌, List, ◌∷◌, ◌⊎◌, inl, inr, ⊎_elim, add-one, arith, ltb, eqb, length, take, drop}
use mathlib.Core.Bool.{and-false}
use mathlib.Core.Option.{Option, none, some}
use lib.Seq.{take-length}
use Rattle.primitives.specs.Bytes.{same}
use Rattle.primitives.specs.Base64.{digit, known, ended, accepted, decoding}
use Rattle.primitives.specs.declared.base64.Alphabet.TheVariants.{UrlSafe}
use Rattle.primitives.proofs.Rows.{both}
use Rattle.receipt.specs.Texts.{separator, dot, beginning}
use Rattle.receipt.specs.Form.{first_at, next_at}
use Rattle.receipt.specs.Line.{count_of}
use Rattle.receipt.specs.Settings.{settings_good}
use Rattle.receipt.proofs.Names.{good_settings}
use Rattle.exports.specs.Places.{Unescaped, nothing, letter, escape}
use Rattle.exports.specs.Naming.{Named, middle, field_of, settings_in, payload_names, not_named, named_by, named}

-- ---- the middle part

-- what stands before the first ".", and what after it
unfoldable pub upto : List ℕ → List ℕ
upto w = take (first_at dot w) w

unfoldable pub past : List ℕ → List ℕ
past w = drop (suc (first_at dot w)) w

pub middle_is : (w : List ℕ) → middle w ≡ upto (past w)
unfolding middle next_at upto past
middle_is w =
    let d : List ℕ = drop (first_at dot w + 1) w in
    let e : first_at dot w + 1 + first_at dot d - (first_at dot w + 1) ≡ first_at dot d = omega arith in
    ap (λ (n : ℕ). take n d) e ∙ ap (λ (n : ℕ). take (first_at dot (drop n w)) (drop n w)) (add-one (first_at dot w))

-- ---- as it lies and as it is spelled

pub past_both : {raw w : List ℕ} → Unescaped raw w → Unescaped (past raw) (past w)
unfolding past first_at
past_both nothing = nothing
past_both (letter {b} {raw} {w} p u) = go (past_both u) (eqb b dot)
  where
    go : Unescaped (drop (suc (first_at dot raw)) raw) (drop (suc (first_at dot w)) w) → (t : Bool)
        → Unescaped (drop (suc (cond t 0 (suc (first_at dot raw)))) (b ∷ raw)) (drop (suc (cond t 0 (suc (first_at dot w)))) (b ∷ w))
    go v true = u
    go v false = v
past_both (escape u) = past_both u

pub upto_both : {raw w : List ℕ} → Unescaped raw w → Unescaped (upto raw) (upto w)
unfolding upto first_at
upto_both nothing = nothing
upto_both (letter {b} {raw} {w} p u) = go (upto_both u) (eqb b dot)
  where
    go : Unescaped (take (first_at dot raw) raw) (take (first_at dot w) w) → (t : Bool)
        → Unescaped (take (cond t 0 (suc (first_at dot raw))) (b ∷ raw)) (take (cond t 0 (suc (first_at dot w))) (b ∷ w))
    go v true = nothing
    go v false = letter p v
upto_both (escape u) = escape (upto_both u)

pub count_both : {raw w : List ℕ} → Unescaped raw w → count_of dot raw ≡ count_of dot w
unfolding count_of
count_both nothing = refl
count_both (letter {b} {raw} {w} p u) = ap (λ (n : ℕ). cond (eqb b dot) (suc n) n) (count_both u)
count_both (escape u) = count_both u

-- equal, or both with a byte that is no letter of the alphabet
abbrev Foreign : List ℕ → List ℕ → Type 0
Foreign raw w = (known UrlSafe raw ≡ false) × (known UrlSafe w ≡ false)

foreign_more : (b : ℕ) (raw w : List ℕ) → Foreign raw w → Foreign (b ∷ raw) (b ∷ w)
unfolding known
foreign_more b raw w f = (rw f.0 (and-false (ltb (digit UrlSafe b) 64)), rw f.1 (and-false (ltb (digit UrlSafe b) 64)))

equal_or_foreign : {raw w : List ℕ} → Unescaped raw w → (raw ≡ w) ⊎ (Foreign raw w)
unfolding known digit
equal_or_foreign nothing = inl refl
equal_or_foreign (letter {b} {raw} {w} p u) = ⊎_elim (λ e. inl (ap (λ (l : List ℕ). b ∷ l) e)) (λ f. inr (foreign_more b raw w f)) (equal_or_foreign u)
equal_or_foreign (escape u) = inr (refl, refl)

foreign_none : (w : List ℕ) → known UrlSafe w ≡ false → decoding UrlSafe w ≡ none
unfolding decoding accepted
foreign_none w e = rw (take-length w, e, and-false (ended UrlSafe w))

decoding_both : {raw w : List ℕ} → Unescaped raw w → decoding UrlSafe raw ≡ decoding UrlSafe w
decoding_both {raw} {w} u =
    ⊎_elim (λ e. ap (decoding UrlSafe) e) (λ f. foreign_none raw f.0 ∙ sym (foreign_none w f.1)) (equal_or_foreign u)

pub named_raw : {raw w : List ℕ} → Unescaped raw w → named raw ≡ named w
unfolding named
named_raw {raw} {w} u =
    let d : decoding UrlSafe (middle raw) ≡ decoding UrlSafe (middle w) =
    ap (decoding UrlSafe) (middle_is raw) ∙ decoding_both (upto_both (past_both u)) ∙ sym (ap (decoding UrlSafe) (middle_is w)) in
    λ i. cond (eqb (count_both u i) 2) (named_by (d i)) not_named

-- ---- names that end within their arrays

pub record SmallNames (n : Named) : Type 0 where
  pub id : n.settings.id.len ≤ 32
  pub serial : n.settings.serial.len ≤ 32

small_none : SmallNames not_named
small_none = record { id = omega arith; serial = omega arith }

payload_good_lem : (p : List ℕ) → payload_names p ≡ true → settings_good (settings_in p) ≡ true
unfolding payload_names
payload_good_lem p e =
    let a = both (same (take 4 p) beginning) (eqb (count_of separator p) 12 && (eqb (length (field_of 1 p)) 6 && settings_good (settings_in p))) e in
    let b = both (eqb (count_of separator p) 12) (eqb (length (field_of 1 p)) 6 && settings_good (settings_in p)) a.1 in
    (both (eqb (length (field_of 1 p)) 6) (settings_good (settings_in p)) b.1).1

pub small_by : (o : Option (List ℕ)) → SmallNames (named_by o)
small_by none = small_none
small_by (some p) = go (payload_names p) refl
  where
    go : (t : Bool) → payload_names p ≡ t → SmallNames (cond t (record { good = true; settings = settings_in p }) not_named)
    go true e = let g = good_settings (settings_in p) (payload_good_lem p e) in record { id = g.id.most; serial = g.serial.most }
    go false e = small_none

pub named_small : (w : List ℕ) → SmallNames (named w)
unfolding named
named_small w = go (eqb (count_of dot w) 2)
  where
    go : (t : Bool) → SmallNames (cond t (named_by (decoding UrlSafe (middle w))) not_named)
    go true = small_by (decoding UrlSafe (middle w))
    go false = small_none
