-- Compact forms and BASE64 can stand in a string as they are.
use Rattle.std.proofs.Common.{ℕ, ◌+◌, ◌-◌, ◌≤◌, ◌<◌, ◌≡◌, refl, Bool, true, false, cond, List, [], ◌∷◌, map, arith, le-leb, ltb-true, ltb-false, ne_eqb, ltb, eqb}
use mathlib.Core.Option.{none, some}
use Rattle.primitives.specs.Bytes.{AllBytes}
use Rattle.primitives.specs.Base64.{letter, letter62, letter63, encoding, decoding, accepted}
use Rattle.primitives.specs.declared.base64.Alphabet.{Alphabet}
use Rattle.primitives.specs.declared.base64.Alphabet.TheVariants.{Standard, UrlSafe}
use Rattle.primitives.proofs.Each.{Each, none_left, one_more, each_append}
use Rattle.primitives.proofs.Base64Laws.{each_encoding, decode_encode}
use Rattle.receipt.specs.Form.{header, signed_form}
use Rattle.receipt.specs.Compact.{compact}
use Rattle.receipt.specs.declared.settings.Settings.{Settings}
use Rattle.receipt.specs.declared.entry.Entry.{Entry}
use Rattle.exports.specs.Text.{plain, every}
use Rattle.exports.proofs.Sized.{every_nil, every_one}

plain_is : (b : ℕ) → 32 ≤ b → b ≤ 126 → (b ≡ 34 → ⊥) → (b ≡ 92 → ⊥) → plain b ≡ true
unfolding plain
plain_is b l m q s = rw (le-leb 32 b l, le-leb b 126 m, ne_eqb b 34 q, ne_eqb b 92 s)

letter_plain : (a : Alphabet) (k : ℕ) → k < 64 → plain (letter a k) ≡ true
unfolding letter
letter_plain a k h = first (ltb k 26) refl
  where
    others : (a : Alphabet) (t : Bool) → plain (cond t (letter62 a) (letter63 a)) ≡ true
    others Standard true = plain_is 43 (omega arith) (omega arith) (λ e. omega arith) (λ e. omega arith)
    others Standard false = plain_is 47 (omega arith) (omega arith) (λ e. omega arith) (λ e. omega arith)
    others UrlSafe true = plain_is 45 (omega arith) (omega arith) (λ e. omega arith) (λ e. omega arith)
    others UrlSafe false = plain_is 95 (omega arith) (omega arith) (λ e. omega arith) (λ e. omega arith)

    third : (t : Bool) → ltb k 62 ≡ t → 52 ≤ k → plain (cond t (48 + (k - 52)) (cond (eqb k 62) (letter62 a) (letter63 a))) ≡ true
    third true e l =
        let u = ltb-true k 62 e in
        plain_is (48 + (k - 52)) (omega arith) (omega arith) (λ z. omega arith) (λ z. omega arith)
    third false e l = others a (eqb k 62)

    second : (t : Bool) → ltb k 52 ≡ t → 26 ≤ k → plain (cond t (97 + (k - 26)) (cond (ltb k 62) (48 + (k - 52)) (cond (eqb k 62) (letter62 a) (letter63 a)))) ≡ true
    second true e l =
        let u = ltb-true k 52 e in
        plain_is (97 + (k - 26)) (omega arith) (omega arith) (λ z. omega arith) (λ z. omega arith)
    second false e l = third (ltb k 62) refl (ltb-false k 52 e)

    first : (t : Bool) → ltb k 26 ≡ t
        → plain (cond t (65 + k) (cond (ltb k 52) (97 + (k - 26)) (cond (ltb k 62) (48 + (k - 52)) (cond (eqb k 62) (letter62 a) (letter63 a))))) ≡ true
    first true e =
        let u = ltb-true k 26 e in
        plain_is (65 + k) (omega arith) (omega arith) (λ z. omega arith) (λ z. omega arith)
    first false e = second (ltb k 52) refl (ltb-false k 26 e)

each_plain : (a : Alphabet) (xs : List ℕ) → Each (λ b. plain b ≡ true) (encoding a xs)
each_plain a xs = each_encoding a (λ b. plain b ≡ true) (letter_plain a) (plain_is 61 (omega arith) (omega arith) (λ e. omega arith) (λ e. omega arith)) xs

every_each : {xs : List ℕ} → Each (λ b. plain b ≡ true) xs → every plain xs ≡ true
every_each none_left = every_nil plain
every_each (one_more h p) = every_one plain _ _ h (every_each p)

pub plain_encoding : (a : Alphabet) (xs : List ℕ) → every plain (encoding a xs) ≡ true
plain_encoding a xs = every_each (each_plain a xs)

dot_plain : Each (λ b. plain b ≡ true) (46 ∷ [])
dot_plain = one_more (plain_is 46 (omega arith) (omega arith) (λ e. omega arith) (λ e. omega arith)) none_left

pub plain_compact : (s : Settings) (n : ℕ) (e : Entry) → every plain (compact s n e) ≡ true
unfolding compact signed_form
plain_compact s n e =
    every_each (each_append (each_append (each_append (each_append (each_plain UrlSafe header) dot_plain) (each_plain UrlSafe _)) dot_plain) (each_plain UrlSafe _))

pub plain_each : {A : Type 0} (f : A → List ℕ) → ((x : A) → every plain (f x) ≡ true) → (xs : List A) → every (every plain) (map f xs) ≡ true
plain_each f h [] = every_nil (every plain)
plain_each f h (x ∷ xs) = every_one (every plain) (f x) (map f xs) (h x) (plain_each f h xs)

-- and what was written is canonical
decoded : (t : Bool) (xs ys : List ℕ) → cond t (some xs) none ≡ some ys → t ≡ true
decoded true xs ys e = refl
decoded false xs ys e = let z : ◌≡◌ {A = ℕ} 0 1 = cc in absurd (omega arith)

pub canonical_encoding : (xs : List ℕ) → AllBytes xs → accepted Standard (encoding Standard xs) ≡ true
unfolding decoding
canonical_encoding xs b = decoded (accepted Standard (encoding Standard xs)) _ xs (decode_encode Standard xs b)
