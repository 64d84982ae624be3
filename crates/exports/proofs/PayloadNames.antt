-- What a payload names, as its tests are asked one after the other.
use Rattle.std.proofs.lemmas.List.{length-replicate, take-append-le}
use mathlib.Core.Option.{some}
use mathlib.Core.Bool.{and-false}
use lib.Pointwise.{pointwise}
use Rattle.std.proofs.lemmas.Bool.Decides.{nat_tests}
use Rattle.std.proofs.Common.{nat_eq, ℕ, ◌-◌, ◌≤◌, ◌<◌, ◌≡◌, refl, sym, ap, ◌∙◌, Bool, true, false, cond, List, [], ◌∷◌, arith, eq-eqb, ne_eqb, eqb, length, take, drop, get_or, replicate, length-append, length-take, drop_of_length-le, take-take, get_or-take}
use lib.ListN.{get_or-append}
use Rattle.primitives.specs.Text.{ascii}
use Rattle.primitives.specs.Bytes.{same}
use Rattle.primitives.proofs.ByteLists.{same_length}
use Rattle.primitives.proofs.Writing.{drop_three}
use Rattle.receipt.specs.Texts.{separator, beginning}
use Rattle.receipt.specs.Form.{first_at}
use Rattle.receipt.specs.Line.{count_of}
use Rattle.receipt.specs.Separated.{after, skip}
use Rattle.receipt.specs.Settings.{name_of, settings_good}
use Rattle.receipt.specs.declared.settings.Name.{Name}
use Rattle.receipt.specs.declared.settings.Settings.{Settings}
use Rattle.exports.specs.Naming.{field_of, settings_in, payload_names, not_named, named_by}
use Rattle.exports.specs.Naming.{Named}
use Rattle.exports.specs.Running.{as_named}
use Rattle.std.specs.Bool.{then_some}

abbrev named_as : Settings → Named
named_as s = record { good = true; settings = s }

-- ---- a field as a name

pub name_long : (f : List ℕ) → length (name_of f).bytes ≡ 32
unfolding name_of
name_long f =
    omega (arith, length-append (take 32 f) (replicate (32 - length f) 0), length-take 32 f, length-replicate {A = ℕ} (32 - length f) 0)

name_byte : (f : List ℕ) (i : ℕ) → i < length f → i < 32 → get_or (name_of f).bytes i 0 ≡ get_or f i 0
unfolding name_of
name_byte f i h k =
    get_or-append (take 32 f) (replicate (32 - length f) 0) 0 i (omega (arith, length-take 32 f)) ∙ get_or-take 32 f i 0 k

name_front : (f : List ℕ) → length f ≡ 6 → take 3 (name_of f).bytes ≡ take 3 f
unfolding name_of
name_front f l =
    take-append-le 3 (take 32 f) (replicate (32 - length f) 0) (omega (arith, length-take 32 f)) ∙ take-take 3 32 f (omega arith)

-- ---- the beginning and the first field

-- without the "_"
pub start : List ℕ
start = 82 ∷ 49 ∷ 45 ∷ []

starts : (p : List ℕ) → get_or p 0 0 ≡ separator → length (field_of 1 p) ≡ 6 → same (take 4 p) beginning ≡ same (take 3 (field_of 1 p)) start
unfolding field_of skip after same beginning ascii start
starts [] e l = absurd (omega arith)
starts (x ∷ q) e l = rw s (ap (λ (t : List ℕ). same t start) (sym (take-take 3 (first_at separator q) q (omega (arith, length-take (first_at separator q) q, rw s at l)))))
  where
    s : eqb x separator ≡ true
    s = eq-eqb x separator e

unmarked : (s : List ℕ) → (get_or s 0 0 ≡ separator → ⊥) → same (take 4 s) beginning ≡ false
unfolding same beginning ascii
unmarked [] k = refl
unmarked (x ∷ s) k = rw (ne_eqb x separator k)

eqb_turn : (a b : ℕ) → eqb a b ≡ eqb b a
eqb_turn a b = grind (arith, nat_tests)

-- the start of an array, as the code compares it
pub starts_same : (xs : List ℕ) → 3 ≤ length xs → pointwise nat_eq (82 ∷ 49 ∷ 45 ∷ []) (take 3 xs) ≡ same (take 3 xs) (82 ∷ 49 ∷ 45 ∷ [])
unfolding same
starts_same [] h = absurd (omega arith)
starts_same (x ∷ []) h = absurd (omega arith)
starts_same (x ∷ y ∷ []) h = absurd (omega arith)
starts_same (x ∷ y ∷ z ∷ xs) h = rw (eqb_turn 82 x, eqb_turn 49 y, eqb_turn 45 z)

-- ---- the tests, one after the other

module _ (p : List ℕ) where
  pub names_not : payload_names p ≡ false → not_named ≡ named_by (some p)
  names_not e = sym (ap (λ (t : Bool). cond t (named_as (settings_in p)) not_named) e)

  pub names_short : {n : ℕ} → n ≡ length p → n < 4 → payload_names p ≡ false
  unfolding payload_names beginning ascii
  names_short e h = rw (same_length (take 4 p) beginning (λ q. omega (arith, e, q, length-take 4 p)))

  pub names_unmarked : {b : ℕ} → b ≡ get_or p 0 0 → (b ≡ separator → ⊥) → payload_names p ≡ false
  unfolding payload_names
  names_unmarked e n = rw (unmarked p (λ q. n (e ∙ q)))

  abbrev begins : Bool
  begins = same (take 4 p) beginning

  abbrev twelve : Bool
  twelve = eqb (count_of separator p) 12

  abbrev six : Bool
  six = eqb (length (field_of 1 p)) 6

  pub names_uncounted : {count : ℕ} → count ≡ count_of separator p → (count ≡ 12 → ⊥) → payload_names p ≡ false
  unfolding payload_names
  names_uncounted e n = rw (ne_eqb (count_of separator p) 12 (λ q. n (e ∙ q)), and-false begins)

  module _ {first : Name} (e : first ≡ name_of (field_of 1 p)) where
    pub first_long : length first.bytes ≡ 32
    first_long = ap (λ (n : Name). length n.bytes) e ∙ name_long (field_of 1 p)

    first_len : first.len ≡ length (field_of 1 p)
    unfolding name_of
    first_len = ap (λ (n : Name). n.len) e

    pub names_unsized : (first.len ≡ 6 → ⊥) → payload_names p ≡ false
    unfolding payload_names
    names_unsized n = rw (ne_eqb (length (field_of 1 p)) 6 (λ q. n (first_len ∙ q)), and-false twelve, and-false begins)

    module _ (l : first.len ≡ 6) {b : ℕ} (q : b ≡ get_or p 0 0) (m : b ≡ separator) where
      sized : length (field_of 1 p) ≡ 6
      sized = sym first_len ∙ l

      first_starts : begins ≡ same (take 3 first.bytes) (82 ∷ 49 ∷ 45 ∷ [])
      unfolding start
      first_starts =
          starts p (sym q ∙ m) sized
          ∙ ap (λ (t : List ℕ). same t start) (sym (ap (λ (n : Name). take 3 n.bytes) e ∙ name_front (field_of 1 p) sized))

      module _ {r : Bool} (g : r ≡ same (take 3 first.bytes) (82 ∷ 49 ∷ 45 ∷ [])) where
        pub names_unstarted : r ≡ false → payload_names p ≡ false
        unfolding payload_names
        names_unstarted t = rw (first_starts ∙ sym g ∙ t)

        module _ (t' : r ≡ true) {id serial : Name} (i : id ≡ name_of (field_of 2 p)) (k : serial ≡ name_of (field_of 11 p)) where
          abbrev found : Settings
          found = record { csp = get_or first.bytes 3 0 ∷ get_or first.bytes 4 0 ∷ get_or first.bytes 5 0 ∷ []; id = id; serial = serial }

          byte : (j : ℕ) → j < 6 → get_or first.bytes j 0 ≡ get_or (field_of 1 p) j 0
          byte j h = ap (λ (n : Name). get_or n.bytes j 0) e ∙ name_byte (field_of 1 p) j (omega (arith, sized)) (omega arith)

          csp_is : found.csp ≡ drop 3 (field_of 1 p)
          csp_is =
              let z : length (field_of 1 p) ≤ 6 = omega (arith, sized) in
              (λ j. byte 3 (omega arith) j ∷ byte 4 (omega arith) j ∷ byte 5 (omega arith) j ∷ [])
              ∙ ap (λ (t : List ℕ). get_or (field_of 1 p) 3 0 ∷ get_or (field_of 1 p) 4 0 ∷ get_or (field_of 1 p) 5 0 ∷ t) (sym (drop_of_length-le (field_of 1 p) z))
              ∙ sym (drop_three (field_of 1 p) 3 (omega (arith, sized)))

          found_is : found ≡ settings_in p
          unfolding settings_in
          found_is = λ j. record { csp = csp_is j; id = i j; serial = k j }

          pub names_last : {count : ℕ} → count ≡ count_of separator p → count ≡ 12 → {v : Bool} → v ≡ settings_good found → as_named (then_some v found) ≡ named_by (some p)
          unfolding payload_names
          names_last h o {v} d = go v d
            where
              is : (t : Bool) → t ≡ settings_good found → payload_names p ≡ t
              is t e = rw (first_starts ∙ sym g ∙ t', eq-eqb (count_of separator p) 12 (sym h ∙ o), eq-eqb (length (field_of 1 p)) 6 sized, sym (e ∙ ap settings_good found_is))

              go : (t : Bool) → t ≡ settings_good found → as_named (then_some t found) ≡ named_by (some p)
              go true e = ap (λ (s : Settings). named_as s) found_is ∙ sym (ap (λ (u : Bool). cond u (named_as (settings_in p)) not_named) (is true e))
              go false e = sym (ap (λ (u : Bool). cond u (named_as (settings_in p)) not_named) (is false e))
