-- An element: three members with a name each, in any order.
use Rattle.std.proofs.lemmas.List.{length-map}
use Rattle.std.proofs.Common.{ℕ, ◌+◌, ◌<◌, ◌≤◌, ◌≡◌, refl, sym, ap, ◌∙◌, Bool, true, false, cond, List, [], ◌∷◌, ◌++◌, map, append_assoc, length, arith}
use Rattle.std.specs.Prelude.{Option, None, Some}
use Rattle.std.specs.Option.{option_map}
use Rattle.std.specs.List.{find}
use Rattle.exports.specs.Text.{Token, mark}
use Rattle.exports.specs.Shape.{string, strings, Member, certificate, issuers, receipts, value_of, certificates_of, issuers_of, receipts_of, Written, object, written}
use Rattle.exports.specs.Places.{from, Marked, Absent, title, led, MemberAt, is_name, place_of, three_places, places_of, ElementAt, ElementRead}
use Rattle.exports.specs.declared.walk.Name.{Name}
use Rattle.exports.specs.declared.walk.Name.TheVariants.{Certificate, Issuers, Receipts}
use Rattle.exports.specs.declared.shape.Value.{Value}
use Rattle.exports.specs.declared.shape.Places.{Places}
use Rattle.exports.proofs.Tokening.{nil_cons, head_is, tail_is}
use Rattle.exports.proofs.Arrays.{Opens}

-- ---- members by their name

-- the values with a name among members, as tokens
unfoldable values_of : Name → List Member → List (List Token)
values_of n [] = []
values_of n (m ∷ ms) = cond (is_name (title m) n) (value_of m ∷ values_of n ms) (values_of n ms)

certificates_are : (ms : List Member) → values_of Certificate ms ≡ map string (certificates_of ms)
unfolding values_of certificates_of value_of
certificates_are [] = refl
certificates_are (certificate w ∷ ms) = ap (λ (l : List (List Token)). string w ∷ l) (certificates_are ms)
certificates_are (issuers ws ∷ ms) = certificates_are ms
certificates_are (receipts ws ∷ ms) = certificates_are ms

issuers_are : (ms : List Member) → values_of Issuers ms ≡ map strings (issuers_of ms)
unfolding values_of issuers_of value_of
issuers_are [] = refl
issuers_are (certificate w ∷ ms) = issuers_are ms
issuers_are (issuers ws ∷ ms) = ap (λ (l : List (List Token)). strings ws ∷ l) (issuers_are ms)
issuers_are (receipts ws ∷ ms) = issuers_are ms

receipts_are : (ms : List Member) → values_of Receipts ms ≡ map strings (receipts_of ms)
unfolding values_of receipts_of value_of
receipts_are [] = refl
receipts_are (certificate w ∷ ms) = receipts_are ms
receipts_are (issuers ws ∷ ms) = receipts_are ms
receipts_are (receipts ws ∷ ms) = ap (λ (l : List (List Token)). strings ws ∷ l) (receipts_are ms)

-- three members with three names: one of each
count : (ms : List Member) → length (certificates_of ms) + length (issuers_of ms) + length (receipts_of ms) ≡ length ms
unfolding certificates_of issuers_of receipts_of
count [] = refl
count (certificate w ∷ ms) = omega (arith, count ms)
count (issuers ws ∷ ms) = omega (arith, count ms)
count (receipts ws ∷ ms) = omega (arith, count ms)

single : {A : Type 0} (xs : List A) → length xs ≡ 1 → (x : A) × (xs ≡ x ∷ [])
single [] e = absurd (omega arith)
single (x ∷ []) e = (x, refl)
single (x ∷ (y ∷ xs)) e = absurd (omega arith)

-- ---- members that were found

record Here (text : List ℕ) (v : Value) (m : Member) : Type 0 where
  pub name : v.name ≡ title m
  pub rest : List Token
  pub is : from text v.place ≡ value_of m ++ rest
  pub inside : v.place ≤ length text

data Matched (text : List ℕ) : List Value → List Member → Type 0 where
  none : Matched text [] []
  more : {v : Value} {vs : List Value} {m : Member} {ms : List Member} → Here text v m → Matched text vs ms → Matched text (v ∷ vs) (m ∷ ms)

place_in : Name → List Value → Option ℕ
place_in n vs = option_map (λ v. v.place) (find (λ v. is_name v.name n) vs)

-- the first value with a name stands at its place
record Standing (text : List ℕ) (t : List Token) (r : Option ℕ) : Type 0 where
  pub place : ℕ
  pub found : r ≡ Some place
  pub rest : List Token
  pub is : from text place ≡ t ++ rest
  pub inside : place ≤ length text

find_value : {text : List ℕ} {vs : List Value} {ms : List Member} (n : Name) → Matched text vs ms → (t : List Token) (ts : List (List Token)) → values_of n ms ≡ t ∷ ts → Standing text t (place_in n vs)
unfolding values_of place_in
find_value n none t ts e = absurd (nil_cons e)
find_value {text} n (more {v = v} {vs = vs} {m = m} {ms = ms} h k) t ts e = go (is_name (title m) n) refl e (find_value n k t ts)
  where
    go : (b : Bool) → is_name (title m) n ≡ b → cond b (value_of m ∷ values_of n ms) (values_of n ms) ≡ t ∷ ts → (values_of n ms ≡ t ∷ ts → Standing text t (place_in n vs)) → Standing text t (place_in n (v ∷ vs))
    go true q s ih =
        record {
          place = v.place;
          found = rw (h.name, q);
          rest = h.rest;
          is = h.is ∙ ap (λ (l : List Token). l ++ h.rest) (head_is s);
          inside = h.inside;
        }
    go false q s ih =
        let i = ih s in
        record { place = i.place; found = rw (h.name, q) i.found; rest = i.rest; is = i.is; inside = i.inside }

-- and where a place was found there is such a value
some_value : {text : List ℕ} {vs : List Value} {ms : List Member} (n : Name) {p : ℕ} → Matched text vs ms → place_in n vs ≡ Some p → 0 < length (values_of n ms)
unfolding values_of place_in
some_value n none h = cc
some_value n {p} (more {v = v} {vs = vs} {m = m} {ms = ms} k rest) h = go (is_name (title m) n) refl (some_value n rest)
  where
    go : (b : Bool) → is_name (title m) n ≡ b → (place_in n vs ≡ Some p → 0 < length (values_of n ms)) → 0 < length (cond b (value_of m ∷ values_of n ms) (values_of n ms))
    go true q ih = omega arith
    go false q ih = ih (rw (k.name, q) at h)

-- ---- three members, and the brackets

pub object_is : (a b c : Member) (rest : List Token) → object a b c ++ rest ≡ led 123 a ++ (led 44 b ++ (led 44 c ++ (mark 125 ∷ rest)))
unfolding object led
object_is a b c rest = simp append_assoc

some_is : {x y : ℕ} → Some x ≡ Some y → x ≡ y
some_is e = cc

some_none : {x : ℕ} → Some x ≡ None → ⊥
some_none e = cc

-- a place that was found is the one at which the value stands
module _ {text : List ℕ} {p : ℕ} {r : Option ℕ} {t : List Token} (f : r ≡ Some p) (s : Standing text t r) where
  same_place : s.place ≡ p
  same_place = some_is (sym s.found ∙ f)

  at_place : (rest : List Token) × (from text p ≡ t ++ rest)
  at_place = (s.rest, ap (from text) (sym same_place) ∙ s.is)

  within : p ≤ length text
  within = omega (arith, same_place, s.inside)

module _ {text : List ℕ} {at : ℕ} where
  no_element : ((x y z : Member) (rest : List Token) → from text at ≡ object x y z ++ rest → ⊥) → Absent written text at
  unfolding written
  no_element h = record { none = λ w rest q. h w.first w.second w.third rest q }

  pub element_no_1 : Absent (led 123) text at → Absent written text at
  element_no_1 n = no_element (λ x y z rest q. n.none x _ (q ∙ object_is x y z rest))

  module _ {a : Value} (ra : MemberAt text at 123 a) where
    step_1 : (x y z : Member) (rest : List Token) → from text at ≡ object x y z ++ rest → from text a.next ≡ led 44 y ++ (led 44 z ++ (mark 125 ∷ rest))
    step_1 x y z rest q = ra.reads.complete x _ (q ∙ object_is x y z rest)

    pub element_no_2 : Absent (led 44) text a.next → Absent written text at
    element_no_2 n = no_element (λ x y z rest q. n.none y _ (step_1 x y z rest q))

    module _ {b : Value} (rb : MemberAt text a.next 44 b) where
      step_2 : (x y z : Member) (rest : List Token) → from text at ≡ object x y z ++ rest → from text b.next ≡ led 44 z ++ (mark 125 ∷ rest)
      step_2 x y z rest q = rb.reads.complete y _ (step_1 x y z rest q)

      pub element_no_3 : Absent (led 44) text b.next → Absent written text at
      element_no_3 n = no_element (λ x y z rest q. n.none z _ (step_2 x y z rest q))

      module _ {c : Value} (rc : MemberAt text b.next 44 c) where
        step_3 : (x y z : Member) (rest : List Token) → from text at ≡ object x y z ++ rest → from text c.next ≡ mark 125 ∷ rest
        step_3 x y z rest q = rc.reads.complete z _ (step_2 x y z rest q)

        pub element_no_4 : ((rest : List Token) → from text c.next ≡ mark 125 ∷ rest → ⊥) → Absent written text at
        element_no_4 n = no_element (λ x y z rest q. n rest (step_3 x y z rest q))

        here : {lead p : ℕ} {v : Value} (r : MemberAt text p lead v) (m : Member) (rest : List Token) → from text p ≡ led lead m ++ rest → Here text v m
        here r m rest q = let f = r.found m rest q in record { name = f.0; rest = rest; is = f.1; inside = r.place }

        matched : (x y z : Member) (rest : List Token) → from text at ≡ object x y z ++ rest → Matched text (a ∷ b ∷ c ∷ []) (x ∷ y ∷ z ∷ [])
        matched x y z rest q =
            more (here ra x _ (q ∙ object_is x y z rest)) (more (here rb y _ (step_1 x y z rest q)) (more (here rc z _ (step_2 x y z rest q)) none))

        -- the places of what is written there
        module _ (w : Written) (rest : List Token) (q : from text at ≡ written w ++ rest) where
          all : Matched text (a ∷ b ∷ c ∷ []) (w.first ∷ w.second ∷ w.third ∷ [])
          unfolding written
          all = matched w.first w.second w.third rest q

          find_1 : Standing text (string w.element.certificate) (place_of Certificate a b c)
          unfolding place_in
          find_1 = find_value Certificate all _ [] (certificates_are _ ∙ ap (map string) w.certificates)

          find_2 : Standing text (strings w.element.issuers) (place_of Issuers a b c)
          unfolding place_in
          find_2 = find_value Issuers all _ [] (issuers_are _ ∙ ap (map strings) w.issuer_lists)

          find_3 : Standing text (strings w.element.receipts) (place_of Receipts a b c)
          unfolding place_in
          find_3 = find_value Receipts all _ [] (receipts_are _ ∙ ap (map strings) w.receipt_lists)

        module _ {e : ℕ} (re : Marked 125 text c.next e) where
          x₁ : Member
          x₁ = ra.reads.sound.0

          x₂ : Member
          x₂ = rb.reads.sound.0

          x₃ : Member
          x₃ = rc.reads.sound.0

          -- the three members stand there
          stand : from text at ≡ object x₁ x₂ x₃ ++ from text e
          unfolding x₁ x₂ x₃
          stand =
              ra.reads.sound.1
              ∙ ap (λ (l : List Token). led 123 x₁ ++ l)
              (rb.reads.sound.1 ∙ ap (λ (l : List Token). led 44 x₂ ++ l) (rc.reads.sound.1 ∙ ap (λ (l : List Token). led 44 x₃ ++ l) re.is))
              ∙ sym (object_is x₁ x₂ x₃ (from text e))

          three : Matched text (a ∷ b ∷ c ∷ []) (x₁ ∷ x₂ ∷ x₃ ∷ [])
          three = matched x₁ x₂ x₃ (from text e) stand

          module _ {i j k : ℕ} (f₁ : place_of Certificate a b c ≡ Some i) (f₂ : place_of Issuers a b c ≡ Some j) (f₃ : place_of Receipts a b c ≡ Some k) where
            -- where all three names were found, each name once
            one_each : (w : Written) × (from text at ≡ written w ++ from text e)
            unfolding written place_in
            one_each =
                let ms = x₁ ∷ x₂ ∷ x₃ ∷ [] in
                let l₁ = some_value Certificate three f₁ in
                let l₂ = some_value Issuers three f₂ in
                let l₃ = some_value Receipts three f₃ in
                let m₁ : length (values_of Certificate ms) ≡ length (certificates_of ms) = ap length (certificates_are ms) ∙ length-map (certificates_of ms) string in
                let m₂ : length (values_of Issuers ms) ≡ length (issuers_of ms) = ap length (issuers_are ms) ∙ length-map (issuers_of ms) strings in
                let m₃ : length (values_of Receipts ms) ≡ length (receipts_of ms) = ap length (receipts_are ms) ∙ length-map (receipts_of ms) strings in
                let s₁ = single (certificates_of ms) (omega (arith, count ms)) in
                let s₂ = single (issuers_of ms) (omega (arith, count ms)) in
                let s₃ = single (receipts_of ms) (omega (arith, count ms)) in (
                  record {
                    element = record { certificate = s₁.0; issuers = s₂.0; receipts = s₃.0 };
                    first = x₁;
                    second = x₂;
                    third = x₃;
                    certificates = s₁.1;
                    issuer_lists = s₂.1;
                    receipt_lists = s₃.1;
                  },
                  stand,
                )

            full : ElementAt text at (record { certificate = i; issuers = j; receipts = k; next = e })
            unfolding written
            full =
                let w = one_each in
                record {
                  reads = record {
                    inside = re.inside;
                    onward = omega (arith, ra.reads.onward, rb.reads.onward, rc.reads.onward, re.onward);
                    sound = w;
                    complete = λ w rest q. tail_is (sym re.is ∙ step_3 w.first w.second w.third rest q);
                  };
                  found = λ w rest q. record { certificate = at_place f₁ (find_1 w rest q); issuers = at_place f₂ (find_2 w rest q); receipts = at_place f₃ (find_3 w rest q) };
                  certificate_inside = within f₁ (find_1 w.0 _ w.1);
                  issuers_inside = within f₂ (find_2 w.0 _ w.1);
                  receipts_inside = within f₃ (find_3 w.0 _ w.1);
                }

          pub element_found : (r : Option Places) → r ≡ places_of a b c e → ElementRead text at r
          unfolding places_of
          element_found r q = rw q (go (place_of Certificate a b c) (place_of Issuers a b c) (place_of Receipts a b c) refl refl refl)
            where
              go : (x y z : Option ℕ) → place_of Certificate a b c ≡ x → place_of Issuers a b c ≡ y → place_of Receipts a b c ≡ z → ElementRead text at (three_places x y z e)
              go None y z i j k = record { none = λ w rest h. some_none (sym (find_1 w rest h).found ∙ i) }
              go (Some x) None z i j k = record { none = λ w rest h. some_none (sym (find_2 w rest h).found ∙ j) }
              go (Some x) (Some y) None i j k = record { none = λ w rest h. some_none (sym (find_3 w rest h).found ∙ k) }
              go (Some x) (Some y) (Some z) i j k = full i j k

-- ---- the array of elements

pub written_opens : Opens written
unfolding written object
written_opens = record { differs = λ w r s e. let q = ap (λ (t : Token). t.kind) (head_is e) in omega arith }
