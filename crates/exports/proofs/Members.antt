-- A member: its name, and the value that belongs to the name.
use Rattle.std.proofs.Common.{ℕ, ◌<◌, ◌≤◌, ◌≡◌, refl, sym, ap, ap₂, ◌∙◌, cond, eqb, List, ◌∷◌, ◌++◌, length, arith}
use Rattle.std.specs.Prelude.{Some, None}
use Rattle.primitives.specs.Bytes.{same}
use Rattle.exports.specs.Text.{Token, mark, word}
use Rattle.exports.specs.Shape.{certificate_name, issuers_name, receipts_name, group_name, Member, certificate, issuers, receipts, name_of, value_of, member}
use Rattle.exports.specs.Places.{from, Marked, Absent, name_number, number_of, title, spelling, KeyedBy, ValueRead, led, MemberKeyedBy, MemberAt}
use Rattle.exports.specs.declared.walk.Key.{Key}
use Rattle.exports.specs.declared.walk.Name.{Name}
use Rattle.exports.specs.declared.walk.Name.TheVariants.{Certificate, Issuers, Receipts, Group}
use Rattle.exports.proofs.Tokening.{tail_is, word_is}

-- ---- names

pub number_is : (m : Member) → name_number (name_of m) ≡ number_of m
unfolding name_number name_of number_of same certificate_name issuers_name receipts_name group_name
number_is (certificate w) = refl
number_is (issuers ws) = refl
number_is (receipts ws) = refl

-- no two names are spelled alike
by_length : ℕ → Name
by_length n = cond (eqb n 18) Certificate (cond (eqb n 22) Issuers (cond (eqb n 14) Receipts Group))

length_tells : (n : Name) → by_length (length (spelling n)) ≡ n
unfolding by_length certificate_name issuers_name receipts_name group_name
length_tells Certificate = refl
length_tells Issuers = refl
length_tells Receipts = refl
length_tells Group = refl

spelled_once : (m n : Name) → spelling m ≡ spelling n → m ≡ n
spelled_once m n e = sym (length_tells m) ∙ ap (λ (w : List ℕ). by_length (length w)) e ∙ length_tells n

pub key_there : {text : List ℕ} {at : ℕ} {k : Key} → KeyedBy text at k → {n : Name} {rest : List Token} → from text at ≡ word (spelling n) ∷ mark 58 ∷ rest → (k.name ≡ n) × (from text k.next ≡ rest)
key_there d q = let e = sym d.is ∙ q in (spelled_once _ _ (word_is e), tail_is (tail_is e))

pub name_is : (m : Member) → name_of m ≡ spelling (title m)
unfolding name_of
name_is (certificate w) = refl
name_is (issuers ws) = refl
name_is (receipts ws) = refl

-- ---- values

module _ (text : List ℕ) (at : ℕ) where
  pub value_inside : (n : Name) (e : ℕ) → ValueRead n text at (Some e) → (at < e) × (e ≤ length text)
  value_inside Certificate e v = (v.onward, v.inside)
  value_inside Issuers e v = (v.onward, v.inside)
  value_inside Receipts e v = (v.onward, v.inside)
  value_inside Group e v = (v.onward, v.inside)

  -- where a member with the name stands, its value was read
  pub value_ends : (m : Member) {n : Name} (e : ℕ) → ValueRead n text at (Some e) → n ≡ title m → (rest : List Token) → from text at ≡ value_of m ++ rest → from text e ≡ rest
  unfolding value_of
  value_ends (certificate w) e v n rest q = let r = rw n at v in r.complete w rest q
  value_ends (issuers ws) e v n rest q = let r = rw n at v in r.complete ws rest q
  value_ends (receipts ws) e v n rest q = let r = rw n at v in r.complete ws rest q

  pub value_none : (m : Member) {n : Name} → ValueRead n text at None → n ≡ title m → (rest : List Token) → from text at ≡ value_of m ++ rest → ⊥
  unfolding value_of
  value_none (certificate w) v e rest q = let r = rw e at v in r.none w rest q
  value_none (issuers ws) v e rest q = let r = rw e at v in r.none ws rest q
  value_none (receipts ws) v e rest q = let r = rw e at v in r.none ws rest q

  value_sound : (n : Name) (e : ℕ) → ValueRead n text at (Some e) → (n ≡ Group → ⊥) → (m : Member) × (title m ≡ n) × (from text at ≡ value_of m ++ from text e)
  unfolding value_of
  value_sound Certificate e v h = (certificate v.sound.0, refl, v.sound.1)
  value_sound Issuers e v h = (issuers v.sound.0, refl, v.sound.1)
  value_sound Receipts e v h = (receipts v.sound.0, refl, v.sound.1)
  value_sound Group e v h = absurd (h refl)

-- ---- a mark and a member's name

pub led_is : (b : ℕ) (m : Member) (rest : List Token) → led b m ++ rest ≡ mark b ∷ word (name_of m) ∷ mark 58 ∷ (value_of m ++ rest)
unfolding led member
led_is b m rest = refl

led_spelled : (b : ℕ) (m : Member) (rest : List Token) → led b m ++ rest ≡ mark b ∷ word (spelling (title m)) ∷ mark 58 ∷ (value_of m ++ rest)
led_spelled b m rest = led_is b m rest ∙ rw (name_is m)

pub key_no_mark : {text : List ℕ} {at lead : ℕ} → ((rest : List Token) → from text at ≡ mark lead ∷ rest → ⊥) → Absent (led lead) text at
key_no_mark {lead = lead} h = record { none = λ m rest q. h _ (q ∙ led_is lead m rest) }

module _ {text : List ℕ} {at lead p : ℕ} (r : Marked lead text at p) where
  pub key_no_name : ((n : Name) (rest : List Token) → from text p ≡ word (spelling n) ∷ mark 58 ∷ rest → ⊥) → Absent (led lead) text at
  key_no_name h = record { none = λ m rest q. h (title m) _ (tail_is (sym r.is ∙ q ∙ led_spelled lead m rest)) }

  module _ {k : Key} (d : KeyedBy text p k) where
    pub key_of_group : k.name ≡ Group → Absent (led lead) text at
    key_of_group e = record { none = λ m rest q. group_title m (sym (key_there d (tail_is (sym r.is ∙ q ∙ led_spelled lead m rest))).0 ∙ e) }
      where
        group_title : (m : Member) → title m ≡ Group → ⊥
        group_title (certificate w) q = cc
        group_title (issuers ws) q = cc
        group_title (receipts ws) q = cc

-- ---- the member

module _ {text : List ℕ} {at lead : ℕ} {k : Key} (d : MemberKeyedBy text at lead k) where
  -- where a member stands, its name was found
  pub member_is : (m : Member) (rest : List Token) → from text at ≡ led lead m ++ rest → (k.name ≡ title m) × (from text k.next ≡ value_of m ++ rest)
  member_is m rest q =
      let e = tail_is (sym d.is ∙ q ∙ led_spelled lead m rest) in
      (spelled_once _ _ (word_is e), tail_is (tail_is e))

  pub member_no_value : ValueRead k.name text k.next None → Absent (led lead) text at
  member_no_value v = record { none = λ m rest q. let i = member_is m rest q in value_none text k.next m v i.0 rest i.1 }

  pub member_found : {e : ℕ} → ValueRead k.name text k.next (Some e) → MemberAt text at lead (record { name = k.name; place = k.next; next = e })
  member_found {e} v =
      let i = value_inside text k.next k.name e v in
      let x = value_sound text k.next k.name e v d.good in
      record {
        reads = record {
          inside = i.1;
          onward = omega (arith, d.onward, i.0);
          sound = (x.0, d.is ∙ ap₂ (λ (n : Name) (l : List Token). mark lead ∷ word (spelling n) ∷ mark 58 ∷ l) (sym x.1) x.2 ∙ sym (led_spelled lead x.0 (from text e)));
          complete = λ m rest q. let j = member_is m rest q in value_ends text k.next m e v j.0 rest j.1;
        };
        found = member_is;
        place = d.inside;
      }
