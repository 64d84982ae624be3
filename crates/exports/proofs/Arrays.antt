-- The loop over an array, for items of any kind.
use Rattle.std.proofs.Common.{ℕ, suc, ◌-◌, ◌<◌, ◌≤◌, ◌≡◌, refl, sym, ap, ◌∙◌, List, [], ◌∷◌, ◌++◌, append_assoc, length, arith}
use Rattle.exports.specs.Text.{Token, mark}
use Rattle.exports.specs.Shape.{array, following, string}
use Rattle.exports.specs.Places.{from, ReadTo, Absent, Begun, Followed}
use Rattle.exports.specs.declared.walk.Cursor.{Cursor}
use Rattle.exports.specs.declared.walk.Cursor.TheVariants.{Item, Past, Broken}
use Rattle.exports.proofs.Tokening.{head_is, tail_is, other_mark}

-- the measure: what is left of the text, while there is an item more
abbrev pub remains : List ℕ → Cursor → ℕ
remains text (Item p) = suc (length text) - p
remains text (Past p) = 0
remains text Broken = 0

-- it falls from an item on to what stands after it
pub falls : (text : List ℕ) (d : Cursor) {c : Cursor} {p e : ℕ} → c ≡ Item p → p ≤ length text → p < e → Followed text e d → remains text d < remains text c
falls text (Item q) i h l f = rw i (omega (arith, f.onward, f.inside))
falls text (Past q) i h l f = rw i (omega arith)
falls text Broken i h l f = rw i (omega arith)

module _ {A : Type 0} (item : A → List Token) where
  -- an array stands at ts₀ exactly if an item and what follows it stand at ts
  pub record Going (ts₀ ts : List Token) : Type 0 where
    pub sound : (x : A) (xs : List A) (r : List Token) → ts ≡ item x ++ (following item xs ++ r) → (ys : List A) × (ts₀ ≡ array item ys ++ r)
    pub complete : (ys : List A) (r : List Token) → ts₀ ≡ array item ys ++ r → (x : A) × (xs : List A) × (ts ≡ item x ++ (following item xs ++ r))

  -- an array stands at ts₀, and ts after it
  pub record Done (ts₀ ts : List Token) : Type 0 where
    pub sound : (ys : List A) × (ts₀ ≡ array item ys ++ ts)
    pub complete : (ys : List A) (r : List Token) → ts₀ ≡ array item ys ++ r → ts ≡ r

  pub record Never (ts₀ : List Token) : Type 0 where
    pub complete : (ys : List A) (r : List Token) → ts₀ ≡ array item ys ++ r → ⊥

  -- no item begins with "]"
  pub record Opens : Type 0 where
    pub differs : (x : A) (r s : List Token) → item x ++ r ≡ mark 93 ∷ s → ⊥

  -- ---- on tokens

  pub cons_array : (x : A) (xs : List A) (r : List Token) → array item (x ∷ xs) ++ r ≡ mark 91 ∷ (item x ++ (following item xs ++ r))
  unfolding array
  cons_array x xs r = ap (λ (l : List Token). mark 91 ∷ l) (append_assoc (item x) (following item xs) r)

  pub cons_following : (x : A) (xs : List A) (r : List Token) → following item (x ∷ xs) ++ r ≡ mark 44 ∷ (item x ++ (following item xs ++ r))
  unfolding following
  cons_following x xs r = ap (λ (l : List Token). mark 44 ∷ l) (append_assoc (item x) (following item xs) r)

  pub nil_array : (r : List Token) → array item [] ++ r ≡ mark 91 ∷ mark 93 ∷ r
  unfolding array
  nil_array r = refl

  pub nil_following : (r : List Token) → following item [] ++ r ≡ mark 93 ∷ r
  unfolding following
  nil_following r = refl

  going_start : {ts₀ ts : List Token} → ts₀ ≡ mark 91 ∷ ts → ((r : List Token) → ts ≡ mark 93 ∷ r → ⊥) → Going ts₀ ts
  going_start {ts₀} {ts} e n =
      record { sound = λ x xs r q. (x ∷ xs, e ∙ ap (λ (l : List Token). mark 91 ∷ l) q ∙ sym (cons_array x xs r)); complete = back }
    where
      back : (ys : List A) (r : List Token) → ts₀ ≡ array item ys ++ r → (x : A) × (xs : List A) × (ts ≡ item x ++ (following item xs ++ r))
      back [] r q = absurd (n r (tail_is (sym e ∙ q ∙ nil_array r)))
      back (x ∷ xs) r q = (x, xs, tail_is (sym e ∙ q ∙ cons_array x xs r))

  done_start : {ts₀ ts : List Token} → Opens → ts₀ ≡ mark 91 ∷ mark 93 ∷ ts → Done ts₀ ts
  done_start {ts₀} {ts} o e = record { sound = ([], e ∙ sym (nil_array ts)); complete = back }
    where
      back : (ys : List A) (r : List Token) → ts₀ ≡ array item ys ++ r → ts ≡ r
      back [] r q = tail_is (tail_is (sym e ∙ q ∙ nil_array r))
      back (x ∷ xs) r q = absurd (o.differs x (following item xs ++ r) ts (sym (tail_is (sym e ∙ q ∙ cons_array x xs r))))

  pub never_start : {ts₀ : List Token} → ((r : List Token) → ts₀ ≡ mark 91 ∷ r → ⊥) → Never ts₀
  never_start {ts₀} h = record { complete = back }
    where
      back : (ys : List A) (r : List Token) → ts₀ ≡ array item ys ++ r → ⊥
      back [] r q = h _ (q ∙ nil_array r)
      back (x ∷ xs) r q = h _ (q ∙ cons_array x xs r)

  -- an item was read, and ts₁ stands after it
  module _ {ts₀ ts ts₁ : List Token} (g : Going ts₀ ts) (y : A) (is : ts ≡ item y ++ ts₁) (only : (x : A) (r : List Token) → ts ≡ item x ++ r → ts₁ ≡ r) where
    -- what follows it
    follows : (ys : List A) (r : List Token) → ts₀ ≡ array item ys ++ r → (xs : List A) × (ts₁ ≡ following item xs ++ r)
    follows ys r q = let b = g.complete ys r q in (b.1, only b.0 _ b.2)

    going_more : {ts₂ : List Token} → ts₁ ≡ mark 44 ∷ ts₂ → Going ts₀ ts₂
    going_more {ts₂} e =
        record {
          sound = λ x xs r q. g.sound y (x ∷ xs) r (is ∙ ap (λ (l : List Token). item y ++ l) (e ∙ ap (λ (l : List Token). mark 44 ∷ l) q ∙ sym (cons_following x xs r)));
          complete = λ ys r q. back r (follows ys r q).0 (follows ys r q).1;
        }
      where
        back : (r : List Token) (xs : List A) → ts₁ ≡ following item xs ++ r → (x : A) × (xs' : List A) × (ts₂ ≡ item x ++ (following item xs' ++ r))
        back r [] q = other_mark (λ z. omega arith) (sym e ∙ q ∙ nil_following r)
        back r (x ∷ xs) q = (x, xs, tail_is (sym e ∙ q ∙ cons_following x xs r))

    going_end : {ts₂ : List Token} → ts₁ ≡ mark 93 ∷ ts₂ → Done ts₀ ts₂
    going_end {ts₂} e =
        record {
          sound = g.sound y [] ts₂ (is ∙ ap (λ (l : List Token). item y ++ l) (e ∙ sym (nil_following ts₂)));
          complete = λ ys r q. back r (follows ys r q).0 (follows ys r q).1;
        }
      where
        back : (r : List Token) (xs : List A) → ts₁ ≡ following item xs ++ r → ts₂ ≡ r
        back r [] q = tail_is (sym e ∙ q ∙ nil_following r)
        back r (x ∷ xs) q = other_mark (λ z. omega arith) (sym e ∙ q ∙ cons_following x xs r)

    going_never : ((r : List Token) → (ts₁ ≡ mark 44 ∷ r → ⊥) × (ts₁ ≡ mark 93 ∷ r → ⊥)) → Never ts₀
    going_never h = record { complete = λ ys r q. back r (follows ys r q).0 (follows ys r q).1 }
      where
        back : (r : List Token) (xs : List A) → ts₁ ≡ following item xs ++ r → ⊥
        back r [] q = (h _).1 (q ∙ nil_following r)
        back r (x ∷ xs) q = (h _).0 (q ∙ cons_following x xs r)

  -- ---- at places: the invariant of a loop over an array

  pub record ItemAt (text : List ℕ) (at p : ℕ) : Type 0 where
    pub inside : p ≤ length text
    pub onward : at < p
    pub going : Going (from text at) (from text p)

  abbrev pub Walk : List ℕ → ℕ → Cursor → Type 0
  Walk text at (Item p) = ItemAt text at p
  Walk text at (Past p) = ReadTo (array item) text at p
  Walk text at Broken = Absent (array item) text at

  pub walk_start : (text : List ℕ) (at : ℕ) (c : Cursor) → Opens → Begun text at c → Walk text at c
  walk_start text at (Item p) o b = record { inside = b.bracket.inside; onward = b.bracket.onward; going = going_start b.bracket.is b.more }
  walk_start text at (Past p) o b =
      let d = done_start o b.is in
      record { inside = b.inside; onward = b.onward; sound = d.sound; complete = d.complete }
  walk_start text at Broken o b = record { none = (never_start b).complete }

  pub walk_item : (text : List ℕ) (at : ℕ) {c : Cursor} {p : ℕ} → c ≡ Item p → Walk text at c → ItemAt text at p
  walk_item text at e w = rw e at w

  module _ {text : List ℕ} {at p : ℕ} (w : ItemAt text at p) where
    pub walk_more : {e : ℕ} → ReadTo item text p e → (d : Cursor) → Followed text e d → Walk text at d
    walk_more r (Item q) f =
        record { inside = f.inside; onward = omega (arith, w.onward, r.onward, f.onward); going = going_more w.going r.sound.0 r.sound.1 r.complete f.is }
    walk_more r (Past q) f =
        let d = going_end w.going r.sound.0 r.sound.1 r.complete f.is in
        record { inside = f.inside; onward = omega (arith, w.onward, r.onward, f.onward); sound = d.sound; complete = d.complete }
    walk_more r Broken f = record { none = (going_never w.going r.sound.0 r.sound.1 r.complete f).complete }

-- ---- strings

pub string_opens : Opens string
string_opens = record { differs = λ x r s e. let q = ap (λ (t : Token). t.kind) (head_is e) in omega arith }
