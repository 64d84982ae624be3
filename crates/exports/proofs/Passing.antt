-- A walk over an array that is known to stand there yields its items, in order.
use Rattle.std.proofs.Common.{ℕ, ◌+◌, ◌-◌, ◌<◌, ◌≤◌, ◌≡◌, refl, sym, ap, ◌∙◌, Bool, true, false, List, [], ◌∷◌, ◌++◌, length, drop, length-drop, arith}
use Rattle.std.proofs.lemmas.List.{length-take-le}
use Rattle.exports.specs.Text.{Token, mark, every}
use Rattle.exports.specs.Lexer.{content, before}
use Rattle.exports.specs.Shape.{array, following, string, Element, Written, written, document, elements, Shape}
use Rattle.exports.specs.Places.{from, ReadTo, Quotes, raw_of, Unescaped, LettersAt, Begun, Followed}
use Rattle.exports.specs.Spelled.{some_of}
use Rattle.exports.specs.declared.lexer.Part.{Part}
use Rattle.exports.specs.declared.walk.Cursor.{Cursor}
use Rattle.exports.specs.declared.walk.Cursor.TheVariants.{Item, Past, Broken}
use Rattle.exports.proofs.Unescaping.{spells_shorter}
use Rattle.exports.proofs.Tokening.{tail_is, other_mark, word_there, read_word}
use Rattle.exports.proofs.Arrays.{Opens, cons_array, nil_array, cons_following, nil_following}
use Rattle.exports.proofs.Lexical.{lexed}

-- ---- a cursor

-- the array was left behind: no item stands at it
abbrev pub NoItem : Cursor → Type 0
NoItem c = (p : ℕ) → c ≡ Item p → ⊥

-- its place is beyond another, and inside the text
abbrev pub Beyond : List ℕ → ℕ → Cursor → Type 0
Beyond text at (Item p) = (at < p) × (p ≤ length text)
Beyond text at (Past p) = (at < p) × (p ≤ length text)
Beyond text at Broken = Unit {0}

pub begun_beyond : (text : List ℕ) (at : ℕ) (c : Cursor) → Begun text at c → Beyond text at c
begun_beyond text at (Item p) b = (b.bracket.onward, b.bracket.inside)
begun_beyond text at (Past p) b = (b.onward, b.inside)
begun_beyond text at Broken b = tt

pub followed_beyond : (text : List ℕ) (at : ℕ) {e : ℕ} (d : Cursor) → at < e → Followed text e d → Beyond text at d
followed_beyond text at (Item p) l f = (omega (arith, f.onward), f.inside)
followed_beyond text at (Past p) l f = (omega (arith, f.onward), f.inside)
followed_beyond text at Broken l f = tt

pub beyond_item : (text : List ℕ) (at : ℕ) {c : Cursor} {p : ℕ} → c ≡ Item p → Beyond text at c → (at < p) × (p ≤ length text)
beyond_item text at e b = rw e at b

pub begun_inside : (text : List ℕ) (at : ℕ) {c : Cursor} {p : ℕ} → c ≡ Item p → Begun text at c → p ≤ length text
begun_inside text at {c} e b = (beyond_item text at e (begun_beyond text at c b)).1

module _ {A : Type 0} (item : A → List Token) where
  -- the items that are left at a cursor, and what stands after the array
  abbrev pub Left : List ℕ → Cursor → List A → List Token → Type 0
  Left text (Item p) xs r = (x : A) × (xs' : List A) × (xs ≡ x ∷ xs') × (from text p ≡ item x ++ (following item xs' ++ r))
  Left text (Past p) xs r = (xs ≡ []) × (from text p ≡ r)
  Left text Broken xs r = ⊥

  pub left_start : (text : List ℕ) (at : ℕ) (c : Cursor) → Opens item → Begun text at c → (xs : List A) (r : List Token) → from text at ≡ array item xs ++ r → Left text c xs r
  left_start text at (Item p) o b [] r q = absurd (b.more r (tail_is (sym b.bracket.is ∙ q ∙ nil_array item r)))
  left_start text at (Item p) o b (x ∷ xs) r q = (x, xs, refl, tail_is (sym b.bracket.is ∙ q ∙ cons_array item x xs r))
  left_start text at (Past p) o b [] r q = (refl, tail_is (tail_is (sym b.is ∙ q ∙ nil_array item r)))
  left_start text at (Past p) o b (x ∷ xs) r q = absurd (o.differs x _ _ (sym (tail_is (sym b.is ∙ q ∙ cons_array item x xs r))))
  left_start text at Broken o b [] r q = b _ (q ∙ nil_array item r)
  left_start text at Broken o b (x ∷ xs) r q = b _ (q ∙ cons_array item x xs r)

  -- one item more: e is the place after it
  pub left_on : (text : List ℕ) (e : ℕ) (d : Cursor) (xs : List A) (r : List Token) → from text e ≡ following item xs ++ r → Followed text e d → Left text d xs r
  left_on text e (Item p) [] r q f = other_mark (λ z. omega arith) (sym f.is ∙ q ∙ nil_following item r)
  left_on text e (Item p) (y ∷ ys) r q f = (y, ys, refl, tail_is (sym f.is ∙ q ∙ cons_following item y ys r))
  left_on text e (Past p) [] r q f = (refl, tail_is (sym f.is ∙ q ∙ nil_following item r))
  left_on text e (Past p) (y ∷ ys) r q f = other_mark (λ z. omega arith) (sym f.is ∙ q ∙ cons_following item y ys r)
  left_on text e Broken [] r q f = (f _).1 (q ∙ nil_following item r)
  left_on text e Broken (y ∷ ys) r q f = (f _).0 (q ∙ cons_following item y ys r)

  pub left_item : (text : List ℕ) {c : Cursor} {p : ℕ} (xs : List A) (r : List Token) → c ≡ Item p → Left text c xs r
      → (x : A) × (xs' : List A) × (xs ≡ x ∷ xs') × (from text p ≡ item x ++ (following item xs' ++ r))
  left_item text xs r e l = rw e at l

  pub left_end : (text : List ℕ) (c : Cursor) (xs : List A) (r : List Token) → NoItem c → Left text c xs r → (xs ≡ []) × (e : ℕ) × (c ≡ Past e) × (from text e ≡ r)
  left_end text (Item p) xs r n l = absurd (n p refl)
  left_end text (Past p) xs r n l = (l.0, p, refl, l.1)
  left_end text Broken xs r n l = absurd l

  -- whether there is an item
  module _ (text : List ℕ) (at : ℕ) (c : Cursor) (o : Opens item) (b : Begun text at c) where
    pub some_yes : {p : ℕ} → c ≡ Item p → (xs : List A) (r : List Token) → from text at ≡ array item xs ++ r → true ≡ some_of xs
    some_yes e xs r q = let m = left_item text xs r e (left_start text at c o b xs r q) in ap some_of (sym m.2)

    pub some_no : NoItem c → (xs : List A) (r : List Token) → from text at ≡ array item xs ++ r → false ≡ some_of xs
    some_no n xs r q = ap some_of (sym (left_end text c xs r n (left_start text at c o b xs r q)).0)

  -- ---- a definition by recursion on the items, along a walk: F is it from the start, G from the cursor on

  module _ {B : Type 0} where
    pub record Passing (F G : List A → B) (text : List ℕ) (at : ℕ) (c : Cursor) : Type 0 where
      pub beyond : Beyond text at c
      pub left : (xs : List A) (r : List Token) → from text at ≡ array item xs ++ r → (ys : List A) × (Left text c ys r) × (F xs ≡ G ys)

    pub pass_start : (F : List A → B) (text : List ℕ) (at : ℕ) (c : Cursor) → Opens item → Begun text at c → Passing F F text at c
    pass_start F text at c o b = record { beyond = begun_beyond text at c b; left = λ xs r q. (xs, left_start text at c o b xs r q, refl) }

    module _ {F G : List A → B} {text : List ℕ} {at : ℕ} {c : Cursor} (w : Passing F G text at c) where
      pub pass_end : NoItem c → (xs : List A) (r : List Token) → from text at ≡ array item xs ++ r → (G [] ≡ F xs) × (e : ℕ) × (c ≡ Past e) × (from text e ≡ r)
      pass_end n xs r q =
          let l = w.left xs r q in
          let m = left_end text c l.0 r n l.1 in
          (sym (l.2 ∙ ap G m.0), m.1, m.2, m.3)

      module _ {p : ℕ} (e : c ≡ Item p) where
        pub pass_inside : (at < p) × (p ≤ length text)
        pass_inside = beyond_item text at e w.beyond

        -- the item at the cursor decides
        pub pass_out : (b : B) → ((x : A) (xs : List A) (r : List Token) → from text p ≡ item x ++ r → G (x ∷ xs) ≡ b)
            → (xs : List A) (r : List Token) → from text at ≡ array item xs ++ r → b ≡ F xs
        pass_out b h xs r q =
            let l = w.left xs r q in
            let m = left_item text l.0 r e l.1 in
            sym (l.2 ∙ ap G m.2 ∙ h m.0 m.1 _ m.3)

        -- no item stands at the cursor, so no array at the start
        pub pass_stop : ((x : A) (r : List Token) → from text p ≡ item x ++ r → ⊥) → (xs : List A) (r : List Token) → from text at ≡ array item xs ++ r → ⊥
        pass_stop h xs r q =
            let l = w.left xs r q in
            let m = left_item text l.0 r e l.1 in
            h m.0 _ m.3

        -- it is passed: n is the place after it
        module _ {n : ℕ} (l : p < n) (d : Cursor) (f : Followed text n d) where
          pub pass_on : (H : List A → B) → ((x : A) (xs : List A) (r : List Token) → from text p ≡ item x ++ r → G (x ∷ xs) ≡ H xs)
              → ((x : A) (r : List Token) → from text p ≡ item x ++ r → from text n ≡ r) → Passing F H text at d
          pass_on H h i =
              record {
                beyond = followed_beyond text at d (omega (arith, pass_inside.0)) f;
                left = λ xs r q.
                    let l = w.left xs r q in
                    let m = left_item text l.0 r e l.1 in
                    (m.1, left_on text n d m.1 r (i m.0 _ m.3) f, l.2 ∙ ap G m.2 ∙ h m.0 m.1 _ m.3);
              }

        pub pass_more : {n : ℕ} → ReadTo item text p n → (d : Cursor) → Followed text n d → (H : List A → B)
            → ((x : A) (xs : List A) (r : List Token) → from text p ≡ item x ++ r → G (x ∷ xs) ≡ H xs) → Passing F H text at d
        pass_more i d f H h = pass_on i.onward d f H h i.complete

-- the answer of a question to an item, for `every`
pub every_no : {A : Type 0} (good : A → Bool) (x : A) (xs : List A) → good x ≡ false → every good (x ∷ xs) ≡ false
unfolding every
every_no good x xs e = rw e

pub every_yes : {A : Type 0} (good : A → Bool) (x : A) (xs : List A) → good x ≡ true → every good (x ∷ xs) ≡ every good xs
unfolding every
every_yes good x xs e = rw e

pub every_all : {A : Type 0} (good : A → Bool) → every good [] ≡ true
unfolding every
every_all good = refl

-- ---- all elements

-- what a pass over the elements finds is true of what the text spells
pub of_elements : {B : Type 0} (F : List Element → B) {b : B} (text : List ℕ) (g : ℕ) → ((ws : List Written) → from text 0 ≡ document ws → from text g ≡ array written ws ++ (mark 125 ∷ []))
    → ((ws : List Written) (r : List Token) → from text g ≡ array written ws ++ r → b ≡ F (elements ws))
    → (es : List Element) → Shape text es → b ≡ F es
unfolding from
of_elements F text g p h es s = h s.order _ (p s.order (lexed s.spelled)) ∙ ap F s.same

pub some_written : (ws : List Written) → some_of ws ≡ some_of (elements ws)
unfolding elements
some_written [] = refl
some_written (w ∷ ws) = refl

-- ---- a string where it lies

pub record PartIn (text : List ℕ) (at : ℕ) (p : Part) : Type 0 where
  pub reads : ReadTo string text at p.next
  pub quote : p.start + p.length < p.next
  pub good : LettersAt text p.start
  pub is : (w : List ℕ) (r : List Token) → from text at ≡ string w ++ r → w ≡ content (drop p.start text) 0
  pub long : p.length ≡ length (content (drop p.start text) 0)
  pub spells : Unescaped (raw_of text p) (content (drop p.start text) 0)

pub part_in : {text : List ℕ} {at : ℕ} {p : Part} → Quotes text at p → PartIn text at p
part_in {text} {at} {p} n =
    let m = n.long in
    let q = n.quote in
    let y = n.lying in
    let u : p.next - 1 - p.start ≡ before (drop p.start text) = omega arith in
    let b : before (drop p.start text) ≤ length (drop p.start text) = omega (arith, n.inside, length-drop p.start text) in
    let most : p.length ≤ before (drop p.start text) = omega (arith, m, spells_shorter y.spells, length-take-le (before (drop p.start text)) (drop p.start text) b) in
    record {
      reads = read_word n;
      quote = omega arith;
      good = record { good = y.good };
      is = λ w r s. sym (word_there n s).0;
      long = m;
      spells = rw u y.spells;
    }
