-- Loops that copy texts from a buffer as the items of a list.
use Rattle.primitives.specs.Number.{bytes_of}
use Rattle.primitives.proofs.Numbers.{length_bytes_of}
use Rattle.journal.specs.Head.{entry_text}
use Rattle.exports.specs.Text.{every}
use Rattle.exports.specs.Spelled.{sized_texts, short}
use Rattle.std.proofs.Common.{Some, None, ℕ, suc, ◌+◌, ◌-◌, ◌≤◌, ◌<◌, ◌≡◌, refl, sym, ap, ◌∙◌, Bool, true, false, List, [], ◌∷◌, ◌++◌, map, append_assoc, append-nil, arith, lt-ltb, ltb, length, take, drop, drop_at, take_at, drop-drop}
use Rattle.exports.specs.Output.{Out, Puts}
use Rattle.exports.specs.Writing.{comma, quoted, listed}
use Rattle.exports.specs.Passing.{NoText, SizedAt}
use Rattle.exports.specs.Running.{StringsPut}
use Rattle.exports.proofs.Putting.{puts_then, puts_is, puts_nothing}
use Rattle.exports.proofs.Sized.{every_head, every_tail, sized_nil, sized_cons}

-- ---- a part that is lent

pub piece_is : (j : List ℕ) (a e : ℕ) (w rest : List ℕ) → drop a j ≡ entry_text w ++ rest → e ≡ a + 2 + length w → take (e - (a + 2)) (drop (a + 2) j) ≡ w
unfolding entry_text
piece_is j a e w rest q h =
    let k : e - (a + 2) ≡ length w = omega (arith, h) in
    let d : drop (a + 2) j ≡ w ++ rest =
    sym (drop-drop 2 a j) ∙ ap (drop 2) (q ∙ append_assoc (bytes_of 2 (length w)) w rest) ∙ drop_at (bytes_of 2 (length w)) (w ++ rest) 2 (length_bytes_of 2 (length w)) in
    (λ i. take (k i) (d i)) ∙ take_at w rest (length w) refl

-- ---- lists of items

pub next_more : (i : ℕ) → ltb 0 (i + 1) ≡ true
next_more i = lt-ltb 0 (i + 1) (omega arith)

module _ {A : Type 0} (item : A → List ℕ) where
  pub listed_nil : (m : Bool) → listed item m [] ≡ []
  unfolding listed
  listed_nil m = refl

  pub listed_cons : (m : Bool) (x : A) (xs : List A) → listed item m (x ∷ xs) ≡ comma m ++ (item x ++ listed item true xs)
  unfolding listed
  listed_cons m x xs = refl

  -- one more item is written
  pub whole_more : (i : ℕ) (done : List ℕ) (x : A) (xs : List A) {all : List ℕ} → done ++ listed item (ltb 0 i) (x ∷ xs) ≡ all
      → (done ++ (comma (ltb 0 i) ++ item x)) ++ listed item (ltb 0 (i + 1)) xs ≡ all
  whole_more i done x xs e =
      ap (λ (m : Bool). (done ++ (comma (ltb 0 i) ++ item x)) ++ listed item m xs) (next_more i)
      ∙ append_assoc done (comma (ltb 0 i) ++ item x) (listed item true xs)
      ∙ ap (λ (l : List ℕ). done ++ l) (append_assoc (comma (ltb 0 i)) (item x) (listed item true xs) ∙ sym (listed_cons (ltb 0 i) x xs))
      ∙ e

-- ---- strings as they are

pub all_same : (ws : List (List ℕ)) → map (λ (w : List ℕ). w) ws ≡ ws
all_same [] = refl
all_same (w ∷ ws) = ap (λ (l : List (List ℕ)). w ∷ l) (all_same ws)

-- ---- the loop: `i` of `count` texts are copied, each as it is spelled

module _ (spelled : List ℕ → List ℕ) where
  pub record Underway (d : Bool) (count i : ℕ) (o₀ o : Out) (tail : List ℕ) (ws : List (List ℕ)) (rest : List ℕ) : Type 0 where
    pub left : List (List ℕ)
    pub done : List ℕ
    pub many : i + length left ≡ count
    pub brief : every short left ≡ true
    pub here : tail ≡ sized_texts left ++ rest
    pub put : Puts d o₀ o done
    pub whole : done ++ listed quoted (ltb 0 i) (map spelled left) ≡ listed quoted false (map spelled ws)

  pub record Copies (d : Bool) (j : List ℕ) (from count : ℕ) (o₀ o : Out) (a i : ℕ) : Type 0 where
    pub few : i ≤ count
    pub same : o.lent ≡ o₀.lent
    pub long : length o.bytes ≡ length o₀.bytes
    pub is : (ws : List (List ℕ)) (rest : List ℕ) → every short ws ≡ true → count ≡ length ws → drop from j ≡ sized_texts ws ++ rest
        → Underway d count i o₀ o (drop a j) ws rest

  pub copies_start : (d : Bool) (j : List ℕ) (from count : ℕ) (o : Out) → Copies d j from count o o from 0
  copies_start d j from count o = record {
    few = omega arith;
    same = refl;
    long = refl;
    is = λ ws rest h l q. record {
      left = ws;
      done = [];
      many = omega (arith, l);
      brief = h;
      here = q;
      put = puts_nothing d o;
      whole = refl;
    };
  }

  module _ {d : Bool} {j : List ℕ} {from count : ℕ} {o₀ o : Out} {a i : ℕ} (t : Copies d j from count o₀ o a i) where
    pub record Next (tail : List ℕ) (ws : List (List ℕ)) (rest : List ℕ) (u : Underway d count i o₀ o tail ws rest) : Type 0 where
      pub text : List ℕ
      pub others : List (List ℕ)
      pub many : suc i + length others ≡ count
      pub brief : short text ≡ true
      pub briefs : every short others ≡ true
      pub here : tail ≡ entry_text text ++ (sized_texts others ++ rest)
      pub whole : u.done ++ listed quoted (ltb 0 i) (map spelled (text ∷ others)) ≡ listed quoted false (map spelled ws)

    next : i < count → (tail : List ℕ) (ws : List (List ℕ)) (rest : List ℕ) (u : Underway d count i o₀ o tail ws rest) → Next tail ws rest u
    next h tail ws rest u = go u.left u.many u.brief u.here u.whole
      where
        go : (l : List (List ℕ)) → i + length l ≡ count → every short l ≡ true → tail ≡ sized_texts l ++ rest
            → u.done ++ listed quoted (ltb 0 i) (map spelled l) ≡ listed quoted false (map spelled ws) → Next tail ws rest u
        go [] m b q w = absurd (omega (arith, m))
        go (x ∷ l) m b q w = record {
          text = x;
          others = l;
          many = omega (arith, m);
          brief = every_head short x l b;
          briefs = every_tail short x l b;
          here = q ∙ ap (λ (y : List ℕ). y ++ rest) (sized_cons x l) ∙ append_assoc (entry_text x) (sized_texts l) rest;
          whole = w;
        }

    module _ (more : i < count) where
      -- a text is missing
      pub copies_cut : NoText j a → StringsPut d spelled j from count o₀ o None
      copies_cut r = record {
        same = t.same;
        long = t.long;
        is = λ ws rest h l q.
            let n = next more (drop a j) ws rest (t.is ws rest h l q) in
            absurd (r n.text (sized_texts n.others ++ rest) n.brief n.here);
      }

      -- one more is copied
      pub copies_more : {e : ℕ} → SizedAt j a e → {o₁ : Out} → Puts d o o₁ (comma (ltb 0 i) ++ quoted (spelled (take (e - (a + 2)) (drop (a + 2) j))))
          → Copies d j from count o₀ o₁ e (i + 1)
      copies_more {e} r {o₁} w = record {
        few = omega arith;
        same = w.same ∙ t.same;
        long = w.long ∙ t.long;
        is = λ ws rest h l q.
            let u = t.is ws rest h l q in
            let n = next more (drop a j) ws rest u in
            let y = r.complete n.text (sized_texts n.others ++ rest) n.brief n.here in
            let s = piece_is j a e n.text (sized_texts n.others ++ rest) n.here y.1 in
            record {
              left = n.others;
              done = u.done ++ (comma (ltb 0 i) ++ quoted (spelled n.text));
              many = omega (arith, n.many);
              brief = n.briefs;
              here = y.0;
              put = puts_then u.put (puts_is (ap (λ (x : List ℕ). comma (ltb 0 i) ++ quoted (spelled x)) s) w);
              whole = whole_more quoted i u.done (spelled n.text) (map spelled n.others) n.whole;
            };
      }

    -- all are copied
    pub copies_whole : count ≤ i → StringsPut d spelled j from count o₀ o (Some a)
    copies_whole h = record {
      same = t.same;
      long = t.long;
      is = λ ws rest b l q.
          let u = t.is ws rest b l q in
          go ws rest u.left (omega (arith, u.many, t.few)) u.done u.put u.here u.whole;
    }
      where
        go : (ws : List (List ℕ)) (rest : List ℕ) (l : List (List ℕ)) → length l ≡ 0 → (done : List ℕ) → Puts d o₀ o done → drop a j ≡ sized_texts l ++ rest
            → done ++ listed quoted (ltb 0 i) (map spelled l) ≡ listed quoted false (map spelled ws)
            → Puts d o₀ o (listed quoted false (map spelled ws)) × (drop a j ≡ rest)
        go ws rest (x ∷ l) z done w q all = absurd (omega arith)
        go ws rest [] z done w q all = (
          puts_is (sym (append-nil done) ∙ ap (λ (l : List ℕ). done ++ l) (sym (listed_nil quoted (ltb 0 i))) ∙ all) w,
          q ∙ ap (λ (l : List ℕ). l ++ rest) sized_nil,
        )
