-- The fields of a payload: places of its "_", and what stands between two of them, as a name.
use Rattle.std.proofs.lemmas.List.{set_at}
use Rattle.std.proofs.Common.{ℕ, zero, suc, ◌+◌, ◌-◌, ◌≤◌, ◌<◌, min, ◌≡◌, refl, sym, ap, ◌∙◌, Bool, true, false, cond, List, [], ◌∷◌, ◌++◌, ◌⊎◌, ⊎_elim, add-one, arith, eqb, length, take, drop, get_or, set, replicate, length-drop, drop_of_length-le, add-zero, eq-eqb, ne_eqb, drop-cons, drop-drop, take-suc, length-take-le, get_or-take, get_or-drop}
use lib.Seq.{append_snoc}
use Rattle.receipt.specs.Texts.{separator}
use Rattle.receipt.specs.Form.{first_at, next_at, part}
use Rattle.receipt.specs.Line.{count_of}
use Rattle.receipt.specs.Separated.{after, skip}
use Rattle.receipt.specs.Settings.{name_of}
use Rattle.receipt.specs.declared.settings.Name.{Name}
use Rattle.receipt.proofs.Finding.{next_from}
use Rattle.receipt.proofs.Names.{take_lesser}
use Rattle.exports.specs.Naming.{field_of}
use Rattle.exports.specs.Running.{PayloadPlace}

-- ---- places

pub after_is : (s : List ℕ) → after s ≡ drop (suc (first_at separator s)) s
unfolding after first_at
after_is [] = refl
after_is (x ∷ s) = go (after_is s) (eqb x separator)
  where
    go : after s ≡ drop (suc (first_at separator s)) s → (t : Bool) → cond t s (after s) ≡ drop (suc (cond t 0 (suc (first_at separator s)))) (x ∷ s)
    go e true = refl
    go e false = e

skip_last : (k : ℕ) (p : List ℕ) → skip (suc k) p ≡ after (skip k p)
unfolding skip
skip_last zero p = refl
skip_last (suc k) p = skip_last k (after p)

pub place_start : (p : List ℕ) → PayloadPlace p 0 0
unfolding skip
place_start p = record { inside = omega arith; is = refl }

-- after one more "_", or at the end
module _ (p : List ℕ) (k a : ℕ) (h : PayloadPlace p k a) where
  place_more : (q : ℕ) → q ≡ next_at separator p a → (r : ℕ) → r ≤ length p → drop r p ≡ drop (q + 1) p → PayloadPlace p (k + 1) r
  unfolding next_at
  place_more q e r l d =
      let s : List ℕ = drop a p in
      let n : a + suc (first_at separator s) ≡ q + 1 = omega (arith, e) in
      record {
        inside = l;
        is = d ∙ sym (ap after (sym h.is) ∙ after_is s ∙ drop-drop (suc (first_at separator s)) a p ∙ ap (λ (m : ℕ). drop m p) n)
            ∙ sym (ap (λ (m : ℕ). skip m p) (add-one k) ∙ skip_last k p);
      }

  pub place_next : {q n r : ℕ} → n ≡ length p → (q ≡ next_at separator p a) × (q ≤ length p) → ((q < n) × (r ≡ q + 1)) ⊎ ((n ≤ q) × (r ≡ q)) → PayloadPlace p (k + 1) r
  place_next {q} {n} {r} l e came =
      ⊎_elim (λ w. place_more q e.0 r (omega (arith, l, w.0, w.1)) (ap (λ (m : ℕ). drop m p) w.1))
      (λ w. place_more q e.0 r (omega (arith, e.1, w.1)) (ends (omega (arith, l, w.0, w.1)) (omega (arith, l, w.0)))) came
    where
      ends : length p ≤ r → length p ≤ q + 1 → drop r p ≡ drop (q + 1) p
      ends u v = drop_of_length-le p u ∙ sym (drop_of_length-le p v)

  pub field_is : {e : ℕ} → e ≡ next_at separator p a → part a e p ≡ field_of k p
  unfolding next_at field_of
  field_is {e} q =
      let n : e - a ≡ first_at separator (drop a p) = omega (arith, q) in
      ap (λ (m : ℕ). take m (drop a p)) n ∙ ap (λ (s : List ℕ). take (first_at separator s) s) h.is

pub place_end : {p : List ℕ} {k i a : ℕ} → PayloadPlace p i a → i ≡ k → PayloadPlace p k a
place_end {p} {k} {i} {a} h e = record { inside = h.inside; is = h.is ∙ ap (λ (m : ℕ). skip m p) e }

pub place_ordered : (p : List ℕ) (a : ℕ) {e : ℕ} → e ≡ next_at separator p a → a ≤ e
place_ordered p a e = omega (arith, e, next_from separator p a)

-- ---- a byte at a place, and none from there on

module _ (b : ℕ) (s : List ℕ) (i : ℕ) where
  next_found : i < length s → get_or s i 0 ≡ b → next_at b s i ≡ i
  unfolding next_at first_at
  next_found h e = rw (drop-cons s i 0 h, eq-eqb (get_or s i 0) b e) (add-zero i)

  next_more : i < length s → (get_or s i 0 ≡ b → ⊥) → next_at b s i ≡ next_at b s (i + 1)
  unfolding next_at first_at
  next_more h n = rw (drop-cons s i 0 h, ne_eqb (get_or s i 0) b n, add-one i) (omega arith)

  next_end : length s ≤ i → next_at b s i ≡ i
  unfolding next_at first_at
  next_end h = rw (drop_of_length-le s h) (add-zero i)

  count_yes : i < length s → get_or s i 0 ≡ b → count_of b (drop i s) ≡ suc (count_of b (drop (i + 1) s))
  unfolding count_of
  count_yes h e = rw (drop-cons s i 0 h, eq-eqb (get_or s i 0) b e, add-one i)

  count_no : i < length s → (get_or s i 0 ≡ b → ⊥) → count_of b (drop i s) ≡ count_of b (drop (i + 1) s)
  unfolding count_of
  count_no h n = rw (drop-cons s i 0 h, ne_eqb (get_or s i 0) b n, add-one i)

  count_end : length s ≤ i → count_of b (drop i s) ≡ 0
  unfolding count_of
  count_end h = rw (drop_of_length-le s h)

-- ---- the next "_"

pub record Seeking (p : List ℕ) (from n i : ℕ) : Type 0 where
  pub long : n ≡ length p
  pub inside : i ≤ n
  pub is : next_at separator p from ≡ next_at separator p i

pub seeking_start : (p : List ℕ) (from : ℕ) {n : ℕ} → n ≡ length p → from ≤ length p → Seeking p from n from
seeking_start p from e h = record { long = e; inside = omega (arith, e); is = refl }

module _ {p : List ℕ} {from n i : ℕ} (s : Seeking p from n i) where
  pub seeking_inside : i < n → i < length p
  seeking_inside h = omega (arith, s.long)

  pub seeking_found : {b : ℕ} → i < n → b ≡ get_or p i 0 → b ≡ separator → (i ≡ next_at separator p from) × (i ≤ length p)
  seeking_found h q e = (sym (s.is ∙ next_found separator p i (seeking_inside h) (sym q ∙ e)), omega (arith, seeking_inside h))

  pub seeking_more : {b : ℕ} → i < n → b ≡ get_or p i 0 → (b ≡ separator → ⊥) → Seeking p from n (i + 1)
  seeking_more h q e =
      record { long = s.long; inside = omega arith; is = s.is ∙ next_more separator p i (seeking_inside h) (λ k. e (q ∙ k)) }

  pub seeking_end : n ≤ i → (n ≡ next_at separator p from) × (n ≤ length p)
  seeking_end h =
      let e : n ≡ i = omega (arith, s.inside) in
      (e ∙ sym (s.is ∙ next_end separator p i (omega (arith, s.long))), omega (arith, s.long))

-- ---- how many there are

pub record Counting (p : List ℕ) (n count i : ℕ) : Type 0 where
  pub long : n ≡ length p
  pub is : (i ≤ length p) × (count ≤ i) × (count + count_of separator (drop i p) ≡ count_of separator p)

pub counting_start : (p : List ℕ) {n : ℕ} → n ≡ length p → Counting p n 0 0
counting_start p e = record { long = e; is = (omega arith, omega arith, omega arith) }

module _ {p : List ℕ} {n count i : ℕ} (s : Counting p n count i) where
  pub counting_inside : i < n → i < length p
  counting_inside h = omega (arith, s.long)

  pub counting_more : {b count' : ℕ} → i < n → b ≡ get_or p i 0 → ((b ≡ separator) × (count' ≡ count + 1)) ⊎ ((b ≡ separator → ⊥) × (count' ≡ count)) → Counting p n count' (i + 1)
  counting_more h q came =
      record {
        long = s.long;
        is = ⊎_elim (λ w. (omega (arith, counting_inside h), omega (arith, s.is.1, w.1), omega (arith, s.is.2, w.1, count_yes separator p i (counting_inside h) (sym q ∙ w.0))))
            (λ w. (omega (arith, counting_inside h), omega (arith, s.is.1, w.1), omega (arith, s.is.2, w.1, count_no separator p i (counting_inside h) (λ k. w.0 (q ∙ k))))) came;
      }

  pub counting_end : n ≤ i → count ≡ count_of separator p
  counting_end h = omega (arith, s.is.2, count_end separator p i (omega (arith, s.long)))

-- ---- a name that is filled byte by byte

pub record Filling (p : List ℕ) (a e n : ℕ) (b : List ℕ) (i : ℕ) : Type 0 where
  pub ordered : a ≤ e
  pub inside : e ≤ length p
  pub most : n ≡ min 32 (e - a)
  pub few : i ≤ n
  pub is : b ≡ take i (part a e p) ++ replicate (32 - i) 0

pub filling_start : (p : List ℕ) (a e n : ℕ) → a ≤ e → e ≤ length p → n ≡ min 32 (e - a) → Filling p a e n (replicate 32 0) 0
filling_start p a e n h l m = record { ordered = h; inside = l; most = m; few = omega arith; is = refl }

module _ {p : List ℕ} {a e n : ℕ} {b : List ℕ} {i : ℕ} (f : Filling p a e n b i) where
  abbrev t : List ℕ
  t = part a e p

  long : length (part a e p) ≡ e - a
  long = length-take-le (e - a) (drop a p) (omega (arith, length-drop a p, f.inside))

  pub filling_inside : i < n → (a + i < length p) × (i < 32)
  filling_inside h = (omega (arith, f.ordered, f.inside, f.most), omega (arith, f.most))

  pub filling_more : {v : ℕ} → i < n → v ≡ get_or p (a + i) 0 → Filling p a e n (set b i v) (i + 1)
  filling_more {v} h q = record { ordered = f.ordered; inside = f.inside; most = f.most; few = omega arith; is = put }
    where
      within : i < e - a
      within = omega (arith, f.most)

      one : 32 - i ≡ suc (32 - (i + 1))
      one = omega (arith, f.most)

      byte : get_or t i 0 ≡ v
      byte = get_or-take (e - a) (drop a p) i 0 within ∙ get_or-drop a p i 0 ∙ sym q

      next : take i t ++ (v ∷ []) ≡ take (i + 1) t
      next = ap (λ (x : ℕ). take i t ++ (x ∷ [])) (sym byte) ∙ sym (ap (λ (m : ℕ). take m t) (add-one i) ∙ take-suc t i 0 (omega (arith, long, within)))

      put : set b i v ≡ take (i + 1) t ++ replicate (32 - (i + 1)) 0
      put =
          ap (λ (l : List ℕ). set l i v) (f.is ∙ ap (λ (m : ℕ). take i t ++ replicate m 0) one)
          ∙ set_at (take i t) 0 (replicate (32 - (i + 1)) 0) v i (length-take-le i t (omega (arith, long, within)))
          ∙ sym (append_snoc (take i t) v (replicate (32 - (i + 1)) 0))
          ∙ ap (λ (l : List ℕ). l ++ replicate (32 - (i + 1)) 0) next

  pub filling_end : n ≤ i → ◌≡◌ {A = Name} (record { bytes = b; len = e - a }) (name_of (part a e p))
  unfolding name_of
  filling_end h = λ j. record { bytes = array j; len = sym long j }
    where
      same : i ≡ n
      same = omega (arith, f.few)

      least : n ≡ min 32 (length t)
      least = omega (arith, f.most, long)

      zeros : 32 - i ≡ 32 - length t
      zeros = omega (arith, f.most, long, same)

      front : take i t ≡ take 32 t
      front = let s : i ≡ n - 0 = omega (arith, same) in ap (λ (m : ℕ). take m t) s ∙ take_lesser 32 t least

      array : b ≡ take 32 t ++ replicate (32 - length t) 0
      array = f.is ∙ (λ j. front j ++ replicate (zeros j) 0)
