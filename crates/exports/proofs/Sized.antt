-- Texts after their lengths in two bytes, read at a place of a buffer; and groups of them.
use Rattle.std.proofs.Common.{Option, Some, None, ℕ, suc, ◌+◌, ◌-◌, ◌≤◌, ◌<◌, ◌≡◌, refl, sym, ap, ◌∙◌, subst, Bool, true, false, cond, ◌&&◌, List, [], ◌∷◌, ◌++◌, append_assoc, append-nil, ◌↔◌, add-one, arith, leb-true, leb-false, le-leb, eq-eqb, eqb-true, leb, eqb, length, take, drop, get_or, length-append, length-drop, drop_of_length-le, drop_at, drop-drop, drop-cons}
use Rattle.exports.specs.Output.{moved}
use Rattle.primitives.specs.Bytes.{AllBytes}
use Rattle.primitives.specs.Number.{count_at, number_at}
use Rattle.primitives.proofs.Rows.{both, true-is-not-false}
use Rattle.primitives.proofs.Numbers.{number_found}
use Rattle.primitives.proofs.Counts.{count_found, count-missing}
use Rattle.journal.specs.Head.{entry_text, length_at, text_at, there}
use Rattle.journal.proofs.Places.{length_entry, length_at_lem, length_text, text_short, there_entry}
use Rattle.exports.specs.Text.{every}
use Rattle.exports.specs.Spelled.{sized_texts, short}
use Rattle.exports.specs.Groups.{Group, group_text, groups_text, group_good}
use Rattle.exports.specs.Passing.{NoText, SizedAt, SizedRead, NoGroup, GroupAt, GroupsThere}

-- ---- short texts

pub short_lt : (t : List ℕ) → short t ≡ true → length t < 65536
unfolding short
short_lt t e = omega (arith, leb-true (length t) 65535 e)

pub lt_short : (t : List ℕ) → length t < 65536 → short t ≡ true
unfolding short
lt_short t h = le-leb (length t) 65535 (omega arith)

module _ {A : Type 0} (good : A → Bool) where
  pub every_nil : every good [] ≡ true
  unfolding every
  every_nil = refl

  pub every_one : (x : A) (xs : List A) → good x ≡ true → every good xs ≡ true → every good (x ∷ xs) ≡ true
  unfolding every
  every_one x xs e h = rw e h

  pub every_head : (x : A) (xs : List A) → every good (x ∷ xs) ≡ true → good x ≡ true
  unfolding every
  every_head x xs e = (both (good x) (every good xs) e).0

  pub every_tail : (x : A) (xs : List A) → every good (x ∷ xs) ≡ true → every good xs ≡ true
  unfolding every
  every_tail x xs e = (both (good x) (every good xs) e).1

  pub every_snoc : (xs : List A) (x : A) → every good xs ≡ true → good x ≡ true → every good (xs ++ (x ∷ [])) ≡ true
  every_snoc [] x h e = every_one x [] e every_nil
  every_snoc (y ∷ xs) x h e = every_one y (xs ++ (x ∷ [])) (every_head y xs h) (every_snoc xs x (every_tail y xs h) e)

pub sized_nil : sized_texts [] ≡ []
unfolding sized_texts
sized_nil = refl

pub sized_cons : (t : List ℕ) (ts : List (List ℕ)) → sized_texts (t ∷ ts) ≡ entry_text t ++ sized_texts ts
unfolding sized_texts
sized_cons t ts = refl

pub sized_append : (ts us : List (List ℕ)) → sized_texts (ts ++ us) ≡ sized_texts ts ++ sized_texts us
unfolding sized_texts
sized_append [] us = refl
sized_append (t ∷ ts) us = ap (λ (l : List ℕ). entry_text t ++ l) (sized_append ts us) ∙ sym (append_assoc (entry_text t) (sized_texts ts) (sized_texts us))

-- ---- the text at a place

module _ (s : List ℕ) (at : ℕ) where
  -- its length is that of whatever text stands there
  pub length_there : (t rest : List ℕ) → short t ≡ true → drop at s ≡ entry_text t ++ rest → length_at s at ≡ length t
  unfolding length_at count_at
  length_there t rest h e = ap (λ (l : List ℕ). length_at l 0) e ∙ length_at_lem [] t rest 0 refl (short_lt t h)

  pub room_there : (t rest : List ℕ) → drop at s ≡ entry_text t ++ rest → at + 2 + length t ≤ length s
  room_there t rest e =
      let l : length s - at ≡ length (entry_text t ++ rest) = sym (length-drop at s) ∙ ap length e in
      omega (arith, l, length-append (entry_text t) rest, length_entry t)

  pub after_there : (t rest : List ℕ) → drop at s ≡ entry_text t ++ rest → drop (at + 2 + length t) s ≡ rest
  after_there t rest e =
      let k : at + 2 + length t ≡ at + (2 + length t) = omega arith in
      ap (λ (n : ℕ). drop n s) k ∙ sym (drop-drop (2 + length t) at s) ∙ ap (drop (2 + length t)) e ∙ drop_at (entry_text t) rest (2 + length t) (length_entry t)

  -- none: the length is not there
  pub sized_none : number_at s at 2 ≡ None → NoText s at
  sized_none e t rest h q = count-missing s at 2 (omega arith) (omega (arith, room_there t rest q)) e

  module _ (b : AllBytes s) {v : ℕ} (e : number_at s at 2 ≡ Some v) where
    length_is : v ≡ length_at s at
    unfolding length_at
    length_is = (count_found s at 2 (omega arith) b e).0

    pub sized_room : at + 2 ≤ length s
    sized_room = (number_found s at 2 e).room

    -- none: the text is not all there
    pub sized_cut : length s < at + 2 + v → NoText s at
    sized_cut h t rest g q = absurd (omega (arith, room_there t rest q, length_there t rest g q, length_is))

    module _ (h : at + 2 + v ≤ length s) where
      here : there s at ≡ true
      unfolding there
      here = rw (le-leb (at + 2) (length s) sized_room, le-leb (at + 2 + length_at s at) (length s) (omega (arith, h, length_is)))

      long : length (text_at s at) ≡ length_at s at
      long = length_text s b at here

      part : text_at s at ≡ take (length (text_at s at)) (drop (at + 2) s)
      unfolding text_at
      part = ap (λ (n : ℕ). take n (drop (at + 2) s)) (sym long)

      pub sized_whole : {r : ℕ} → r ≡ at + 2 + v → SizedAt s at r
      sized_whole {r} p = record {
        inside = omega (arith, p);
        onward = omega (arith, p);
        sound = (text_at s at, lt_short _ (text_short s b at here), is, part, ends);
        complete = λ t rest g q. (ap (λ (n : ℕ). drop n s) (at_end_lem t rest g q) ∙ after_there t rest q, at_end_lem t rest g q);
      }
        where
          ends : r ≡ at + 2 + length (text_at s at)
          ends = omega (arith, p, long, length_is)

          is : drop at s ≡ entry_text (text_at s at) ++ drop r s
          is =
              let k : at + length (entry_text (text_at s at)) ≡ r = omega (arith, ends, length_entry (text_at s at)) in
              there_entry s b at here ∙ ap (λ (n : ℕ). entry_text (text_at s at) ++ drop n s) k

          at_end_lem : (t rest : List ℕ) → short t ≡ true → drop at s ≡ entry_text t ++ rest → r ≡ at + 2 + length t
          at_end_lem t rest g q = omega (arith, p, length_there t rest g q, length_is)

    -- where the text ends, in so long a buffer
    pub sized_moved : (r : Option ℕ) → r ≡ moved (length s) (Some (at + 2)) v → SizedRead s at r
    unfolding moved
    sized_moved r p = rw p (go (leb (at + 2 + v) (length s)) refl)
      where
        go : (t : Bool) → leb (at + 2 + v) (length s) ≡ t → SizedRead s at (cond t (Some (at + 2 + v)) None)
        go true k = sized_whole (leb-true (at + 2 + v) (length s) k) refl
        go false k = sized_cut (leb-false (at + 2 + v) (length s) k)

-- ---- texts one after the other: `i` of `count` texts from a place on are passed

pub record Left (count i : ℕ) (tail : List ℕ) (rest : List ℕ) : Type 0 where
  pub texts : List (List ℕ)
  pub many : i + length texts ≡ count
  pub brief : every short texts ≡ true
  pub is : tail ≡ sized_texts texts ++ rest

pub record Texts (s : List ℕ) (from count p i : ℕ) : Type 0 where
  pub inside : p ≤ length s
  pub onward : from ≤ p
  pub few : i ≤ count
  pub done : List (List ℕ)
  pub many : length done ≡ i
  pub brief : every short done ≡ true
  pub sound : drop from s ≡ sized_texts done ++ drop p s
  pub left : (ts : List (List ℕ)) (rest : List ℕ) → length ts ≡ count → every short ts ≡ true → drop from s ≡ sized_texts ts ++ rest → Left count i (drop p s) rest

module _ (s : List ℕ) (from count : ℕ) where
  pub texts_start : from ≤ length s → Texts s from count from 0
  texts_start h = record {
    inside = h;
    onward = omega arith;
    few = omega arith;
    done = [];
    many = refl;
    brief = every_nil short;
    sound = ap (λ (l : List ℕ). l ++ drop from s) (sym sized_nil);
    left = λ ts rest e g q. record { texts = ts; many = omega (arith, e); brief = g; is = q };
  }

  module _ {p i : ℕ} (t : Texts s from count p i) (more : i < count) where
    -- the next text is there
    first_left : (rest : List ℕ) (l : Left count i (drop p s) rest) → (us : List (List ℕ)) → l.texts ≡ us → (w : List ℕ) × (ws : List (List ℕ)) × (us ≡ w ∷ ws)
    first_left rest l [] e = absurd (omega (arith, l.many, ap length e))
    first_left rest l (w ∷ ws) e = (w, ws, refl)

    split_left : (rest : List ℕ) → Left count i (drop p s) rest → (w : List ℕ) × (ws : List (List ℕ)) × (suc i + length ws ≡ count) × (short w ≡ true)
        × (every short ws ≡ true) × (drop p s ≡ entry_text w ++ (sized_texts ws ++ rest))
    split_left rest l =
        let f = first_left rest l l.texts refl in
        let w = f.0 in
        let ws = f.1 in
        let g : every short (w ∷ ws) ≡ true = subst (λ (us : List (List ℕ)). every short us ≡ true) f.2 l.brief in (
          w,
          ws,
          omega (arith, l.many, ap length f.2),
          every_head short w ws g,
          every_tail short w ws g,
          l.is ∙ ap (λ (us : List (List ℕ)). sized_texts us ++ rest) f.2 ∙ ap (λ (x : List ℕ). x ++ rest) (sized_cons w ws)
              ∙ append_assoc (entry_text w) (sized_texts ws) rest,
        )

    -- no text: there are not so many
    pub texts_none : NoText s p → (ts : List (List ℕ)) (rest : List ℕ) → length ts ≡ count → every short ts ≡ true → drop from s ≡ sized_texts ts ++ rest → ⊥
    texts_none r ts rest e g h =
        let x = split_left rest (t.left ts rest e g h) in
        r x.0 (sized_texts x.1 ++ rest) x.3 x.5

    pub texts_more : {q : ℕ} → SizedAt s p q → Texts s from count q (i + 1)
    texts_more {q} r =
        let o = r.sound in
        record {
          inside = r.inside;
          onward = omega (arith, t.onward, r.onward);
          few = omega arith;
          done = t.done ++ (o.0 ∷ []);
          many = length-append t.done (o.0 ∷ []) ∙ omega (arith, t.many);
          brief = every_snoc short t.done o.0 t.brief o.1;
          sound =
              t.sound ∙ ap (λ (l : List ℕ). sized_texts t.done ++ l) o.2
              ∙ sym (append_assoc (sized_texts t.done) (entry_text o.0) (drop q s))
              ∙ ap (λ (l : List ℕ). l ++ drop q s) (sym (sized_append t.done (o.0 ∷ []) ∙ ap (λ (l : List ℕ). sized_texts t.done ++ l) (sized_cons o.0 [] ∙ ap (λ (l : List ℕ). entry_text o.0 ++ l) sized_nil ∙ append-nil (entry_text o.0))));
          left = λ ts rest e g h.
              let x = split_left rest (t.left ts rest e g h) in
              let y = r.complete x.0 (sized_texts x.1 ++ rest) x.3 x.5 in
              record { texts = x.1; many = omega (arith, x.2); brief = x.4; is = y.0 };
        }

  -- all of them
  pub texts_end : {p i : ℕ} → Texts s from count p i → count ≤ i → (ts : List (List ℕ)) (rest : List ℕ) → length ts ≡ count → every short ts ≡ true
      → drop from s ≡ sized_texts ts ++ rest → drop p s ≡ rest
  texts_end {p} {i} t h ts rest e g q =
      let l = t.left ts rest e g q in
      l.is ∙ none l.texts (omega (arith, l.many, t.few)) rest
    where
      none : (us : List (List ℕ)) → length us ≡ 0 → (rest : List ℕ) → sized_texts us ++ rest ≡ rest
      none [] z rest = ap (λ (l : List ℕ). l ++ rest) sized_nil
      none (u ∷ us) z rest = absurd (omega arith)

-- ---- the group at a place

-- its texts: the certificate, then its issuers
abbrev pub all : Group → List (List ℕ)
all g = g.certificate ∷ g.issuers

pub group_is : (g : Group) → group_text g ≡ length (all g) ∷ sized_texts (all g)
unfolding group_text
group_is g = refl

pub good_texts : (g : Group) → group_good g ≡ true → every short (all g) ≡ true
unfolding group_good
good_texts g e =
    let a = both (leb (length g.issuers) 254) (short g.certificate && every short g.issuers) e in
    let b = both (short g.certificate) (every short g.issuers) a.1 in
    every_one short g.certificate g.issuers b.0 b.1

pub good_few : (g : Group) → group_good g ≡ true → length (all g) < 256
unfolding group_good
good_few g e =
    let a = both (leb (length g.issuers) 254) (short g.certificate && every short g.issuers) e in
    omega (arith, leb-true (length g.issuers) 254 a.0)

pub group_good_lem : (g : Group) → length (all g) < 256 → every short (all g) ≡ true → group_good g ≡ true
unfolding group_good
group_good_lem g h e = rw (le-leb (length g.issuers) 254 (omega (arith, h)), every_head short g.certificate g.issuers e) (every_tail short g.certificate g.issuers e)

module _ (s : List ℕ) (at : ℕ) where
  -- there is at least the byte with the number
  pub group_room : (g : Group) (rest : List ℕ) → drop at s ≡ group_text g ++ rest → at < length s
  group_room g rest q =
      let l : length s - at ≡ length (group_text g ++ rest) = sym (length-drop at s) ∙ ap length q in
      omega (arith, l, length-append (group_text g) rest, ap length (group_is g))

  pub group_none : length s ≤ at → NoGroup s at
  group_none h g rest e q = absurd (omega (arith, group_room g rest q))

  module _ (h : at < length s) where
    opened : drop at s ≡ get_or s at 0 ∷ drop (at + 1) s
    opened = drop-cons s at 0 h ∙ ap (λ (n : ℕ). get_or s at 0 ∷ drop n s) (sym (add-one at))

    pub group_many : (g : Group) (rest : List ℕ) → drop at s ≡ group_text g ++ rest → get_or s at 0 ≡ length (all g)
    group_many g rest q = ap (λ (l : List ℕ). get_or l 0 0) (sym opened ∙ q ∙ ap (λ (l : List ℕ). l ++ rest) (group_is g))

    pub group_tail : (g : Group) (rest : List ℕ) → drop at s ≡ group_text g ++ rest → drop (at + 1) s ≡ sized_texts (all g) ++ rest
    group_tail g rest q = ap (drop 1) (sym opened ∙ q ∙ ap (λ (l : List ℕ). l ++ rest) (group_is g))

    pub group_zero : get_or s at 0 ≡ 0 → NoGroup s at
    group_zero z g rest e q = absurd (omega (arith, z, group_many g rest q))

    module _ {count p i : ℕ} (c : count ≡ get_or s at 0) (t : Texts s (at + 1) count p i) where
      pub group_cut : i < count → NoText s p → NoGroup s at
      group_cut m r g rest e q = absurd (texts_none s (at + 1) count t m r (all g) rest (sym (group_many g rest q) ∙ sym c) (good_texts g e) (group_tail g rest q))

      pub group_whole : 0 < count → count < 256 → count ≤ i → GroupAt s at p
      group_whole some few m = record {
        inside = t.inside;
        onward = omega (arith, t.onward);
        sound = found t.done (omega (arith, t.many, t.few)) t.brief t.sound;
        complete = λ g rest e q. texts_end s (at + 1) count t m (all g) rest (sym (group_many g rest q) ∙ sym c) (good_texts g e) (group_tail g rest q);
      }
        where
          found : (ds : List (List ℕ)) → length ds ≡ count → every short ds ≡ true → drop (at + 1) s ≡ sized_texts ds ++ drop p s
              → (g : Group) × (group_good g ≡ true) × (drop at s ≡ group_text g ++ drop p s)
          found [] l e q = absurd (omega (arith, l))
          found (d ∷ ds) l e q = (
            record { certificate = d; issuers = ds },
            group_good_lem (record { certificate = d; issuers = ds }) (omega (arith, l)) e,
            opened ∙ (λ j. (sym c ∙ sym l) j ∷ q j) ∙ ap (λ (x : List ℕ). x ++ drop p s) (sym (group_is (record { certificate = d; issuers = ds }))),
          )

-- ---- groups one after the other: `i` of `k` groups are passed

pub groups_nil : groups_text [] ≡ []
unfolding groups_text
groups_nil = refl

pub groups_cons : (g : Group) (gs : List Group) → groups_text (g ∷ gs) ≡ group_text g ++ groups_text gs
unfolding groups_text
groups_cons g gs = refl

pub groups_snoc : (gs : List Group) (g : Group) → groups_text (gs ++ (g ∷ [])) ≡ groups_text gs ++ group_text g
unfolding groups_text
groups_snoc [] g = append-nil (group_text g)
groups_snoc (h ∷ gs) g = ap (λ (l : List ℕ). group_text h ++ l) (groups_snoc gs g) ∙ sym (append_assoc (group_text h) (groups_text gs) (group_text g))

pub record GroupsLeft (k i : ℕ) (tail : List ℕ) : Type 0 where
  pub groups : List Group
  pub many : i + length groups ≡ k
  pub good : every group_good groups ≡ true
  pub is : tail ≡ groups_text groups

pub record Passed (s : List ℕ) (k p i : ℕ) : Type 0 where
  pub inside : p ≤ length s
  pub few : i ≤ k
  pub done : List Group
  pub many : length done ≡ i
  pub good : every group_good done ≡ true
  pub sound : s ≡ groups_text done ++ drop p s
  pub left : GroupsThere k s → GroupsLeft k i (drop p s)

module _ (s : List ℕ) (k : ℕ) where
  pub passed_start : Passed s k 0 0
  passed_start = record {
    inside = omega arith;
    few = omega arith;
    done = [];
    many = refl;
    good = every_nil group_good;
    sound = ap (λ (l : List ℕ). l ++ s) (sym groups_nil);
    left = λ g. record { groups = g.groups; many = omega (arith, g.count); good = g.good; is = g.bytes };
  }

  module _ {p i : ℕ} (t : Passed s k p i) (more : i < k) where
    first_group : (hs : List Group) → i + length hs ≡ k → every group_good hs ≡ true → drop p s ≡ groups_text hs
        → (g : Group) × (gs : List Group) × (suc i + length gs ≡ k) × (group_good g ≡ true) × (every group_good gs ≡ true) × (drop p s ≡ group_text g ++ groups_text gs)
    first_group [] m e h = absurd (omega (arith, m))
    first_group (g ∷ gs) m e h = (g, gs, omega (arith, m), every_head group_good g gs e, every_tail group_good g gs e, h ∙ groups_cons g gs)

    pub passed_none : NoGroup s p → GroupsThere k s → ⊥
    passed_none r g =
        let l = t.left g in
        let x = first_group l.groups l.many l.good l.is in
        r x.0 (groups_text x.1) x.3 x.5

    pub passed_more : {q : ℕ} → GroupAt s p q → Passed s k q (i + 1)
    passed_more {q} r =
        let o = r.sound in
        record {
          inside = r.inside;
          few = omega arith;
          done = t.done ++ (o.0 ∷ []);
          many = length-append t.done (o.0 ∷ []) ∙ omega (arith, t.many);
          good = every_snoc group_good t.done o.0 t.good o.1;
          sound =
              t.sound ∙ ap (λ (l : List ℕ). groups_text t.done ++ l) o.2
              ∙ sym (append_assoc (groups_text t.done) (group_text o.0) (drop q s))
              ∙ ap (λ (l : List ℕ). l ++ drop q s) (sym (groups_snoc t.done o.0));
          left = λ g.
              let l = t.left g in
              let x = first_group l.groups l.many l.good l.is in
              let y = r.complete x.0 (groups_text x.1) x.3 x.5 in
              record { groups = x.1; many = omega (arith, x.2); good = x.4; is = y };
        }

    pub groups_cut : NoGroup s p → (false ≡ true) ↔ GroupsThere k s
    groups_cut z = (λ e. true-is-not-false e, λ g. absurd (passed_none z g))

  pub groups_whole : {p i : ℕ} → Passed s k p i → k ≤ i → (eqb p (length s) ≡ true) ↔ GroupsThere k s
  groups_whole {p} {i} t m = (
    λ e. record {
      groups = t.done;
      count = omega (arith, t.many, t.few);
      good = t.good;
      bytes = t.sound ∙ ap (λ (l : List ℕ). groups_text t.done ++ l) (drop_of_length-le s {i = p} (omega (arith, eqb-true p (length s) e))) ∙ append-nil (groups_text t.done);
    },
    λ g. let l = t.left g in eq-eqb p (length s) (omega (arith, length-drop p s, t.inside, nothing l.groups (omega (arith, l.many, t.few)) l.is)),
  )
    where
      nothing : (hs : List Group) → length hs ≡ 0 → drop p s ≡ groups_text hs → length (drop p s) ≡ 0
      nothing [] z h = ap length (h ∙ groups_nil)
      nothing (g ∷ hs) z h = absurd (omega arith)
