-- The parts of an export and the whole of it, written one after the other.
use Rattle.primitives.specs.Bytes.{AllBytes}
use Rattle.primitives.specs.Number.{bytes_of, value_of, count_at, number_at}
use Rattle.primitives.proofs.Numbers.{length_bytes_of}
use Rattle.primitives.proofs.Counts.{count_found, count-missing}
use Rattle.receipt.specs.Settings.{name_text}
use Rattle.journal.specs.Head.{section, section_end, entry_text}
use Rattle.journal.proofs.Sections.{length_section}
use Rattle.exports.specs.Text.{every}
use Rattle.exports.specs.Spelled.{TextPair, sized_texts, short, pair_spelled, pairs_spelled, GoodPair, GoodPairs, also}
use Rattle.exports.specs.Shape.{Element}
use Rattle.exports.specs.Groups.{Group, group_text, groups_text, group_good}
use Rattle.std.proofs.Common.{suc, cond, Option, Some, None, MatchOption, IsSome, leb, ℕ, ◌+◌, ◌-◌, ◌≤◌, ◌<◌, ◌≡◌, refl, sym, ap, ◌∙◌, Bool, true, false, List, [], ◌∷◌, ◌++◌, map, append_assoc, append-nil, arith, ltb, length, take, drop, get_or, length-append, length-drop, drop-drop, leb-true, leb-false}
use Rattle.primitives.proofs.Rows.{true-is-not-false}
use Rattle.primitives.proofs.Numbers.{number_found}
use Rattle.exports.specs.Output.{moved, Out, Puts}
use Rattle.exports.specs.Writing.{comma, quoted, listed, in_base64, opening, before_certificate, before_issuers, before_receipts, ending, certificates_part, receipts_part, element_text, export_text, element_for, elements_for}
use Rattle.exports.specs.Passing.{NoText, SizedAt}
use Rattle.exports.specs.Running.{StringsPut, SigningPut, GroupPut, FourAt, SectionAt, SectionRead, PairPut, ElementsPut, ExportPut}
use Rattle.exports.proofs.Putting.{puts_then, puts_is, puts_nothing}
use Rattle.exports.proofs.Sized.{every_head, every_tail, sized_cons, all, good_texts, group_room, group_many, group_tail, groups_cons}
use Rattle.exports.proofs.PairsBack.{pair_open, pair_end, pair_count, pair_entries, pairs_cons}
use Rattle.exports.proofs.Copying.{piece_is, whole_more, listed_nil, all_same}

-- a "," where others went before

pub comma_there : {d : Bool} {o o₁ : Out} {more : Bool} → more ≡ true → Puts d o o₁ (44 ∷ []) → Puts d o o₁ (comma more)
comma_there e w = puts_is (sym (ap comma e)) w

pub no_comma : (d : Bool) (o : Out) {more : Bool} → more ≡ false → Puts d o o (comma more)
no_comma d o e = puts_is (sym (ap comma e)) (puts_nothing d o)

module _ {d : Bool} {o o₁ : Out} where
  -- a string, after a "," where others went before
  pub quoted_put : {o₂ o₃ o₄ : Out} (more : Bool) (w : List ℕ) → Puts d o o₁ (comma more) → Puts d o₁ o₂ (34 ∷ [])
      → Puts d o₂ o₃ w → Puts d o₃ o₄ (34 ∷ []) → Puts d o o₄ (comma more ++ quoted w)
  unfolding quoted
  quoted_put more w x y z v = puts_then x (puts_then y (puts_then z v))

  -- ---- the certificate that signs

  module _ (more : Bool) (s : List ℕ) (at : ℕ) where
    pub signing_put : {e : ℕ} → SizedAt s at e → {o₂ o₃ : Out} → Puts d o o₁ (comma more) → Puts d o₁ o₂ before_certificate
        → Puts d o₂ o₃ (comma false ++ quoted (in_base64 (take (e - (at + 2)) (drop (at + 2) s)))) → SigningPut d more s at o o₃ (Some e)
    signing_put {e} r x y z = record {
      same = z.same ∙ y.same ∙ x.same;
      long = z.long ∙ y.long ∙ x.long;
      is = λ w rest h q.
          let f = r.complete w rest h q in
          let i = piece_is s at e w rest q f.1 in
          (puts_then x (puts_then y (puts_is (ap (λ (l : List ℕ). quoted (in_base64 l)) i) z)), f.0);
    }

pub signing_none : (d more : Bool) (s : List ℕ) (at : ℕ) (o : Out) → NoText s at → SigningPut d more s at o o None
signing_none d more s at o f = record { same = refl; long = refl; is = λ w rest h q. absurd (f w rest h q) }

-- ---- a group

part_is : (m : Bool) (c : List ℕ) (l : List (List ℕ)) → ((comma m ++ (before_certificate ++ quoted c)) ++ before_issuers) ++ listed quoted false l ++ before_receipts ≡ comma m ++ certificates_part c l
unfolding certificates_part
part_is m c l = simp append_assoc

module _ (d more : Bool) (s : List ℕ) (at : ℕ) (o : Out) where
  pub group_none : length s ≤ at → GroupPut d more s at o o None
  group_none h = record { same = refl; long = refl; is = λ g rest e q. absurd (omega (arith, group_room s at g rest q)) }

  module _ (h : at < length s) where
    pub group_zero : get_or s at 0 ≡ 0 → GroupPut d more s at o o None
    group_zero z = record { same = refl; long = refl; is = λ g rest e q. absurd (omega (arith, z, group_many s at h g rest q)) }

    -- its certificate is missing
    pub group_unsigned : {o₁ : Out} → SigningPut d more s (at + 1) o o₁ None → GroupPut d more s at o o₁ None
    group_unsigned {o₁} x = record {
      same = x.same;
      long = x.long;
      is = λ g rest good q.
          absurd (x.is g.certificate (sized_texts g.issuers ++ rest) (every_head short g.certificate g.issuers (good_texts g good)) (opened g rest good q)).1;
    }
      where
        opened : (g : Group) (rest : List ℕ) → group_good g ≡ true → drop at s ≡ group_text g ++ rest → drop (at + 1) s ≡ entry_text g.certificate ++ (sized_texts g.issuers ++ rest)
        opened g rest good q =
            group_tail s at h g rest q ∙ ap (λ (u : List ℕ). u ++ rest) (sized_cons g.certificate g.issuers) ∙ append_assoc (entry_text g.certificate) (sized_texts g.issuers) rest

    module _ {o₁ o₂ o₃ : Out} {a c : ℕ} (e : c ≡ get_or s at 0) (x : SigningPut d more s (at + 1) o o₁ (Some a)) (y : Puts d o₁ o₂ before_issuers) where
      module _ {r : Option ℕ} (z : StringsPut d in_base64 s a (c - 1) o₂ o₃ r) (g : Group) (rest : List ℕ) (good : group_good g ≡ true) (q : drop at s ≡ group_text g ++ rest) where
        texts : every short (all g) ≡ true
        texts = good_texts g good

        opened : drop (at + 1) s ≡ entry_text g.certificate ++ (sized_texts g.issuers ++ rest)
        opened =
            group_tail s at h g rest q ∙ ap (λ (u : List ℕ). u ++ rest) (sized_cons g.certificate g.issuers) ∙ append_assoc (entry_text g.certificate) (sized_texts g.issuers) rest

        signed : Puts d o o₁ (comma more ++ (before_certificate ++ quoted (in_base64 g.certificate))) × (drop a s ≡ sized_texts g.issuers ++ rest)
        signed = x.is g.certificate (sized_texts g.issuers ++ rest) (every_head short g.certificate g.issuers texts) opened

        listed_there : Puts d o₂ o₃ (listed quoted false (map in_base64 g.issuers)) × MatchOption r ⊥ (λ e. drop e s ≡ rest)
        listed_there = z.is g.issuers rest (every_tail short g.certificate g.issuers texts) (omega (arith, e, group_many s at h g rest q)) signed.1

      -- an issuer is missing
      pub group_unlisted : StringsPut d in_base64 s a (c - 1) o₂ o₃ None → GroupPut d more s at o o₃ None
      group_unlisted z = record {
        same = z.same ∙ y.same ∙ x.same;
        long = z.long ∙ y.long ∙ x.long;
        is = λ g rest good q. absurd (listed_there z g rest good q).1;
      }

      pub group_put : {b : ℕ} → StringsPut d in_base64 s a (c - 1) o₂ o₃ (Some b) → {o₄ : Out} → Puts d o₃ o₄ before_receipts → GroupPut d more s at o o₄ (Some b)
      group_put z v = record {
        same = v.same ∙ z.same ∙ y.same ∙ x.same;
        long = v.long ∙ z.long ∙ y.long ∙ x.long;
        is = λ g rest good q.
            let f = signed z g rest good q in
            let i = listed_there z g rest good q in
            (puts_is (part_is more (in_base64 g.certificate) (map in_base64 g.issuers)) (puts_then (puts_then (puts_then f.0 y) i.0) v), i.1);
      }

-- ---- counts and sections

module _ (j : List ℕ) (at : ℕ) where
  pub four_is : AllBytes j → {v : ℕ} → number_at j at 4 ≡ Some v → FourAt j at v
  four_is b {v} e = let f = count_found j at 4 (omega arith) b e in record { room = (number_found j at 4 e).room; small = f.1; is = f.0 }

  pub four_none : number_at j at 4 ≡ None → length j < at + 4
  four_none e = go (leb (at + 4) (length j)) refl
    where
      go : (t : Bool) → leb (at + 4) (length j) ≡ t → length j < at + 4
      go true k = count-missing j at 4 (omega arith) (leb-true (at + 4) (length j) k) e
      go false k = leb-false (at + 4) (length j) k

  pub section_short : length j < at + 4 → length j < section_end j at
  unfolding section_end
  section_short h = omega arith

  pub section_moved : {v : ℕ} → FourAt j at v → (r : Option ℕ) → r ≡ moved (length j) (Some (at + 4)) v → SectionRead j at r
  unfolding moved section_end
  section_moved {v} f r e = rw e (go (leb (at + 4 + v) (length j)) refl)
    where
      go : (t : Bool) → leb (at + 4 + v) (length j) ≡ t → SectionRead j at (cond t (Some (at + 4 + v)) None)
      go true k = record { inside = leb-true (at + 4 + v) (length j) k; is = ap (λ (n : ℕ). at + 4 + n) f.is }
      go false k = omega (arith, leb-false (at + 4 + v) (length j) k, f.is)

-- ---- a pair

pub end_there : (j : List ℕ) (at : ℕ) → section_end j at ≡ at + section_end (drop at j) 0
unfolding section_end count_at
end_there j at = omega arith

count_there : (j : List ℕ) (at k : ℕ) → count_at j (at + k) 4 ≡ count_at (drop at j) k 4
unfolding count_at
count_there j at k = ap (λ (l : List ℕ). value_of (take 4 l)) (sym (drop-drop k at j))

module _ (j : List ℕ) (at : ℕ) (x : TextPair) (rest : List ℕ) (f : GoodPair x) (q : drop at j ≡ pair_spelled x ++ rest) where
  long_enough : section_end (pair_spelled x ++ rest) 0 + 4 ≤ length (pair_spelled x ++ rest)
  long_enough =
      let s = section (name_text x.serial) in
      let c = bytes_of 4 (length x.texts) in
      let r = sized_texts x.texts ++ rest in
      omega (arith, pair_end x f rest, ap length (pair_open x f rest), length-append s (c ++ r), length-append c r, length_section (name_text x.serial), length_bytes_of 4 (length x.texts))

  end_at : section_end j at ≡ at + section_end (pair_spelled x ++ rest) 0
  end_at = end_there j at ∙ ap (λ (l : List ℕ). at + section_end l 0) q

  pub pair_room : section_end j at + 4 ≤ length j
  pair_room = omega (arith, end_at, long_enough, length-drop at j, ap length q)

  pub pair_many : count_at j (section_end j at) 4 ≡ length x.texts
  pair_many =
      ap (λ (k : ℕ). count_at j k 4) end_at ∙ count_there j at (section_end (pair_spelled x ++ rest) 0)
      ∙ ap (λ (l : List ℕ). count_at l (section_end (pair_spelled x ++ rest) 0) 4) q ∙ pair_count x f rest

  pub pair_texts_lem : drop (section_end j at + 4) j ≡ sized_texts x.texts ++ rest
  pair_texts_lem =
      let k = section_end (pair_spelled x ++ rest) 0 in
      let e : section_end j at + 4 ≡ at + (k + 4) = omega (arith, end_at) in
      ap (λ (n : ℕ). drop n j) e ∙ sym (drop-drop (k + 4) at j) ∙ ap (drop (k + 4)) q ∙ pair_entries x f rest

receipts_is : (l : List (List ℕ)) → listed quoted false l ++ ending ≡ receipts_part l
unfolding receipts_part
receipts_is l = refl

module _ (d : Bool) (j : List ℕ) (at : ℕ) where
  pub pair_cut : (o : Out) → length j < section_end j at → PairPut d j at o o None
  pair_cut o h = record { same = refl; long = refl; is = λ x rest f q. let m = pair_room j at x rest f q in absurd (omega (arith, m, h)) }

  module _ {b : ℕ} (sr : SectionAt j at b) where
    pub pair_short : (o : Out) → length j < b + 4 → PairPut d j at o o None
    pair_short o h = record { same = refl; long = refl; is = λ x rest f q. let m = pair_room j at x rest f q in absurd (omega (arith, m, h, sr.is)) }

    module _ {v : ℕ} (four : FourAt j b v) {o o₁ : Out} {r : Option ℕ} (y : StringsPut d (λ (w : List ℕ). w) j (b + 4) v o o₁ r) where
      pair_there : (x : TextPair) (rest : List ℕ) → GoodPair x → drop at j ≡ pair_spelled x ++ rest
          → Puts d o o₁ (listed quoted false (map (λ (w : List ℕ). w) x.texts)) × MatchOption r ⊥ (λ e. drop e j ≡ rest)
      pair_there x rest f q =
          let c : v ≡ length x.texts = four.is ∙ ap (λ (k : ℕ). count_at j k 4) sr.is ∙ pair_many j at x rest f q in
          y.is x.texts rest f.short c (ap (λ (k : ℕ). drop (k + 4) j) sr.is ∙ pair_texts_lem j at x rest f q)

    pub pair_missing : {v : ℕ} → FourAt j b v → {o o₁ : Out} → StringsPut d (λ (w : List ℕ). w) j (b + 4) v o o₁ None → PairPut d j at o o₁ None
    pair_missing four y = record { same = y.same; long = y.long; is = λ x rest f q. absurd (pair_there four y x rest f q).1 }

    pub pair_put : {v : ℕ} → FourAt j b v → {o o₁ o₂ : Out} {e : ℕ} → StringsPut d (λ (w : List ℕ). w) j (b + 4) v o o₁ (Some e) → Puts d o₁ o₂ ending → PairPut d j at o o₂ (Some e)
    pair_put four y z = record {
      same = z.same ∙ y.same;
      long = z.long ∙ y.long;
      is = λ x rest f q.
          let w = pair_there four y x rest f q in
          (puts_is (receipts_is x.texts) (puts_then (puts_is (ap (listed quoted false) (all_same x.texts)) w.0) z), w.1);
    }

-- ---- elements: `i` of `k` are written

pub record Going (d : Bool) (k i : ℕ) (o₀ o : Out) (tail others : List ℕ) (ps : List TextPair) (gs : List Group) : Type 0 where
  pub pairs : List TextPair
  pub groups : List Group
  pub done : List ℕ
  pub many : i + length pairs ≡ k
  pub manys : i + length groups ≡ k
  pub fit : GoodPairs pairs
  pub good : every group_good groups ≡ true
  pub here : tail ≡ pairs_spelled pairs
  pub there : others ≡ groups_text groups
  pub put : Puts d o₀ o done
  pub whole : done ++ listed element_text (ltb 0 i) (elements_for pairs groups) ≡ listed element_text false (elements_for ps gs)

pub record Elements (d : Bool) (j : List ℕ) (at : ℕ) (s : List ℕ) (k : ℕ) (o₀ o : Out) (a g i : ℕ) : Type 0 where
  pub few : i ≤ k
  pub same : o.lent ≡ o₀.lent
  pub long : length o.bytes ≡ length o₀.bytes
  pub is : (ps : List TextPair) (gs : List Group) → GoodPairs ps → every group_good gs ≡ true → length ps ≡ k → length gs ≡ k
      → drop at j ≡ pairs_spelled ps → s ≡ groups_text gs → Going d k i o₀ o (drop a j) (drop g s) ps gs

pub elements_start : (d : Bool) (j : List ℕ) (at : ℕ) (s : List ℕ) (k : ℕ) (o : Out) → Elements d j at s k o o at 0 0
elements_start d j at s k o = record {
  few = omega arith;
  same = refl;
  long = refl;
  is = λ ps gs f h l m q r. record {
    pairs = ps;
    groups = gs;
    done = [];
    many = omega (arith, l);
    manys = omega (arith, m);
    fit = f;
    good = h;
    here = q;
    there = r;
    put = puts_nothing d o;
    whole = refl;
  };
}

element_is : (m : Bool) (p : TextPair) (g : Group)
    → (comma m ++ certificates_part (in_base64 g.certificate) (map in_base64 g.issuers)) ++ receipts_part p.texts ≡ comma m ++ element_text (element_for p g)
unfolding element_text element_for
element_is m p g = append_assoc (comma m) (certificates_part (in_base64 g.certificate) (map in_base64 g.issuers)) (receipts_part p.texts)

elements_cons : (p : TextPair) (ps : List TextPair) (g : Group) (gs : List Group) → elements_for (p ∷ ps) (g ∷ gs) ≡ element_for p g ∷ elements_for ps gs
unfolding elements_for
elements_cons p ps g gs = refl

elements_nil : (gs : List Group) → elements_for [] gs ≡ []
unfolding elements_for
elements_nil gs = refl

module _ {d : Bool} {j : List ℕ} {at : ℕ} {s : List ℕ} {k : ℕ} {o₀ o : Out} {a g i : ℕ} (t : Elements d j at s k o₀ o a g i) where
  -- what is next
  record Next (ps : List TextPair) (gs : List Group) (u : Going d k i o₀ o (drop a j) (drop g s) ps gs) : Type 0 where
    pair : TextPair
    pairs : List TextPair
    group : Group
    groups : List Group
    many : suc i + length pairs ≡ k
    manys : suc i + length groups ≡ k
    fit : GoodPair pair
    fits : GoodPairs pairs
    good : group_good group ≡ true
    goods : every group_good groups ≡ true
    here : drop a j ≡ pair_spelled pair ++ pairs_spelled pairs
    there : drop g s ≡ group_text group ++ groups_text groups
    whole : u.done ++ listed element_text (ltb 0 i) (element_for pair group ∷ elements_for pairs groups) ≡ listed element_text false (elements_for ps gs)

  next : i < k → (ps : List TextPair) (gs : List Group) (u : Going d k i o₀ o (drop a j) (drop g s) ps gs) → Next ps gs u
  next m ps gs u = go u.pairs u.groups u.many u.manys u.fit u.good u.here u.there u.whole
    where
      go : (qs : List TextPair) (hs : List Group) → i + length qs ≡ k → i + length hs ≡ k → GoodPairs qs → every group_good hs ≡ true
          → drop a j ≡ pairs_spelled qs → drop g s ≡ groups_text hs
          → u.done ++ listed element_text (ltb 0 i) (elements_for qs hs) ≡ listed element_text false (elements_for ps gs) → Next ps gs u
      go [] hs l n f h q r all = absurd (omega (arith, l))
      go (b ∷ qs) [] l n f h q r all = absurd (omega (arith, n))
      go (b ∷ qs) (c ∷ hs) l n (also f fs) h q r all = record {
        pair = b;
        pairs = qs;
        group = c;
        groups = hs;
        many = omega (arith, l);
        manys = omega (arith, n);
        fit = f;
        fits = fs;
        good = every_head group_good c hs h;
        goods = every_tail group_good c hs h;
        here = q ∙ pairs_cons b qs;
        there = r ∙ groups_cons c hs;
        whole = ap (λ (es : List Element). u.done ++ listed element_text (ltb 0 i) es) (sym (elements_cons b qs c hs)) ∙ all;
      }

  module _ (m : i < k) where
    -- a group is missing
    pub elements_ungrouped : {o₁ : Out} → GroupPut d (ltb 0 i) s g o o₁ None → ElementsPut d j at s k o₀ o₁ None
    elements_ungrouped v = record {
      same = v.same ∙ t.same;
      long = v.long ∙ t.long;
      is = λ ps gs f h l n q r. let x = next m ps gs (t.is ps gs f h l n q r) in absurd (v.is x.group (groups_text x.groups) x.good x.there).1;
    }

    module _ {g' : ℕ} {o₁ : Out} (v : GroupPut d (ltb 0 i) s g o o₁ (Some g')) where
      -- a pair is missing
      pub elements_unpaired : {o₂ : Out} → PairPut d j a o₁ o₂ None → ElementsPut d j at s k o₀ o₂ None
      elements_unpaired w = record {
        same = w.same ∙ v.same ∙ t.same;
        long = w.long ∙ v.long ∙ t.long;
        is = λ ps gs f h l n q r. let x = next m ps gs (t.is ps gs f h l n q r) in absurd (w.is x.pair (pairs_spelled x.pairs) x.fit x.here).1;
      }

      pub elements_more : {a' : ℕ} {o₂ : Out} → PairPut d j a o₁ o₂ (Some a') → Elements d j at s k o₀ o₂ a' g' (i + 1)
      elements_more {a'} {o₂} w = record {
        few = omega arith;
        same = w.same ∙ v.same ∙ t.same;
        long = w.long ∙ v.long ∙ t.long;
        is = λ ps gs f h l n q r.
            let u = t.is ps gs f h l n q r in
            let x = next m ps gs u in
            let e₁ = v.is x.group (groups_text x.groups) x.good x.there in
            let e₂ = w.is x.pair (pairs_spelled x.pairs) x.fit x.here in
            record {
              pairs = x.pairs;
              groups = x.groups;
              done = u.done ++ (comma (ltb 0 i) ++ element_text (element_for x.pair x.group));
              many = omega (arith, x.many);
              manys = omega (arith, x.manys);
              fit = x.fits;
              good = x.goods;
              here = e₂.1;
              there = e₁.1;
              put = puts_then u.put (puts_is (element_is (ltb 0 i) x.pair x.group) (puts_then e₁.0 e₂.0));
              whole = whole_more element_text i u.done (element_for x.pair x.group) (elements_for x.pairs x.groups) x.whole;
            };
      }

  pub elements_end : k ≤ i → (u : Unit {0}) → ElementsPut d j at s k o₀ o (Some u)
  elements_end m u = record {
    same = t.same;
    long = t.long;
    is = λ ps gs f h l n q r.
        let u = t.is ps gs f h l n q r in
        (go ps gs u.pairs u.groups u.done (omega (arith, u.many, t.few)) u.put u.whole, refl);
  }
    where
      go : (ps : List TextPair) (gs : List Group) (qs : List TextPair) (hs : List Group) (done : List ℕ) → length qs ≡ 0 → Puts d o₀ o done
          → done ++ listed element_text (ltb 0 i) (elements_for qs hs) ≡ listed element_text false (elements_for ps gs) → Puts d o₀ o (listed element_text false (elements_for ps gs))
      go ps gs (b ∷ qs) hs done z w all = absurd (omega arith)
      go ps gs [] hs done z w all =
          puts_is (sym (append-nil done) ∙ ap (λ (l : List ℕ). done ++ l) (sym (listed_nil element_text (ltb 0 i)))
          ∙ ap (λ (es : List Element). done ++ listed element_text (ltb 0 i) es) (sym (elements_nil hs)) ∙ all) w

-- ---- the whole text

export_is : (l : List ℕ) (es : List Element) → l ≡ listed element_text false es → opening ++ (l ++ ending) ≡ export_text es
unfolding export_text
export_is l es e = ap (λ (x : List ℕ). opening ++ (x ++ ending)) e

module _ (d : Bool) (j s : List ℕ) (k : ℕ) where
  pub export_cut : (o : Out) → length j < section_end j 7 → ExportPut d j s k o o
  export_cut o h = record { same = refl; long = refl; is = λ ps gs f e l m room q g. absurd (omega (arith, h, room)) }

  module _ {at : ℕ} (r : SectionAt j 7 at) {o o₁ : Out} (x : Puts d o o₁ opening) where
    export_elements : {o₂ : Out} {t : Option (Unit {0})} → ElementsPut d j at s k o₁ o₂ t → (ps : List TextPair) (gs : List Group) → GoodPairs ps → every group_good gs ≡ true → length ps ≡ k
        → length gs ≡ k → drop (section_end j 7) j ≡ pairs_spelled ps → s ≡ groups_text gs → Puts d o₁ o₂ (listed element_text false (elements_for ps gs)) × IsSome t
    export_elements y ps gs f h l m q g = y.is ps gs f h l m (ap (λ (n : ℕ). drop n j) r.is ∙ q) g

    pub export_missing : {o₂ : Out} → ElementsPut d j at s k o₁ o₂ None → ExportPut d j s k o o₂
    export_missing y = record {
      same = y.same ∙ x.same;
      long = y.long ∙ x.long;
      is = λ ps gs f h l m room q g. let e = (export_elements y ps gs f h l m q g).1 in true-is-not-false e;
    }

    pub export_put : {o₂ o₃ : Out} {u : Unit {0}} → ElementsPut d j at s k o₁ o₂ (Some u) → Puts d o₂ o₃ ending → ExportPut d j s k o o₃
    export_put y z = record {
      same = z.same ∙ y.same ∙ x.same;
      long = z.long ∙ y.long ∙ x.long;
      is = λ ps gs f h l m room q g.
          puts_is (export_is (listed element_text false (elements_for ps gs)) (elements_for ps gs) refl) (puts_then x (puts_then (export_elements y ps gs f h l m q g).0 z));
    }
