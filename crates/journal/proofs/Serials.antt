-- The serials of a state: those used, one more, and what good ones are.
use Rattle.std.proofs.Common.{ℕ, zero, suc, ◌+◌, ◌-◌, ◌≤◌, ◌<◌, ◌≡◌, refl, sym, ap, ◌∙◌, subst, Bool, true, false, cond, ◌&&◌, ◌||◌, List, [], ◌∷◌, ◌++◌, map, append_assoc, arith, ltb-false, leb-true, le-leb, eqb-true, eq-eqb, ne_eqb, ltb, eqb, length, take, drop, get_or, set, replicate, length-append, length-drop, drop_at}
use Rattle.std.specs.Prelude.{Option, Some, None}
use Rattle.std.specs.Option.{unwrap_or}
use Rattle.std.specs.List.{position_or_len, slice_get, list_any, list_all}
use Rattle.std.proofs.Math.Seq.{take-append_seam}
use Rattle.std.proofs.Math.Bool.{and_comm}
use Rattle.std.proofs.lemmas.List.{drop-replicate, length-map, length-replicate, set_at}
use Rattle.std.proofs.lemmas.List.Recursion.{is_position_or_len}
use Rattle.primitives.specs.Bytes.{same}
use Rattle.receipt.specs.contracts.settings.NamePartialEq.TheImpl.{ghosts}
use lib.Pointwise.{pointwise}
use Rattle.primitives.proofs.ByteLists.{same_refl, same_true}
use Rattle.primitives.proofs.Rows.{both}
use Rattle.receipt.specs.Settings.{serial_good}
use Rattle.receipt.specs.declared.settings.Letters.TheVariants.{Serial}
use Rattle.receipt.specs.declared.settings.Name.{Name}
use Rattle.receipt.proofs.Names.{good_name}
use Rattle.journal.specs.State.{no_name, same_name, used, in_eight, added, last_from, newest, is_in, all_good, all_empty, serials_good}

-- ---- names

pub same_name_is : (a b : Name) → same_name a b ≡ true → a ≡ b
unfolding same_name
same_name_is a b e =
    let p = both _ _ e in
    λ i. record { bytes = same_true a.bytes b.bytes p.1 i; len = eqb-true a.len b.len p.0 i }

pub same_name_refl : (a : Name) → same_name a a ≡ true
unfolding same_name
same_name_refl a = rw (eq-eqb a.len a.len refl) (same_refl a.bytes)

-- what `==` says of two names
same_bytes : (xs ys : List ℕ) → pointwise eqb xs ys ≡ same xs ys
unfolding same
same_bytes [] [] = refl
same_bytes [] (y ∷ ys) = refl
same_bytes (x ∷ xs) [] = refl
same_bytes (x ∷ xs) (y ∷ ys) = ap (λ (t : Bool). eqb x y && t) (same_bytes xs ys)

pub name_eq : (a b : Name) → ghosts.eq a b ≡ same_name a b
unfolding same_name
name_eq a b = rw (same_bytes a.bytes b.bytes) (and_comm (same a.bytes b.bytes) (eqb a.len b.len))

pub name_eq_turned : (a b : Name) → ghosts.eq a b ≡ same_name b a
name_eq_turned a b = name_eq a b ∙ go (same_name a b) (same_name b a) refl refl
  where
    go : (s t : Bool) → same_name a b ≡ s → same_name b a ≡ t → s ≡ t
    go true t p q = sym (ap (λ (n : Name). same_name n a) (sym (same_name_is a b p)) ∙ same_name_refl a) ∙ q
    go false true p q = sym p ∙ (ap (λ (n : Name). same_name n b) (sym (same_name_is b a q)) ∙ same_name_refl b)
    go false false p q = refl

some_letters : (s : Name) → serial_good s ≡ true → s.len ≡ 0 → ⊥
some_letters s g e = let h = (good_name Serial s g).some in absurd (omega arith)

-- ---- one more

used_none : (k : ℕ) → used (replicate k no_name) ≡ []
unfolding used
used_none zero = refl
used_none (suc k) = refl

used_snoc : (slots : List Name) (s : Name) (k : ℕ) → (s.len ≡ 0 → ⊥) → used ((used slots ++ (s ∷ [])) ++ replicate k no_name) ≡ used slots ++ (s ∷ [])
unfolding used
used_snoc [] s k h = rw (ne_eqb s.len 0 h, used_none k)
used_snoc (n ∷ ns) s k h = go (eqb n.len 0) refl (used_snoc ns s k h)
  where
    go : (t : Bool) → eqb n.len 0 ≡ t → used ((used ns ++ (s ∷ [])) ++ replicate k no_name) ≡ used ns ++ (s ∷ [])
        → used ((cond t [] (n ∷ used ns) ++ (s ∷ [])) ++ replicate k no_name) ≡ cond t [] (n ∷ used ns) ++ (s ∷ [])
    go true e r = rw (ne_eqb s.len 0 h, used_none k)
    go false e r = rw e (ap (λ (l : List Name). n ∷ l) r)

pub used_added : (slots : List Name) (s : Name) → serial_good s ≡ true → used (added slots s) ≡ used slots ++ (s ∷ [])
unfolding added in_eight
used_added slots s g = used_snoc slots s (8 - length (used slots ++ (s ∷ []))) (some_letters s g)

last_snoc : (d : Name) (ns : List Name) (s : Name) → last_from d (ns ++ (s ∷ [])) ≡ s
unfolding last_from
last_snoc d [] s = refl
last_snoc d (n ∷ ns) s = last_snoc n ns s

pub newest_added : (slots : List Name) (s : Name) → serial_good s ≡ true → newest (added slots s) ≡ s
unfolding newest
newest_added slots s g = rw (used_added slots s g) (last_snoc no_name (used slots) s)

-- ---- zeros after those used

abbrev pub Zeroed : List Name → Type 0
Zeroed slots = slots ≡ in_eight (used slots)

added_is : (slots : List Name) (s : Name) → added slots s ≡ in_eight (used slots ++ (s ∷ []))
unfolding added
added_is slots s = refl

pub added_zeroed : (slots : List Name) (s : Name) → serial_good s ≡ true → Zeroed (added slots s)
added_zeroed slots s g = added_is slots s ∙ ap in_eight (sym (used_added slots s g))

pub used_eight : (ns : List Name) → all_good ns ≡ true → used (in_eight ns) ≡ ns
unfolding in_eight all_good used
used_eight [] g = used_none 8
used_eight (n ∷ ns) g =
    let p = both (serial_good n) (all_good ns) g in
    rw (ne_eqb n.len 0 (some_letters n p.0)) (ap (λ (l : List Name). n ∷ l) (rest ns (8 - suc (length ns)) p.1))
  where
    rest : (ms : List Name) (k : ℕ) → all_good ms ≡ true → used (ms ++ replicate k no_name) ≡ ms
    rest [] k a = used_none k
    rest (m ∷ ms) k a =
        let p = both (serial_good m) (all_good ms) a in
        rw (ne_eqb m.len 0 (some_letters m p.0)) (ap (λ (l : List Name). m ∷ l) (rest ms k p.1))

all_empty_lem : (k : ℕ) → all_empty (replicate k no_name) ≡ true
unfolding all_empty
all_empty_lem zero = refl
all_empty_lem (suc k) = rw (same_name_refl no_name) (all_empty_lem k)

pub good_snoc : (ns : List Name) (s : Name) → all_good ns ≡ true → serial_good s ≡ true → all_good (ns ++ (s ∷ [])) ≡ true
unfolding all_good
good_snoc [] s a g = rw g
good_snoc (n ∷ ns) s a g = let p = both (serial_good n) (all_good ns) a in rw p.0 (good_snoc ns s p.1 g)

eight_rest : (ns : List Name) → drop (length ns) (in_eight ns) ≡ replicate (8 - length ns) no_name
unfolding in_eight
eight_rest ns = drop_at ns (replicate (8 - length ns) no_name) (length ns) refl

pub length_eight : (ns : List Name) → length ns ≤ 8 → length (in_eight ns) ≡ 8
unfolding in_eight
length_eight ns h = simp (length-append, length-replicate) (omega arith)

pub serials_good_lem : (slots : List Name) → Zeroed slots → 0 < length (used slots) → all_good (used slots) ≡ true → serials_good slots ≡ true
unfolding serials_good
serials_good_lem slots e least g =
    let r : drop (length (used slots)) slots ≡ replicate (8 - length (used slots)) no_name = ap (drop (length (used slots))) e ∙ eight_rest (used slots) in
    rw (le-leb 1 (length (used slots)) least, g, r) (all_empty_lem (8 - length (used slots)))

pub eight_good : (ns : List Name) → 0 < length ns → all_good ns ≡ true → serials_good (in_eight ns) ≡ true
eight_good ns h g =
    let u = used_eight ns g in
    serials_good_lem (in_eight ns) (ap in_eight (sym u)) (rw u h) (rw u g)

-- ---- what good serials are

pub used_prefix : (slots : List Name) → slots ≡ used slots ++ drop (length (used slots)) slots
unfolding used
used_prefix [] = refl
used_prefix (n ∷ ns) = go (eqb n.len 0) (used_prefix ns)
  where
    go : (t : Bool) → ns ≡ used ns ++ drop (length (used ns)) ns → n ∷ ns ≡ cond t [] (n ∷ used ns) ++ drop (length (cond t [] (n ∷ used ns))) (n ∷ ns)
    go true e = refl
    go false e = ap (λ (l : List Name). n ∷ l) e

pub used_length : (slots : List Name) → length (used slots) ≤ length slots
used_length slots = omega (arith, ap length (used_prefix slots), length-append (used slots) (drop (length (used slots)) slots))

empty_rest : (ns : List Name) → all_empty ns ≡ true → ns ≡ replicate (length ns) no_name
unfolding all_empty
empty_rest [] e = refl
empty_rest (n ∷ ns) e =
    let p = both (same_name n no_name) (all_empty ns) e in
    λ i. same_name_is n no_name p.0 i ∷ empty_rest ns p.1 i

pub record Serials (slots : List Name) : Type 0 where
  pub zeroed : Zeroed slots
  pub some : 0 < length (used slots)
  pub good : all_good (used slots) ≡ true

zeroed_is : (slots : List Name) → length slots ≡ 8 → all_empty (drop (length (used slots)) slots) ≡ true → Zeroed slots
unfolding in_eight
zeroed_is slots l e =
    let u = length (used slots) in
    let d : drop u slots ≡ replicate (length (drop u slots)) no_name = empty_rest (drop u slots) e in
    let k : length (drop u slots) ≡ 8 - u = length-drop u slots ∙ ap (λ (n : ℕ). n - u) l in
    used_prefix slots ∙ ap (λ (l : List Name). used slots ++ l) (d ∙ ap (λ (n : ℕ). replicate n no_name) k)

pub record Used (slots : List Name) : Type 0 where
  pub some : 0 < length (used slots)
  pub good : all_good (used slots) ≡ true
  pub rest : all_empty (drop (length (used slots)) slots) ≡ true

pub serials_used : (slots : List Name) → serials_good slots ≡ true → Used slots
unfolding serials_good
serials_used slots e =
    let p = both _ _ e in
    let q = both _ _ p.1 in
    record { some = leb-true _ _ p.0; good = q.0; rest = q.1 }

pub serials_are : (slots : List Name) → length slots ≡ 8 → serials_good slots ≡ true → Serials slots
serials_are slots l e =
    let u = serials_used slots e in
    record { zeroed = zeroed_is slots l u.rest; some = u.some; good = u.good }

last_good : (d : Name) (ns : List Name) → serial_good d ≡ true → all_good ns ≡ true → serial_good (last_from d ns) ≡ true
unfolding last_from all_good
last_good d [] g a = g
last_good d (n ∷ ns) g a = let p = both (serial_good n) (all_good ns) a in last_good n ns p.0 p.1

newest_from : (ns : List Name) → 0 < length ns → all_good ns ≡ true → serial_good (last_from no_name ns) ≡ true
unfolding last_from all_good
newest_from [] h a = absurd (omega arith)
newest_from (n ∷ ns) h a = let p = both (serial_good n) (all_good ns) a in last_good n ns p.0 p.1

-- the newest of good serials is good, and so is the first
pub newest_good : (slots : List Name) → serials_good slots ≡ true → serial_good (newest slots) ≡ true
unfolding newest
newest_good slots e = let u = serials_used slots e in newest_from (used slots) u.some u.good

pub first_good_lem : (slots : List Name) → serials_good slots ≡ true → serial_good (get_or slots 0 no_name) ≡ true
unfolding all_good
first_good_lem slots e =
    let u = serials_used slots e in
    subst (λ (l : List Name). serial_good (get_or l 0 no_name) ≡ true) (sym (used_prefix slots)) (go (used slots) (drop (length (used slots)) slots) u.some u.good)
  where
    go : (ns rest : List Name) → 0 < length ns → all_good ns ≡ true → serial_good (get_or (ns ++ rest) 0 no_name) ≡ true
    go [] rest h a = absurd (omega arith)
    go (n ∷ ns) rest h a = (both (serial_good n) (all_good ns) a).0

-- one more good serial
pub added_good : (slots : List Name) (s : Name) → serials_good slots ≡ true → serial_good s ≡ true → serials_good (added slots s) ≡ true
added_good slots s e g =
    let u = used_added slots s g in
    let l = ap length u ∙ length-append (used slots) (s ∷ []) in
    serials_good_lem (added slots s) (added_zeroed slots s g) (omega arith) (rw u (good_snoc (used slots) s (serials_used slots e).good g))

eight_set : (ns : List Name) (s : Name) → length ns < 8 → in_eight (ns ++ (s ∷ [])) ≡ set (in_eight ns) (length ns) s
unfolding in_eight
eight_set ns s h =
    let l : 8 - length (ns ++ (s ∷ [])) ≡ 8 - suc (length ns) = ap (λ (n : ℕ). 8 - n) (length-append ns (s ∷ []) ∙ omega arith) in
    let k : 8 - length ns ≡ suc (8 - suc (length ns)) = omega arith in
    rw (l, k) (append_assoc ns (s ∷ []) (replicate (8 - suc (length ns)) no_name) ∙ sym (set_at ns no_name (replicate (8 - suc (length ns)) no_name) s (length ns) refl))

-- the place after those used is set
pub added_set : (slots : List Name) (k : ℕ) (s : Name) → length slots ≡ 8 → serials_good slots ≡ true → length (used slots) < 8 → k ≡ length (used slots)
    → set slots k s ≡ added slots s
added_set slots k s l e f q =
    let z = (serials_are slots l e).zeroed in
    ap (λ (n : ℕ). set slots n s) q
    ∙ sym (added_is slots s ∙ (eight_set (used slots) s f ∙ ap (λ (l : List Name). set l (length (used slots)) s) (sym z)))

-- the code's way: those used are copied to eight zero names, and the place after them is set
pub added_copied : (slots us bs : List Name) (s : Name) → us ≡ used slots → length (used slots) < 8 → bs ≡ us
    → set (bs ++ drop (length us) (replicate 8 no_name)) (length us) s ≡ added slots s
unfolding in_eight
added_copied slots us bs s e f q =
    (λ i. set ((q ∙ e) i ++ drop (length (e i)) (replicate 8 no_name)) (length (e i)) s)
    ∙ ap (λ (l : List Name). set (used slots ++ l) (length (used slots)) s) (drop-replicate (length (used slots)) 8 no_name)
    ∙ sym (eight_set (used slots) s f) ∙ sym (added_is slots s)

-- ---- one of them

pub in_snoc : (s : Name) (ns : List Name) (n : Name) → is_in s (ns ++ (n ∷ [])) ≡ is_in s ns || same_name s n
unfolding is_in
in_snoc s [] n = go (same_name s n)
  where
    go : (t : Bool) → t || false ≡ t
    go true = refl
    go false = refl
in_snoc s (m ∷ ms) n = go (same_name s m) (in_snoc s ms n)
  where
    go : (t : Bool) → is_in s (ms ++ (n ∷ [])) ≡ is_in s ms || same_name s n → t || is_in s (ms ++ (n ∷ [])) ≡ (t || is_in s ms) || same_name s n
    go true e = refl
    go false e = e

-- ---- what the code finds

-- the place of the first empty one
used_place : (slots : List Name) → length (used slots) ≡ position_or_len (λ (n : Name). eqb n.len 0) slots
unfolding used
used_place slots = is_position_or_len (λ (l : List Name). length (used l)) (λ (n : Name). eqb n.len 0) refl (λ n ns. go n ns (eqb n.len 0)) slots
  where
    go : (n : Name) (ns : List Name) (t : Bool) → length (cond t [] (n ∷ used ns)) ≡ cond t 0 (1 + length (used ns))
    go n ns true = refl
    go n ns false = omega arith

used_taken : (slots : List Name) → take (length (used slots)) slots ≡ used slots
used_taken slots =
    subst (λ (l : List Name). take (length (used slots)) l ≡ used slots) (sym (used_prefix slots)) (take-append_seam (used slots) (drop (length (used slots)) slots))

pub used_before : (slots : List Name) (r : Option ℕ) (k : ℕ) → length slots ≡ 8
    → r ≡ cond (ltb (position_or_len (λ (n : Name). eqb n.len 0) slots) (length slots)) (Some (position_or_len (λ (n : Name). eqb n.len 0) slots)) None
    → k ≡ unwrap_or r 8 → take k slots ≡ used slots
used_before slots r k l e u = ap (λ (n : ℕ). take n slots) (count (position_or_len (λ (n : Name). eqb n.len 0) slots) (used_place slots) e) ∙ used_taken slots
  where
    count : (m : ℕ) → length (used slots) ≡ m → r ≡ cond (ltb m (length slots)) (Some m) None → k ≡ length (used slots)
    count m p q = go (ltb m (length slots)) refl q
      where
        go : (t : Bool) → ltb m (length slots) ≡ t → r ≡ cond t (Some m) None → k ≡ length (used slots)
        go true d z = u ∙ (ap (λ (o : Option ℕ). unwrap_or o 8) z ∙ sym p)
        go false d z = u ∙ (ap (λ (o : Option ℕ). unwrap_or o 8) z ∙ omega (arith, used_length slots, l, p, ltb-false _ _ d))

pub newest_last : (slots us : List Name) (o : Option Name) (r : Name) → us ≡ used slots → o ≡ slice_get us (length us - 1) → r ≡ unwrap_or o no_name
    → r ≡ newest slots
unfolding newest last_from
newest_last slots us o r e p q = q ∙ (ap (λ (x : Option Name). unwrap_or x no_name) p ∙ (go us ∙ ap (last_from no_name) e))
  where
    at : (n : Name) (ns : List Name) → unwrap_or (slice_get (n ∷ ns) (length ns)) no_name ≡ last_from n ns
    at n [] = refl
    at n (m ∷ ms) = at m ms

    go : (ns : List Name) → unwrap_or (slice_get ns (length ns - 1)) no_name ≡ last_from no_name ns
    go [] = refl
    go (n ∷ ns) =
        let k : suc (length ns) - 1 ≡ length ns = omega arith in
        rw k (at n ns)

-- the answers of the code's tests

in_is : (s : Name) (ns : List Name) → list_any (λ (n : Name). ghosts.eq n s) ns ≡ is_in s ns
unfolding is_in
in_is s [] = refl
in_is s (n ∷ ns) = rw (name_eq_turned n s) (ap (λ (t : Bool). same_name s n || t) (in_is s ns))

pub in_used : (slots us : List Name) (s : Name) (r : Bool) → us ≡ used slots → r ≡ list_any (λ (n : Name). ghosts.eq n s) us → r ≡ is_in s (used slots)
in_used slots us s r e q = q ∙ (in_is s us ∙ ap (is_in s) e)

pub good_are : (ns : List Name) → list_all serial_good ns ≡ all_good ns
unfolding all_good
good_are [] = refl
good_are (n ∷ ns) = ap (λ (t : Bool). serial_good n && t) (good_are ns)

pub empty_are : (ns : List Name) → list_all (λ (n : Name). ghosts.eq n no_name) ns ≡ all_empty ns
unfolding all_empty
empty_are [] = refl
empty_are (n ∷ ns) = rw (name_eq n no_name) (ap (λ (t : Bool). same_name n no_name && t) (empty_are ns))

-- what the types say of the serials of a state stands at their image
pub unmapped : (X Y : Type 0) (f : X → Y) (l : List X) (n : ℕ) → length (map f l) ≡ n → length l ≡ n
unmapped X Y f l n e = sym (length-map l f) ∙ e

-- the first, whatever an empty list would give
pub first_any : (slots : List Name) (d : Name) → 0 < length slots → get_or slots 0 d ≡ get_or slots 0 no_name
first_any [] d h = absurd (omega arith)
first_any (n ∷ ns) d h = refl
