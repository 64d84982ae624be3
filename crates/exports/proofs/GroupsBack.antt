-- Groups read from a buffer are exactly those that it spells.
use Rattle.std.proofs.Common.{ℕ, zero, suc, ◌+◌, ◌≡◌, refl, sym, ap, ◌∙◌, subst, Bool, true, false, cond, ◌&&◌, List, [], ◌∷◌, ◌++◌, append_assoc, arith, length, drop, get_or, drop_at}
use mathlib.Core.Option.{Option, none, some}
use Rattle.primitives.specs.Bytes.{same}
use Rattle.primitives.proofs.Rows.{both}
use Rattle.primitives.proofs.ByteLists.{same_true, same_refl}
use Rattle.journal.specs.Head.{entry_text, length_at, text_at}
use Rattle.journal.proofs.Places.{length_entry, length_at_lem, text_at_lem}
use Rattle.exports.specs.Text.{every}
use Rattle.exports.specs.Spelled.{sized_texts, texts_in, after_texts, short}
use Rattle.exports.specs.Groups.{Group, group_text, groups_text, group_good, group_of, groups_in, are_groups, groups_of}
use Rattle.exports.specs.GroupLaws.{GroupsExactly, OneListOfGroups, GroupsOfThere, NoGroupsThere}
use Rattle.exports.proofs.Sized.{short_lt, every_head, every_tail, sized_cons, all, good_texts}

-- ---- texts

module _ (t : List ℕ) (h : short t ≡ true) (more : List ℕ) where
  pub text_front : text_at (entry_text t ++ more) 0 ≡ t
  text_front = text_at_lem [] t more 0 refl (short_lt t h)

  pub text_after : drop (2 + length_at (entry_text t ++ more) 0) (entry_text t ++ more) ≡ more
  text_after =
      ap (λ (n : ℕ). drop (2 + n) (entry_text t ++ more)) (length_at_lem [] t more 0 refl (short_lt t h))
      ∙ drop_at (entry_text t) more (2 + length t) (length_entry t)

opened : (t : List ℕ) (ts : List (List ℕ)) (rest : List ℕ) → sized_texts (t ∷ ts) ++ rest ≡ entry_text t ++ (sized_texts ts ++ rest)
opened t ts rest = ap (λ (l : List ℕ). l ++ rest) (sized_cons t ts) ∙ append_assoc (entry_text t) (sized_texts ts) rest

pub texts_in_lem : (ts : List (List ℕ)) (rest : List ℕ) → every short ts ≡ true → texts_in (length ts) (sized_texts ts ++ rest) ≡ ts
unfolding texts_in
texts_in_lem [] rest h = refl
texts_in_lem (t ∷ ts) rest h =
    ap (λ (b : List ℕ). text_at b 0 ∷ texts_in (length ts) (drop (2 + length_at b 0) b)) (opened t ts rest)
    ∙ (λ i. text_front t (every_head short t ts h) (sized_texts ts ++ rest) i ∷ texts_in (length ts) (text_after t (every_head short t ts h) (sized_texts ts ++ rest) i))
    ∙ ap (λ (us : List (List ℕ)). t ∷ us) (texts_in_lem ts rest (every_tail short t ts h))

pub after_in : (ts : List (List ℕ)) (rest : List ℕ) → every short ts ≡ true → after_texts (length ts) (sized_texts ts ++ rest) ≡ rest
unfolding after_texts sized_texts
after_in [] rest h = refl
after_in (t ∷ ts) rest h =
    ap (λ (b : List ℕ). after_texts (length ts) (drop (2 + length_at b 0) b)) (opened t ts rest)
    ∙ ap (after_texts (length ts)) (text_after t (every_head short t ts h) (sized_texts ts ++ rest)) ∙ after_in ts rest (every_tail short t ts h)

-- ---- groups

pub groups_in_lem : (gs : List Group) → every group_good gs ≡ true → groups_in (length gs) (groups_text gs) ≡ gs
unfolding groups_in groups_text group_text
groups_in_lem [] h = refl
groups_in_lem (g ∷ gs) h =
    let good = good_texts g (every_head group_good g gs h) in
    (λ i. group_of (texts_in_lem (all g) (groups_text gs) good i) ∷ groups_in (length gs) (after_in (all g) (groups_text gs) good i))
    ∙ ap (λ (hs : List Group). g ∷ hs) (groups_in_lem gs (every_tail group_good g gs h))

count_in : (k : ℕ) (buf : List ℕ) → length (groups_in k buf) ≡ k
unfolding groups_in
count_in zero buf = refl
count_in (suc k) buf = ap suc (count_in k (after_texts (get_or buf 0 0) (drop 1 buf)))

are_groups_lem : (gs : List Group) → every group_good gs ≡ true → are_groups gs (groups_text gs) ≡ true
unfolding are_groups
are_groups_lem gs h = rw h (same_refl (groups_text gs))

pub groups_read : (gs : List Group) → every group_good gs ≡ true → groups_of (length gs) (groups_text gs) ≡ some gs
unfolding groups_of
groups_read gs h = rw (groups_in_lem gs h, are_groups_lem gs h)

exactly_from : (k : ℕ) (buf : List ℕ) (gs : List Group) → groups_of k buf ≡ some gs → (length gs ≡ k) × (every group_good gs ≡ true) × (buf ≡ groups_text gs)
unfolding groups_of are_groups
exactly_from k buf gs = go (every group_good (groups_in k buf) && same (groups_text (groups_in k buf)) buf) refl
  where
    go : (t : Bool) → every group_good (groups_in k buf) && same (groups_text (groups_in k buf)) buf ≡ t → cond t (some (groups_in k buf)) none ≡ some gs
        → (length gs ≡ k) × (every group_good gs ≡ true) × (buf ≡ groups_text gs)
    go true e q =
        let i : groups_in k buf ≡ gs = cc in
        let b = both (every group_good (groups_in k buf)) (same (groups_text (groups_in k buf)) buf) e in
        (ap length (sym i) ∙ count_in k buf, subst (λ (hs : List Group). every group_good hs ≡ true) i b.0, sym (same_true (groups_text (groups_in k buf)) buf b.1) ∙ ap groups_text i)
    go false e q = let z : ◌≡◌ {A = ℕ} 0 1 = cc in absurd (omega arith)

pub groups_exactly : GroupsExactly
groups_exactly k buf gs = (
  exactly_from k buf gs,
  λ h. (λ i. groups_of (sym h.0 i) (h.2 i)) ∙ groups_read gs h.1,
)

pub groups_of_there : GroupsOfThere
groups_of_there k buf t = (groups_exactly k buf t.groups).1 (t.count, t.good, t.bytes)

pub no_groups_there : NoGroupsThere
no_groups_there k buf not_there = go (groups_of k buf) refl
  where
    go : (o : Option (List Group)) → groups_of k buf ≡ o → o ≡ none
    go none e = refl
    go (some gs) e =
        let x = (groups_exactly k buf gs).0 e in
        absurd (not_there (record { groups = gs; count = x.0; good = x.1; bytes = x.2 }))

-- ---- one list only

none_first {ℓ} : {X : Type ℓ} (g : Group) (gs : List Group) → groups_text [] ≡ groups_text (g ∷ gs) → X
unfolding groups_text group_text
none_first g gs e = absurd (omega (arith, ap length e))

first_group : (g : Group) (gs : List Group) → every group_good (g ∷ gs) ≡ true → group_of (texts_in (get_or (groups_text (g ∷ gs)) 0 0) (drop 1 (groups_text (g ∷ gs)))) ≡ g
unfolding groups_text group_text
first_group g gs h = ap group_of (texts_in_lem (all g) (groups_text gs) (good_texts g (every_head group_good g gs h)))

other_groups : (g : Group) (gs : List Group) → every group_good (g ∷ gs) ≡ true → after_texts (get_or (groups_text (g ∷ gs)) 0 0) (drop 1 (groups_text (g ∷ gs))) ≡ groups_text gs
unfolding groups_text group_text
other_groups g gs h = after_in (all g) (groups_text gs) (good_texts g (every_head group_good g gs h))

pub one_list_of_groups : OneListOfGroups
one_list_of_groups [] [] g h e = refl
one_list_of_groups [] (y ∷ hs) g h e = none_first y hs e
one_list_of_groups (x ∷ gs) [] g h e = none_first x gs (sym e)
one_list_of_groups (x ∷ gs) (y ∷ hs) g h e =
    let p : x ≡ y = sym (first_group x gs g) ∙ ap (λ (b : List ℕ). group_of (texts_in (get_or b 0 0) (drop 1 b))) e ∙ first_group y hs h in
    let q : groups_text gs ≡ groups_text hs = sym (other_groups x gs g) ∙ ap (λ (b : List ℕ). after_texts (get_or b 0 0) (drop 1 b)) e ∙ other_groups y hs h in
    let r = one_list_of_groups gs hs (every_tail group_good x gs g) (every_tail group_good y hs h) q in
    λ i. p i ∷ r i
