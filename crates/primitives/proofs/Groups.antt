-- A loop over the groups of a list: each is written by its own text, and what is left is less than a group.
use Rattle.std.proofs.Common.{◌≡◌, ℕ, ◌+◌, ◌-◌, ◌*◌, ◌%◌, ◌<◌, ◌≤◌, List, [], ◌++◌, length, drop, sym, ap, ◌∙◌, subst, arith, length-append, length-drop, drop-drop, drop_at, append-nil, add-mul}
use Rattle.std.proofs.Math.Arith.{digits_mod}
use Rattle.primitives.specs.Place.{overwrite}
use Rattle.primitives.proofs.Writing.{Writing, writing_start, writing_left, writing_long, writing_fits, writing_more, writing_end}

-- i groups of m elements of s are written, each as f of it; `rest` is left
pub record Groups (f : List ℕ → List ℕ) (m : ℕ) (s out₀ : List ℕ) (at : ℕ) (out : List ℕ) (o : ℕ) (rest : List ℕ) (size : ℕ) : Type 0 where
  pub i : ℕ
  pub sized : size ≡ m
  pub within : i * m ≤ length s
  pub is : rest ≡ drop (i * m) s
  pub writing : Writing out₀ at (f s) out o (f rest)

nought : (m : ℕ) → 0 ≡ 0 * m
nought m = omega arith

pub groups_start : (f : List ℕ → List ℕ) (m : ℕ) (s out₀ : List ℕ) (at : ℕ) {rest : List ℕ} {size : ℕ} → rest ≡ s → size ≡ m → at + length (f s) ≤ length out₀
    → Groups f m s out₀ at out₀ at rest size
groups_start f m s out₀ at {rest} e p h = record { i = 0; sized = p; within = omega arith; is = e ∙ ap (λ (k : ℕ). drop k s) (nought m); writing = writing_left (writing_start out₀ at (f s) h) (ap f (sym e)) }

module _ {f : List ℕ → List ℕ} {m : ℕ} {s out₀ : List ℕ} {at : ℕ} {out : List ℕ} {o : ℕ} {rest : List ℕ} {size : ℕ} (p : Groups f m s out₀ at out o rest size) where
  pub groups_long : length out ≡ length out₀
  groups_long = writing_long p.writing

  -- one group more
  module _ (q rest' : List ℕ) (cut : rest ≡ q ++ rest') (long : length q ≡ size) where
    more : (p.i + 1) * m ≡ p.i * m + m
    more = omega (arith, add-mul p.i 1 m)

    sizes : length s - p.i * m ≡ m + length rest'
    sizes = omega (arith, ap length p.is, length-drop (p.i * m) s, ap length cut, length-append q rest', long, p.sized)

    pub groups_left : rest' ≡ drop ((p.i + 1) * m) s
    groups_left =
        sym (drop_at q rest' m (long ∙ p.sized)) ∙ ap (drop m) (sym cut ∙ p.is) ∙ drop-drop m (p.i * m) s ∙ ap (λ (k : ℕ). drop k s) (sym more)

    module _ (parts : f (q ++ rest') ≡ f q ++ f rest') where
      next : Writing out₀ at (f s) out o (f q ++ f rest')
      next = writing_left p.writing (ap f cut ∙ parts)

      pub groups_room : o + length (f q) ≤ length out
      groups_room = omega (arith, writing_fits next, length-append (f q) (f rest'))

      pub groups_more : {out' : List ℕ} {o' size' : ℕ} → size' ≡ size → o' ≡ o + length (f q) → out' ≡ overwrite out o (f q) → Groups f m s out₀ at out' o' rest' size'
      groups_more {out'} {o'} {size'} e r w =
          record {
            i = p.i + 1;
            sized = e ∙ p.sized;
            within = omega (arith, more, sizes, p.within);
            is = groups_left;
            writing = subst (λ (k : ℕ). Writing out₀ at (f s) out' k (f rest')) (sym r) (writing_more (f q) (f rest') next w);
          }

  -- less than a group is left: the last of the list
  module _ (few : length rest < size) where
    pub groups_rest : rest ≡ drop (length s - length s % m) s
    groups_rest =
        let l : length rest < m = omega (arith, p.sized) in
        let n : length s ≡ p.i * m + length rest = omega (arith, ap length p.is, length-drop (p.i * m) s, p.within) in
        let r : length s % m ≡ length rest = ap (λ (k : ℕ). k % m) n ∙ digits_mod p.i l in
        p.is ∙ ap (λ (k : ℕ). drop k s) (omega (arith, n, r))

    module _ {last : List ℕ} (e : last ≡ drop (length s - length s % m) s) where
      pub last_few : length last < m
      last_few = omega (arith, ap length (e ∙ sym groups_rest), p.sized)

      pub last_room : o + length (f last) ≤ length out
      last_room = omega (arith, writing_fits p.writing, ap (λ (l : List ℕ). length (f l)) (e ∙ sym groups_rest))

      pub last_end : {out' : List ℕ} {o' : ℕ} → o' ≡ o + length (f last) → out' ≡ overwrite out o (f last) → (o' ≡ at + length (f s)) × (out' ≡ overwrite out₀ at (f s))
      last_end r w =
          let left = writing_left p.writing (ap f (groups_rest ∙ sym e) ∙ sym (append-nil (f last))) in
          let end = writing_end (writing_more (f last) [] left w) in
          (r ∙ end.0, end.1)
