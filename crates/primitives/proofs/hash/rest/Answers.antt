-- `rest`: what is left of m, and what is left of 128 zeros.
use Rattle.std.proofs.Common.{ℕ, ◌≡◌, ◌-◌, List, ◌++◌, length, ap₂, ◌∙◌, drop, take_all, arith, length-drop}
use Rattle.std.proofs.lemmas.List.{drop-replicate}
use Rattle.primitives.proofs.hash.rest.Goals as goal

pub returns : goal.returns
returns c =
    let a = c.args in
    let n : ℕ = length a.m.now - a.k in
    let e : c.copy_from_slice.new.self ≡ drop a.k a.m.now = c.copy_from_slice.ensures.after ∙ take_all n (drop a.k a.m.now) (simp length-drop (omega arith)) in
    ap₂ (λ (x y : List ℕ). x ++ y) e (drop-replicate n 128 0)
