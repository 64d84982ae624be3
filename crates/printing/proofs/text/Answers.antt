-- What a write takes stands after what was written before.
use Rattle.std.proofs.Common.{◌≡◌, ℕ, ◌+◌, ◌-◌, ◌≤◌, List, ◌++◌, length, take, drop, take_all, length-drop, le_refl, sym, ap, ◌∙◌, subst, arith}
use Rattle.std.proofs.Math.Seq.{take-add}
use Rattle.std.specs.Io.KnownBytes.{Appends}
use Rattle.std.proofs.KnownBytes.{Appends-trans, Appends-kept}
use Rattle.printing.proofs.text.Goals.{in-Ok, in-Err+else-ne}
use Rattle.printing.proofs.text.Goals as goal

whole : (k : ℕ) (xs : List ℕ) → take (length xs - k) (drop k xs) ≡ drop k xs
whole k xs = let e = length-drop k xs in take_all (length xs - k) (drop k xs) (rw e (le_refl (length xs - k)))

-- the first bytes, and the first of those after them
joined : (n m : ℕ) (xs : List ℕ) → take n xs ++ take m (take (length xs - n) (drop n xs)) ≡ take (n + m) xs
joined n m xs = ap (λ l. take n xs ++ take m l) (whole n xs) ∙ sym (take-add n m xs)

fits : (n m : ℕ) (xs : List ℕ) → n ≤ length xs → m ≤ length (take (length xs - n) (drop n xs)) → n + m ≤ length xs
fits n m xs p q = omega (arith, ap length (whole n xs), length-drop n xs)

pub loop-preserved : goal.loop-preserved
loop-preserved g c =
    let n = c.loop.n in
    let s = c.args.s.now in
    let old = g.W.Write.contents c.args.out.now in
    let new = g.W.Write.contents c.write.new.self in
    elim c.match-write.branch [
      | in-Ok w ↦ subst (λ k. (k ≤ length s) × Appends old new (take k s)) (sym w.n-is)
          (fits n w.in-Ok.more s c.loop.invariant.0 w.in-Ok.ensures.bound, subst (Appends old new) (joined n w.in-Ok.more s) (Appends-trans _ _ _ _ _ c.loop.invariant.1 w.in-Ok.ensures.bytes))
      | in-Err+else-ne w ↦ subst (λ k. (k ≤ length s) × Appends old new (take k s)) (sym w.n-is)
          (c.loop.invariant.0, Appends-kept _ _ _ _ c.loop.invariant.1 w.in-Err.ensures.bytes)
    ]
