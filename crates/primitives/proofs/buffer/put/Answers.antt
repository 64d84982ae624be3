-- One byte more is copied.
use Rattle.std.proofs.Common.{◌≡◌, ℕ, ◌+◌, ◌<◌, ◌≤◌, List, length, get_or, take, set, sym, ap, ◌∙◌, add-one, arith, rules, length-take-le, take-suc}
use Rattle.primitives.specs.Place.{overwrite}
use Rattle.primitives.proofs.Over.{over_snoc}
use Rattle.primitives.proofs.buffer.put.Goals as goal

copied : (out₀ s out : List ℕ) (at i : ℕ) → at + length s ≤ length out₀ → i < length s → out ≡ overwrite out₀ at (take i s) → set out (at + i) (get_or s i 0) ≡ overwrite out₀ at (take (i + 1) s)
copied out₀ s out at i fits h e =
    let taken : length (take i s) ≡ i = length-take-le i s (omega arith) in
    (λ j. set (e j) (at + sym taken j) (get_or s i 0))
    ∙ over_snoc out₀ at (take i s) (get_or s i 0) (omega (arith, taken))
    ∙ ap (overwrite out₀ at) (sym (take-suc s i 0 h) ∙ ap (λ (k : ℕ). take k s) (sym (add-one i)))

pub loop-i-preserved : goal.loop-i-preserved
loop-i-preserved c = copied c.args.out.now c.args.s.now c.loop-i.out c.args.at c.loop-i.i (search rules) c.loop-i-test.true c.loop-i.invariant
