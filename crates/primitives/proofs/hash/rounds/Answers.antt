use Rattle.std.proofs.Common.{◌≡◌, ◌+◌, ◌*◌, refl, ap, ◌∙◌, arith}
use Rattle.primitives.specs.Sha256 as S
use Rattle.primitives.proofs.Compression.{rounds_more}
use Rattle.primitives.proofs.hash.rounds.Goals as goal

pub loop-i-init : goal.loop-i-init
unfolding S.rounds
loop-i-init c = refl

pub loop-i-preserved : goal.loop-i-preserved
loop-i-preserved c =
    let i = c.loop-i.i in
    let e : 8 * i + 8 ≡ 8 * (i + 1) = omega arith in
    rounds_more _ _ _ c.args.w.now (8 * i) 8 c.loop-i.invariant c.eight_rounds-u.ensures ∙ ap (S.rounds _ _ 0) e
