use Rattle.std.proofs.Common.{◌≡◌, ◌+◌, refl}
use Rattle.primitives.specs.declared.hash.TheConstants as constant
use Rattle.primitives.specs.Sha256 as S
use Rattle.primitives.proofs.Compression.{round_one, rounds_then}
use Rattle.primitives.proofs.hash.eight_rounds.Goals as goal

constants : constant.K ≡ S.K
unfolding S.K
constants = refl

pub loop-i-init : goal.loop-i-init
unfolding S.rounds
loop-i-init c = refl

pub loop-i-preserved : goal.loop-i-preserved
loop-i-preserved c =
    let t = c.args.t in
    let i = c.loop-i.i in
    rounds_then _ _ _ c.args.w.now t i 1 c.loop-i.invariant (round_one _ _ _ constant.K (t + i) constants c.round-u.ensures)
