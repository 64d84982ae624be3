use Rattle.std.proofs.Common.{◌*◌, refl, ap, ◌∙◌}
use Rattle.primitives.specs.declared.hash.HashValue.{HashValue}
use Rattle.primitives.specs.Sha256 as S
use Rattle.primitives.proofs.Compression.{blocks_next}
use Rattle.primitives.proofs.hash.blocks.Goals as goal

pub loop-i-init : goal.loop-i-init
unfolding S.blocks
loop-i-init c = refl

pub loop-i-preserved : goal.loop-i-preserved
loop-i-preserved c =
    let i = c.loop-i.i in
    let m = c.args.m.now in
    c.compress-v.ensures ∙ ap (λ (v : HashValue). S.compress v m (i * 64)) c.loop-i.invariant ∙ blocks_next _ m i
