use Rattle.std.proofs.Common.{◌≡◌, refl, arith}
use Rattle.primitives.specs.Aes.{rounds_of}
use Rattle.primitives.proofs.Schedule.{rounds_more}
use Rattle.primitives.proofs.aes.rounds.Goals as goal

pub loop-n-init : goal.loop-n-init
unfolding rounds_of
loop-n-init c = refl

pub loop-n-preserved : goal.loop-n-preserved
loop-n-preserved c = rounds_more _ _ c.loop-n.n c.loop-n.invariant c.round_key.ensures c.full_round-next.ensures

pub returns : goal.returns
returns c = let e : c.loop-n.n ≡ 13 = omega arith in rw e at c.loop-n.invariant
