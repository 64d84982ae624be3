-- `blocks`: i blocks are done.
use Rattle.std.proofs.Common.{◌≡◌}
use Rattle.primitives.specs.Sha256 as S
use Rattle.primitives.proofs.hash.blocks.Given as goal

abbrev pub invariant-loop-i : goal.invariant-loop-i
invariant-loop-i l = l.v ≡ S.blocks l.initial.v l.fn.m l.i
