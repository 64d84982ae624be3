-- `rounds`: 8 * i rounds are made.
use Rattle.std.proofs.Common.{◌≡◌, ◌*◌}
use Rattle.primitives.specs.Sha256 as S
use Rattle.primitives.proofs.hash.rounds.Given as goal

abbrev pub invariant-loop-i : goal.invariant-loop-i
invariant-loop-i l = l.u ≡ S.rounds l.initial.u l.fn.w 0 (8 * l.i)
