-- `eight_rounds`: i rounds are made.
use Rattle.std.proofs.Common.{◌≡◌}
use Rattle.primitives.specs.Sha256 as S
use Rattle.primitives.proofs.hash.eight_rounds.Given as goal

abbrev pub invariant-loop-i : goal.invariant-loop-i
invariant-loop-i l = l.u ≡ S.rounds l.initial.u l.fn.w l.fn.t l.i
