-- `schedule`: the first t words are in place.
use Rattle.std.proofs.Common.{◌≡◌, ◌-◌, length, take}
use Rattle.primitives.specs.Sha256 as S
use Rattle.primitives.proofs.hash.schedule.Given as goal

abbrev pub invariant-loop-t : goal.invariant-loop-t
invariant-loop-t l = (length l.w ≡ 64) × (take l.t l.w ≡ S.schedule (S.words l.fn.m l.fn.k 16) (l.t - 16))
