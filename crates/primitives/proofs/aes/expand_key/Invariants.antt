-- `expand_key`: the first i words are those of the schedule.
use Rattle.primitives.proofs.Schedule.{Filled}
use Rattle.primitives.proofs.aes.expand_key.Given as goal

abbrev pub invariant-loop-i : goal.invariant-loop-i
invariant-loop-i l = Filled l.key l.w l.i

abbrev pub invariant-loop-i-2 : goal.invariant-loop-i-2
invariant-loop-i-2 l = Filled l.fn.key l.w l.i
