-- `rounds`: the state is the one after n rounds.
use Rattle.std.proofs.Common.{◌≡◌}
use Rattle.primitives.specs.Aes.{rounds_of}
use Rattle.primitives.proofs.aes.rounds.Given as goal

abbrev pub invariant-loop-n : goal.invariant-loop-n
invariant-loop-n l = l.s ≡ rounds_of l.w l.initial.s l.n
