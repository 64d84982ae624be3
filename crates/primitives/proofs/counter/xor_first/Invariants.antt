-- `xor_first` meets its contract. The loop's invariant: the first `i` bytes are combined.
use Rattle.std.proofs.Common.{◌≡◌}
use Rattle.primitives.specs.Counter.{xor_first}
use Rattle.primitives.proofs.counter.xor_first.Given as goal

abbrev pub invariant-loop-i : goal.invariant-loop-i
invariant-loop-i l = l.r ≡ xor_first l.i l.b l.stream
