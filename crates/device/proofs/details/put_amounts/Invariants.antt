-- `put_amounts`: i amounts are written.
use Rattle.std.proofs.Common.{◌+◌, ◌*◌, drop}
use Rattle.primitives.specs.Counter.{counter_bytes}
use Rattle.primitives.proofs.Writing.{Writing}
use Rattle.device.specs.Details.{pieces}
use Rattle.device.proofs.details.put_amounts.Given as goal

abbrev pub invariant-loop-i : goal.invariant-loop-i
invariant-loop-i l = Writing l.initial.out 32 (pieces (counter_bytes 8) l.fn.amounts) l.out (32 + 8 * l.i) (pieces (counter_bytes 8) (drop l.i l.fn.amounts))
