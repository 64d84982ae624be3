-- `put_numbers`: i numbers are written.
use Rattle.std.proofs.Common.{◌*◌, drop}
use Rattle.primitives.specs.Number.{bytes_of}
use Rattle.primitives.proofs.Writing.{Writing}
use Rattle.device.specs.Details.{pieces}
use Rattle.device.proofs.details.put_numbers.Given as goal

abbrev pub invariant-loop-i : goal.invariant-loop-i
invariant-loop-i l = Writing l.initial.out 0 (pieces (bytes_of 4) l.fn.numbers) l.out (4 * l.i) (pieces (bytes_of 4) (drop l.i l.fn.numbers))
