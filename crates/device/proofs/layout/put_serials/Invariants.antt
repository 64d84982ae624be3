-- `put_serials`: i serials are written.
use Rattle.std.proofs.Common.{◌+◌, ◌*◌, drop}
use Rattle.primitives.proofs.Writing.{Writing}
use Rattle.device.specs.Layout.{names_bytes}
use Rattle.device.proofs.layout.put_serials.Given as goal

abbrev pub invariant-loop-i : goal.invariant-loop-i
invariant-loop-i l = Writing l.initial.out 43 (names_bytes l.fn.slots) l.out (43 + 40 * l.i) (names_bytes (drop l.i l.fn.slots))
