-- The first bytes are copied.
use Rattle.std.proofs.Common.{◌≡◌, take}
use Rattle.primitives.specs.Place.{overwrite}
use Rattle.primitives.proofs.buffer.put.Given as goal

abbrev pub invariant-loop-i : goal.invariant-loop-i
invariant-loop-i l = l.out ≡ overwrite l.initial.out l.at (take l.i l.s)
