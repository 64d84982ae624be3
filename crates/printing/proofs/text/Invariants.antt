-- The first n bytes are written.
use Rattle.std.specs.Prelude.{◌≤◌, length, take}
use Rattle.std.specs.Io.KnownBytes.{Appends}
use Rattle.printing.proofs.text.Given as goal

abbrev pub invariant-loop : goal.invariant-loop
invariant-loop g l = (l.n ≤ length l.s) × Appends (g.W.Write.contents l.initial.out) (g.W.Write.contents l.out) (take l.n l.s)
