-- The bytes before the place are written.
use Rattle.std.specs.Prelude.{take}
use Rattle.std.specs.Io.KnownBytes.{Appends}
use Rattle.printing.specs.Line.{hexadecimal}
use Rattle.printing.proofs.hexadecimal.Given as goal

abbrev pub invariant-loop-byte : goal.invariant-loop-byte
invariant-loop-byte g l = Appends (g.W.Write.contents l.initial.out) (g.W.Write.contents l.out) (hexadecimal (take l.byte-index l.bytes))
