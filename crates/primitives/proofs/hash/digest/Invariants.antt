-- `digest`: the bytes of i words are written.
use Rattle.std.proofs.Common.{◌≡◌, ◌*◌, length, take}
use Rattle.primitives.specs.Sha256.{word_bytes, words_of}
use Rattle.primitives.proofs.hash.digest.Given as goal

abbrev pub invariant-loop-i : goal.invariant-loop-i
invariant-loop-i l = (length l.d ≡ 32) × (take (4 * l.i) l.d ≡ word_bytes (take l.i (words_of l.fn.s)))
