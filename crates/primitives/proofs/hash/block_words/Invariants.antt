-- `block_words`: the first t words are in place.
use Rattle.std.proofs.Common.{◌≡◌, length, take}
use Rattle.primitives.specs.Sha256.{words}
use Rattle.primitives.proofs.hash.block_words.Given as goal

abbrev pub invariant-loop-t : goal.invariant-loop-t
invariant-loop-t l = (length l.w ≡ 64) × (take l.t l.w ≡ words l.fn.m l.fn.k l.t)
