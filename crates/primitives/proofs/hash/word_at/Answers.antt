use Rattle.std.proofs.Common.{rules}
use Rattle.primitives.specs.Sha256.{word_at}
use Rattle.primitives.proofs.hash.word_at.Goals as goal

pub returns : goal.returns
unfolding word_at
returns c = search rules
