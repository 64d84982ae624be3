use Rattle.primitives.specs.Sha256.{next_word}
use Rattle.primitives.proofs.hash.next_word.Goals as goal

pub returns : goal.returns
unfolding next_word
returns c = cc
