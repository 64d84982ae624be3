use Rattle.std.proofs.Common.{refl, arith, length-set}
use Rattle.primitives.proofs.Compression.{words_next}
use Rattle.primitives.specs.Sha256.{words}
use Rattle.primitives.proofs.hash.block_words.Goals as goal

pub loop-t-init : goal.loop-t-init
unfolding words
loop-t-init c = (refl, refl)

pub loop-t-preserved : goal.loop-t-preserved
loop-t-preserved c =
    let l = c.loop-t in
    (simp length-set (omega arith), words_next _ l.w _ l.t _ (omega arith) l.invariant.1 c.word_at.ensures)
