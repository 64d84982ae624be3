use Rattle.std.proofs.Common.{arith, length-set, rules}
use Rattle.primitives.proofs.Compression.{schedule_next}
use Rattle.primitives.specs.Sha256 as S
use Rattle.primitives.proofs.hash.schedule.Goals as goal

pub loop-t-init : goal.loop-t-init
unfolding S.schedule
loop-t-init c = (search rules, c.block_words-w.ensures)

pub loop-t-preserved : goal.loop-t-preserved
loop-t-preserved c =
    let l = c.loop-t in
    (simp length-set (omega arith), schedule_next _ l.w l.t _ (omega arith) (omega arith) l.invariant.1 c.next_word.ensures)
