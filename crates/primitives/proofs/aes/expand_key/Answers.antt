use Rattle.std.proofs.Common.{◌≡◌, refl, arith}
use Rattle.primitives.proofs.Schedule.{fill_none, fill_key, fill_words, fill_all}
use Rattle.primitives.proofs.aes.expand_key.Goals as goal

pub loop-i-init : goal.loop-i-init
loop-i-init c = fill_none _ _ refl

pub loop-i-preserved : goal.loop-i-preserved
loop-i-preserved c = fill_key _ c.loop-i.w _ c.loop-i.i _ c.loop-i.invariant (omega arith) refl c.loop-i-test.true c.key_word.ensures

pub loop-i-2-init : goal.loop-i-2-init
loop-i-2-init c = let e : c.loop-i.i ≡ 8 = omega arith in rw e at c.loop-i.invariant

pub loop-i-2-preserved : goal.loop-i-2-preserved
loop-i-2-preserved c = fill_words _ c.loop-i-2.w _ c.loop-i-2.i _ c.loop-i-2.invariant c.loop-i-2-test.true refl (omega arith) c.next_word.ensures

pub returns : goal.returns
returns c = let e : c.loop-i-2.i ≡ 60 = omega arith in fill_all _ _ (rw e at c.loop-i-2.invariant)
