-- `number_of` meets its contract: eight digits fit 64 bits.
use Rattle.std.proofs.Common.{◌<◌, arith}
use Rattle.primitives.proofs.Spelled.{counted_none, counted_small, counted_more}
use Rattle.primitives.proofs.digits.number_of.Goals as goal

pub loop-c-init : goal.loop-c-init
loop-c-init g c = counted_none _ _ _

pub overflow_mul-v : goal.overflow_mul-v
overflow_mul-v g c =
    let l : c.loop-c.c-index < 8 = omega (arith, c.requires.few) in
    let h = counted_small _ _ _ c.loop-c.invariant g.met.D.Digits.small l (c.requires.known c.loop-c.c-index c.loop-c-test.true) in
    rw c.RADIX.ensures (omega (arith, h))

pub overflow_add-v : goal.overflow_add-v
overflow_add-v g c =
    let l : c.loop-c.c-index < 8 = omega (arith, c.requires.few) in
    let h = counted_small _ _ _ c.loop-c.invariant g.met.D.Digits.small l (c.requires.known c.loop-c.c-index c.loop-c-test.true) in
    rw (c.RADIX.ensures, c.from.ensures, c.digit.ensures) (omega (arith, h))

pub loop-c-preserved : goal.loop-c-preserved
loop-c-preserved g c =
    rw (c.RADIX.ensures, c.from.ensures, c.digit.ensures)
    (counted_more _ _ _ c.loop-c.invariant c.loop-c-test.true (c.requires.known c.loop-c.c-index c.loop-c-test.true))
