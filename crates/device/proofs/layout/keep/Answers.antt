use Rattle.std.proofs.Common.{length, arith, eq-eqb, ne_eqb}
use Rattle.device.specs.Layout.{kept}
use Rattle.device.proofs.layout.keep.Goals as goal

pub returns-then-out-eq-STATE : goal.returns-then-out-eq-STATE
unfolding kept
returns-then-out-eq-STATE c = rw (eq-eqb (length c.args.out.now) 447 (omega arith)) c.put_state.ensures

pub returns-else-out-eq-STATE : goal.returns-else-out-eq-STATE
unfolding kept
returns-else-out-eq-STATE c = rw (ne_eqb (length c.args.out.now) 447 (omega arith))
