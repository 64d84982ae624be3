-- `layout::state_of` meets its contract.
use Rattle.std.proofs.Common.{eq-eqb, ne_eqb}
use Rattle.device.specs.Layout.{state_of}
use Rattle.device.proofs.layout.state_of.Goals as goal

pub returns-then-b-ne-STATE : goal.returns-then-b-ne-STATE
unfolding state_of
returns-then-b-ne-STATE c = rw (ne_eqb _ 447 c.if-b-ne-STATE.true) c.unopened.ensures

pub returns : goal.returns
unfolding state_of
returns c = rw (eq-eqb _ 447 c.if-b-ne-STATE.false) c.state_at.ensures
