use Rattle.std.proofs.Common.{eq-eqb, ne_eqb}
use Rattle.device.specs.Calls.{width_with}
use Rattle.device.proofs.register.width_with.Goals as goal

pub returns-then-key-eq32 : goal.returns-then-key-eq32
unfolding width_with
returns-then-key-eq32 c = rw (eq-eqb _ 32 c.if-key-eq32.true)

pub returns-else-key-eq32 : goal.returns-else-key-eq32
unfolding width_with
returns-else-key-eq32 c = rw (ne_eqb _ 32 c.if-key-eq32.false)
