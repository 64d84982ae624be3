use Rattle.std.proofs.Common.{eq-eqb, ne_eqb}
use Rattle.device.specs.Texts.{alphabet_of}
use Rattle.device.proofs.text.alphabet_of.Goals as goal

pub returns-then-url-eq0 : goal.returns-then-url-eq0
unfolding alphabet_of
returns-then-url-eq0 c = rw (eq-eqb _ 0 c.if-url-eq0.true)

pub returns-else-url-eq0 : goal.returns-else-url-eq0
unfolding alphabet_of
returns-else-url-eq0 c = rw (ne_eqb _ 0 c.if-url-eq0.false)
