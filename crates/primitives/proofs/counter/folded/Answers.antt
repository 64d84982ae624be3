-- `folded` meets its contract, for the least number too.
use Rattle.primitives.proofs.Zlaws.{neg_cast, neg_mag, pos_cast, pos_mag}
use Rattle.primitives.proofs.counter.folded.Goals as goal

pub overflow_cast-result : goal.overflow_cast-result
overflow_cast-result c = neg_cast c.ranges.z c.if-z-lt0.true

pub overflow_cast-result-else-z-lt0 : goal.overflow_cast-result-else-z-lt0
overflow_cast-result-else-z-lt0 c = pos_cast c.ranges.z c.if-z-lt0.false

pub returns-then-z-lt0 : goal.returns-then-z-lt0
returns-then-z-lt0 c = neg_mag c.ranges.z c.if-z-lt0.true

pub returns-else-z-lt0 : goal.returns-else-z-lt0
returns-else-z-lt0 c = pos_mag c.ranges.z c.if-z-lt0.false
