-- `signed` meets its contract, in the lower half and in the upper one.
use Rattle.primitives.proofs.CounterCode.{lower_fits, lower_is, upper_some, upper_within, upper_fits, upper_is}
use Rattle.primitives.proofs.counter.signed.Goals as goal

pub overflow_cast-result : goal.overflow_cast-result
overflow_cast-result c = lower_fits c.args.n c.args.v c.half_of-h.ensures c.requires.1.0 c.if-v-h.true

pub returns-then-v-h : goal.returns-then-v-h
returns-then-v-h c = lower_is c.args.n c.args.v c.half_of-h.ensures c.requires.1.0 c.if-v-h.true

pub overflow_sub-result : goal.overflow_sub-result
overflow_sub-result c = upper_some c.args.n c.args.v c.half_of-h.ensures c.requires.1.0 c.requires.0 c.if-v-h.false c.requires.1.1

pub overflow_sub-result-else-v-h-2 : goal.overflow_sub-result-else-v-h-2
overflow_sub-result-else-v-h-2 c = upper_within c.args.n c.args.v c.half_of-h.ensures c.requires.1.0 c.requires.0 c.if-v-h.false c.requires.1.1

pub overflow_cast-result-else-v-h : goal.overflow_cast-result-else-v-h
overflow_cast-result-else-v-h c = upper_fits c.args.n c.args.v c.half_of-h.ensures c.requires.1.0 c.requires.0 c.if-v-h.false c.requires.1.1

pub returns-else-v-h : goal.returns-else-v-h
returns-else-v-h c = upper_is c.args.n c.args.v c.half_of-h.ensures c.requires.1.0 c.requires.0 c.if-v-h.false c.requires.1.1
