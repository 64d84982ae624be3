use Rattle.std.proofs.lemmas.Bool.{not-true, not-false}
use Rattle.std.proofs.Common.{ap, not}
use Rattle.exports.proofs.Quads.{quads_end, quads_falls, quads_bad, quads_last, quads_more}
use Rattle.exports.proofs.certificates.canonical_at.Goals as goal

pub returns-then-not-quad_good : goal.returns-then-not-quad_good
returns-then-not-quad_good c = quads_bad c.loop-q.invariant c.loop-q-test.true c.quad_good.ensures (not-true _ (ap not c.if-not-quad_good.true))

pub returns-then-bytes-eq61 : goal.returns-then-bytes-eq61
returns-then-bytes-eq61 c = quads_last c.loop-q.invariant c.loop-q-test.true c.quad_good.ensures (not-false _ (ap not c.if-not-quad_good.false)) c.quad_at-q-in-loop-q.ensures c.if-bytes-eq61.true

pub loop-q-smaller : goal.loop-q-smaller
loop-q-smaller c = quads_falls c.loop-q.invariant c.loop-q-test.true

pub loop-q-preserved : goal.loop-q-preserved
loop-q-preserved c = quads_more c.loop-q.invariant c.loop-q-test.true c.quad_good.ensures (not-false _ (ap not c.if-not-quad_good.false)) c.quad_at-q-in-loop-q.ensures c.if-bytes-eq61.false

pub returns : goal.returns
returns c = quads_end c.loop-q.invariant c.loop-q-test.false
