use Rattle.exports.proofs.Copying.{Copies}
use Rattle.exports.proofs.writing.put_strings.Given as goal

abbrev pub invariant-loop-i : goal.invariant-loop-i
invariant-loop-i g l = Copies g.T.Spelling.spelled g.S.Sink.writes l.from l.at l.count (g.S.Sink.view l.initial.sink) (g.S.Sink.view l.sink) l.place l.i
