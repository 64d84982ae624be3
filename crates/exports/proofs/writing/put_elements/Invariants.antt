use Rattle.exports.proofs.Exporting.{Elements}
use Rattle.exports.proofs.writing.put_elements.Given as goal

abbrev pub invariant-loop-i : goal.invariant-loop-i
invariant-loop-i g l = Elements g.S.Sink.writes l.j l.at l.groups l.k (g.S.Sink.view l.initial.sink) (g.S.Sink.view l.sink) l.pair l.group l.i
