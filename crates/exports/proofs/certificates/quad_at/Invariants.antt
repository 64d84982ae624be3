use Rattle.exports.proofs.Quads.{Filling}
use Rattle.exports.proofs.certificates.quad_at.Given as goal

abbrev pub invariant-loop-i : goal.invariant-loop-i
invariant-loop-i l = Filling l.text l.at l.bytes l.next l.i
