use Rattle.exports.proofs.Sized.{Passed}
use Rattle.exports.proofs.certificates.groups_there.Given as goal

abbrev pub invariant-loop : goal.invariant-loop
invariant-loop l = Passed l.s l.k l.p l.counter
