use Rattle.std.proofs.Common.{◌+◌}
use Rattle.exports.proofs.Sized.{Texts}
use Rattle.exports.proofs.certificates.group_end.Given as goal

abbrev pub invariant-loop : goal.invariant-loop
invariant-loop l = Texts l.s (l.at + 1) l.count l.p l.counter
