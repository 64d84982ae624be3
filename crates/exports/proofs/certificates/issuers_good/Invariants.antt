-- `certificates::issuers_good` meets its contract.
use Rattle.exports.proofs.Arrays.{remains}
use Rattle.exports.proofs.Quads.{Issuers}
use Rattle.exports.proofs.certificates.issuers_good.Given as goal

abbrev pub invariant-loop-c : goal.invariant-loop-c
invariant-loop-c l = Issuers l.text l.at l.c

abbrev pub decreases-loop-c : goal.decreases-loop-c
decreases-loop-c l = remains l.text l.c
