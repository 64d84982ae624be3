use Rattle.exports.specs.Output.{written_out}
use Rattle.exports.proofs.Arrays.{remains}
use Rattle.exports.proofs.Carrying.{Entering}
use Rattle.exports.proofs.rebuilding.put_entries.Given as goal

abbrev pub invariant-loop-c : goal.invariant-loop-c
invariant-loop-c l = Entering (written_out l.initial.w) l.text l.at (written_out l.w) l.count l.c

abbrev pub decreases-loop-c : goal.decreases-loop-c
decreases-loop-c l = remains l.text l.c
