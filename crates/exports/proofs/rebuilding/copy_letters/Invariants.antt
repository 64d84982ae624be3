-- `rebuilding::copy_letters` meets its contract.
use Rattle.std.proofs.Common.{◌-◌, length}
use Rattle.exports.proofs.Carrying.{Copying}
use Rattle.exports.proofs.rebuilding.copy_letters.Given as goal

abbrev pub invariant-loop-l : goal.invariant-loop-l
invariant-loop-l l = Copying l.text l.start l.initial.out l.to l.out l.at l.o

abbrev pub decreases-loop-l : goal.decreases-loop-l
decreases-loop-l l = length l.text - l.at
