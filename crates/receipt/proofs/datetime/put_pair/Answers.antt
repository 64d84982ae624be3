-- `datetime::put_pair` meets its contract.
use Rattle.std.proofs.Common.{arith, refl}
use Rattle.primitives.proofs.Over.{then}
use Rattle.receipt.specs.DateTime.{pair}
use Rattle.receipt.proofs.datetime.put_pair.Goals as goal

pub returns : goal.returns
unfolding pair
returns c = let digits = rw c.from.ensures at c.put_fixed.ensures in then _ _ _ _ _ c.put8.ensures digits refl (omega arith)
