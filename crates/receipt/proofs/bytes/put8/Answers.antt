-- `bytes::put8` meets its contract.
use Rattle.std.proofs.Common.{[], ◌∷◌}
use Rattle.primitives.proofs.Over.{over_sets}
use Rattle.receipt.proofs.bytes.put8.Goals as goal

pub returns : goal.returns
returns c = over_sets c.args.out.now c.args.at (c.args.x ∷ []) c.requires
