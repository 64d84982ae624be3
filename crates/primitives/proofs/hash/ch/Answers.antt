-- `ch` meets its contract.
use Rattle.std.proofs.Common.{rules}
use Rattle.primitives.specs.Sha256.{Ch}
use Rattle.primitives.proofs.hash.ch.Goals as goal

pub returns : goal.returns
unfolding Ch
returns c = search rules
