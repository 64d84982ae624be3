-- `maj` meets its contract.
use Rattle.std.proofs.Common.{rules}
use Rattle.primitives.specs.Sha256.{Maj}
use Rattle.primitives.proofs.hash.maj.Goals as goal

pub returns : goal.returns
unfolding Maj
returns c = search rules
