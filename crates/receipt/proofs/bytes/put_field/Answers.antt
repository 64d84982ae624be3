-- `bytes::put_field` meets its contract.
use Rattle.std.proofs.Common.{arith, refl}
use Rattle.primitives.proofs.Over.{then}
use Rattle.receipt.proofs.bytes.put_field.Goals as goal

pub returns : goal.returns
returns c = then _ _ _ _ _ c.put.ensures c.put8.ensures refl (omega (arith, c.requires))
