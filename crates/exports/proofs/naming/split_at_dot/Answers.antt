-- `naming::split_at_dot` meets its contract.
use Rattle.std.proofs.Common.{refl}
use Rattle.exports.proofs.ReceiptDots.{dot_none, dot_some}
use Rattle.exports.proofs.naming.split_at_dot.Goals as goal

pub returns-in_err-at : goal.returns-in_err-at
returns-in_err-at c = rw c.from_residual.ensures (dot_none _ c.in_err-at.ensures)

pub returns : goal.returns
returns c = dot_some _ _ c.in_ok-at.ensures _ refl
