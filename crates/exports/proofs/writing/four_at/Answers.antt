-- `writing::four_at` meets its contract.
use Rattle.std.proofs.Common.{sym}
use Rattle.exports.proofs.Exporting.{four_is, four_none}
use Rattle.exports.proofs.writing.four_at.Goals as goal

pub returns-in_err-n : goal.returns-in_err-n
returns-in_err-n c = rw c.from_residual.ensures (four_none _ _ (sym c.in_err-n.ensures))

pub returns : goal.returns
returns c = four_is _ _ (record { at = λ i. (c.type_inv.j i).fits }) (sym c.in_ok-n.ensures)
