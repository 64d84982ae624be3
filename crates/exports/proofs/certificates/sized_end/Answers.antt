-- `certificates::sized_end` meets its contract.
use Rattle.std.proofs.Common.{sym, arith}
use Rattle.exports.proofs.Sized.{sized_room, sized_moved, sized_none}
use Rattle.exports.proofs.certificates.sized_end.Goals as goal

pub returns-in_err-n : goal.returns-in_err-n
returns-in_err-n c = rw c.from_residual.ensures (sized_none _ _ (sym c.in_err-n.ensures))

pub overflow_add-at : goal.overflow_add-at
overflow_add-at c = let r = sized_room _ _ (record { at = λ i. (c.type_inv.s i).fits }) (sym c.in_ok-n.ensures) in record { fits = omega arith }

pub returns : goal.returns
returns c = sized_moved _ _ (record { at = λ i. (c.type_inv.s i).fits }) (sym c.in_ok-n.ensures) _ c.moved.ensures
