-- `shape::element` meets its contract.
use Rattle.exports.proofs.Objects.{element_no_1, element_no_2, element_no_3, element_no_4, element_found}
use Rattle.exports.proofs.shape.element.Goals as goal

pub returns-in_err-a : goal.returns-in_err-a
returns-in_err-a c = rw c.from_residual.ensures (element_no_1 c.in_err-a.ensures)

pub returns-in_err-b : goal.returns-in_err-b
returns-in_err-b c = rw c.from_residual-in_err-b.ensures (element_no_2 c.in_ok-a.ensures c.in_err-b.ensures)

pub returns-in_err-c : goal.returns-in_err-c
returns-in_err-c c = rw c.from_residual-in_err-c.ensures (element_no_3 c.in_ok-a.ensures c.in_ok-b.ensures c.in_err-c.ensures)

pub returns-in_err-next : goal.returns-in_err-next
returns-in_err-next c = rw c.from_residual-in_err-next.ensures (element_no_4 c.in_ok-a.ensures c.in_ok-b.ensures c.in_ok-c.ensures c.in_err-next.ensures)

pub returns : goal.returns
returns c = element_found c.in_ok-a.ensures c.in_ok-b.ensures c.in_ok-c.ensures c.in_ok-next.ensures _ c.all_places.ensures
