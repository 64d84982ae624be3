-- `shape::document_end` meets its contract.
use Rattle.std.proofs.Common.{arith}
use Rattle.exports.proofs.Documents.{document_no_group, document_no_array, document_ends}
use Rattle.exports.proofs.shape.document_end.Goals as goal

pub returns-in_err-group_place : goal.returns-in_err-group_place
returns-in_err-group_place c = rw c.from_residual.ensures (document_no_group c.in_err-group_place.ensures)

pub returns-in_err-end : goal.returns-in_err-end
returns-in_err-end c = rw c.from_residual-in_err-end.ensures (document_no_array c.in_ok-group_place.ensures c.in_err-end.ensures)

pub returns : goal.returns
returns c = document_ends c.in_ok-group_place.ensures (omega (arith, c.in_ok-end.ensures.onward)) c.in_ok-end.ensures _ c.expect.ensures
