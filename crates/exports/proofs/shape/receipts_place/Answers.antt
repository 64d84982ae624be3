-- `shape::receipts_place` meets its contract.
use Rattle.std.proofs.Common.{rules}
use Rattle.exports.proofs.Objects.{element_no_1}
use Rattle.exports.proofs.Closings.{seek_start, seek_found, seek_no_value, seek_no_member, seek_more}
use Rattle.exports.proofs.shape.receipts_place.Goals as goal

pub returns-in_err-key : goal.returns-in_err-key
returns-in_err-key c = rw c.from_residual.ensures (element_no_1 c.in_err-key.ensures)

pub loop-key-init : goal.loop-key-init
loop-key-init c = seek_start c.in_ok-key.ensures

pub returns-in_err-end : goal.returns-in_err-end
returns-in_err-end c = rw c.from_residual-in_err-end.ensures (seek_no_value c.loop-key.invariant c.in_err-end.ensures)

pub returns-in_err-key-2 : goal.returns-in_err-key-2
returns-in_err-key-2 c = rw c.from_residual-in_err-key-2.ensures (seek_no_member c.loop-key.invariant c.in_ok-end.ensures (search rules) c.in_err-key-2.ensures)

pub loop-key-preserved : goal.loop-key-preserved
loop-key-preserved c = seek_more c.loop-key.invariant c.in_ok-end.ensures (search rules) c.in_ok-key-2.ensures

pub returns : goal.returns
returns c = seek_found c.loop-key.invariant (search rules)
