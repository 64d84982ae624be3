-- `shape::group_place` meets its contract.
use Rattle.std.proofs.Common.{rules}
use Rattle.exports.proofs.Documents.{group_no_key, group_other}
use Rattle.exports.proofs.shape.group_place.Goals as goal

pub returns-in_err-key : goal.returns-in_err-key
returns-in_err-key c = rw c.from_residual-in_err-key.ensures (group_no_key c.in_ok-expect.ensures c.in_err-key.ensures)

pub returns : goal.returns
returns c = group_other c.in_ok-expect.ensures c.in_ok-key.ensures (search rules)
