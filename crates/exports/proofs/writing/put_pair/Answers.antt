-- `writing::put_pair` meets its contract.
use Rattle.exports.specs.Writing.{ending}
use Rattle.exports.proofs.Exporting.{pair_cut, pair_short, pair_missing, pair_put}
use Rattle.exports.proofs.writing.put_pair.Goals as goal

pub returns-in_err-serial_end : goal.returns-in_err-serial_end
returns-in_err-serial_end g c = rw c.from_residual.ensures (pair_cut _ _ _ _ c.in_err-serial_end.ensures)

pub returns-in_err-count : goal.returns-in_err-count
returns-in_err-count g c = rw c.from_residual-in_err-count.ensures (pair_short _ _ _ c.in_ok-serial_end.ensures _ c.in_err-count.ensures)

pub returns-in_err-end : goal.returns-in_err-end
returns-in_err-end g c = rw c.from_residual-in_err-end.ensures (pair_missing _ _ _ c.in_ok-serial_end.ensures c.in_ok-count.ensures c.in_err-end.ensures)

pub returns : goal.returns
unfolding ending
returns g c = pair_put _ _ _ c.in_ok-serial_end.ensures c.in_ok-count.ensures c.in_ok-end.ensures c.put.ensures
