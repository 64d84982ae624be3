-- `shape::member` meets its contract.
use Rattle.exports.proofs.Members.{member_no_value, member_found}
use Rattle.exports.proofs.shape.member.Goals as goal

pub returns-in_err-next : goal.returns-in_err-next
returns-in_err-next c = rw c.from_residual-in_err-next.ensures (member_no_value c.in_ok-key.ensures c.in_err-next.ensures)

pub returns : goal.returns
returns c = member_found c.in_ok-key.ensures c.in_ok-next.ensures
