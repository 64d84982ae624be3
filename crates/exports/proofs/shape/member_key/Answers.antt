-- `shape::member_key` meets its contract.
use Rattle.std.proofs.Common.{rules}
use Rattle.exports.proofs.Members.{key_no_mark, key_no_name, key_of_group}
use Rattle.exports.proofs.shape.member_key.Goals as goal

pub returns-in_err-expect : goal.returns-in_err-expect
returns-in_err-expect c = rw c.from_residual.ensures (key_no_mark c.in_err-expect.ensures)

pub returns-in_err-key : goal.returns-in_err-key
returns-in_err-key c = rw c.from_residual-in_err-key.ensures (key_no_name c.in_ok-expect.ensures c.in_err-key.ensures)

pub returns-then-eq : goal.returns-then-eq
returns-then-eq c = let e = c.eq.ensures in key_of_group c.in_ok-expect.ensures c.in_ok-key.ensures (search rules)
