use Rattle.std.proofs.Common.{arith}
use Rattle.exports.proofs.Lexing.{stopped}
use Rattle.exports.proofs.lexer.plain_end.Goals as goal

pub overflow_add-result : goal.overflow_add-result
overflow_add-result c = omega (arith, (stopped c.requires c.plain_bytes.ensures).inside)

pub returns : goal.returns
returns c = stopped c.requires c.plain_bytes.ensures
