use Rattle.std.proofs.Common.{arith}
use Rattle.exports.proofs.Lexing.{skipped}
use Rattle.exports.proofs.lexer.skip_blanks.Goals as goal

pub overflow_add-result : goal.overflow_add-result
overflow_add-result c = omega (arith, (skipped c.requires c.blanks.ensures).inside)

pub returns : goal.returns
returns c = skipped c.requires c.blanks.ensures
