use Rattle.exports.proofs.Lexing.{starts_escaped}
use Rattle.exports.proofs.lexer.escape_at.Goals as goal

pub returns : goal.returns
returns c = starts_escaped c.args.text.now c.args.at _ c.starts_with.ensures.value
