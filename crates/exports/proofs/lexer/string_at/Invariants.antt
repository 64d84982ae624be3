-- `lexer::string_at` meets its contract.
use Rattle.std.proofs.Common.{◌-◌, length}
use Rattle.exports.proofs.Lexing.{Ending}
use Rattle.exports.proofs.lexer.string_at.Given as goal

abbrev pub invariant-loop-after : goal.invariant-loop-after
invariant-loop-after l = Ending l.text l.start l.end l.length

abbrev pub decreases-loop-after : goal.decreases-loop-after
decreases-loop-after l = length l.text - l.end
