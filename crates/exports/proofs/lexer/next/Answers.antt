-- `lexer::next` meets its contract.
use Rattle.std.proofs.Common.{refl, sym, ◌∙◌}
use Rattle.exports.proofs.Lexing.{next_end, next_no_string, next_string, next_mark, next_other}
use Rattle.exports.proofs.lexer.next.Goals as goal

pub returns-then-p-text : goal.returns-then-p-text
returns-then-p-text c = next_end c.skip_blanks-p.ensures c.if-p-text.true

pub returns-in-Some : goal.returns-in-Some
returns-in-Some c = next_string c.skip_blanks-p.ensures c.if-p-text.false c.if-b-eq34.true c.in-Some.ensures

pub returns-in-None : goal.returns-in-None
returns-in-None c = next_no_string c.skip_blanks-p.ensures c.if-p-text.false c.if-b-eq34.true c.in-None.ensures

pub returns-then-is_mark : goal.returns-then-is_mark
returns-then-is_mark c = let m = sym c.is_mark.ensures ∙ c.if-is_mark.true in (m, next_mark c.skip_blanks-p.ensures c.if-p-text.false _ refl c.if-b-eq34.false m)

pub returns-else-is_mark : goal.returns-else-is_mark
returns-else-is_mark c = next_other c.skip_blanks-p.ensures c.if-p-text.false _ refl c.if-b-eq34.false (sym c.is_mark.ensures ∙ c.if-is_mark.false)
