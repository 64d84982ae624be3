-- `strings::letter_at` meets its contract.
use Rattle.std.proofs.Common.{arith}
use Rattle.exports.proofs.Lexing.{letters_inside, letter_none, letter_escape, letter_plain, escape_inside}
use Rattle.exports.proofs.strings.letter_at.Goals as goal

pub bounds-text-at : goal.bounds-text-at
bounds-text-at c = letters_inside _ _ c.requires

pub returns-then-byte-eq34 : goal.returns-then-byte-eq34
returns-then-byte-eq34 c = letter_none c.requires c.if-byte-eq34.true

pub overflow_add-result : goal.overflow_add-result
overflow_add-result c = let i = escape_inside c.requires c.if-byte-eq92.true in omega (arith, i)

pub returns-then-byte-eq92 : goal.returns-then-byte-eq92
returns-then-byte-eq92 c = letter_escape c.requires c.if-byte-eq92.true

pub overflow_add-result-2 : goal.overflow_add-result-2
overflow_add-result-2 c = let i = letters_inside _ _ c.requires in omega (arith, i)

pub returns : goal.returns
returns c = letter_plain c.requires c.if-byte-eq34.false c.if-byte-eq92.false
