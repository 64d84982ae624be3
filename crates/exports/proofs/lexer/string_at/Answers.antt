use Rattle.exports.proofs.Lexing.{string_open, string_close, string_wrong, string_more, escape_room}
use Rattle.exports.proofs.lexer.string_at.Goals as goal
use Rattle.exports.proofs.lexer.string_at.Goals.{else-end-text-via-then-end-text+else-text-end-eq34, else-end-text-via-else-end-text}

pub plain_end-end-requires-in-loop-after : goal.plain_end-end-requires-in-loop-after
plain_end-end-requires-in-loop-after c = escape_room c.loop-after.invariant c.escape_at.ensures c.loop-after-test.true

pub loop-after-preserved : goal.loop-after-preserved
loop-after-preserved c = string_more c.loop-after.invariant c.escape_at.ensures c.loop-after-test.true c.plain_end-end-in-loop-after.ensures

pub returns-then-text-end-eq34 : goal.returns-then-text-end-eq34
returns-then-text-end-eq34 c = string_close c.loop-after.invariant c.if-end-text.true c.if-text-end-eq34.true

pub returns : goal.returns
returns c =
    elim c.else-end-text.branch [
      | else-end-text-via-then-end-text+else-text-end-eq34 w ↦ string_wrong c.loop-after.invariant w.if-end-text.true w.if-text-end-eq34.false c.escape_at.ensures c.loop-after-test.false
      | else-end-text-via-else-end-text w ↦ string_open c.loop-after.invariant w.if-end-text.false
    ]
