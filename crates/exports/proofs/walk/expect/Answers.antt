-- `walk::expect` meets its contract.
use Rattle.exports.proofs.Tokening.{expect_end, expect_found, expect_other}
use Rattle.exports.proofs.walk.expect.Goals as goal
use Rattle.exports.proofs.walk.expect.Goals.{else-p-text-via-then-p-text+else-text-p, else-p-text-via-else-p-text}

pub returns-then-text-p : goal.returns-then-text-p
returns-then-text-p c = expect_found c.skip_blanks-p.ensures c.requires.1 c.if-p-text.true c.if-text-p.true

pub returns : goal.returns
returns c =
    elim c.else-p-text.branch [
      | else-p-text-via-then-p-text+else-text-p w ↦ expect_other c.skip_blanks-p.ensures c.requires.1 w.if-p-text.true w.if-text-p.false
      | else-p-text-via-else-p-text w ↦ expect_end c.skip_blanks-p.ensures c.requires.1 w.if-p-text.false
    ]
