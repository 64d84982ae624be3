-- `naming::named_by` meets its contract.
use Rattle.std.proofs.Common.{ap, ◌∙◌, arith}
use Rattle.exports.specs.Running.{as_named}
use Rattle.exports.proofs.PayloadNames.{names_not, names_short, names_unmarked, names_uncounted, first_long, starts_same, names_unsized, names_unstarted, names_last}
use Rattle.exports.proofs.naming.named_by.Goals as goal
use Rattle.exports.proofs.naming.named_by.Goals.{then-len-lt4-via-then-len-lt4, then-len-lt4-via-else-len-lt4+then-byte-ne95, then-len-lt4-via-else-len-lt4+else-byte-ne95+then-first-ne6, then-len-lt4-via-else-len-lt4+else-byte-ne95+else-first-ne6+then-not-starts_with, then-len-lt4-via-else-len-lt4+else-byte-ne95+else-first-ne6+else-not-starts_with+then-count_marks-ne12}

pub returns-then-len-lt4 : goal.returns-then-len-lt4
returns-then-len-lt4 c =
    names_not _
    (elim c.then-len-lt4.branch [
      | then-len-lt4-via-then-len-lt4 w ↦ names_short _ c.len.ensures w.if-len-lt4.true
      | then-len-lt4-via-else-len-lt4+then-byte-ne95 w ↦ names_unmarked _ w.byte.ensures w.if-byte-ne95.true
      | then-len-lt4-via-else-len-lt4+else-byte-ne95+then-first-ne6 w ↦ names_unsized _ c.field-first.ensures w.if-first-ne6.true
      | then-len-lt4-via-else-len-lt4+else-byte-ne95+else-first-ne6+then-not-starts_with w ↦
          names_unstarted _ c.field-first.ensures w.if-first-ne6.false w.byte.ensures w.if-byte-ne95.false
          (w.starts_with.ensures.value ∙ starts_same _ (omega (arith, first_long _ c.field-first.ensures))) w.if-not-starts_with.true
      | then-len-lt4-via-else-len-lt4+else-byte-ne95+else-first-ne6+else-not-starts_with+then-count_marks-ne12 w ↦ names_uncounted _ w.count_marks.ensures w.if-count_marks-ne12.true
    ])

pub returns : goal.returns
returns c =
    ap as_named c.then_some.ensures
    ∙ names_last _ c.field-first.ensures c.if-first-ne6.false c.byte.ensures c.if-byte-ne95.false
    (c.starts_with.ensures.value ∙ starts_same _ (omega (arith, first_long _ c.field-first.ensures))) c.if-not-starts_with.false
    c.field.ensures c.field-2.ensures c.count_marks.ensures c.if-count_marks-ne12.false c.settings_good.ensures
