-- `payload::read_payload` meets its contract.
use Rattle.std.proofs.Common.{◌+◌, sym, arith}
use Rattle.receipt.proofs.Loose.{rest_lent, too_short, date_short, counter_short, text_long, fields_read}
use Rattle.receipt.proofs.payload.read_payload.Goals as goal
use Rattle.receipt.proofs.payload.read_payload.Goals.{then-text-lt9-via-then-text-lt9, then-text-lt9-via-else-text-lt9+then-text-s, then-date-lt19-via-then-date-lt19, then-date-lt19-via-else-date-lt19+then-counter-lt12}

-- the text ends before the fields begin
pub returns-then-text-lt9 : goal.returns-then-text-lt9
returns-then-text-lt9 c =
    elim c.then-text-lt9.branch [
      | then-text-lt9-via-then-text-lt9 w ↦ sym (too_short _ _ _ (omega (arith, w.if-text-lt9.true)))
      | then-text-lt9-via-else-text-lt9+then-text-s w ↦ sym (too_short _ _ _ (omega (arith, w.if-text-lt9.false, w.if-text-s.true)))
    ]

-- or in the date or in the counter field
pub returns-then-date-lt19 : goal.returns-then-date-lt19
returns-then-date-lt19 c =
    elim c.then-date-lt19.branch [
      | then-date-lt19-via-then-date-lt19 w ↦ sym (date_short c.args.s c.args.n c.args.text.now (rest_lent c.args.text.now (9 + c.args.s.id.len)) c.after-date.ensures c.after-amounts.ensures c.skip-counter.ensures w.if-date-lt19.true)
      | then-date-lt19-via-else-date-lt19+then-counter-lt12 w ↦ sym (counter_short c.args.s c.args.n c.args.text.now (rest_lent c.args.text.now (9 + c.args.s.id.len)) c.after-date.ensures c.after-amounts.ensures c.skip-counter.ensures w.if-date-lt19.false w.if-counter-lt12.true)
    ]

pub read_chain-requires : goal.read_chain-requires
read_chain-requires c = text_long c.args.s c.args.n c.args.text.now (rest_lent c.args.text.now (9 + c.args.s.id.len)) c.after-date.ensures c.after-amounts.ensures c.skip-counter.ensures c.if-date-lt19.false

pub returns : goal.returns
returns c =
    fields_read c.args.s c.args.n c.args.text.now (rest_lent c.args.text.now (9 + c.args.s.id.len)) c.after-date.ensures c.after-amounts.ensures c.skip-counter.ensures c.if-date-lt19.false c.if-counter-lt12.false
    c.value_of.ensures.0 c.read_date.ensures c.read_amounts.ensures c.kind_of-kind.ensures c.read_counter.ensures c.read_chain.ensures
