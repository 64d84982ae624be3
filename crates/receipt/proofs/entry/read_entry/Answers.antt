-- What was read is what the definition reads.
use Rattle.std.proofs.Common.{ap, not}
use Rattle.primitives.proofs.Rows.{not_no, not_yes}
use Rattle.receipt.proofs.EntryCalls.{read_refused, read_short, read_other, read_found}
use Rattle.receipt.proofs.entry.read_entry.Goals as goal

pub returns-in_err-parts : goal.returns-in_err-parts
returns-in_err-parts c = rw c.from_residual.ensures (read_refused c.args.s c.args.n c.args.text.now c.in_err-parts.ensures)

pub returns-in_err-fields : goal.returns-in_err-fields
returns-in_err-fields c =
    rw c.from_residual-in_err-fields.ensures (read_short c.args.s c.args.n c.args.text.now c.in_ok-parts.ensures c.in_err-fields.ensures)

pub returns-then-not-spells : goal.returns-then-not-spells
returns-then-not-spells c =
    read_other c.args.s c.args.n c.args.text.now c.in_ok-parts.ensures c.in_ok-fields.ensures
    (not_no _ _ c.spells.ensures (ap not c.if-not-spells.true))

pub returns : goal.returns
returns c =
    read_found c.args.s c.args.n c.args.text.now c.in_ok-parts.ensures c.in_ok-fields.ensures
    (not_yes _ _ c.spells.ensures (ap not c.if-not-spells.false)) c.signature_of.ensures
