-- The payload is compared with the text.
use Rattle.receipt.proofs.EntryCalls.{unprepared, is_prepared, spells_none, spells_some}
use Rattle.receipt.proofs.entry.spells.Goals as goal

pub returns-in-Some : goal.returns-in-Some
returns-in-Some c =
    let p = is_prepared c.args.s c.args.n c.args.f c.in-Some.ensures in
    spells_some c.args.s c.args.n c.args.f c.args.text.now p.0 p.1 c.eq.ensures

pub returns-in-None : goal.returns-in-None
returns-in-None c = spells_none c.args.s c.args.n c.args.f c.args.text.now (unprepared c.args.s c.args.n c.args.f c.in-None.ensures)
