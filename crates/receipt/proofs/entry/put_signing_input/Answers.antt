-- There is a payload; or nothing is written.
use Rattle.receipt.proofs.EntryCalls.{unprepared, is_prepared, no_input, wrote_input}
use Rattle.receipt.proofs.entry.put_signing_input.Goals as goal

pub returns-in-Some : goal.returns-in-Some
returns-in-Some c =
    let p = is_prepared c.args.s c.args.n c.args.f c.in-Some.ensures in
    wrote_input c.args.out.now c.args.at c.args.s c.args.n c.args.f p.0 p.1 c.put_signed_input.ensures

pub returns-in-None : goal.returns-in-None
returns-in-None c = no_input c.args.out.now c.args.at c.args.s c.args.n c.args.f (unprepared c.args.s c.args.n c.args.f c.in-None.ensures)
