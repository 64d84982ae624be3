-- There is a payload, and a good signature; or nothing is written.
use Rattle.std.proofs.Common.{ap, not}
use Rattle.primitives.proofs.Rows.{not_no, not_yes}
use Rattle.receipt.proofs.EntryCalls.{unprepared, is_prepared, no_payload, stray_bytes, wrote_compact}
use Rattle.receipt.proofs.entry.put_compact.Goals as goal

pub returns-in_default : goal.returns-in_default
returns-in_default c =
    no_payload c.args.out.now c.args.at c.args.s c.args.n c.args.e (unprepared c.args.s c.args.n c.args.e.fields c.in_default.ensures)

pub returns-then-not-signature_zero : goal.returns-then-not-signature_zero
returns-then-not-signature_zero c =
    stray_bytes c.args.out.now c.args.at c.args.s c.args.n c.args.e
    (not_no _ _ c.signature_zero.ensures (ap not c.if-not-signature_zero.true))

pub returns : goal.returns
returns c =
    let p = is_prepared c.args.s c.args.n c.args.e.fields c.in-Some.ensures in
    wrote_compact c.args.out.now c.args.at c.args.s c.args.n c.args.e
    p.0 (not_yes _ _ c.signature_zero.ensures (ap not c.if-not-signature_zero.false)) p.1 c.put_signed.ensures
