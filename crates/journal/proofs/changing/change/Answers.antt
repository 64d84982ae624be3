-- `changing::change` meets its contract.
use Rattle.std.proofs.Common.{arith, refl}
use Rattle.std.proofs.lemmas.Result.{err_from_is_err_and}
use Rattle.primitives.proofs.Refusals.{numbers_are_not_zero}
use Rattle.journal.proofs.ChangeCalls.{change_refused, change_room, change_few, change_done}
use Rattle.journal.proofs.changing.change.Goals as goal

pub returns-in_err-ask_change : goal.returns-in_err-ask_change
returns-in_err-ask_change c =
    let p = err_from_is_err_and c.from_residual.result c.from_residual.ensures.1 in
    rw (p.1, p.2) (change_refused c.args.st c.args.serial c.args.buf.now c.in_err-ask_change.ensures (numbers_are_not_zero _))

pub put_start-requires : goal.put_start-requires
put_start-requires c = change_room c.args.st c.args.serial c.args.buf.now c.in_ok-ask_change.ensures refl

pub renewed-requires : goal.renewed-requires
renewed-requires c =
    let r = change_room c.args.st c.args.serial c.args.buf.now c.in_ok-ask_change.ensures refl in
    (change_few c.args.st c.args.serial c.args.buf.now c.in_ok-ask_change.ensures refl, omega (arith, r.1, c.well_formed))

pub returns : goal.returns
returns c =
    change_done c.args.st c.args.serial c.args.buf.now c.in_ok-ask_change.ensures refl c.put_start.ensures c.renewed.ensures
