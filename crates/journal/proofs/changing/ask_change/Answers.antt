-- A row of questions.
use Rattle.std.proofs.Common.{ap, not, arith, refl}
use Rattle.std.proofs.lemmas.Result.{err_from_is_err_and}
use Rattle.primitives.proofs.Questions.{yes, no}
use Rattle.primitives.proofs.Refusals.{numbers_are_not_zero}
use Rattle.receipt.specs.declared.settings.Letters.TheVariants.{Serial}
use Rattle.receipt.proofs.Names.{good_name}
use Rattle.journal.proofs.ChangeCalls.{change_unsound, change_bad, change_serial, change_full, change_none}
use Rattle.journal.proofs.changing.ask_change.Goals as goal

pub returns-then-not-sound : goal.returns-then-not-sound
returns-then-not-sound c = change_unsound c.args.st c.args.serial _ (no c.sound.ensures (ap not c.if-not-sound.true))

pub returns-then-not-serial_good : goal.returns-then-not-serial_good
returns-then-not-serial_good c =
    change_bad c.args.st c.args.serial _
    (yes c.sound.ensures (ap not c.if-not-sound.false)) (no c.serial_good.ensures (ap not c.if-not-serial_good.true))

pub returns-in_err-ask_renewal : goal.returns-in_err-ask_renewal
returns-in_err-ask_renewal c =
    let p = err_from_is_err_and c.from_residual.result c.from_residual.ensures.1 in
    rw (p.1, p.2)
    (change_serial c.args.st c.args.serial _
    (yes c.sound.ensures (ap not c.if-not-sound.false))
    (yes c.serial_good.ensures (ap not c.if-not-serial_good.false)) c.in_err-ask_renewal.ensures (numbers_are_not_zero _))

pub overflow_add-serial : goal.overflow_add-serial
overflow_add-serial c =
    omega
    (arith, (good_name Serial c.args.serial (yes c.serial_good.ensures (ap not c.if-not-serial_good.false))).most)

pub returns-then-not-has_room : goal.returns-then-not-has_room
returns-then-not-has_room c =
    change_full c.args.st c.args.serial c.args.room
    (yes c.sound.ensures (ap not c.if-not-sound.false))
    (yes c.serial_good.ensures (ap not c.if-not-serial_good.false))
    c.in_ok-ask_renewal.ensures refl
    (no c.has_room.ensures (ap not c.if-not-has_room.true))

pub returns : goal.returns
returns c =
    change_none c.args.st c.args.serial c.args.room
    (yes c.sound.ensures (ap not c.if-not-sound.false))
    (yes c.serial_good.ensures (ap not c.if-not-serial_good.false))
    c.in_ok-ask_renewal.ensures refl
    (yes c.has_room.ensures (ap not c.if-not-has_room.false))
