use Rattle.std.proofs.Common.{◌≡◌, length, arith}
use Rattle.journal.proofs.Serials.{used_length}
use Rattle.device.proofs.Slots.{state_long}
use Rattle.device.proofs.CallAnswers.{serial_none, serial_some}
use Rattle.device.proofs.register.serial_in.Goals as goal

pub bounds-st-which : goal.bounds-st-which
bounds-st-which c =
    let eight : length c.args.st.serials ≡ 8 = (state_long c.args.st _ c.well_formed.0).eight in
    omega (arith, c.if-which-used_count.true, c.used_count.ensures, used_length c.args.st.serials, eight)

pub returns-then-which-used_count : goal.returns-then-which-used_count
returns-then-which-used_count c = serial_some c.args.st c.args.which c.used_count.ensures _ c.if-which-used_count.true

pub returns-else-which-used_count : goal.returns-else-which-used_count
returns-else-which-used_count c = serial_none c.args.st c.args.which c.used_count.ensures c.if-which-used_count.false
