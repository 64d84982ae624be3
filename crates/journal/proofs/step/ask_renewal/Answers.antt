-- `step::ask_renewal` meets its contract.
use Rattle.std.proofs.Common.{length, sym, ap, ◌∙◌, arith}
use Rattle.journal.proofs.Serials.{in_used}
use Rattle.journal.proofs.Answers.{serial-yes}
use Rattle.journal.proofs.ChangeCalls.{serial_used, serial_ninth}
use Rattle.journal.proofs.step.ask_renewal.Goals as goal

pub returns-then-contains : goal.returns-then-contains
returns-then-contains c =
    let new = in_used c.args.st.serials _ c.args.serial _ c.used-serials.ensures c.contains.ensures.value in
    serial_used c.args.st c.args.serial 0 (sym new ∙ c.if-contains.true)

pub returns-then-serials-ge8 : goal.returns-then-serials-ge8
returns-then-serials-ge8 c =
    let new = in_used c.args.st.serials _ c.args.serial _ c.used-serials.ensures c.contains.ensures.value in
    serial_ninth c.args.st c.args.serial 0 (sym new ∙ c.if-contains.false) (omega (arith, ap length c.used-serials.ensures, c.if-serials-ge8.true))

pub returns : goal.returns
returns c =
    let new = in_used c.args.st.serials _ c.args.serial _ c.used-serials.ensures c.contains.ensures.value in
    sym (serial-yes c.args.st c.args.serial 0 (sym new ∙ c.if-contains.false) (omega (arith, ap length c.used-serials.ensures, c.if-serials-ge8.false)))
