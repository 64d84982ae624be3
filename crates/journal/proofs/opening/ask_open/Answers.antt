-- `opening::ask_open` meets its contract.
use Rattle.std.proofs.Common.{refl}
use Rattle.std.proofs.lemmas.Result.{err_from_is_err_and, IfOk-from_err}
use Rattle.primitives.proofs.Refusals.{numbers_are_not_zero}
use Rattle.journal.proofs.OpenCalls.{number_stops, number_good, number_short, number_zero}
use Rattle.journal.proofs.opening.ask_open.Goals as goal

pub returns-in_err-ask_settings_for : goal.returns-in_err-ask_settings_for
returns-in_err-ask_settings_for c =
    let p = err_from_is_err_and c.from_residual.result c.from_residual.ensures.1 in
    record {
      number = rw (p.1, p.2) (number_stops c.args.settings c.args.shared c.args.n c.args.room c.in_err-ask_settings_for.ensures (numbers_are_not_zero _));
      head = IfOk-from_err _ _ c.from_residual.ensures.0;
    }

pub invariant_of-head : goal.invariant_of-head
invariant_of-head c =
    record { good = number_good c.args.settings c.args.shared c.args.n c.args.room c.in_ok-ask_settings_for.ensures refl }

pub returns-then-room-length-clause-number : goal.returns-then-room-length-clause-number
returns-then-room-length-clause-number c =
    number_short c.args.settings c.args.shared c.args.n c.args.room c.in_ok-ask_settings_for.ensures refl c.length.ensures c.if-room-length.true

pub returns-clause-number : goal.returns-clause-number
returns-clause-number c =
    number_zero c.args.settings c.args.shared c.args.n c.args.room c.in_ok-ask_settings_for.ensures refl c.length.ensures c.if-room-length.false
