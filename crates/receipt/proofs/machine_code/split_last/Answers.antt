-- The place that was found is that of the last.
use Rattle.std.proofs.Common.{◌≡◌, refl}
use Rattle.receipt.specs.Code.{last_at}
use Rattle.receipt.proofs.Finding.{last_here, last_nowhere}
use Rattle.receipt.proofs.Loose.{rest_lent}
use Rattle.receipt.proofs.machine_code.split_last.Goals as goal

pub returns-in_err-at : goal.returns-in_err-at
returns-in_err-at c = rw c.from_residual.ensures (last_nowhere c.args.b c.args.s.now c.in_err-at.ensures)

pub returns : goal.returns
returns c =
    let at : last_at c.args.b c.args.s.now ≡ c.in_ok-at.at = last_here c.args.b c.args.s.now _ c.in_ok-at.ensures.0 c.in_ok-at.ensures.1 c.in_ok-at.ensures.2 in
    rw at (c.in_ok-at.ensures.0, refl, rest_lent c.args.s.now _)
