-- `opening::open` meets its contract.
use Rattle.std.proofs.Common.{refl, sym}
use Rattle.std.proofs.lemmas.Result.{err_from_is_err_and}
use Rattle.primitives.proofs.Refusals.{numbers_are_not_zero}
use Rattle.journal.proofs.OpenCalls.{open_zero, open_refused, open_done}
use Rattle.journal.proofs.opening.open.Goals as goal

pub returns-in_err-head : goal.returns-in_err-head
returns-in_err-head c =
    let p = err_from_is_err_and c.from_residual.result c.from_residual.ensures.1 in
    rw (p.1, p.2)
    (open_refused c.args.s c.args.key c.args.shared c.args.n c.args.buf.now _ c.in_err-head.ensures.number (numbers_are_not_zero _) refl)

pub write-requires : goal.write-requires
write-requires c = rw c.in_ok-head.ensures.head (open_zero c.args.s _ _ _ (sym c.in_ok-head.ensures.number)).2

pub returns : goal.returns
returns c =
    open_done c.args.s c.args.key c.args.shared c.args.n c.args.buf.now _ c.in_ok-head.ensures.number refl
    (rw c.in_ok-head.ensures.head at c.write.ensures) (rw c.in_ok-head.ensures.head at c.fresh.ensures)
