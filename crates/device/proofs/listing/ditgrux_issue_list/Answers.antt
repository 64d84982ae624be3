use Rattle.device.specs.Calls.{slices_with}
use Rattle.device.proofs.Lists.{list_is}
use Rattle.device.proofs.listing.ditgrux_issue_list.Goals as goal

pub returns-in-None : goal.returns-in-None
returns-in-None c =
    rw c.in-None.is at (list_is (slices_with c.args.state.now c.args.journal.now) c.args.list.now c.issue_bytes-answer.ensures c.keep.ensures)

pub returns-in-Some : goal.returns-in-Some
returns-in-Some c =
    rw c.number.ensures
    (rw c.in-Some.is at (list_is (slices_with c.args.state.now c.args.journal.now) c.args.list.now c.issue_bytes-answer.ensures c.keep.ensures))
