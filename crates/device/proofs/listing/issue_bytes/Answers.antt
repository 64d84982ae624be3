-- `listing::issue_bytes` meets its contract.
use Rattle.device.specs.Layout.{state_of}
use Rattle.device.proofs.Lists.{cut_issued, whole_issued}
use Rattle.device.proofs.listing.issue_bytes.Goals as goal

pub returns-then-list-ne0 : goal.returns-then-list-ne0
returns-then-list-ne0 c =
    cut_issued c.args.list.now (state_of c.args.state.now) c.args.buf.now c.if-list-ne0.true c.issue_none.ensures

pub returns : goal.returns
returns c =
    whole_issued c.args.list.now (state_of c.args.state.now) c.args.buf.now c.if-list-ne0.false c.issue_each.ensures
