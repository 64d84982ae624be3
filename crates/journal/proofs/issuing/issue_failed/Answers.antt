-- `issuing::issue_failed` meets its contract.
use Rattle.journal.proofs.issuing.issue_failed.Goals as goal

pub returns : goal.returns
returns c = c.issue.ensures
