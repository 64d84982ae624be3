-- `issue_list`: what the state and the buffer so far, and the receipts that are left, would give is what all of them give.
use Rattle.journal.proofs.ListTurns.{Turn}
use Rattle.journal.proofs.listing.issue_list.Given as goal

abbrev pub invariant-loop-count : goal.invariant-loop-count
invariant-loop-count l = Turn l.initial.state l.list l.initial.buf l.state l.buf l.count
