-- Writing and checking agree: demand 3, both ways, as one theorem.
use Rattle.journal.specs.Demands.{WritingAndCheckingAgree}
use Rattle.journal.proofs.JournalStates.{state_of_journal}
use Rattle.journal.proofs.OneReading.{one_reading}
use Rattle.journal.proofs.WrittenIsAccepted.{accepted_is_valid, written_is_accepted}
use Rattle.journal.proofs.AcceptedIsWritten.{accepted_is_written}

pub writing_and_checking_agree : WritingAndCheckingAgree
writing_and_checking_agree =
    record { accepted = accepted_is_valid; state = state_of_journal; reading = one_reading; forth = written_is_accepted; back = accepted_is_written }
