-- Prepare and Issue: one text, and the same questions.
use Rattle.std.proofs.Common.{le-leb, length}
use Rattle.receipt.proofs.ExactEntry.{input_before_dot}
use Rattle.primitives.specs.Questions.{ask}
use Rattle.journal.specs.Issuing.{entry_of, text_of}
use Rattle.journal.specs.Preparing.{prepared_text, prepare_number}
use Rattle.journal.specs.Demands.{PreparedIsIssued, PreparedBefore}
use Rattle.journal.proofs.Answers.{issue-zero, sound-yes, details-yes}
use Rattle.journal.specs.State.{settings_now}

pub prepared_is_issued : PreparedIsIssued
unfolding text_of prepared_text entry_of
prepared_is_issued st d sig = input_before_dot (settings_now st) st.width (entry_of st d sig)

pub prepared_before : PreparedBefore
unfolding prepare_number ask
prepared_before st d sig room space z h =
    let a = issue-zero st d sig room z in
    rw (sound-yes st a.sound, details-yes st d _ a.details, le-leb (length (prepared_text st d)) space h)
