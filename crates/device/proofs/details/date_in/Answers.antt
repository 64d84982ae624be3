use Rattle.device.specs.Details.{date_of, number_in}
use Rattle.device.proofs.details.date_in.Goals as goal

pub returns : goal.returns
unfolding date_of number_in
returns c =
    rw (c.word_at.ensures, c.word_at-2.ensures, c.word_at-3.ensures, c.word_at-4.ensures, c.word_at-5.ensures, c.word_at-6.ensures)
