-- The letters are those of the paper.
use Rattle.primitives.specs.Text.{ascii}
use Rattle.receipt.proofs.PaperCases.{header_letters}
use Rattle.receipt.proofs.form.first_element.Goals as goal

pub returns : goal.returns
unfolding ascii
returns c = rw header_letters
