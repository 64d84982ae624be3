-- `writing::section_end` meets its contract.
use Rattle.exports.proofs.Exporting.{section_short, section_moved}
use Rattle.exports.proofs.writing.section_end.Goals as goal

pub returns-in_err-n : goal.returns-in_err-n
returns-in_err-n c = rw c.from_residual.ensures (section_short _ _ c.in_err-n.ensures)

pub returns : goal.returns
returns c = section_moved _ _ c.in_ok-n.ensures _ c.moved.ensures
