-- `strings::part_at` meets its contract.
use Rattle.exports.proofs.Tokening.{read_no_word}
use Rattle.exports.proofs.strings.part_at.Goals as goal

pub returns-in_default : goal.returns-in_default
returns-in_default c = read_no_word _ _ _ c.next.ensures c.in_default.not-Quoted
