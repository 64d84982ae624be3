-- `walk::key_at` meets its contract.
use Rattle.exports.proofs.Tokening.{no_word}
use Rattle.exports.proofs.walk.key_at.Goals as goal

pub returns-in_default : goal.returns-in_default
returns-in_default c = λ n rest q. no_word _ _ q _ c.next.ensures c.in_default.not-Quoted
