-- `writing::put_comma` meets its contract.
use Rattle.exports.proofs.Exporting.{no_comma}
use Rattle.exports.proofs.writing.put_comma.Goals as goal

pub returns-else-more : goal.returns-else-more
returns-else-more g c = no_comma _ _ c.if-more.false
