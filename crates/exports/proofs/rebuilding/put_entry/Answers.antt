-- `rebuilding::put_entry` meets its contract.
use Rattle.exports.proofs.Carrying.{entry_put}
use Rattle.exports.proofs.rebuilding.put_entry.Goals as goal

pub returns : goal.returns
returns c = entry_put _ c.requires.long c.put_count.ensures c.put_letters.ensures
