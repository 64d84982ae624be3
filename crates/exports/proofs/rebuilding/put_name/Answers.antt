-- `rebuilding::put_name` meets its contract.
use Rattle.std.proofs.Common.{length, ap, sym}
use Rattle.exports.proofs.Carrying.{section_put}
use Rattle.exports.proofs.rebuilding.put_name.Goals as goal

pub returns : goal.returns
returns c = section_put c.put_count.ensures c.put.ensures c.text-text.ensures (sym (ap length c.text-text.ensures))
