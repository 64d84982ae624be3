-- `writing::put_string` meets its contract.
use Rattle.exports.proofs.Exporting.{quoted_put}
use Rattle.exports.proofs.writing.put_string.Goals as goal

pub returns : goal.returns
returns g c = quoted_put c.args.more _ c.put_comma.ensures c.put.ensures c.put-2.ensures c.put-3.ensures
