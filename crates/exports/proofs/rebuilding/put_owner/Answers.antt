-- `rebuilding::put_owner` meets its contract.
use Rattle.std.proofs.Common.{◌≡◌, length, rules}
use Rattle.exports.proofs.Carrying.{owner_put}
use Rattle.exports.proofs.rebuilding.put_owner.Goals as goal

pub returns : goal.returns
returns c =
    let long : length c.args.owner.csp ≡ 3 = search rules in
    owner_put c.args.owner long c.put_count.ensures c.put.ensures c.put_name.ensures
