-- `details::put_details` meets its contract.
use Rattle.std.proofs.Common.{◌≡◌, length, rules}
use Rattle.device.proofs.DetailLaws.{put_details}
use Rattle.device.proofs.details.put_details.Goals as goal

pub returns : goal.returns
returns c =
    let five : length c.args.d.amounts ≡ 5 = search rules in
    put_details c.args.d c.args.out.now five c.requires c.kind_number.ensures c.put_numbers.ensures c.put_amounts.ensures
