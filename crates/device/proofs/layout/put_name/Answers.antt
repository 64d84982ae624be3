-- `layout::put_name` meets its contract.
use Rattle.std.proofs.Common.{◌≡◌, length, rules}
use Rattle.device.proofs.Writers.{put_name}
use Rattle.device.proofs.layout.put_name.Goals as goal

pub returns : goal.returns
returns c =
    let l : length c.args.name.bytes ≡ 32 = search rules in
    put_name c.args.name c.args.out.now c.args.at l c.requires c.put.ensures.1 c.put_number.ensures.1
