-- `layout::put_key` meets its contract.
use Rattle.std.proofs.Common.{◌≡◌, length, rules}
use Rattle.device.proofs.Writers.{put_key}
use Rattle.device.proofs.layout.put_key.Goals as goal

pub returns : goal.returns
returns c =
    let k : length c.args.key ≡ 32 = search rules in
    put_key c.args.n c.args.key c.args.out.now k c.requires c.put_number.ensures.1 c.put.ensures.1
