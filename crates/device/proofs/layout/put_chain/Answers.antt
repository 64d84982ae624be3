-- `layout::put_chain` meets its contract.
use Rattle.std.proofs.Common.{◌≡◌, length, rules}
use Rattle.device.proofs.Writers.{put_chain}
use Rattle.device.proofs.layout.put_chain.Goals as goal

pub returns : goal.returns
returns c =
    let e : length c.args.st.chain ≡ 8 = search rules in
    put_chain c.args.st c.args.out.now e c.requires
    c.put.ensures.1
    c.put_number.ensures.1
    c.put_number-2.ensures.1
    c.put_number-3.ensures.1
