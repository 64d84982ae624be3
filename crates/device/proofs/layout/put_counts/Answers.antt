-- `layout::put_counts` meets its contract.
use Rattle.std.proofs.Common.{w64, SFits, rules}
use Rattle.device.proofs.Writers.{put_counts}
use Rattle.device.proofs.layout.put_counts.Goals as goal

pub returns : goal.returns
returns c =
    let f : SFits w64 c.args.st.counter = search rules in
    put_counts c.args.st c.args.out.now c.requires f
    c.counter_bytes.ensures
    c.put.ensures.1
    c.put_number.ensures.1
    c.put_number-2.ensures.1
