-- A mark and a text.
use Rattle.receipt.proofs.LineCalls.{put_marked}
use Rattle.receipt.proofs.optical_line.put_field.Goals as goal

pub returns : goal.returns
returns c = put_marked c.args.s.now c.args.out.now c.args.at c.requires c.put8.ensures c.put.ensures
