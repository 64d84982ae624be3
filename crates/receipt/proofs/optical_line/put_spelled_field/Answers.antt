-- A mark and a text.
use Rattle.receipt.specs.Line.{spell}
use Rattle.receipt.proofs.LineCalls.{put_marked}
use Rattle.receipt.proofs.optical_line.put_spelled_field.Goals as goal

pub returns : goal.returns
returns c = put_marked (spell c.args.spelling c.args.s.now) c.args.out.now c.args.at c.requires c.put8.ensures c.encode.ensures
