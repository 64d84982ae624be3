-- `head::put_section` meets its contract.
use Rattle.journal.proofs.OpenCalls.{put_section}
use Rattle.journal.proofs.head.put_section.Goals as goal

pub returns : goal.returns
returns c = put_section c.args.text.now c.args.buf.now c.args.at c.requires c.put_number.ensures.1 c.put.ensures.1
