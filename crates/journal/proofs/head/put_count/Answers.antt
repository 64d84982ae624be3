-- `head::put_count` meets its contract.
use Rattle.journal.proofs.OpenCalls.{put_count}
use Rattle.journal.proofs.head.put_count.Goals as goal

pub returns : goal.returns
returns c =
    put_count _ _ c.args.buf.now c.requires (rw c.from.ensures at c.put_number.ensures.1)
