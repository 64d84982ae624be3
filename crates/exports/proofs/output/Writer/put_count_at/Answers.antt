-- `Writer::put_count_at` meets its contract.
use Rattle.exports.proofs.Putting.{put_at}
use Rattle.exports.proofs.output.Writer.put_count_at.Goals as goal

pub returns-in-Some : goal.returns-in-Some
returns-in-Some c = put_at c.in-Some.is c.put_number.ensures.1
