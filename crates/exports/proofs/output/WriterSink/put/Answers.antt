-- `Writer::put` meets its contract.
use Rattle.std.proofs.Common.{refl}
use Rattle.exports.proofs.Putting.{put_done}
use Rattle.exports.proofs.output.WriterSink.put.Goals as goal

pub returns-in-Some : goal.returns-in-Some
returns-in-Some c = put_done _ _ refl c.in-Some.ensures c.put.ensures.1
