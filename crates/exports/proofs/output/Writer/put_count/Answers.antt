-- `Writer::put_count` meets its contract.
use Rattle.primitives.proofs.Numbers.{length_bytes_of}
use Rattle.exports.proofs.Putting.{left_out, put_done}
use Rattle.exports.proofs.output.Writer.put_count.Goals as goal

pub returns-in-Some : goal.returns-in-Some
returns-in-Some c = put_done _ _ (length_bytes_of _ _) c.in-Some.ensures c.put_number.ensures.1

pub returns-in_default : goal.returns-in_default
returns-in_default c = left_out _ _ (length_bytes_of _ _) c.in_default.ensures
