-- `Writer::put_base64` meets its contract.
use Rattle.std.proofs.Common.{sym, ◌∙◌}
use Rattle.primitives.proofs.Base64Lengths.{length_encoding}
use Rattle.exports.proofs.Putting.{left_out, put_done}
use Rattle.exports.proofs.output.WriterSink.put_base64.Goals as goal

pub returns-in-Some : goal.returns-in-Some
returns-in-Some c = put_done _ _ (length_encoding _ _ ∙ sym c.base64_length-n.ensures) c.in-Some.ensures c.base64_encode.ensures.1

pub returns-in_default : goal.returns-in_default
returns-in_default c = left_out _ _ (length_encoding _ _ ∙ sym c.base64_length-n.ensures) c.in_default.ensures
