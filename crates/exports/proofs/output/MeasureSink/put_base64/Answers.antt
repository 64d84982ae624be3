-- `Measure::put_base64` meets its contract.
use Rattle.std.proofs.Common.{sym, ◌∙◌}
use Rattle.primitives.proofs.Base64Lengths.{length_encoding}
use Rattle.exports.proofs.Putting.{only_measured, measured_is}
use Rattle.exports.proofs.output.MeasureSink.put_base64.Goals as goal

pub returns : goal.returns
returns c = only_measured _ _ (length_encoding _ _ ∙ sym c.base64_length-n.ensures) (measured_is _ _ _ c.moved-self.ensures)
