-- `writing::put_export` meets its contract.
use Rattle.exports.specs.Writing.{opening, ending}
use Rattle.exports.proofs.Exporting.{export_put}
use Rattle.exports.proofs.writing.put_export.Goals as goal

pub returns : goal.returns
unfolding opening ending
returns g c = export_put _ _ _ _ c.in_ok-pairs.ensures c.put.ensures c.in_ok-put_elements.ensures c.put-2.ensures
