-- `writing::put_signing` meets its contract.
use Rattle.exports.specs.Writing.{before_certificate}
use Rattle.exports.proofs.Exporting.{signing_put}
use Rattle.exports.proofs.writing.put_signing.Goals as goal

pub returns : goal.returns
unfolding before_certificate
returns g c = signing_put c.args.more _ _ c.in_ok-end.ensures c.put_comma.ensures c.put.ensures c.put_string.ensures
