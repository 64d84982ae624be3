-- `certificates::quad_good` meets its contract.
use Rattle.std.proofs.Common.{refl}
use Rattle.exports.proofs.Canonical.{told_good}
use Rattle.exports.proofs.certificates.quad_good.Goals as goal

pub returns : goal.returns
returns c = told_good _ _ _ c.base64_decode.ensures.0 _ refl refl c.ne.ensures
