use Rattle.std.proofs.Common.{refl}
use Rattle.device.specs.Details.{date_of}
use Rattle.device.proofs.CallAnswers.{details_made}
use Rattle.device.proofs.details.details_of.Goals as goal

pub returns : goal.returns
unfolding date_of
returns c =
    let a = c.args in
    let r = c.ranges in
    details_made a.number a.year a.month a.day a.hour a.minute a.second a.kind r.a r.b r.c r.d r.e refl c.of_kind.ensures
