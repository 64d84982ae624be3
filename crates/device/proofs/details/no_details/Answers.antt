-- `details::no_details` meets its contract.
use Rattle.std.proofs.Common.{refl}
use Rattle.device.specs.Details.{no_details}
use Rattle.device.proofs.details.no_details.Goals as goal

pub returns : goal.returns
unfolding no_details
returns c = refl
