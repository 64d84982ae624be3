use Rattle.std.proofs.Common.{arith, ne_eqb}
use Rattle.device.specs.Details.{of_kind, details_with}
use Rattle.device.proofs.details.of_kind.Goals as goal

pub returns-in-0 : goal.returns-in-0
unfolding of_kind details_with
returns-in-0 c = rw c.in-0.is

pub returns-in-1 : goal.returns-in-1
unfolding of_kind details_with
returns-in-1 c = rw c.in-1.is

pub returns-in-2 : goal.returns-in-2
unfolding of_kind details_with
returns-in-2 c = rw c.in-2.is

pub returns-in_default : goal.returns-in_default
unfolding of_kind
returns-in_default c = let k = c.args.kind in rw (ne_eqb k 0 (omega arith), ne_eqb k 1 (omega arith), ne_eqb k 2 (omega arith)) c.no_details.ensures
