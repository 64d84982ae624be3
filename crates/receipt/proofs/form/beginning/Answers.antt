-- `form::beginning` meets its contract.
use Rattle.std.proofs.Common.{refl}
use Rattle.receipt.specs.Texts.{beginning}
use Rattle.receipt.proofs.form.beginning.Goals as goal

pub returns : goal.returns
unfolding beginning
returns c = refl
