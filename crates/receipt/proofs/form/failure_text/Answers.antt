-- `form::failure_text` meets its contract.
use Rattle.std.proofs.Common.{refl}
use Rattle.receipt.specs.Form.{failure_text}
use Rattle.receipt.proofs.form.failure_text.Goals as goal

pub returns : goal.returns
unfolding failure_text
returns c = refl
