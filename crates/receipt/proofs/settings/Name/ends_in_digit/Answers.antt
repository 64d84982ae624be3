-- `settings::Name::ends_in_digit` meets its contract.
use Rattle.std.proofs.Common.{◌∙◌}
use Rattle.receipt.specs.Settings.{ends_in_digit}
use Rattle.receipt.proofs.Names.{digit_is}
use Rattle.receipt.proofs.settings.Name.ends_in_digit.Goals as goal

pub returns : goal.returns
unfolding ends_in_digit
returns c = c.is_ascii_digit.ensures.value ∙ digit_is _
