-- `retaking::start_pair` meets its contract.
use Rattle.std.proofs.Common.{ap, ◌∙◌}
use Rattle.receipt.specs.declared.settings.Settings.{Settings}
use Rattle.journal.specs.Checking.{serial_checked}
use Rattle.exports.proofs.RunsAlong.{pair_started}
use Rattle.exports.proofs.retaking.start_pair.Goals as goal

pub returns : goal.returns
returns c = pair_started c.first_named.ensures (c.check_serial.ensures ∙ ap (λ (s : Settings). serial_checked c.args.state s.serial) c.settings_or_empty.ensures)
