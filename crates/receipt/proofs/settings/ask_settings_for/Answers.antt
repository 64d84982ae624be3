-- `settings::ask_settings_for` meets its contract.
use Rattle.std.proofs.Common.{ap, not}
use Rattle.primitives.proofs.Rows.{rows, not_yes}
use Rattle.receipt.specs.Settings.{settings_number_for}
use Rattle.receipt.proofs.settings.ask_settings_for.Goals as goal

pub returns-then-not-csp_good : goal.returns-then-not-csp_good
unfolding settings_number_for
returns-then-not-csp_good c = search rows depth 14

pub returns-then-not-id_good : goal.returns-then-not-id_good
unfolding settings_number_for
returns-then-not-id_good c = search rows depth 14

pub id_allowed-requires : goal.id_allowed-requires
id_allowed-requires c = not_yes _ _ c.id_good.ensures (ap not c.if-not-id_good.false)

pub returns-then-not-id_allowed : goal.returns-then-not-id_allowed
unfolding settings_number_for
returns-then-not-id_allowed c = search rows depth 14

pub returns-then-not-serial_good : goal.returns-then-not-serial_good
unfolding settings_number_for
returns-then-not-serial_good c = search rows depth 14

pub returns-then-not-width_good : goal.returns-then-not-width_good
unfolding settings_number_for
returns-then-not-width_good c = search rows depth 14

pub returns : goal.returns
unfolding settings_number_for
returns c = search rows depth 14
