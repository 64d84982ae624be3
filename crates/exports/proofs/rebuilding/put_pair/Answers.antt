-- `rebuilding::put_pair` meets its contract.
use Rattle.std.proofs.Common.{ap}
use Rattle.receipt.specs.Settings.{name_text}
use Rattle.receipt.specs.declared.settings.Settings.{Settings}
use Rattle.journal.specs.Head.{section}
use Rattle.exports.proofs.Putting.{puts_is}
use Rattle.exports.proofs.Carrying.{pair_put}
use Rattle.exports.proofs.rebuilding.put_pair.Goals as goal

pub returns : goal.returns
returns c =
    pair_put c.first_named.ensures (puts_is (ap (λ (s : Settings). section (name_text s.serial)) c.settings_or_empty.ensures) c.put_name.ensures) c.advance.ensures
    c.in_ok-entries.ensures c.put_count_at.ensures
