-- `state::newest` meets its contract.
use Rattle.std.proofs.Common.{◌∙◌}
use Rattle.journal.proofs.Serials.{newest_last}
use Rattle.journal.proofs.state.newest.Goals as goal

pub returns : goal.returns
returns c = newest_last c.args.slots.now _ _ _ c.used.ensures (c.copied.ensures ∙ c.last.ensures.value) c.unwrap_or.ensures
