-- `state::added` meets its contract.
use Rattle.journal.proofs.Serials.{added_copied}
use Rattle.journal.proofs.state.added.Goals as goal

pub returns : goal.returns
returns c = added_copied c.args.slots.now c.used-before.result.now _ c.args.serial c.used-before.ensures c.requires c.copy_from_slice.ensures.after
