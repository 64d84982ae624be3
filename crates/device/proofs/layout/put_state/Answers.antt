-- `layout::put_state` meets its contract.
use Rattle.device.proofs.Slots.{state_long}
use Rattle.device.proofs.Writers.{put_state}
use Rattle.device.proofs.layout.put_state.Goals as goal

pub returns : goal.returns
returns c =
    put_state c.args.st c.args.out.now (state_long c.args.st _ c.well_formed.0) c.requires
    c.put_register.ensures
    c.put_counts.ensures
    c.put_chain.ensures
