-- `layout::put_register` meets its contract.
use Rattle.std.proofs.Common.{sym}
use Rattle.device.proofs.Slots.{state_long}
use Rattle.device.proofs.Writers.{put_register}
use Rattle.device.proofs.layout.put_register.Goals as goal

pub slice_bounds-put-end-2 : goal.slice_bounds-put-end-2
slice_bounds-put-end-2 c =
    sym (state_long c.args.st _ c.well_formed.0).key

pub returns : goal.returns
returns c =
    put_register c.args.st c.args.out.now (state_long c.args.st _ c.well_formed.0) c.requires
    c.put.ensures.1
    c.put_name.ensures
    c.put_serials.ensures
    c.put_number.ensures.1
    c.put-2.ensures.1
