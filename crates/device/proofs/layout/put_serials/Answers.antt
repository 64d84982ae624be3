use Rattle.std.proofs.Common.{◌≡◌, length, arith, rules}
use Rattle.primitives.proofs.Writing.{writing_start}
use Rattle.device.proofs.Slots.{Long, array_long}
use Rattle.device.proofs.Writers.{length_names, name_more, names_done}
use Rattle.device.proofs.layout.put_serials.Goals as goal

pub loop-i-init : goal.loop-i-init
loop-i-init c =
    let long : Long c.args.slots = array_long c.args.slots c.well_formed.0.0 c.well_formed.0.1.1 in
    let eight : length c.args.slots ≡ 8 = search rules in
    writing_start _ _ _ (omega (arith, length_names c.args.slots long))

pub loop-i-preserved : goal.loop-i-preserved
loop-i-preserved c =
    let long : Long c.args.slots = array_long c.args.slots c.well_formed.0.0 c.well_formed.0.1.1 in
    let eight : length c.args.slots ≡ 8 = search rules in
    name_more c.args.slots c.loop-i.i c.loop-i.invariant _ long (omega arith) c.put_name.ensures

pub returns : goal.returns
returns c =
    let eight : length c.args.slots ≡ 8 = search rules in
    names_done c.args.slots c.loop-i.i c.loop-i.invariant (omega arith)
