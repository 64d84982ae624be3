-- `read_back::put_signature` meets its contract.
use Rattle.std.proofs.Common.{◌≡◌, length, rules}
use Rattle.device.proofs.ReadBackCalls.{none_given, some_given}
use Rattle.device.proofs.read_back.put_signature.Goals as goal

pub returns-then-g : goal.returns-then-g
returns-then-g c = none_given c.args.g.failed c.args.g.bytes c.args.out.now c.if-g.true

pub returns : goal.returns
returns c =
    let l : length c.args.g.bytes ≡ 64 = search rules in
    some_given c.args.g.failed c.args.g.bytes c.args.out.now c.if-g.false l c.requires c.put.ensures
