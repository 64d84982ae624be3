-- `walk::strings` meets its contract.
use Rattle.exports.specs.Shape.{string}
use Rattle.exports.proofs.Arrays.{walk_start, walk_item, walk_more, string_opens}
use Rattle.exports.proofs.walk.strings.Goals as goal

pub loop-c-init : goal.loop-c-init
loop-c-init c = walk_start string c.args.text.now c.args.at _ string_opens c.begin-c.ensures

pub loop-c-preserved : goal.loop-c-preserved
loop-c-preserved c = walk_more string (walk_item string c.args.text.now c.args.at c.in-Item.is c.loop-c.invariant) c.in_ok-string.ensures _ c.follow-c.ensures
