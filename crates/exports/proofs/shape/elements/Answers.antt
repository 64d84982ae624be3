-- `shape::elements` meets its contract.
use Rattle.exports.specs.Shape.{written}
use Rattle.exports.proofs.Arrays.{walk_start, walk_item, walk_more}
use Rattle.exports.proofs.Objects.{written_opens}
use Rattle.exports.proofs.shape.elements.Goals as goal

pub loop-c-init : goal.loop-c-init
loop-c-init c = walk_start written c.args.text.now c.args.at _ written_opens c.begin-c.ensures

pub loop-c-preserved : goal.loop-c-preserved
loop-c-preserved c = walk_more written (walk_item written c.args.text.now c.args.at c.in-Item.is c.loop-c.invariant) c.in_ok-element.ensures.reads _ c.follow-c.ensures
