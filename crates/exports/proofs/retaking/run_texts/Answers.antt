-- `retaking::run_texts` meets its contract.
use Rattle.std.proofs.Common.{refl, arith}
use Rattle.exports.specs.Shape.{string}
use Rattle.exports.specs.Running.{run_texts}
use Rattle.exports.proofs.Arrays.{string_opens}
use Rattle.exports.proofs.Passing.{pass_start, part_in}
use Rattle.exports.proofs.RunsAlong.{texts_end, texts_refused, texts_more}
use Rattle.exports.proofs.retaking.run_texts.Goals as goal

pub loop-c-init : goal.loop-c-init
loop-c-init c = pass_start string (run_texts _ _) c.args.text.now c.args.at _ string_opens c.begin-c.ensures

pub overflow_add-end : goal.overflow_add-end
overflow_add-end c = omega (arith, (part_in c.in-Some.ensures).quote, c.in-Some.ensures.inside)

pub slice_bounds-check_entry-end : goal.slice_bounds-check_entry-end
slice_bounds-check_entry-end c = omega (arith, (part_in c.in-Some.ensures).quote, c.in-Some.ensures.inside)

pub returns-in-Err : goal.returns-in-Err
returns-in-Err c = texts_refused _ _ _ c.loop-c.invariant c.in-Item.is c.in-Some.ensures c.in-Err.ensures _ refl

pub loop-c-preserved : goal.loop-c-preserved
loop-c-preserved c = texts_more _ _ _ c.loop-c.invariant c.in-Item.is c.in-Some.ensures c.in-Ok.ensures refl _ c.follow-c.ensures

pub returns : goal.returns
returns c = texts_end _ _ _ c.loop-c.invariant c.in_default.not-Item _ c.end.ensures
