-- `separators::skip` meets its contract.
use Rattle.std.proofs.Common.{sym, ap, ◌∙◌}
use Rattle.receipt.specs.Separated.{after}
use Rattle.receipt.proofs.Joined.{skip_none, skip_more}
use Rattle.receipt.proofs.separators.skip.Goals as goal

pub loop-init : goal.loop-init
loop-init c = skip_none _

pub loop-preserved : goal.loop-preserved
loop-preserved c = c.after-rest.ensures ∙ ap after c.loop.invariant ∙ sym (skip_more _ _)
