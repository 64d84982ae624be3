-- `step::fresh` meets its contract.
use Rattle.receipt.proofs.Names.{good_settings}
use Rattle.journal.specs.State.{in_eight}
use Rattle.journal.specs.Step.{fresh}
use Rattle.journal.proofs.OpenCalls.{lent_name}
use Rattle.journal.proofs.step.fresh.Goals as goal

pub shared_ref_as_front-chain_value : goal.shared_ref_as_front-chain_value
shared_ref_as_front-chain_value c = (good_settings _ c.args.head.good).id.most

pub returns : goal.returns
unfolding fresh in_eight
returns c = rw (c.chain_value.ensures, lent_name c.args.head.settings.id, c.length.ensures, c.count_place.ensures)
