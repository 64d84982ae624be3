-- `start`: the first key is added to the loaded block.
use Rattle.std.proofs.Common.{◌∙◌}
use Rattle.primitives.specs.Aes.{add_round_key}
use Rattle.primitives.proofs.aes.start.Goals as goal

pub returns : goal.returns
returns c = c.add_round_key.ensures ∙ (λ i. add_round_key (c.load_block.ensures i) (c.round_key.ensures i))
