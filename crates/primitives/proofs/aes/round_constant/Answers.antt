-- `round_constant`: the rule at each of the eight entries, by one computed test.
use Rattle.std.proofs.Common.{[], ◌∷◌}
use Rattle.primitives.specs.Aes.{rcon}
use Rattle.primitives.proofs.Table.{by_rule}
use Rattle.primitives.proofs.aes.round_constant.Goals as goal

pub returns : goal.returns
unfolding rcon
returns c = by_rule rcon (1 ∷ 1 ∷ 2 ∷ 4 ∷ 8 ∷ 16 ∷ 32 ∷ 64 ∷ []) tt c.args.j c.requires
