-- `sub_byte`: the computed test gives the rule at each of the 256 entries.
use Rattle.std.proofs.Common.{refl, rules}
use Rattle.primitives.specs.declared.aes.TheConstants.{TABLES}
use Rattle.primitives.specs.Aes.{sub, SBox}
use Rattle.primitives.proofs.Field.{table_is}
use Rattle.primitives.proofs.aes.sub_byte.Goals as goal

table : SBox TABLES.substitution
unfolding sub
table = table_is sub refl tt

pub returns : goal.returns
returns c = table.at c.args.x (search rules)
