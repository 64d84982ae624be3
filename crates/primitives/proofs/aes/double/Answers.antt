-- `double`: the computed test gives shift and reduction at each of the 256 entries.
use Rattle.std.proofs.Common.{refl, rules}
use Rattle.primitives.specs.declared.aes.TheConstants.{TABLES}
use Rattle.primitives.specs.Field.{xtime}
use Rattle.primitives.specs.Aes.{DoublingTable}
use Rattle.primitives.proofs.Field.{table_is}
use Rattle.primitives.proofs.aes.double.Goals as goal

table : DoublingTable TABLES.doubling
unfolding xtime
table = table_is xtime refl tt

pub returns : goal.returns
returns c = table.at c.args.x (search rules)
