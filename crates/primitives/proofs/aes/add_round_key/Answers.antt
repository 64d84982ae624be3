-- `add_round_key`: each column by the callee.
use Rattle.primitives.proofs.Columns.{by_parts}
use Rattle.primitives.proofs.aes.add_round_key.Goals as goal

pub returns : goal.returns
returns c = by_parts c.add_column.ensures c.add_column-2.ensures c.add_column-3.ensures c.add_column-4.ensures
