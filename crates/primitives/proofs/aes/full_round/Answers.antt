-- `full_round`: the four steps in turn.
use Rattle.primitives.proofs.Schedule.{rounded}
use Rattle.primitives.proofs.aes.full_round.Goals as goal

pub returns : goal.returns
returns c = rounded _ _ c.sub_bytes.ensures c.shift_rows.ensures c.mix_columns.ensures c.add_round_key.ensures
