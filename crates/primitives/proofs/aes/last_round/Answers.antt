-- `last_round`: the three steps in turn.
use Rattle.primitives.proofs.Schedule.{last_rounded}
use Rattle.primitives.proofs.aes.last_round.Goals as goal

pub returns : goal.returns
returns c = last_rounded _ _ c.sub_bytes.ensures c.shift_rows.ensures c.round_key.ensures c.add_round_key.ensures
