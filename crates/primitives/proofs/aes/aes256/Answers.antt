-- `aes256`: the schedule, then the cipher under it.
use Rattle.primitives.proofs.Cipher.{under_key}
use Rattle.primitives.proofs.aes.aes256.Goals as goal

pub returns : goal.returns
returns c = under_key _ _ c.expand_key.ensures c.encrypt_block.ensures
