-- `encrypt_block`: start, rounds, last round and store in turn.
use Rattle.primitives.proofs.Schedule.{ciphered}
use Rattle.primitives.proofs.aes.encrypt_block.Goals as goal

pub returns : goal.returns
returns c = ciphered _ _ c.start.ensures c.rounds-s.ensures c.last_round.ensures c.store_block.ensures
