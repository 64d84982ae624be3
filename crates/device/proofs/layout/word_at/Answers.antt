use Rattle.std.proofs.Common.{rules}
use Rattle.device.proofs.Reading.{word_found}
use Rattle.device.proofs.layout.word_at.Goals as goal

pub returns : goal.returns
returns c = word_found c.args.b.now c.args.at (search rules) c.array_at.ensures c.from_be_bytes.ensures
