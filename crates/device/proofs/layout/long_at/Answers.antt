use Rattle.std.proofs.Common.{rules}
use Rattle.device.proofs.Reading.{long_found}
use Rattle.device.proofs.layout.long_at.Goals as goal

pub returns : goal.returns
returns c = long_found c.args.b.now c.args.at (search rules) c.array_at.ensures c.from_be_bytes.ensures
