use Rattle.device.proofs.Reading.{details_found}
use Rattle.device.proofs.details.details_in.Goals as goal

pub returns : goal.returns
returns c = details_found c.args.b.now c.word_at.ensures c.date_in.ensures c.word_at-2.ensures c.amounts_in.ensures c.of_kind.ensures
