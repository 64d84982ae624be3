use Rattle.device.proofs.Reading.{serials_found}
use Rattle.device.proofs.layout.serials_at.Goals as goal

pub returns : goal.returns
returns c =
    serials_found c.args.b.now
    c.name_at.ensures
    c.name_at-2.ensures
    c.name_at-3.ensures
    c.name_at-4.ensures
    c.name_at-5.ensures
    c.name_at-6.ensures
    c.name_at-7.ensures
    c.name_at-8.ensures
