use Rattle.std.proofs.lemmas.Int.{to_z-of_z}
use Rattle.std.proofs.Common.{rules, w64, SFits}
use Rattle.device.proofs.Reading.{state_found}
use Rattle.device.proofs.layout.state_at.Goals as goal

pub returns : goal.returns
returns c =
    let f : SFits w64 c.counter_at.result = search rules in
    rw (to_z-of_z w64 c.counter_at.result f)
    (state_found c.args.b.now
    c.array_at.ensures
    c.name_at.ensures
    c.serials_at.ensures
    c.long_at.ensures
    c.array_at-2.ensures
    c.counter_at.ensures
    c.word_at.ensures
    c.word_at-2.ensures
    c.array_at-3.ensures
    c.long_at-2.ensures
    c.word_at-3.ensures
    c.long_at-3.ensures)
