-- `step::renewed` meets its contract.
use Rattle.std.proofs.lemmas.Int.{to_z-of_z}
use Rattle.std.proofs.Common.{rules, w64, SFits}
use Rattle.journal.proofs.ChangeCalls.{renewed_is}
use Rattle.journal.proofs.step.renewed.Goals as goal

pub returns : goal.returns
returns c =
    let f : SFits w64 c.args.st.counter = search rules in
    rw (to_z-of_z w64 c.args.st.counter f) (renewed_is c.args.st c.args.serial c.added.ensures)
