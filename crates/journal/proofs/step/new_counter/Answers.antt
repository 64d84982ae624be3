-- `step::new_counter` meets its contract.
use Rattle.std.proofs.lemmas.Int.{to_z-of_z}
use Rattle.std.proofs.Common.{rules, w64, SFits}
use Rattle.journal.specs.Step.{new_counter}
use Rattle.journal.proofs.step.new_counter.Goals as goal

pub returns : goal.returns
unfolding new_counter
returns c =
    let f : SFits w64 c.args.st.counter = search rules in
    rw (to_z-of_z w64 c.args.st.counter f) at c.counter_after.ensures
