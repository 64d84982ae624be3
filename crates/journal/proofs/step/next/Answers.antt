-- `step::next` meets its contract.
use Rattle.std.proofs.lemmas.Int.{to_z-of_z}
use Rattle.std.proofs.Common.{rules, w64, SFits}
use Rattle.journal.proofs.IssueCalls.{counter_kept, next_is}
use Rattle.journal.proofs.step.next.Goals as goal

pub returns : goal.returns
returns c =
    let f : SFits w64 c.args.st.counter = search rules in
    let g : SFits w64 c.unwrap_or-after.result = search rules in
    let k = counter_kept c.new_counter.result (to_z-of_z w64 c.args.st.counter f) c.unwrap_or-after.ensures in
    rw (to_z-of_z w64 c.unwrap_or-after.result g, k) (next_is c.args.st c.args.d c.args.text.now c.new_counter.ensures c.chain_value.ensures)
