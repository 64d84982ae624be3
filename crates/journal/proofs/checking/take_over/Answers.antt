-- The state after the head of a journal.
use Rattle.std.proofs.Common.{refl}
use Rattle.journal.proofs.CheckCalls.{over_steady}
use Rattle.journal.proofs.checking.take_over.Goals as goal

pub steps_from-requires : goal.steps_from-requires
steps_from-requires c = over_steady c.args.j.now c.args.key c.args.n c.in_ok-st.ensures refl (record { at = λ i. (c.type_inv.j i).fits })
