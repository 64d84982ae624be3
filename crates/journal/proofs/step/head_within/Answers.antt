-- `step::head_within` meets its contract.
use Rattle.std.proofs.Common.{ℕ, leb, ap, ◌∙◌}
use Rattle.journal.specs.Head.{head_length}
use Rattle.journal.proofs.step.head_within.Goals as goal

pub returns : goal.returns
returns c = ap (λ (n : ℕ). leb n c.args.st.length) (c.length.ensures ∙ ap head_length c.settings_first.ensures)
