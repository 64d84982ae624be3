-- A row of questions.
use Rattle.std.proofs.Common.{◌≡◌, true, false}
use Rattle.primitives.specs.Bytes.{same}
use Rattle.journal.specs.Step.{number_above}
use Rattle.journal.specs.Checking.{context_number}
use Rattle.primitives.proofs.Rows.{rows}
use Rattle.journal.proofs.CheckCalls.{same_no, same_yes}
use Rattle.journal.proofs.checking.ask_context.Goals as goal

pub returns-then-f-st : goal.returns-then-f-st
unfolding context_number number_above
returns-then-f-st c = search rows depth 12

pub returns-then-not-first_good : goal.returns-then-not-first_good
unfolding context_number number_above
returns-then-not-first_good c = search rows depth 12

pub returns-then-ne : goal.returns-then-ne
unfolding context_number number_above
returns-then-ne c =
    let e : same c.args.f.chain c.args.st.chain ≡ false = same_no _ _ c.if-ne.ensures in
    search rows depth 12

pub returns-then-not-counter_right : goal.returns-then-not-counter_right
unfolding context_number number_above
returns-then-not-counter_right c =
    let e : same c.args.f.chain c.args.st.chain ≡ true = same_yes _ _ c.if-ne.ensures in
    search rows depth 12

pub returns : goal.returns
unfolding context_number number_above
returns c =
    let e : same c.args.f.chain c.args.st.chain ≡ true = same_yes _ _ c.if-ne.ensures in
    search rows depth 12
