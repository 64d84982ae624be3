-- `step::ask_details` meets its contract: a row of questions.
use Rattle.std.proofs.Common.{sym, ◌∙◌, le-ltb, lt-ltb}
use Rattle.primitives.specs.Questions.{ask}
use Rattle.journal.specs.Step.{number_above, details_number_within}
use Rattle.journal.proofs.IssueCalls.{counter_fit}
use Rattle.journal.proofs.step.ask_details.Goals as goal

pub returns-then-d-st : goal.returns-then-d-st
unfolding details_number_within number_above ask
returns-then-d-st c = rw (le-ltb _ _ c.if-d-st.true)

pub returns-then-not-date_good : goal.returns-then-not-date_good
unfolding details_number_within number_above ask
returns-then-not-date_good c = rw (lt-ltb _ _ c.if-d-st.false, sym c.if-not-date_good.ensures)

pub returns-then-not-amounts_good : goal.returns-then-not-amounts_good
unfolding details_number_within number_above ask
returns-then-not-amounts_good c = rw (lt-ltb _ _ c.if-d-st.false, sym c.if-not-date_good.ensures, sym c.if-not-amounts_good.ensures)

pub returns-then-not-first_good : goal.returns-then-not-first_good
unfolding details_number_within number_above ask
returns-then-not-first_good c = rw (lt-ltb _ _ c.if-d-st.false, sym c.if-not-date_good.ensures, sym c.if-not-amounts_good.ensures, sym c.if-not-first_good.ensures)

pub returns-then-is_none : goal.returns-then-is_none
unfolding details_number_within number_above ask
returns-then-is_none c =
    rw
    (lt-ltb _ _ c.if-d-st.false, sym c.if-not-date_good.ensures, sym c.if-not-amounts_good.ensures, sym c.if-not-first_good.ensures, sym (counter_fit _ _ c.new_counter.ensures) ∙ c.if-is_none.ensures)

pub returns : goal.returns
unfolding details_number_within number_above ask
returns c =
    rw
    (lt-ltb _ _ c.if-d-st.false, sym c.if-not-date_good.ensures, sym c.if-not-amounts_good.ensures, sym c.if-not-first_good.ensures, sym (counter_fit _ _ c.new_counter.ensures) ∙ c.if-is_none.ensures)
