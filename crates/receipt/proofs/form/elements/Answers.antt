-- The first element is compared as a whole, and the second ends at the next mark.
use Rattle.std.proofs.Common.{◌≡◌, refl, ◌∙◌}
use Rattle.receipt.specs.Form.{second_dot}
use Rattle.receipt.proofs.Finding.{next_here, next_nowhere}
use Rattle.receipt.proofs.FormCalls.{dot_other, dot_next}
use Rattle.receipt.proofs.Loose.{rest_lent}
use Rattle.receipt.proofs.form.elements.Goals as goal

pub returns-then-not-starts_with : goal.returns-then-not-starts_with
returns-then-not-starts_with c =
    dot_other c.args.form.now c.first_element.ensures c.starts_with.ensures.value c.if-not-starts_with.true

pub returns-in_err-dot : goal.returns-in_err-dot
returns-in_err-dot c =
    rw (c.from_residual.ensures, dot_next c.args.form.now c.first_element.ensures c.starts_with.ensures.value c.if-not-starts_with.false)
    (next_nowhere 46 c.args.form.now 21 c.in_err-dot.ensures)

pub returns : goal.returns
returns c =
    let at : second_dot c.args.form.now ≡ c.in_ok-dot.dot =
    dot_next c.args.form.now c.first_element.ensures c.starts_with.ensures.value c.if-not-starts_with.false
    ∙ next_here 46 c.args.form.now 21 c.in_ok-dot.dot c.in_ok-dot.ensures.0 c.in_ok-dot.ensures.1 c.in_ok-dot.ensures.2 c.in_ok-dot.ensures.3 in
    rw at (c.in_ok-dot.ensures.1, refl, rest_lent c.args.form.now _)
