-- Each element is read into its buffer, and then asked.
use Rattle.std.proofs.Common.{refl, ◌∙◌, rules}
use Rattle.receipt.specs.Form.{good_parts}
use Rattle.receipt.proofs.FormCalls.{form_parts, form_none}
use Rattle.receipt.proofs.form.read_form.Goals as goal

pub returns-in_err-second : goal.returns-in_err-second
returns-in_err-second c = rw c.from_residual.ensures (form_none c.args.form.now c.in_err-second.ensures)

pub returns-in_err-payload : goal.returns-in_err-payload
unfolding good_parts
returns-in_err-payload c =
    rw c.from_residual-in_err-payload.ensures
    (form_parts _ _ _ c.in_ok-second.ensures.0 c.in_ok-second.ensures.1 c.in_ok-second.ensures.2 (search rules) refl c.in_err-payload.ensures refl)

pub returns-in_err-signature : goal.returns-in_err-signature
unfolding good_parts
returns-in_err-signature c =
    rw c.from_residual-in_err-signature.ensures
    (form_parts _ _ _ c.in_ok-second.ensures.0 c.in_ok-second.ensures.1 c.in_ok-second.ensures.2 (search rules) (search rules) c.in_ok-payload.ensures c.in_err-signature.ensures)

pub returns : goal.returns
returns c =
    c.good.ensures
    ∙ form_parts _ _ _ c.in_ok-second.ensures.0 c.in_ok-second.ensures.1 c.in_ok-second.ensures.2 (search rules) (search rules) c.in_ok-payload.ensures c.in_ok-signature.ensures
