-- The signature is read into the buffer, and both parts are asked.
use Rattle.std.proofs.Common.{◌∙◌, rules}
use Rattle.receipt.specs.Form.{good_parts}
use Rattle.receipt.proofs.CodeCalls.{code_parts, code_none}
use Rattle.receipt.proofs.machine_code.read_code.Goals as goal

pub returns-in_err-payload : goal.returns-in_err-payload
returns-in_err-payload c = rw c.from_residual.ensures (code_none c.args.code.now c.in_err-payload.ensures)

pub returns-in_err-signature : goal.returns-in_err-signature
unfolding good_parts
returns-in_err-signature c =
    rw c.from_residual-in_err-signature.ensures
    (code_parts _ _ _ c.in_ok-payload.ensures.0 c.in_ok-payload.ensures.1 c.in_ok-payload.ensures.2 (search rules) c.in_err-signature.ensures)

pub returns : goal.returns
returns c =
    c.good.ensures
    ∙ code_parts _ _ _ c.in_ok-payload.ensures.0 c.in_ok-payload.ensures.1 c.in_ok-payload.ensures.2 (search rules) c.in_ok-signature.ensures
