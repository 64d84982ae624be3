-- The marks are found in the payload, which stands at the start of the code.
use Rattle.std.proofs.Common.{◌≡◌, ◌+◌, ◌≤◌, length, arith}
use Rattle.receipt.specs.Form.{next_at}
use Rattle.receipt.proofs.Finding.{next_here, next_nowhere}
use Rattle.receipt.proofs.CodeCalls.{no_id, payload_within, no_second, no_third, nothing_between, id_found}
use Rattle.receipt.proofs.machine_code.id_part.Goals as goal

pub returns-in_err-payload : goal.returns-in_err-payload
returns-in_err-payload c = rw c.from_residual.ensures (no_id c.args.code.now c.in_err-payload.ensures)

pub returns-in_err-start : goal.returns-in_err-start
returns-in_err-start c =
    rw c.from_residual-in_err-start.ensures
    (no_second c.args.code.now c.in_ok-payload.ensures (next_nowhere 95 c.in_ok-payload.field-0.payload.now 1 c.in_err-start.ensures))

pub returns-in_err-end : goal.returns-in_err-end
returns-in_err-end c =
    let second : next_at 95 c.in_ok-payload.field-0.payload.now 1 ≡ c.in_ok-start.field-0 =
    next_here 95 _ 1 _ c.in_ok-start.ensures.0 c.in_ok-start.ensures.1 c.in_ok-start.ensures.2 c.in_ok-start.ensures.3 in
    rw c.from_residual-in_err-end.ensures
    (no_third c.args.code.now c.in_ok-payload.ensures second (next_nowhere 95 c.in_ok-payload.field-0.payload.now (c.in_ok-start.field-0 + 1) c.in_err-end.ensures))

pub returns-then-start-end : goal.returns-then-start-end
returns-then-start-end c =
    let second : next_at 95 c.in_ok-payload.field-0.payload.now 1 ≡ c.in_ok-start.field-0 =
    next_here 95 _ 1 _ c.in_ok-start.ensures.0 c.in_ok-start.ensures.1 c.in_ok-start.ensures.2 c.in_ok-start.ensures.3 in
    let third : next_at 95 c.in_ok-payload.field-0.payload.now (c.in_ok-start.field-0 + 1) ≡ c.in_ok-end.end =
    next_here 95 _ (c.in_ok-start.field-0 + 1) _ c.in_ok-end.ensures.0 c.in_ok-end.ensures.1 c.in_ok-end.ensures.2 c.in_ok-end.ensures.3 in
    let within : length c.in_ok-payload.field-0.payload.now ≤ length c.args.code.now = payload_within c.args.code.now c.in_ok-payload.ensures in
    (id_found c.args.code.now c.in_ok-payload.ensures second third c.in_ok-end.ensures.1 c.if-start-end.true, omega arith, omega (arith, c.in_ok-end.ensures.1))

pub returns-else-start-end : goal.returns-else-start-end
returns-else-start-end c =
    let second : next_at 95 c.in_ok-payload.field-0.payload.now 1 ≡ c.in_ok-start.field-0 =
    next_here 95 _ 1 _ c.in_ok-start.ensures.0 c.in_ok-start.ensures.1 c.in_ok-start.ensures.2 c.in_ok-start.ensures.3 in
    let third : next_at 95 c.in_ok-payload.field-0.payload.now (c.in_ok-start.field-0 + 1) ≡ c.in_ok-end.end =
    next_here 95 _ (c.in_ok-start.field-0 + 1) _ c.in_ok-end.ensures.0 c.in_ok-end.ensures.1 c.in_ok-end.ensures.2 c.in_ok-end.ensures.3 in
    nothing_between c.args.code.now c.in_ok-payload.ensures second third c.if-start-end.false
