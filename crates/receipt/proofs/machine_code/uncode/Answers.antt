-- What was read is what the definition reads.
use Rattle.receipt.proofs.CodeCalls.{code_signature, uncode_refused, uncode_full, uncode_written}
use Rattle.receipt.proofs.machine_code.uncode.Goals as goal

pub returns-in_default : goal.returns-in_default
returns-in_default c = uncode_refused c.args.code.now c.args.out.now c.in_default.ensures

pub put_form-end-requires : goal.put_form-end-requires
put_form-end-requires c = code_signature c.args.code.now c.in-Some.ensures

pub returns-then-end-eq0 : goal.returns-then-end-eq0
returns-then-end-eq0 c = uncode_full c.args.code.now c.args.out.now c.in-Some.ensures c.put_form-end.ensures c.if-end-eq0.true

pub returns : goal.returns
returns c = uncode_written c.args.code.now c.args.out.now c.in-Some.ensures c.put_form-end.ensures c.if-end-eq0.false
