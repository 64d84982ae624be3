-- What was read is what the definition reads.
use Rattle.receipt.proofs.CodeCalls.{form_signature, code_refused, code_accepted}
use Rattle.receipt.proofs.machine_code.code.Goals as goal

pub returns-in_default : goal.returns-in_default
returns-in_default c = code_refused c.args.form.now c.args.out.now c.in_default.ensures

pub put_code-requires : goal.put_code-requires
put_code-requires c = form_signature c.args.form.now c.in-Some.ensures

pub returns : goal.returns
returns c = code_accepted c.args.form.now c.args.out.now c.in-Some.ensures c.put_code.ensures
