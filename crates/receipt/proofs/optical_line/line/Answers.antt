-- A refusal is told apart by reading the code.
use Rattle.receipt.proofs.LineCalls.{found_good, line_made, line_refused, no_code}
use Rattle.receipt.proofs.optical_line.line.Goals as goal

pub put_fields-requires : goal.put_fields-requires
put_fields-requires c = found_good _ c.args.code.now c.in-Some.ensures

pub returns-in-Some : goal.returns-in-Some
returns-in-Some c = line_made c.args.code.now c.args.out.now c.in-Some.ensures c.put_fields.ensures

pub returns-in-Some-read_code : goal.returns-in-Some-read_code
returns-in-Some-read_code c = line_refused c.args.code.now c.args.out.now c.in_default.ensures c.in-Some-read_code.ensures

pub returns-in-None : goal.returns-in-None
returns-in-None c = no_code c.args.code.now c.args.out.now c.in_default.ensures c.in-None.ensures
