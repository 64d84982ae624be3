-- What was read is what the definition reads.
use Rattle.receipt.proofs.LineCalls.{found_good, code_made, no_line}
use Rattle.receipt.proofs.optical_line.unline.Goals as goal

pub put_fields-requires : goal.put_fields-requires
put_fields-requires c = found_good _ c.args.line.now c.in-Some.ensures

pub returns-in-Some : goal.returns-in-Some
returns-in-Some c = code_made c.args.line.now c.args.out.now c.in-Some.ensures c.put_fields.ensures

pub returns-in-None : goal.returns-in-None
returns-in-None c = no_line c.args.line.now c.args.out.now c.in-None.ensures
