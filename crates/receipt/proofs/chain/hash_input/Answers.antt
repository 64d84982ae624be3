-- `chain::hash_input` meets its contract.
use Rattle.std.proofs.Common.{rules}
use Rattle.receipt.proofs.Chains.{input_room, input_within, input_lent}
use Rattle.receipt.proofs.chain.hash_input.Goals as goal

pub put_decimal-end-requires : goal.put_decimal-end-requires
put_decimal-end-requires c =
    input_room c.args.id.now c.args.number c.args.buffer.now (search rules) (search rules) (search rules) c.text.ensures c.put-p.ensures.0 c.put-p.ensures.1 c.from.ensures

pub shared_ref_as_front-result : goal.shared_ref_as_front-result
shared_ref_as_front-result c =
    input_within c.args.id.now c.args.number c.args.buffer.now (search rules) (search rules) (search rules) c.text.ensures c.put-p.ensures.0 c.put-p.ensures.1 c.from.ensures c.put_decimal-end.ensures.0 c.put_decimal-end.ensures.1

pub returns : goal.returns
returns c =
    input_lent c.args.id.now c.args.number c.args.buffer.now (search rules) (search rules) (search rules) c.text.ensures c.put-p.ensures.0 c.put-p.ensures.1 c.from.ensures c.put_decimal-end.ensures.0 c.put_decimal-end.ensures.1
