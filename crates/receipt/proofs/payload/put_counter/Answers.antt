-- A text, and a mark after it.
use Rattle.std.proofs.Common.{length, ap, arith}
use Rattle.receipt.specs.Payload.{counter_field}
use Rattle.receipt.proofs.Written.{marked}
use Rattle.receipt.proofs.payload.put_counter.Goals as goal

pub put_base64-p-requires : goal.put_base64-p-requires
put_base64-p-requires c = omega (arith, ap length c.counter_content.ensures, c.requires)

pub put8-requires : goal.put8-requires
put8-requires c = omega (arith, ap length c.counter_content.ensures, c.requires, c.put_base64-p.ensures.0)

pub overflow_add-result : goal.overflow_add-result
overflow_add-result c = omega (arith, ap length c.counter_content.ensures, c.requires, c.put_base64-p.ensures.0, c.well_formed)

pub returns : goal.returns
returns c =
    let h =
    marked (counter_field c.args.n c.args.kind c.args.counter) _ _ _ c.counter_content.ensures c.requires
    c.put_base64-p.ensures.0 c.put_base64-p.ensures.1 c.put8.ensures in
    (h.place, h.is)
