-- Two writes in a row.
use Rattle.std.proofs.Common.{arith}
use Rattle.receipt.proofs.Written.{length_payload, put_payload}
use Rattle.receipt.proofs.payload.put_payload.Goals as goal

pub put_register-p-requires : goal.put_register-p-requires
put_register-p-requires c = omega (arith, c.requires, length_payload c.args.s c.args.n c.args.f)

pub put_body-requires : goal.put_body-requires
put_body-requires c = omega (arith, c.requires, length_payload c.args.s c.args.n c.args.f, c.put_register-p.ensures.0)

pub returns : goal.returns
returns c = (
  omega (arith, length_payload c.args.s c.args.n c.args.f, c.put_register-p.ensures.0, c.put_body.ensures.0),
  put_payload c.args.s c.args.n c.args.f _ _ _ c.put_register-p.ensures.0 c.requires c.put_register-p.ensures.1 c.put_body.ensures.1,
)
