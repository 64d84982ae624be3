-- Three writes in a row.
use Rattle.std.proofs.Common.{arith}
use Rattle.receipt.proofs.Written.{length_body, put_body}
use Rattle.receipt.proofs.payload.put_body.Goals as goal

pub put_moment-p-requires : goal.put_moment-p-requires
put_moment-p-requires c = omega (arith, length_body c.args.s c.args.n c.args.f, c.requires)

pub put_amounts-q-requires : goal.put_amounts-q-requires
put_amounts-q-requires c = omega (arith, length_body c.args.s c.args.n c.args.f, c.requires, c.put_moment-p.ensures.0)

pub put_closing-requires : goal.put_closing-requires
put_closing-requires c =
    omega (arith, length_body c.args.s c.args.n c.args.f, c.requires, c.put_moment-p.ensures.0, c.put_amounts-q.ensures.0)

pub returns : goal.returns
returns c = (
  omega (arith, length_body c.args.s c.args.n c.args.f, c.put_moment-p.ensures.0, c.put_amounts-q.ensures.0, c.put_closing.ensures.0),
  put_body c.args.s c.args.n c.args.f _ _ _ _ c.put_moment-p.ensures.0 c.put_amounts-q.ensures.0 c.requires
      c.put_moment-p.ensures.1 c.put_amounts-q.ensures.1 c.put_closing.ensures.1,
)
