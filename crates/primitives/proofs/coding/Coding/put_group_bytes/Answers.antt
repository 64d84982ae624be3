-- `put_group_bytes` meets its contract: the bytes are the digits of one number.
use Rattle.std.proofs.Common.{ap, sym, ◌∙◌, ◌+◌, arith}
use Rattle.primitives.specs.Place.{overwrite}
use Rattle.primitives.proofs.CodeSteps.{known_digits, read}
use Rattle.primitives.proofs.coding.Coding.put_group_bytes.Goals as goal

pub number_of-requires : goal.number_of-requires
number_of-requires g c =
    record { few = c.requires.0; known = known_digits _ c.args.self.now.good c.args.s.now c.requires.1 c.requires.0 _ (g.met.D.Digits.radix _) }

pub overflow_mul-bits : goal.overflow_mul-bits
overflow_mul-bits g c =
    let q = read _ c.args.self.now.good c.args.s.now c.requires.1 c.requires.0 (c.BITS.ensures ∙ g.met.D.Digits.bits _) in
    omega (arith, q.long)

pub put_digits-requires : goal.put_digits-requires
put_digits-requires g c =
    let q = read _ c.args.self.now.good c.args.s.now c.requires.1 c.requires.0 (c.BITS.ensures ∙ g.met.D.Digits.bits _) in
    omega (arith, q.long)

pub overflow_add-result : goal.overflow_add-result
overflow_add-result g c =
    let q = read _ c.args.self.now.good c.args.s.now c.requires.1 c.requires.0 (c.BITS.ensures ∙ g.met.D.Digits.bits _) in
    omega (arith, q.long)

pub returns : goal.returns
returns g c =
    let q = read _ c.args.self.now.good c.args.s.now c.requires.1 c.requires.0 (c.BITS.ensures ∙ g.met.D.Digits.bits _) in
    (ap (λ k. c.args.at + k) (sym q.long), c.put_digits.ensures ∙ ap (overwrite c.args.out.now c.args.at) (q.bytes _ _ c.number_of.ensures (g.met.D.Digits.radix _)))
