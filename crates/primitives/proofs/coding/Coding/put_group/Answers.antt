-- `put_group` meets its contract: the letters are the digits of one number.
use Rattle.std.proofs.Common.{ap, sym, ◌∙◌, ◌+◌, arith}
use Rattle.primitives.specs.Place.{overwrite}
use Rattle.primitives.proofs.CodeSteps.{group}
use Rattle.primitives.proofs.Spelled.{value_spelled}
use Rattle.primitives.proofs.coding.Coding.put_group.Goals as goal

pub overflow_mul-spare : goal.overflow_mul-spare
overflow_mul-spare g c =
    let q = group _ c.args.self.now.good (g.met.D.Digits.wide _) c.args.s.now (record { at = λ i. (c.type_inv.s i).fits }) c.requires.0
    (c.BITS.ensures ∙ g.met.D.Digits.bits _) (c.BITS-2.ensures ∙ g.met.D.Digits.bits _) c.letters_for-n.ensures in
    omega (arith, q.long)

pub overflow_sub-spare : goal.overflow_sub-spare
overflow_sub-spare g c =
    let q = group _ c.args.self.now.good (g.met.D.Digits.wide _) c.args.s.now (record { at = λ i. (c.type_inv.s i).fits }) c.requires.0
    (c.BITS.ensures ∙ g.met.D.Digits.bits _) (c.BITS-2.ensures ∙ g.met.D.Digits.bits _) c.letters_for-n.ensures in
    omega (arith, q.long)

pub overflow_shl-number_of : goal.overflow_shl-number_of
overflow_shl-number_of g c =
    let q = group _ c.args.self.now.good (g.met.D.Digits.wide _) c.args.s.now (record { at = λ i. (c.type_inv.s i).fits }) c.requires.0
    (c.BITS.ensures ∙ g.met.D.Digits.bits _) (c.BITS-2.ensures ∙ g.met.D.Digits.bits _) c.letters_for-n.ensures in
    omega (arith, q.long)

pub put_digits-requires : goal.put_digits-requires
put_digits-requires g c =
    let q = group _ c.args.self.now.good (g.met.D.Digits.wide _) c.args.s.now (record { at = λ i. (c.type_inv.s i).fits }) c.requires.0
    (c.BITS.ensures ∙ g.met.D.Digits.bits _) (c.BITS-2.ensures ∙ g.met.D.Digits.bits _) c.letters_for-n.ensures in
    omega (arith, q.long)

pub overflow_add-result : goal.overflow_add-result
overflow_add-result g c =
    let q = group _ c.args.self.now.good (g.met.D.Digits.wide _) c.args.s.now (record { at = λ i. (c.type_inv.s i).fits }) c.requires.0
    (c.BITS.ensures ∙ g.met.D.Digits.bits _) (c.BITS-2.ensures ∙ g.met.D.Digits.bits _) c.letters_for-n.ensures in
    omega (arith, q.long)

pub returns : goal.returns
returns g c =
    let q = group _ c.args.self.now.good (g.met.D.Digits.wide _) c.args.s.now (record { at = λ i. (c.type_inv.s i).fits }) c.requires.0
    (c.BITS.ensures ∙ g.met.D.Digits.bits _) (c.BITS-2.ensures ∙ g.met.D.Digits.bits _) c.letters_for-n.ensures in
    (ap (λ k. c.args.at + k) (sym q.long), c.put_digits.ensures ∙ ap (overwrite c.args.out.now c.args.at) (q.letters _ _ (c.number_of.ensures ∙ value_spelled c.args.s.now) (g.met.D.Digits.radix _)))
