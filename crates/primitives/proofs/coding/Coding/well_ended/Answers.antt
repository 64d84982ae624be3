-- `well_ended` meets its contract: the last letter has the bits after the last byte.
use Rattle.std.proofs.Common.{◌≡◌, ◌∙◌, ◌<◌, ◌≤◌, ◌*◌, ◌%◌, length, ap, arith, rules, le-ltb}
use Rattle.primitives.specs.BaseRule.{Base}
use Rattle.primitives.proofs.CodeSteps.{bits_parts, ended_not, ended_by, ended_none}
use Rattle.primitives.proofs.coding.Coding.well_ended.Goals as goal

pub returns-in-None : goal.returns-in-None
returns-in-None g c =
    let z : length c.args.s.now ≡ 0 = search rules in
    ended_none _ c.args.s.now c.args.self.now.good.some z

pub returns-then-spare-BITS : goal.returns-then-spare-BITS
returns-then-spare-BITS g c =
    let b : Base = g.D.Digits.base c.args.self.now.digits in
    let spare = bits_parts b.bits (length c.args.s.now) (g.met.D.Digits.wide _) c.args.self.now.good.most (c.BITS.ensures ∙ g.met.D.Digits.bits _) in
    let few : length c.args.s.now % 8 * c.BITS.result % 8 < b.bits = omega (arith, c.if-spare-BITS.true, c.BITS-in-Some.ensures, g.met.D.Digits.bits c.args.self.now.digits) in
    ended_by b c.args.s.now spare few (omega arith) c.in-Some.ensures.item.3.0 (c.digit.ensures ∙ ap b.digit (c.in-Some.ensures.item.3.1 0))

pub returns-else-spare-BITS : goal.returns-else-spare-BITS
returns-else-spare-BITS g c =
    let b : Base = g.D.Digits.base c.args.self.now.digits in
    let spare = bits_parts b.bits (length c.args.s.now) (g.met.D.Digits.wide _) c.args.self.now.good.most (c.BITS.ensures ∙ g.met.D.Digits.bits _) in
    let many : b.bits ≤ length c.args.s.now % 8 * c.BITS.result % 8 = omega (arith, c.if-spare-BITS.false, c.BITS-in-Some.ensures, g.met.D.Digits.bits c.args.self.now.digits) in
    le-ltb (length c.args.s.now % 8 * c.BITS.result % 8) c.BITS-in-Some.result c.if-spare-BITS.false ∙ ended_not b c.args.s.now spare many
