-- `text_length` meets its contract: whole groups, what is left, and the padding.
use Rattle.std.proofs.Common.{◌≡◌, ◌<◌, ◌≤◌, ◌+◌, ◌*◌, ◌/◌, ◌^◌, length, ap, ◌∙◌, arith}
use Rattle.primitives.specs.BaseRule.{Base, fill_for}
use Rattle.primitives.proofs.CodeSteps.{letters_parts, letters_fit, fill_small, text_long}
use Rattle.primitives.proofs.coding.Coding.text_length.Goals as goal

pub overflow_add-letters : goal.overflow_add-letters
overflow_add-letters g c =
    let b : Base = g.D.Digits.base c.args.self.now.digits in
    let e : g.D.Digits.BITS ≡ b.bits = g.met.D.Digits.bits _ in
    let least : 5 ≤ b.bits = g.met.D.Digits.wide _ in
    let most : b.bits ≤ 8 = c.args.self.now.good.most in
    let n : length c.args.s.now < 2 ^ 63 = omega arith in
    let parts = letters_parts b.bits (length c.args.s.now) least most (c.BITS.ensures ∙ e) (c.BITS-2.ensures ∙ e) (c.BITS-3.ensures ∙ e) c.letters_for.ensures in
    omega (arith, parts, letters_fit b.bits (length c.args.s.now) least most n)

pub overflow_add-result : goal.overflow_add-result
overflow_add-result g c =
    let b : Base = g.D.Digits.base c.args.self.now.digits in
    let e : g.D.Digits.BITS ≡ b.bits = g.met.D.Digits.bits _ in
    let least : 5 ≤ b.bits = g.met.D.Digits.wide _ in
    let most : b.bits ≤ 8 = c.args.self.now.good.most in
    let n : length c.args.s.now < 2 ^ 63 = omega arith in
    let parts = letters_parts b.bits (length c.args.s.now) least most (c.BITS.ensures ∙ e) (c.BITS-2.ensures ∙ e) (c.BITS-3.ensures ∙ e) c.letters_for.ensures in
    let some : 0 < c.args.self.now.group = omega (arith, c.args.self.now.grouped, c.args.self.now.good.grouped) in
    let small = fill_small c.args.self.now.group (length c.args.s.now / c.BITS.result * 8 + c.letters_for.result) some in
    omega (arith, parts, letters_fit b.bits (length c.args.s.now) least most n, small, c.fill_for.ensures, c.args.self.now.close)

pub returns : goal.returns
returns g c =
    let b : Base = g.D.Digits.base c.args.self.now.digits in
    let e : g.D.Digits.BITS ≡ b.bits = g.met.D.Digits.bits _ in
    let least : 5 ≤ b.bits = g.met.D.Digits.wide _ in
    text_long b c.args.self.now.good c.args.s.now
    (letters_parts b.bits (length c.args.s.now) least c.args.self.now.good.most (c.BITS.ensures ∙ e) (c.BITS-2.ensures ∙ e) (c.BITS-3.ensures ∙ e) c.letters_for.ensures)
    (c.fill_for.ensures ∙ ap (λ k. fill_for k (length c.args.s.now / c.BITS.result * 8 + c.letters_for.result)) c.args.self.now.grouped)
