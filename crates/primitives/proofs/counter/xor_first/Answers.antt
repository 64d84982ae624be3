-- `xor_first` meets its contract, one byte after the other.
use Rattle.std.proofs.Common.{◌≡◌, ◌≤◌, ℕ, length, min, sym, ap, ◌∙◌, arith, rules}
use Rattle.primitives.specs.Counter.{xor_first}
use Rattle.primitives.proofs.Xors.{xor_first_start, xor_first_more, xor_first_min}
use Rattle.primitives.proofs.counter.xor_first.Goals as goal

pub loop-i-init : goal.loop-i-init
loop-i-init c = sym (xor_first_start _ _)

pub loop-i-preserved : goal.loop-i-preserved
loop-i-preserved c =
    let eight : length c.args.b ≡ 8 = search rules in
    let sixteen : length c.args.stream ≡ 16 = search rules in
    xor_first_more c.loop-i.i c.args.b c.args.stream c.loop-i.invariant (omega arith) (omega arith)

pub returns : goal.returns
returns c =
    let eight : length c.args.b ≤ 8 = search rules in
    let all : c.loop-i.i ≡ min c.args.n 8 = omega arith in
    c.loop-i.invariant ∙ ap (λ (k : ℕ). xor_first k c.args.b c.args.stream) all ∙ xor_first_min c.args.n 8 c.args.b c.args.stream eight
