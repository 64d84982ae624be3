-- `part_known` meets its contract: joined numbers are below a power of two where each of them is.
use Rattle.std.proofs.Common.{◌≡◌, ◌∙◌, ap, take, take_all, arith}
use Rattle.primitives.specs.BaseRule.{letters_known}
use Rattle.primitives.proofs.CodeSteps.{known_none, known_more}
use Rattle.primitives.proofs.coding.Coding.part_known.Goals as goal

pub loop-c-init : goal.loop-c-init
loop-c-init g c = known_none _ _ (g.met.D.Digits.radix _) c.args.s.now

pub loop-c-preserved : goal.loop-c-preserved
loop-c-preserved g c = known_more _ _ (g.met.D.Digits.radix _) c.args.s.now _ _ _ c.loop-c-test.true c.digit-joined.ensures c.loop-c.invariant

pub returns : goal.returns
returns g c =
    let all : take c.loop-c.c-index c.args.s.now ≡ c.args.s.now = take_all c.loop-c.c-index c.args.s.now (omega arith) in
    rw (c.from.ensures, c.RADIX.ensures) (c.loop-c.invariant ∙ ap (letters_known (g.D.Digits.base c.args.self.now.digits)) all)
