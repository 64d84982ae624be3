-- `put_digits` meets its contract: each turn writes the lowest digit of what is left.
use Rattle.std.proofs.Common.{arith}
use Rattle.primitives.proofs.Filling.{put_start, put_one, put_all}
use Rattle.primitives.proofs.Spelled.{spelled, spelled_zero, spelled_suc}
use Rattle.primitives.proofs.digits.put_digits.Goals as goal

pub loop-i-init : goal.loop-i-init
loop-i-init g c = put_start (spelled ((g.D.Digits.base c.args.digits.now).letter) g.D.Digits.RADIX) _ _ _ _ c.requires

pub loop-i-preserved : goal.loop-i-preserved
loop-i-preserved g c =
    put_one c.loop-i.invariant _ _
    (λ n. rw (c.letter.ensures, c.RADIX.ensures, c.RADIX-v.ensures) (spelled_suc ((g.D.Digits.base c.args.digits.now).letter) g.D.Digits.RADIX c.loop-i.v n))
    (omega arith)

pub returns : goal.returns
returns g c = put_all c.loop-i.invariant (spelled_zero ((g.D.Digits.base c.args.digits.now).letter) g.D.Digits.RADIX c.loop-i.v) (omega arith)
