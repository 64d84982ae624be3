-- `decimal::put_fixed` meets its contract.
use Rattle.receipt.proofs.Digits.{start, put_one, put_all}
use Rattle.receipt.proofs.decimal.put_fixed.Goals as goal

pub loop-i-init : goal.loop-i-init
loop-i-init c = start _ _ _ _ c.requires

pub loop-i-preserved : goal.loop-i-preserved
loop-i-preserved c = put_one c.loop-i.invariant c.loop-i-test.true

pub returns : goal.returns
returns c = put_all c.loop-i.invariant c.loop-i-test.false
