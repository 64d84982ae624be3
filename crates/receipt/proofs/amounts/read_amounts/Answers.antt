-- `amounts::read_amounts` meets its contract.
use Rattle.std.proofs.Common.{rules, w64, FitsSigned, to_z-of_z, ◌∙◌, refl}
use Rattle.receipt.proofs.Joined.{taking_start, taking_more, taking_end}
use Rattle.receipt.proofs.amounts.read_amounts.Goals as goal

pub loop-amount-init : goal.loop-amount-init
loop-amount-init c = taking_start _ _ refl

pub loop-amount-preserved : goal.loop-amount-preserved
loop-amount-preserved c =
    let f : FitsSigned w64 c.read_amount.result = search rules in
    taking_more c.loop-amount.invariant c.loop-amount-test.true (to_z-of_z f ∙ c.read_amount.ensures) c.after-rest.ensures

pub returns : goal.returns
returns c = taking_end c.loop-amount.invariant c.loop-amount-test.false
